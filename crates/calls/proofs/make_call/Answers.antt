-- `calls::make_call` meets its contract.
use Rattle.calls.proofs.Making.{makes}
use Rattle.calls.proofs.make_call.Goals as goal

pub returns : goal.returns
returns c = makes c.args.call c.requires c.body-done.ensures c.dispatch.ensures
