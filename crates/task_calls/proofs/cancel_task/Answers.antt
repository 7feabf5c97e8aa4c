-- `task_calls::cancel_task` meets its contract.
use Rattle.std.proofs.Common.{rules}
use Rattle.task_calls.proofs.Cancelling.{cancels}
use Rattle.task_calls.proofs.cancel_task.Goals as goal

pub returns : goal.returns
returns c =
    cancels c.args.k c.requires {r = c.in_ok-ok_or.field-0} (search rules) {n = c.in_ok-k.k} (search rules)
    (search rules) (search rules) c.stirs.ensures
