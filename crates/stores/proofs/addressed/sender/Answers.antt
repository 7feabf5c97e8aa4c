-- `stores::addressed::sender` meets its contract.
use Rattle.stores.proofs.Addressing.{sender-given, sender_left}
use Rattle.stores.proofs.addressed.sender.Goals as goal

pub returns-then-sptr-eq0 : goal.returns-then-sptr-eq0
returns-then-sptr-eq0 c =
    sender-given c.args.sptr c.args.c.0 c.if-sptr-eq0.true c.number.ensures

pub returns : goal.returns
returns c = sender_left c.args.sptr c.args.c.0 c.if-sptr-eq0.false
