-- `stores::addressed::own_prio` meets its contract.
use Rattle.stores.proofs.Addressing.{own_prio-given, own_prio_left}
use Rattle.stores.proofs.addressed.own_prio.Goals as goal

pub returns-then-number-eq127 : goal.returns-then-number-eq127
returns-then-number-eq127 c =
    own_prio-given c.args.p c.args.own c.number.ensures c.if-number-eq127.true c.number-then-number-eq127.ensures

pub returns : goal.returns
returns c =
    own_prio_left c.args.p c.args.own c.number.ensures c.if-number-eq127.false
