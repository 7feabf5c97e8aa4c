-- `stores::addressed::addressed` meets its contract.
use Rattle.stores.proofs.Addressing.{addresses}
use Rattle.stores.proofs.addressed.addressed.Goals as goal

pub returns : goal.returns
returns c =
    let a = c.args in
    addresses a.u a.own a.c.0 a.r.0 c.own_prio-p.ensures c.sender-s.ensures
    c.with_prio.ensures c.with_rptr.ensures c.with_sptr.ensures
