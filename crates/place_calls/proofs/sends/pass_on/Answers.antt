-- `place_calls::sends::pass_on` meets its contract.
use native.Mathlib.Omega.{arith}
use Rattle.inner.proofs.Steps.{made}
use Rattle.place_calls.proofs.Sending.{passes}
use Rattle.place_calls.proofs.sends.pass_on.Goals as goal

pub returns : goal.returns
returns c =
    let a = c.args in
    let l = a.l.now in
    let p = rw (c.read.ensures.0, c.read.ensures.1) at c.present_task.ensures in
    let u = rw (c.read-2.ensures.0, c.read-2.ensures.1) at c.message-u.ensures in
    rw c.stirs.ensures
    (made c.place.ensures
    (passes l.size l.bytes.now a.m.0 a.w p (grind arith) u c.number.ensures c.if-number-eq127.false c.place.ensures.bytes))
