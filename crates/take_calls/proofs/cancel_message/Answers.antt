-- `take_calls::cancel_message` meets its contract.
use Rattle.inner.proofs.Steps.{made}
use Rattle.take_calls.proofs.Receiving.{cancels}
use Rattle.take_calls.proofs.cancel_message.Goals as goal

pub returns : goal.returns
returns c =
    let a = c.args in
    let l = a.l.now in
    let p = rw (c.read.ensures.0, c.read.ensures.1) at c.present_task.ensures in
    let q = rw (c.read-2.ensures.0, c.read-2.ensures.1) at c.queued_at.ensures in
    let u = rw (c.read-3.ensures.0, c.read-3.ensures.1) at c.message.ensures in
    rw c.stirs.ensures
    (made c.take_back.ensures
    (cancels l.size l.bytes.now c.requires c.in_ok-c.ensures.ok_part a.m a.r c.meant.ensures c.in_ok-m.ensures.ok_part p
    c.in_ok-r.ensures.ok_part q c.if-not-queued_at.false u c.number.ensures c.if-message-number.false c.take_back.ensures.bytes))
