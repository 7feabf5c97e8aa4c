-- `message_queue::out_of_queue` meets its contract.
use Rattle.message_queue.proofs.Stored.{queue_out_stored}
use Rattle.message_queue.proofs.out_of_queue.Goals as goal

pub returns : goal.returns
returns c =
    let a = c.args in
    let l = a.l.now in
    let at = rw (c.read.ensures.0, c.read.ensures.1) at c.spot_of_message-at.ensures in
    let next = rw (c.read-2.ensures.0, c.read-2.ensures.1) at c.next_message.ensures in
    let p = c.put_behind.ensures in
    record { bytes = queue_out_stored l.size l.bytes.now a.m.0 a.r.0 _ _ _ at next p.bytes; size = p.size; loan = p.loan }
