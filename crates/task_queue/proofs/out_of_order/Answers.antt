-- `task_queue::out_of_order` meets its contract.
use Rattle.task_queue.proofs.Stored.{order_out_stored}
use Rattle.task_queue.proofs.out_of_order.Goals as goal

pub returns : goal.returns
returns c =
    let a = c.args in
    let l = a.l.now in
    let at = rw (c.read.ensures.0, c.read.ensures.1) at c.spot_of_task-at.ensures in
    let t = rw (c.read-2.ensures.0, c.read-2.ensures.1) at c.task.ensures in
    let p = c.put_behind.ensures in
    record { bytes = order_out_stored l.size l.bytes.now a.k.0 _ _ _ _ at t c.next.ensures p.bytes; size = p.size; loan = p.loan }
