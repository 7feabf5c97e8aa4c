-- `task_queue::into_order` meets its contract.
use mathlib.Core.Path.{◌∙◌}
use Rattle.task_queue.proofs.Stored.{order_into_stored}
use Rattle.task_queue.proofs.into_order.Goals as goal

pub returns : goal.returns
returns c =
    let a = c.args in
    let l = a.l.now in
    let at = rw (c.read.ensures.0, c.read.ensures.1) at c.spot_for_task-at.ensures in
    let d = c.put_task.ensures in
    let e = c.put_behind.ensures in
    let b = rw d.size at e.bytes in
    record {
      bytes = order_into_stored l.size l.bytes.now a.k.0 _ a.t _ _ _ _ c.number.ensures at c.with_link.ensures d.bytes b;
      size = e.size ∙ d.size;
      loan = e.loan ∙ d.loan;
    }
