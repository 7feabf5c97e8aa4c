-- `message_queue::into_queue` meets its contract.
use mathlib.Core.Path.{◌∙◌}
use Rattle.message_queue.proofs.Stored.{queue_into_stored}
use Rattle.message_queue.proofs.into_queue.Goals as goal

pub returns : goal.returns
returns c =
    let a = c.args in
    let l = a.l.now in
    let at = rw (c.read.ensures.0, c.read.ensures.1) at c.spot_for_message-at.ensures in
    let d = c.put_message.ensures in
    let e = c.put_behind.ensures in
    let b = rw d.size at e.bytes in
    record {
      bytes = queue_into_stored l.size l.bytes.now a.m.0 a.r.0 _ a.u _ _ _ _ _ _ _ c.fifo.ensures c.number.ensures c.with_fifo.ensures
          c.with_prio-marked.ensures at c.with_link.ensures d.bytes b;
      size = e.size ∙ d.size;
      loan = e.loan ∙ d.loan;
    }
