-- `place_calls::sends::send_to` meets its contract.
use Rattle.place_calls.proofs.Sending.{sent_to}
use Rattle.place_calls.proofs.sends.send_to.Goals as goal

pub returns : goal.returns
returns c =
    let l = c.args.l.now in
    let t = rw (c.read.ensures.0, c.read.ensures.1) at c.task-own.ensures in
    let u = rw (c.read-2.ensures.0, c.read-2.ensures.1) at c.message-u.ensures in
    let p = c.place.ensures in
    record {
      bytes = sent_to l.size l.bytes.now c.args.c.0 c.args.m.0 c.args.r.0 u t c.addressed.ensures p.bytes;
      size = p.size;
      loan = p.loan;
    }
