-- `place_calls::place::place` meets its contract.
use mathlib.Core.Path.{◌∙◌}
use Rattle.place_calls.proofs.Placing.{placed_at}
use Rattle.place_calls.proofs.place.place.Goals as goal

pub returns : goal.returns
returns c =
    let a = c.args in
    let l = a.l.now in
    let q = c.into_queue.ensures in
    let p = c.put_place.ensures in
    let w = c.wake.ensures in
    record {
      bytes = placed_at l.size l.bytes.now a.m.0 a.u a.r.0 q.bytes (rw q.size at p.bytes) (rw (p.size, q.size) at w.bytes);
      size = w.size ∙ p.size ∙ q.size;
      loan = w.loan ∙ p.loan ∙ q.loan;
    }
