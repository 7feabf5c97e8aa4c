-- `timer_calls::start::start_held` meets its contract.
use Rattle.std.proofs.Common.{refl, sym, ◌∙◌, arith}
use Rattle.timer_calls.proofs.Starting.{starts, meant_entry, made}
use Rattle.timer_calls.proofs.start.start_held.Goals as goal

pub returns : goal.returns
returns c =
    let l = c.args.l.now in
    let u = rw (c.read.ensures.0, c.read.ensures.1) at c.message-u.ensures in
    let p = rw (c.read-2.ensures.0, c.read-2.ensures.1) at c.present_task.ensures in
    let i = meant_entry _ {i = c.in_ok-i.i} (sym c.lowest_entry.ensures ∙ grind arith) in
    rw c.rests.ensures
    (made c.put_place.ensures
    (starts l.size l.bytes.now c.args.s.now c.args.m.0 c.args.delay u p c.in-Some.is c.number.ensures c.if-number-eq127.false
    c.if-delay-eq0.false i.0 i.1 c.put_place.ensures.bytes c.now_at.ensures refl c.number-2.ensures
    c.put_entry.ensures))
