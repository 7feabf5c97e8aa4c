-- `timer_calls::tick::tick_body` meets its contract.
use Rattle.std.proofs.Common.{refl}
use Rattle.timer_calls.proofs.Starting.{made}
use Rattle.timer_calls.proofs.Returning.{tick-stirs, tick-rests}
use Rattle.timer_calls.proofs.tick.tick_body.Goals as goal

pub returns-then-return_due : goal.returns-then-return_due
returns-then-return_due c =
    let l = c.args.l.now in
    let r = c.return_due.ensures in
    made r.becomes
    (tick-stirs l.size l.bytes.now c.args.s.now c.requires c.now_at-at.ensures refl c.put_now.ensures
    (record { answers = r.answers; board = r.becomes.bytes; timer = r.timer }) c.if-return_due.true
    (rw (c.read.ensures.0, c.read.ensures.1, r.becomes.size) at c.first_ready.ensures))

pub returns-else-return_due : goal.returns-else-return_due
returns-else-return_due c =
    let l = c.args.l.now in
    let r = c.return_due.ensures in
    made r.becomes
    (tick-rests l.size l.bytes.now c.args.s.now c.requires c.now_at-at.ensures refl c.put_now.ensures
    (record { answers = r.answers; board = r.becomes.bytes; timer = r.timer }) c.if-return_due.false)
