-- `timer_calls::tick::return_due` meets its contract.
use Rattle.std.proofs.Common.{◌≡◌}
use Rattle.timer_calls.proofs.Returning.{Going}
use Rattle.timer_calls.proofs.tick.return_due.Given as goal

abbrev pub invariant-loop-before : goal.invariant-loop-before
invariant-loop-before l =
    (l.l.size ≡ l.initial.l.size) × (l.l.bytes.ghost_name ≡ l.initial.l.bytes.ghost_name)
    × Going l.initial.l.size l.at l.initial.l.bytes.now l.initial.s l.l.bytes.now l.s l.before l.any
