-- `timer_calls::start::lowest_entry` meets its contract.
use Rattle.timer.specs.Timer.{timer_of}
use Rattle.timer_calls.proofs.Starting.{Looked}
use Rattle.timer_calls.proofs.start.lowest_entry.Given as goal

abbrev pub invariant-loop-before : goal.invariant-loop-before
invariant-loop-before l = Looked (timer_of l.s) l.before
