-- `timer_rules::named_before` meets its contract.
use Rattle.std.proofs.Common.{◌≡◌, ◌-◌, true}
use Rattle.timer.specs.Timer.{timer_of}
use Rattle.timer_rules.proofs.BufferTurns.{unnamed}
use Rattle.timer_rules.proofs.named_before.Given as goal

abbrev pub invariant-loop-j : goal.invariant-loop-j
invariant-loop-j l = unnamed (timer_of l.s) l.m (l.j - 1) ≡ true
