-- `timer_rules::good_timer` meets its contract.
use mathlib.Core.Path.{refl, sym, ◌∙◌}
use native.Mathlib.Omega.{arith}
use Rattle.timer_rules.proofs.BufferTurns.{timer-told}
use Rattle.timer_rules.proofs.good_timer.Goals as goal

pub returns-in_default : goal.returns-in_default
returns-in_default c =
    let a = c.args in
    timer-told a.l.size a.l.bytes.now a.s.now (omega arith) (sym c.in_default.is ∙ c.count_used.ensures) refl

pub returns : goal.returns
returns c =
    let a = c.args in
    timer-told a.l.size a.l.bytes.now a.s.now (omega arith) (sym c.in-Some.is ∙ c.count_used.ensures) c.count_timed.ensures
