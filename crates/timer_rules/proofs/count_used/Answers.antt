-- `timer_rules::count_used` meets its contract.
use mathlib.Core.Path.{◌≡◌, refl, sym, ap, ◌∙◌}
use native.Mathlib.Omega.{arith}
use Rattle.links.specs.Queue.{each}
use Rattle.lent.specs.Lent.{board}
use Rattle.timer.specs.Timer.{timer_of, is_used, entry}
use Rattle.queue_rules.specs.Walks.{counted}
use Rattle.queue_rules.proofs.Turns.{count_starts, count_yes, count_no, count_bound}
use Rattle.timer_rules.specs.Buffer.{good_entry}
use Rattle.timer_rules.proofs.BufferTurns.{entries_bad, entries-good, entries-counted}
use Rattle.timer_rules.proofs.count_used.Goals.{then-used, else-used}
use Rattle.timer_rules.proofs.count_used.Goals as goal

pub loop-before-init : goal.loop-before-init
loop-before-init c = (refl, count_starts _)

pub returns-then-not-good_entry : goal.returns-then-not-good_entry
returns-then-not-good_entry c =
    let a = c.args in
    entries_bad (board a.l) (timer_of a.s.now) c.loop-before.before c.entry_at-e.ensures
    c.good_entry.ensures c.loop-before-test.true (c.if-not-good_entry.true)

pub overflow_add-n : goal.overflow_add-n
overflow_add-n c = omega (arith, count_bound _ _ _ c.loop-before.invariant.1)

pub loop-before-preserved : goal.loop-before-preserved
loop-before-preserved c =
    let a = c.args in
    let i = c.loop-before.invariant in
    let used = ap is_used (sym c.entry_at-e.ensures) ∙ sym c.used.ensures in (
      entries-good (board a.l) (timer_of a.s.now) c.loop-before.before c.entry_at-e.ensures
          c.good_entry.ensures i.0 (c.if-not-good_entry.false),
      elim c.if-used.branch [
        | then-used w ↦ w.n-is ∙ count_yes _ _ _ i.1 (used ∙ w.if-used.true)
        | else-used w ↦ w.n-is ∙ count_no _ _ _ i.1 (used ∙ w.if-used.false)
      ],
    )

pub returns : goal.returns
returns c =
    let p = c.loop-before in
    let a = c.args in
    let b = board a.l in
    let t = timer_of a.s.now in
    let e : p.before ≡ 16 = omega arith in
    entries-counted b t p.n (ap (each (good_entry b t)) (sym e) ∙ p.invariant.0)
    (p.invariant.1 ∙ ap (counted (λ i. is_used (entry t i))) e)
