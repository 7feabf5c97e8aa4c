-- `timer_rules::count_timed` meets its contract.
use mathlib.Core.Path.{◌≡◌, sym, ap, ◌∙◌}
use native.Mathlib.Omega.{arith}
use Rattle.lent.specs.Lent.{board}
use Rattle.board.specs.Board.{place}
use Rattle.board.specs.Places.{is_on_timer}
use Rattle.queue_rules.specs.Walks.{counted}
use Rattle.queue_rules.proofs.Turns.{count_starts, count_yes, count_no, count_bound}
use Rattle.timer_rules.proofs.count_timed.Goals.{then-is_timed, else-is_timed}
use Rattle.timer_rules.proofs.count_timed.Goals as goal

pub loop-before-init : goal.loop-before-init
loop-before-init c = count_starts _

pub overflow_add-n : goal.overflow_add-n
overflow_add-n c = omega (arith, count_bound _ _ _ c.loop-before.invariant)

pub loop-before-preserved : goal.loop-before-preserved
loop-before-preserved c =
    let i = c.loop-before.invariant in
    elim c.if-is_timed.branch [
      | then-is_timed w ↦ w.n-is ∙ count_yes _ _ _ i (sym c.is_timed.ensures ∙ w.if-is_timed.true)
      | else-is_timed w ↦ w.n-is ∙ count_no _ _ _ i (sym c.is_timed.ensures ∙ w.if-is_timed.false)
    ]

pub returns : goal.returns
returns c =
    let p = c.loop-before in
    let e : p.before ≡ c.args.l.size.messages = omega arith in
    p.invariant ∙ ap (counted (λ m. is_on_timer (place (board c.args.l) m))) e
