-- One more is counted exactly where the task is present.
use Rattle.std.proofs.Common.{◌≡◌, ◌+◌, ◌-◌, sym, ap, ◌∙◌, arith}
use Rattle.lent.specs.Lent.{board}
use Rattle.paper.specs.Rules.{is_there, present}
use Rattle.queue_rules.specs.Walks.{counted}
use Rattle.queue_rules.proofs.Turns.{count_starts, count_bound}
use Rattle.telling.proofs.Counted.{counted_yes, counted_no}
use Rattle.telling.proofs.totals.count_present.Goals.{then-present, else-present}
use Rattle.telling.proofs.totals.count_present.Goals as goal

pub loop-k-init : goal.loop-k-init
loop-k-init c = (omega arith, count_starts (present (board c.args.l)))

pub overflow_add-n : goal.overflow_add-n
overflow_add-n c = omega (arith, count_bound _ _ _ c.loop-k.invariant.1)

pub loop-k-preserved : goal.loop-k-preserved
loop-k-preserved c =
    let there = sym (c.present.ensures ∙ ap is_there c.task_meant.ensures) in (
      omega arith,
      elim c.if-present.branch [
        | then-present w ↦ w.n-is ∙ counted_yes _ c.loop-k.k c.loop-k.n (omega arith) c.loop-k.invariant.1 (there ∙ w.if-present.true)
        | else-present w ↦ w.n-is ∙ counted_no _ c.loop-k.k c.loop-k.n (omega arith) c.loop-k.invariant.1 (there ∙ w.if-present.false)
      ],
    )

pub returns : goal.returns
returns c =
    let all : c.loop-k.k - 1 ≡ c.args.l.size.tasks = omega arith in
    c.loop-k.invariant.1 ∙ ap (counted (present (board c.args.l))) all

pub returns-after-present : goal.returns-after-present
returns-after-present c =
    let there = sym (c.present.ensures ∙ ap is_there c.task_meant.ensures) in
    let all : c.loop-k.k + 1 - 1 ≡ c.args.l.size.tasks = omega arith in
    let counts : c.if-present.n ≡ counted (present (board c.args.l)) (c.loop-k.k + 1 - 1) =
    elim c.if-present.branch [
      | then-present w ↦ w.n-is ∙ counted_yes _ c.loop-k.k c.loop-k.n (omega arith) c.loop-k.invariant.1 (there ∙ w.if-present.true)
      | else-present w ↦ w.n-is ∙ counted_no _ c.loop-k.k c.loop-k.n (omega arith) c.loop-k.invariant.1 (there ∙ w.if-present.false)
    ] in
    counts ∙ ap (counted (present (board c.args.l))) all
