-- One more is counted exactly where the block lies there.
use Rattle.std.proofs.Common.{◌≡◌, ◌+◌, ◌-◌, sym, ap, ◌∙◌, arith}
use Rattle.lent.specs.Lent.{board}
use Rattle.queue_rules.specs.Walks.{counted}
use Rattle.queue_rules.proofs.Turns.{count_starts, count_bound}
use Rattle.telling.specs.Totals.{within}
use Rattle.telling.proofs.Counted.{counted_yes, counted_no}
use Rattle.telling.proofs.totals.blocks.Goals.{then-lies, else-lies}
use Rattle.telling.proofs.totals.blocks.Goals as goal

pub loop-m-init : goal.loop-m-init
loop-m-init c = (omega arith, count_starts (within (board c.args.l) c.args.low c.args.high))

pub overflow_add-n : goal.overflow_add-n
overflow_add-n c = omega (arith, count_bound _ _ _ c.loop-m.invariant.1)

pub loop-m-preserved : goal.loop-m-preserved
loop-m-preserved c = (
  omega arith,
  elim c.if-lies.branch [
    | then-lies w ↦ w.n-is ∙ counted_yes _ c.loop-m.m c.loop-m.n (omega arith) c.loop-m.invariant.1 (sym c.lies.ensures ∙ w.if-lies.true)
    | else-lies w ↦ w.n-is ∙ counted_no _ c.loop-m.m c.loop-m.n (omega arith) c.loop-m.invariant.1 (sym c.lies.ensures ∙ w.if-lies.false)
  ],
)

pub returns : goal.returns
returns c =
    let all : c.loop-m.m - 1 ≡ c.args.l.size.messages = omega arith in
    let counts = c.loop-m.invariant.1 ∙ ap (counted (within (board c.args.l) c.args.low c.args.high)) all in
    (counts, omega (arith, count_bound _ _ _ counts))

pub returns-after-lies : goal.returns-after-lies
returns-after-lies c =
    let all : c.loop-m.m + 1 - 1 ≡ c.args.l.size.messages = omega arith in
    let here : c.if-lies.n ≡ counted (within (board c.args.l) c.args.low c.args.high) (c.loop-m.m + 1 - 1) =
    elim c.if-lies.branch [
      | then-lies w ↦ w.n-is ∙ counted_yes _ c.loop-m.m c.loop-m.n (omega arith) c.loop-m.invariant.1 (sym c.lies.ensures ∙ w.if-lies.true)
      | else-lies w ↦ w.n-is ∙ counted_no _ c.loop-m.m c.loop-m.n (omega arith) c.loop-m.invariant.1 (sym c.lies.ensures ∙ w.if-lies.false)
    ] in
    let counts = here ∙ ap (counted (within (board c.args.l) c.args.low c.args.high)) all in
    (counts, omega (arith, count_bound _ _ _ counts))
