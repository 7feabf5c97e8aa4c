-- `rules::runner::leads` meets its contract.
use mathlib.Core.Path.{◌≡◌, sym, ap, ◌∙◌}
use mathlib.Core.Bool.{true, not, true≢false}
use native.Mathlib.Omega.{arith}
use borrow.Author.Tests.{leb-true, le-ltb}
use Rattle.board.specs.declared.records.Task.{Task}
use Rattle.board.specs.Status.{MHBS, has, is_ready, number}
use Rattle.board.specs.Board.{task}
use Rattle.lent.specs.Lent.{board}
use Rattle.paper.specs.Rules.{ready, task_number}
use Rattle.rules.proofs.runner.leads.Goals.{then-ready, else-ready}
use Rattle.rules.proofs.runner.leads.Goals as goal

pub returns-then-number : goal.returns-then-number
returns-then-number c =
    let b = board c.args.l in
    let k = c.in-Some.k.0 in
    let t = c.task-t.ensures in
    let due : c.has.result ≡ has (task b k).stat MHBS = c.has.ensures ∙ ap (λ (r : Task). has r.stat MHBS) t in
    elim c.if-ready.branch [
      | then-ready w ↦
          let r : ready b k ≡ true = ap (λ (r : Task). is_ready r.stat) (sym t) ∙ sym c.ready.ensures ∙ w.if-ready.true in
          let p : w.number.result ≡ task_number b k = w.number.ensures ∙ ap (λ (r : Task). number r.prio) t in
          let q : w.number-then-ready.result ≡ task_number b c.args.f.0 =
          w.number-then-ready.ensures ∙ ap (λ (r : Task). number r.prio) w.task.ensures in
          let o = leb-true _ _ (sym w.value-is ∙ c.if-number.true) in
          rw (c.in-Some.is, r, le-ltb (task_number b c.args.f.0) (task_number b k) (omega arith)) (ap not due)
      | else-ready w ↦ absurd (true≢false (sym c.if-number.true ∙ w.value-is ∙ w.if-ready.false))
    ]
