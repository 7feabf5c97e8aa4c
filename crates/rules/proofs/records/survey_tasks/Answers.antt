-- `rules::records::survey_tasks` meets its contract.
use mathlib.Core.Path.{◌≡◌, refl, sym, ap, ap₂, ◌∙◌}
use mathlib.Core.Bool.{cond}
use Prim.Native.Nat.{ℕ, ◌+◌}
use native.Mathlib.Omega.{arith}
use lib.Dec.{eqb}
use Rattle.std.specs.Prelude.{Option, None}
use Rattle.board.specs.declared.numbers.TaskNo.{TaskNo}
use Rattle.links.specs.Queue.{each, smallest_failing}
use Rattle.links.proofs.Bools.{each_next}
use Rattle.board.specs.declared.records.Task.{Task}
use Rattle.board.specs.Numbers.{task_meant}
use Rattle.lent.specs.Lent.{board}
use Rattle.paper.specs.Rules.{is_there, present, good_task, good_flags, rule2_at, rule6_at}
use Rattle.queue_rules.specs.Walks.{counted}
use Rattle.queue_rules.proofs.Turns.{count_starts, count_yes, count_no, count_bound}
use Rattle.rules.specs.Checked.{tasks_of, earlier}
use Rattle.rules.proofs.Turns.{tasks_fail, tasks-good, first_next}
use Rattle.rules.proofs.records.survey_tasks.Goals.{then-present, else-present}
use Rattle.rules.proofs.records.survey_tasks.Goals as goal

pub loop-before-init : goal.loop-before-init
loop-before-init c = (refl, refl, count_starts _)

pub returns-then-not-good_task : goal.returns-then-not-good_task
returns-then-not-good_task c =
    let p = c.loop-before in
    let a = c.args in
    ap (λ (t : Option TaskNo). tasks_of t None 0) c.meant.ensures
    ∙ tasks_fail a.l.size (board a.l) p.before c.loop-before-test.true p.invariant.0
    (sym (c.good_task.ensures ∙ ap good_task c.task_meant-t.ensures) ∙ c.if-not-good_task.true)

pub overflow_add-present : goal.overflow_add-present
overflow_add-present c = omega (arith, count_bound _ _ _ c.loop-before.invariant.2)

pub loop-before-preserved : goal.loop-before-preserved
loop-before-preserved c =
    let p = c.loop-before in
    let a = c.args in
    let b = board a.l in
    let e = c.task_meant-t.ensures in (
      each_next (rule2_at b) p.before p.invariant.0 (sym (c.good_task.ensures ∙ ap good_task e) ∙ c.if-not-good_task.false),
      c.first_breaking6-breaks6.ensures
          ∙ ap₂ (λ (t : Task) (u : Option TaskNo). cond (good_flags t.stat (eqb t.mptr 0)) u (earlier u (task_meant a.l.size (p.before + 1)))) e p.invariant.1
          ∙ first_next a.l.size (rule6_at b) p.before c.loop-before-test.true,
      elim c.if-present.branch [
        | then-present w ↦ w.present-is ∙ count_yes _ _ _ p.invariant.2 (sym (c.present.ensures ∙ ap is_there e) ∙ w.if-present.true)
        | else-present w ↦ w.present-is ∙ count_no _ _ _ p.invariant.2 (sym (c.present.ensures ∙ ap is_there e) ∙ w.if-present.false)
      ],
    )

pub returns : goal.returns
returns c =
    let p = c.loop-before in
    let a = c.args in
    let b = board a.l in
    let e : p.before ≡ a.l.size.tasks = omega arith in
    tasks-good a.l.size b p.breaks6 p.present (sym (ap (each (rule2_at b)) e) ∙ p.invariant.0)
    (p.invariant.1 ∙ ap (λ (n : ℕ). task_meant a.l.size (smallest_failing (rule6_at b) n)) e) (p.invariant.2 ∙ ap (counted (present b)) e)
