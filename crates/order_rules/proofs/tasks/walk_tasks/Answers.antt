-- `order_rules::tasks::walk_tasks` meets its contract.
use mathlib.Core.Path.{sym, ◌∙◌}
use borrow.Author.Tests.{eqb-true, eqb-false}
use Rattle.order_rules.proofs.OrderTurns.{order_empty, order_beyond}
use Rattle.order_rules.proofs.tasks.walk_tasks.Goals as goal

pub returns-then-no_tasks : goal.returns-then-no_tasks
returns-then-no_tasks c =
    let a = c.args in
    order_empty a.l.size a.l.bytes.now _ _ (eqb-true _ _ (sym c.no_tasks.ensures ∙ c.if-no_tasks.true))

pub returns-in_err-first_task : goal.returns-in_err-first_task
returns-in_err-first_task c =
    let a = c.args in
    c.from_residual.ensures
    ∙ order_beyond a.l.size a.l.bytes.now _ _ (eqb-false _ _ (sym c.no_tasks.ensures ∙ c.if-no_tasks.false))
    (sym c.first_task.ensures ∙ c.in_err-first_task.was)
