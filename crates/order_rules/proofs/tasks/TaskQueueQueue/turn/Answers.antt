-- `order_rules::tasks::TaskQueueQueue::turn` meets its contract.
use mathlib.Core.Path.{sym, ap, ◌∙◌}
use borrow.Author.Tests.{le-leb}
use Rattle.std.proofs.Common.{rules}
use Rattle.board.specs.declared.records.Task.{Task}
use Rattle.board.specs.Status.{number}
use Rattle.paper.specs.Rules.{is_there}
use Rattle.order_rules.proofs.tasks.TaskQueueQueue.turn.Goals as goal

pub returns-then-t-eq0 : goal.returns-then-t-eq0
returns-then-t-eq0 c =
    let t = c.task-t.ensures in
    let h = le-leb c.args.low _ (rw (c.number-p.ensures ∙ ap (λ (r : Task). number r.prio) t) at c.if-p-low.false) in
    rw (ap is_there (sym t) ∙ sym c.present.ensures ∙ c.if-not-present.false, h) (search rules)

pub returns-in-Some : goal.returns-in-Some
returns-in-Some c =
    let t = c.task-t.ensures in
    let h = le-leb c.args.low _ (rw (c.number-p.ensures ∙ ap (λ (r : Task). number r.prio) t) at c.if-p-low.false) in
    rw (ap is_there (sym t) ∙ sym c.present.ensures ∙ c.if-not-present.false, h) (search rules)
