-- `order_rules::tasks::rule3` meets its contract.
use mathlib.Core.Path.{sym, ap, ◌∙◌}
use native.Mathlib.Omega.{arith}
use Rattle.order_rules.specs.Order.{listed_by}
use Rattle.order_rules.proofs.OrderTurns.{listed_so, listed_not, fewer_links}
use Rattle.order_rules.proofs.tasks.rule3.Goals as goal

pub returns-in-Some : goal.returns-in-Some
returns-in-Some c =
    let a = c.args in
    listed_so a.present _ _ _ (sym c.in-Some.is ∙ c.walk_tasks.ensures) c.if-seen-present.true
    ∙ fewer_links a.l.size a.l.bytes.now a.present _ (omega (arith, c.min-most.ensures)) (λ k. omega (arith, c.min-most.ensures))

pub returns-in_default : goal.returns-in_default
returns-in_default c =
    let a = c.args in
    listed_not a.present _ _ _ (sym c.in-Some.is ∙ c.walk_tasks.ensures) c.if-seen-present.false
    ∙ fewer_links a.l.size a.l.bytes.now a.present _ (omega (arith, c.min-most.ensures)) (λ k. omega (arith, c.min-most.ensures))

pub returns-in_default-2 : goal.returns-in_default-2
returns-in_default-2 c =
    let a = c.args in
    ap (listed_by a.present) (sym c.in_default.is ∙ c.walk_tasks.ensures)
    ∙ fewer_links a.l.size a.l.bytes.now a.present _ (omega (arith, c.min-most.ensures)) (λ k. omega (arith, c.min-most.ensures))
