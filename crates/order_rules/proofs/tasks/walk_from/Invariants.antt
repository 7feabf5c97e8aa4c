-- `order_rules::tasks::walk_from` meets its contract.
use Rattle.std.proofs.Common.{◌≡◌, ◌-◌, Some}
use Rattle.links.specs.Queue.{walk, first_with}
use Rattle.board.specs.Numbers.{task_meant}
use Rattle.lent.specs.Lent.{board}
use Rattle.paper.specs.Rules.{ready, next_task}
use Rattle.order_rules.specs.Order.{order_visited}
use Rattle.order_rules.proofs.tasks.walk_from.Given as goal

abbrev pub invariant-loop-seen : goal.invariant-loop-seen
invariant-loop-seen l =
    let b = board l.l in
    (task_meant l.l.size l.k.0 ≡ Some l.k)
    × (order_visited b (l.limit - l.seen) l.k.0 l.low l.seen ≡ order_visited b l.limit l.initial.k.0 0 0)
    × (first_with (ready b) (walk (next_task b) (l.limit - l.seen) l.k.0) ≡ first_with (ready b) (walk (next_task b) l.limit l.initial.k.0))
