-- `order_rules::who::first_ready` meets its contract.
use Rattle.std.proofs.Common.{◌≡◌, ◌-◌}
use Rattle.links.specs.Queue.{walk, first_with}
use Rattle.board.specs.Numbers.{task_meant, number_of_task}
use Rattle.lent.specs.Lent.{board}
use Rattle.paper.specs.Rules.{next_task, ready, first_ready}
use Rattle.order_rules.proofs.who.first_ready.Given as goal

abbrev pub invariant-loop-seen : goal.invariant-loop-seen
invariant-loop-seen l =
    let b = board l.l in
    (task_meant l.l.size (number_of_task l.who) ≡ l.who)
    × (first_with (ready b) (walk (next_task b) (l.l.size.messages - l._seen) (number_of_task l.who)) ≡ first_ready l.l.size b)
