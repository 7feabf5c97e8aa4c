-- `queue_rules::walk::walk` meets its contract.
use Rattle.std.proofs.Common.{◌≡◌, ◌-◌, ℕ, Option, Some}
use Rattle.queue_rules.specs.Walks.{visited}
use Rattle.queue_rules.proofs.walk.walk.Given as goal

abbrev pub invariant-loop-seen : goal.invariant-loop-seen
invariant-loop-seen g l =
    let number = g.Q.At.Number.number in
    let walked : ℕ → ℕ → ℕ → ℕ → Option ℕ = visited (g.Q.Queue.next l.q) (g.Q.Queue.rank l.q) (g.Q.Queue.good l.q) in
    (g.Q.Queue.meant l.q (number l.at) ≡ Some l.at) × (walked (l.most - l.seen) (number l.at) l.low l.seen ≡ walked (l.most - l.before) (number l.initial.at) l.least l.before)
