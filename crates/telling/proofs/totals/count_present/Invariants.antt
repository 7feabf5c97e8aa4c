-- So many of the tasks before k are present.
use Rattle.std.proofs.Common.{◌≡◌, ◌+◌, ◌-◌, ◌≤◌}
use Rattle.lent.specs.Lent.{board}
use Rattle.paper.specs.Rules.{present}
use Rattle.queue_rules.specs.Walks.{counted}
use Rattle.telling.proofs.totals.count_present.Given as goal

abbrev pub invariant-loop-k : goal.invariant-loop-k
invariant-loop-k l = (l.k ≤ l.l.size.tasks + 1) × (l.n ≡ counted (present (board l.l)) (l.k - 1))
