-- `queue_rules::walk_queues` meets its contract.
use Rattle.std.proofs.Common.{◌≡◌, Some, ◌≤◌}
use Rattle.lent.specs.Lent.{board}
use Rattle.queue_rules.specs.Walks.{walked}
use Rattle.queue_rules.proofs.walk_queues.Given as goal

abbrev pub invariant-loop-before : goal.invariant-loop-before
invariant-loop-before l = (walked (board l.l) l.queued l.before ≡ Some l.sum) × (l.sum ≤ l.queued)
