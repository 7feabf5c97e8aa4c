-- `queue_rules::wrong_queue` meets its contract.
use Rattle.std.proofs.Common.{◌≡◌, true}
use Rattle.links.specs.Queue.{each}
use Rattle.lent.specs.Lent.{board}
use Rattle.paper.specs.Rules.{rule5_at}
use Rattle.queue_rules.proofs.wrong_queue.Given as goal

abbrev pub invariant-loop-before : goal.invariant-loop-before
invariant-loop-before l = each (rule5_at l.l.size (board l.l)) l.before ≡ true
