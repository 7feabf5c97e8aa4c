-- `queue_rules::queue_lengths` meets its contract.
use Rattle.std.proofs.Common.{◌≡◌, length}
use Rattle.lent.specs.Lent.{board}
use Rattle.queue_rules.specs.Walks.{Lengths}
use Rattle.queue_rules.proofs.queue_lengths.Given as goal

abbrev pub invariant-loop-before : goal.invariant-loop-before
invariant-loop-before l = (length l.lengths ≡ 256) × Lengths (board l.l) l.before l.lengths
