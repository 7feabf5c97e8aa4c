-- So many of the blocks before m lie there.
use Rattle.std.proofs.Common.{◌≡◌, ◌+◌, ◌-◌, ◌≤◌}
use Rattle.lent.specs.Lent.{board}
use Rattle.queue_rules.specs.Walks.{counted}
use Rattle.telling.specs.Totals.{within}
use Rattle.telling.proofs.totals.blocks.Given as goal

abbrev pub invariant-loop-m : goal.invariant-loop-m
invariant-loop-m l = (l.m ≤ l.l.size.messages + 1) × (l.n ≡ counted (within (board l.l) l.low l.high) (l.m - 1))
