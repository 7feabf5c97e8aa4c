use Rattle.std.proofs.Common.{◌-◌, ◌≤◌, length}
use Rattle.telling.proofs.input.read_full.Given as goal

abbrev pub invariant-loop-at : goal.invariant-loop-at
invariant-loop-at g l = l.at ≤ length l.space

abbrev pub decreases-loop-at : goal.decreases-loop-at
decreases-loop-at g l = length l.space - l.at
