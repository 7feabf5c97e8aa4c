use Rattle.std.proofs.Common.{◌+◌, ◌-◌, ◌*◌, ◌≤◌}
use Rattle.draw_board.proofs.rows.foot.Given as goal

abbrev pub invariant-loop-k : goal.invariant-loop-k
invariant-loop-k l = (l.k-iterator.left ≤ 32) × (l.y ≤ 86 + 700000 * (32 - l.k-iterator.left))
