-- `block_calls::lowest_free` meets its contract.
use Prim.Native.Nat.{◌-◌}
use Rattle.lent.specs.Lent.{board}
use Rattle.block_calls.proofs.Search.{Sought}
use Rattle.block_calls.proofs.lowest_free.Given as goal

abbrev pub invariant-loop-used : goal.invariant-loop-used
invariant-loop-used l = Sought (board l.l) l.used

abbrev pub decreases-loop-used : goal.decreases-loop-used
decreases-loop-used l = l.l.size.messages - l.used

abbrev pub invariant-loop-before : goal.invariant-loop-before
invariant-loop-before l = Sought (board l.l) l.before
