-- `timed::timed_lowest_free` meets its contract.
use borrow.Author.Tests.{ne_eqb}
use Rattle.timed.proofs.timed_lowest_free.Goals as goal

pub returns-then-board-ne1476 : goal.returns-then-board-ne1476
returns-then-board-ne1476 c = simp (ne_eqb _ _ c.if-board-ne1476.true)
