-- `wait_calls::wait` meets its contract.
use borrow.Author.Tests.{ne_eqb}
use Rattle.wait_calls.proofs.wait.Goals as goal

-- with a message queued it is due that
pub returns-else-task-eq0 : goal.returns-else-task-eq0
returns-else-task-eq0 c =
    let t = rw (c.read.ensures.0, c.read.ensures.1) at c.task.ensures in
    let queued = rw t at (ne_eqb c.task.result.mptr 0 c.if-task-eq0.false) in
    let d = c.set_bit-else-task-eq0.ensures in
    record { bytes = rw (c.in-Some.is, queued) d.bytes; size = d.size; loan = d.loan }
