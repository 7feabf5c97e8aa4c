-- `message_queue::seek::goes_before` meets its contract.
use Rattle.message_queue.proofs.seek.goes_before.Goals as goal

pub returns-then-fifo : goal.returns-then-fifo
returns-then-fifo c = rw c.if-fifo.true

pub returns-else-fifo : goal.returns-else-fifo
returns-else-fifo c = rw c.if-fifo.false
