-- `changes::clear_bit` meets its contract.
use Rattle.changes.proofs.clear_bit.Goals as goal

pub returns : goal.returns
returns c =
    let t = rw (c.read.ensures.0, c.read.ensures.1) at c.task-t.ensures in
    let e = c.put_task.ensures in
    record { bytes = rw (c.with_stat.ensures, c.without.ensures, t) at e.bytes; size = e.size; loan = e.loan }
