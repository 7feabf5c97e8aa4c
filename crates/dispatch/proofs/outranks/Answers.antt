-- `dispatch::outranks` meets its contract.
use Rattle.dispatch.proofs.outranks.Goals as goal

pub returns-then-ready : goal.returns-then-ready
returns-then-ready c =
    rw (← c.task-u.ensures, ← c.ready.ensures, c.if-ready.true, ← c.number.ensures, ← c.number-then-ready.ensures)
