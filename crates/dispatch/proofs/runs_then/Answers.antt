-- `dispatch::runs_then` meets its contract.
use Rattle.dispatch.proofs.Delivering.{then-nobody, then-waits}
use Rattle.dispatch.proofs.runs_then.Goals as goal

pub returns-in_default : goal.returns-in_default
returns-in_default c =
    let a = c.args in
    then-nobody a.l.size a.l.bytes.now a.c a.stirred c.in_default.is c.first_ready.ensures

pub returns-then-not-ready : goal.returns-then-not-ready
returns-then-not-ready c =
    let a = c.args in
    then-waits a.l.size a.l.bytes.now a.c a.stirred c.in-Some.is c.task-t.ensures c.ready.ensures c.if-not-ready.true
    c.first_ready-then-not-ready.ensures
