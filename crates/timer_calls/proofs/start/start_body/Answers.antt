-- `timer_calls::start::start_body` meets its contract.
use Rattle.std.proofs.lemmas.Result.{err_from_is_err_and}
use Rattle.timer_calls.proofs.Starting.{start_not_held, start_of_held, unmoved}
use Rattle.timer_calls.proofs.start.start_body.Goals as goal

pub returns-in_err-m : goal.returns-in_err-m
returns-in_err-m c =
    let a = c.args in
    let l = a.l.now in
    let h = rw (c.read.ensures.0, c.read.ensures.1) at c.held.ensures in
    let p = err_from_is_err_and c.from_residual.result c.from_residual.ensures.1 in
    rw (p.1, p.2) (unmoved (start_not_held l.size l.bytes.now a.s.now a.m a.delay h c.in_err-m.was))

pub returns : goal.returns
returns c =
    let a = c.args in
    let l = a.l.now in
    let h = rw (c.read.ensures.0, c.read.ensures.1) at c.held.ensures in
    start_of_held l.size l.bytes.now a.s.now a.m a.delay h c.in_ok-m.was c.start_held.ensures
