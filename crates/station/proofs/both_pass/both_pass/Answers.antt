-- `station::both_pass::both_pass` meets its contract.
use Rattle.std.proofs.lemmas.Result.{err_from_is_err_and}
use Rattle.station.proofs.Timing.{both_broken, both_bad, both_run}
use Rattle.station.proofs.both_pass.both_pass.Goals as goal

pub returns-in_err-c : goal.returns-in_err-c
returns-in_err-c c =
    let a = c.args in
    let p = err_from_is_err_and c.from_residual.result c.from_residual.ensures.1 in
    rw (p.1, p.2) (both_broken a.l.now a.s.now c.sized.ensures c.if-not-sized.false c.checked_small.ensures c.in_err-c.was)

pub returns-then-not-good_timer : goal.returns-then-not-good_timer
returns-then-not-good_timer c =
    let a = c.args in
    both_bad a.l.now a.s.now c.sized.ensures c.if-not-sized.false c.checked_small.ensures c.in_ok-c.was c.good_timer.ensures
    c.if-not-good_timer.true

pub returns : goal.returns
returns c =
    let a = c.args in
    both_run a.l.now a.s.now c.sized.ensures c.if-not-sized.false c.checked_small.ensures c.in_ok-c.was c.good_timer.ensures
    c.if-not-good_timer.false
