-- `station::step` meets its contract.
use Rattle.std.proofs.lemmas.Result.{err_from_is_err_and}
use Rattle.station.proofs.Fitted.{fitted}
use Rattle.station.proofs.Stepping.{runner-asked, step_broken, step-made}
use Rattle.station.proofs.step.Goals as goal

pub returns-in_err-c : goal.returns-in_err-c
returns-in_err-c c =
    let a = c.args in
    let p = err_from_is_err_and c.from_residual.result c.from_residual.ensures.1 in
    rw (p.1, p.2) (step_broken a.l.now a.call c.sized.ensures c.if-not-sized.false c.checked_small.ensures c.in_err-c.was)

pub call_small-requires : goal.call_small-requires
call_small-requires c = runner-asked c.args.l.now c.sized.ensures c.if-not-sized.false c.checked_small.ensures c.in_ok-c.was

pub returns : goal.returns
returns c =
    let a = c.args in
    step-made a.l.now a.call c.sized.ensures c.if-not-sized.false c.checked_small.ensures c.in_ok-c.was
    (λ i. (c.slice_known-1.given i).fits) (fitted a.call c.well_formed.1.0) (λ i. (c.type_inv.l i).fits) c.call_small.ensures
