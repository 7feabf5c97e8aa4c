-- `place_calls::sends::forward` meets its contract.
use mathlib.Core.Path.{refl}
use Rattle.std.proofs.lemmas.Result.{err_from_is_err_and}
use Rattle.paper.specs.declared.call.Call.TheVariants.{Forward}
use Rattle.inner.proofs.Steps.{not_held_stops, unmoved}
use Rattle.place_calls.proofs.Sending.{passes_on_lem}
use Rattle.place_calls.proofs.sends.forward.Goals as goal

pub returns-in_err-m : goal.returns-in_err-m
returns-in_err-m c =
    let a = c.args in
    let l = a.l.now in
    let h = rw (c.read.ensures.0, c.read.ensures.1) at c.held.ensures in
    let p = err_from_is_err_and c.from_residual.result c.from_residual.ensures.1 in
    rw (p.1, p.2) (unmoved (not_held_stops l.size l.bytes.now (Forward a.m a.r) a.m _ refl h c.in_err-m.was refl))

pub returns : goal.returns
returns c =
    let a = c.args in
    let l = a.l.now in
    let h = rw (c.read.ensures.0, c.read.ensures.1) at c.held.ensures in
    passes_on_lem l (Forward a.m a.r) a.m (λ m. a.r) refl refl h c.in_ok-m.was refl c.pass_on.ensures
