-- `place_calls::sends::send` meets its contract.
use mathlib.Core.Path.{refl}
use native.Mathlib.Omega.{arith}
use Rattle.std.proofs.lemmas.Result.{err_from_is_err_and}
use Rattle.paper.specs.declared.call.Call.TheVariants.{Send}
use Rattle.inner.proofs.Steps.{not_held_stops, unmoved, made}
use Rattle.place_calls.proofs.Sending.{sends}
use Rattle.place_calls.proofs.sends.send.Goals as goal

pub returns-in_err-c : goal.returns-in_err-c
returns-in_err-c c =
    let a = c.args in
    let l = a.l.now in
    let h = rw (c.read.ensures.0, c.read.ensures.1) at c.held.ensures in
    let p = err_from_is_err_and c.from_residual.result c.from_residual.ensures.1 in
    rw (p.1, p.2) (unmoved (not_held_stops l.size l.bytes.now (Send a.m a.r) a.m _ refl h c.in_err-c.was refl))

pub returns : goal.returns
returns c =
    let a = c.args in
    let l = a.l.now in
    let h = rw (c.read.ensures.0, c.read.ensures.1) at c.held.ensures in
    let p = rw (c.read-2.ensures.0, c.read-2.ensures.1) at c.present_task.ensures in
    rw c.stirs.ensures
    (made c.send_to.ensures (sends l.size l.bytes.now a.m a.r h c.in_ok-c.was p (grind arith) c.send_to.ensures.bytes))
