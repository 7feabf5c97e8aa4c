-- `place_calls::sends::resend` meets its contract.
use mathlib.Core.Path.{refl, ap}
use Rattle.std.proofs.lemmas.Result.{err_from_is_err_and}
use Rattle.board.specs.declared.records.Message.{Message}
use Rattle.board.specs.Board.{board_of, message}
use Rattle.paper.specs.declared.call.Call.TheVariants.{Resend}
use Rattle.inner.proofs.Steps.{not_held_stops, unmoved}
use Rattle.place_calls.proofs.Sending.{passes_on_lem}
use Rattle.place_calls.proofs.sends.resend.Goals as goal

pub returns-in_err-m : goal.returns-in_err-m
returns-in_err-m c =
    let a = c.args in
    let l = a.l.now in
    let h = rw (c.read.ensures.0, c.read.ensures.1) at c.held.ensures in
    let p = err_from_is_err_and c.from_residual.result c.from_residual.ensures.1 in
    rw (p.1, p.2) (unmoved (not_held_stops l.size l.bytes.now (Resend a.m) a.m _ refl h c.in_err-m.was refl))

pub returns : goal.returns
returns c =
    let a = c.args in
    let l = a.l.now in
    let h = rw (c.read.ensures.0, c.read.ensures.1) at c.held.ensures in
    let u = rw (c.read-2.ensures.0, c.read-2.ensures.1) at c.message-r.ensures in
    passes_on_lem l (Resend a.m) a.m (λ m. (message (board_of l.size l.bytes.now) m).rptr) refl refl h c.in_ok-m.was
    (ap (λ (u : Message). u.rptr) u) c.pass_on.ensures
