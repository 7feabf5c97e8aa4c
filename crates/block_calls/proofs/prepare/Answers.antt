-- `block_calls::prepare` meets its contract.
use mathlib.Core.Path.{refl, ◌∙◌}
use mathlib.Core.List.{[], ◌∷◌}
use borrow.Author.Tests.{lt-ltb}
use Rattle.paper.specs.declared.call.Call.TheVariants.{Prepare}
use Rattle.paper.specs.Refusals.{no14}
use Rattle.paper.proofs.Rows.{given_stop}
use Rattle.inner.proofs.Steps.{stops, held_goes, unmoved}
use Rattle.block_calls.proofs.prepare.Goals as goal

pub returns-then-l-sptr : goal.returns-then-l-sptr
returns-then-l-sptr c =
    let a = c.args in
    let l = a.l.now in
    let call = Prepare a.m a.stat a.prio a.sptr in
    let h = rw (c.read.ensures.0, c.read.ensures.1) at c.held.ensures in
    let test = no14 l.size a.sptr in
    let row = (held_goes l.size l.bytes.now call a.m (test ∷ []) refl h c.in_ok-m.was).0 in
    unmoved (stops l.size l.bytes.now call (row ∙ given_stop test [] (lt-ltb l.size.tasks a.sptr c.if-l-sptr.true)) refl)
