-- `interrupt_calls::wait_for_interrupt` meets its contract.
use mathlib.Core.Path.{refl, sym, ap, ◌∙◌}
use mathlib.Core.List.{[]}
use native.Mathlib.Omega.{arith}
use Rattle.board.specs.declared.numbers.TaskNo.{TaskNo}
use Rattle.lent.specs.Lent.{Becomes}
use Rattle.paper.specs.declared.call.Call.TheVariants.{WaitForInterrupt}
use Rattle.stores.specs.Effects.{wait_interrupt}
use Rattle.inner.proofs.Steps.{does, one_goes, made}
use Rattle.interrupt_calls.proofs.wait_for_interrupt.Goals as goal
use Rattle.interrupt_calls.proofs.wait_for_interrupt.Goals.{then-has, else-has}

pub returns : goal.returns
returns c =
    let l = c.args.l.now in
    let k = c.in_ok-c.c in
    let t = rw (c.read.ensures.0, c.read.ensures.1) at c.task.ensures in
    let on = rw t at c.has.ensures in
    let stored : Becomes l c.if-has.l (wait_interrupt l.size l.bytes.now k.0) = elim c.if-has.branch [
      | then-has w ↦ rw (w.l-is, sym on ∙ w.if-has.true) w.clear_bit.ensures
      | else-has w ↦ rw (w.l-is, sym on ∙ w.if-has.false) w.set_bit.ensures
    ] in
    let r = one_goes l.size l.bytes.now WaitForInterrupt [] refl c.requires {k = k} (grind arith) in
    rw c.rests.ensures
    (made stored (does l.size l.bytes.now WaitForInterrupt r.0 refl refl
    (stored.bytes ∙ ap (λ (n : TaskNo). wait_interrupt l.size l.bytes.now n.0) r.1)))
