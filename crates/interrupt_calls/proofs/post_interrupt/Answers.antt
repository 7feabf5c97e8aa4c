-- `interrupt_calls::post_interrupt` meets its contract.
use mathlib.Core.Path.{refl, sym, ap, ◌∙◌}
use mathlib.Core.List.{[]}
use native.Mathlib.Omega.{arith}
use Rattle.std.specs.Prelude.{◌≡◌, Some}
use Rattle.board.specs.declared.numbers.TaskNo.{TaskNo}
use Rattle.board.specs.Board.{board_of}
use Rattle.lent.specs.Lent.{Becomes}
use Rattle.paper.specs.declared.call.Call.TheVariants.{PostInterrupt}
use Rattle.paper.specs.Refusals.{no6}
use Rattle.paper.proofs.Rows.{given_on}
use Rattle.stores.specs.Effects.{post}
use Rattle.stores.specs.Answers.{present_meant}
use Rattle.inner.proofs.Rows.{task_row}
use Rattle.inner.proofs.Steps.{does, made}
use Rattle.interrupt_calls.proofs.post_interrupt.Goals as goal
use Rattle.interrupt_calls.proofs.post_interrupt.Goals.{then-has, else-has}

pub returns : goal.returns
returns c =
    let l = c.args.l.now in
    let b = board_of l.size l.bytes.now in
    let k = c.in_ok-k.k in
    let p = rw (c.read.ensures.0, c.read.ensures.1) at c.present_task.ensures in
    let meant : present_meant l.size b c.args.k ≡ Some k = sym p ∙ grind arith in
    let t = rw (c.read-2.ensures.0, c.read-2.ensures.1) at c.task.ensures in
    let on = rw t at c.has.ensures in
    let stored : Becomes l c.if-has.l (post l.size l.bytes.now k.0) = elim c.if-has.branch [
      | then-has w ↦ rw (w.l-is, sym on ∙ w.if-has.true) w.clear_bit.ensures
      | else-has w ↦ rw (w.l-is, sym on ∙ w.if-has.false) w.set_bit.ensures
    ] in
    let r = task_row l.size b c.args.k k meant in
    rw c.stirs.ensures
    (made stored (does l.size l.bytes.now (PostInterrupt c.args.k) (given_on (no6 l.size b c.args.k) [] r.0) refl (ap Some r.1)
    (stored.bytes ∙ ap (λ (n : TaskNo). post l.size l.bytes.now n.0) r.1)))
