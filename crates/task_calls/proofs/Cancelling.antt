-- Cancel task, on the present task n, where one runs and n is not busy. Assumes nothing.
use mathlib.Core.Path.{◌≡◌, refl, sym, ap, ◌∙◌}
use mathlib.Core.Bool.{false}
use mathlib.Core.List.{[], ◌∷◌}
use Prim.Native.Nat.{ℕ}
use Rattle.std.specs.Prelude.{Option, Some, Ok}
use Rattle.board.specs.declared.numbers.TaskNo.{TaskNo}
use Rattle.board.specs.Board.{Board, board_of}
use Rattle.lent.specs.declared.bytes.LentMut.{LentMut}
use Rattle.lent.specs.Lent.{Becomes}
use Rattle.paper.specs.declared.call.Call.TheVariants.{CancelTask}
use Rattle.paper.specs.Refusals.{no6, no10}
use Rattle.paper.proofs.Rows.{given_on}
use Rattle.stores.specs.declared.Done.{Done}
use Rattle.stores.specs.Effects.{cancel_task}
use Rattle.stores.specs.Answers.{Runner, Body, Made, present_meant}
use Rattle.stores.specs.Calls.{stepping}
use Rattle.inner.proofs.Rows.{task_row}
use Rattle.inner.proofs.Steps.{one_goes, does}

pub cancels : {old new : LentMut} (k : ℕ) {x : Option TaskNo} → Runner old.size old.bytes.now x → {r : TaskNo} → x ≡ Some r
    → {n : TaskNo} → present_meant old.size (board_of old.size old.bytes.now) k ≡ Some n
    → (no10 old.size (board_of old.size old.bytes.now) n.0).applies ≡ false → Becomes old new (cancel_task old.size old.bytes.now n.0)
    → {v : Done} → v ≡ record { value = 0; stirred = Some n } → Made (Ok v) old new (stepping old.size old.bytes.now (CancelTask k))
cancels {old = old} k d e is idle becomes ev =
    let z = old.size in
    let l = old.bytes.now in
    let b : Board = board_of z l in
    let one = one_goes z l (CancelTask k) (no6 z b k ∷ no10 z b k ∷ []) refl d e in
    let t = task_row z b k _ is in
    let go =
    one.0 ∙ given_on (no6 z b k) (no10 z b k ∷ []) t.0
    ∙ given_on (no10 z b k) [] (ap (λ (j : TaskNo). (no10 z b j.0).applies) (sym t.1) ∙ idle) in
    let m = does z l (CancelTask k) go refl (ap Some t.1) (ap (λ (j : TaskNo). cancel_task z l j.0) t.1) in
    record {
      answers = ap {B = Body} Ok ev ∙ m.answers;
      becomes = record { bytes = becomes.bytes ∙ m.leaves; size = becomes.size; loan = becomes.loan };
    }
