-- Cancel message where no refusal applies. Assumes nothing.
use mathlib.Core.Path.{◌≡◌, refl, sym, ap, ◌∙◌}
use mathlib.Core.Bool.{Bool, true, false, not}
use mathlib.Core.List.{List, [], ◌∷◌}
use Prim.Native.Nat.{ℕ}
use borrow.Author.Tests.{eq-eqb}
use Rattle.std.specs.Prelude.{Option, Some}
use Rattle.board.specs.declared.numbers.Size.{Size}
use Rattle.board.specs.declared.numbers.TaskNo.{TaskNo}
use Rattle.board.specs.declared.numbers.MsgNo.{MsgNo}
use Rattle.board.specs.declared.records.Message.{Message}
use Rattle.board.specs.Numbers.{message_meant}
use Rattle.board.specs.Places.{is_queued_at}
use Rattle.board.specs.Board.{Board, board_of, message, place}
use Rattle.board.proofs.Meant.{message_meant-message}
use Rattle.paper.specs.declared.call.Call.TheVariants.{CancelMessage}
use Rattle.paper.specs.Refusals.{Test, no4, no6, no12, no13}
use Rattle.paper.proofs.Rows.{given_on}
use Rattle.stores.specs.Effects.{cancel_message}
use Rattle.stores.specs.Answers.{Runner, Makes, present_meant, done}
use Rattle.stores.specs.Calls.{stepping}
use Rattle.inner.proofs.Rows.{task_row}
use Rattle.inner.proofs.Steps.{does, one_goes}

-- c runs and takes the message m, of record u, which w means, back from the queue of k, which v means; n is the number of c
pub cancels : (z : Size) (l : List ℕ) {x : Option TaskNo} → Runner z l x → {c : TaskNo} → x ≡ Some c → (w v : ℕ)
    {meant : Option MsgNo} → meant ≡ message_meant z w → {m : MsgNo} → meant ≡ Some m
    → {from : Option TaskNo} → from ≡ present_meant z (board_of z l) v → {k : TaskNo} → from ≡ Some k
    → {t : Bool} → t ≡ is_queued_at k.0 (place (board_of z l) m.0) → t ≡ true
    → {u : Message} {n : ℕ} → u ≡ message (board_of z l) m.0 → n ≡ c.0 → u.sptr ≡ n
    → {d : List ℕ} → d ≡ cancel_message z l c.0 m.0 k.0 → Makes (done 0 (Some k)) d (stepping z l (CancelMessage w v))
cancels z l ex runs w v em is ef there et in-it eu en h ed =
    let b = board_of z l in
    let sent : List Test = no13 b b.running w ∷ [] in
    let queued : List Test = no12 b w v ∷ sent in
    let c = one_goes z l (CancelMessage w v) (no4 z w ∷ no6 z b v ∷ queued) refl ex runs in
    let m = message_meant-message z w _ (sym em ∙ is) in
    let k = task_row z b v _ (sym ef ∙ there) in
    let tested = sym in-it ∙ et ∙ (λ i. is_queued_at (k.1 i).0 (place b (m.1 i).0)) in
    let its = sym (λ i. (message b (m.1 i).0).sptr) ∙ sym (λ i. (eu i).sptr) ∙ h ∙ en ∙ (λ i. (c.1 i).0) in
    does z l (CancelMessage w v)
    (c.0 ∙ given_on (no4 z w) (no6 z b v ∷ queued) m.0 ∙ given_on (no6 z b v) queued k.0
    ∙ given_on (no12 b w v) sent (ap not (sym tested)) ∙ given_on (no13 b b.running w) [] (ap not (eq-eqb _ _ its)))
    refl (ap Some k.1) (ed ∙ (λ i. cancel_message z l (c.1 i).0 (m.1 i).0 (k.1 i).0))
