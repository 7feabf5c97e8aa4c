-- Which messages a queue's walk can meet: the proofs that the trait of src/walk.rt asks for.
--   message_means       a word that means a message is its number, and not 0
--   message_beyond      no message that a board does not have is queued
-- Assumes nothing.
use Rattle.std.specs.Prelude.{◌≡◌, false, List, ℕ, Some, None}
use Rattle.std.proofs.Common.{ap, ◌∙◌}
use Rattle.board.specs.declared.numbers.Size.{Size}
use Rattle.board.specs.declared.numbers.MsgNo.{MsgNo}
use Rattle.board.specs.declared.places.Place.TheVariants.{Free}
use Rattle.board.specs.Numbers.{outside, message_meant}
use Rattle.board.specs.Places.{is_queued_at}
use Rattle.board.specs.Board.{board_of}
use Rattle.board.proofs.Pieces.{not_none, nth-outside}
use Rattle.board.proofs.Meant.{message_meant_there, message_meant_none}
use Rattle.board.proofs.Codec.{length-places}
use Rattle.queue_rules.specs.Walks.{queued_at}

pub message_means : (z : Size) (w : ℕ) (m : MsgNo) → message_meant z w ≡ Some m → (m.0 ≡ w) × (w ≡ 0 → ⊥)
message_means z w m e =
    let t = message_meant_there z w m e in (t.1, λ f. not_none z.messages m.0 t.0 (t.1 ∙ f))

pub message_beyond : (z : Size) (l : List ℕ) (k w : ℕ) → message_meant z w ≡ None → queued_at (board_of z l) k w ≡ false
message_beyond z l k w e =
    ap (is_queued_at k)
    (nth-outside Free (board_of z l).places w (ap (λ (n : ℕ). outside n w) (length-places z l) ∙ message_meant_none z w e))
