-- The two words of a move, in plain variables: a message into the queue of a task, a message out of it.
-- Assumes nothing.
use mathlib.Core.Path.{◌≡◌, ap, ◌∙◌}
use mathlib.Core.Bool.{Bool}
use mathlib.Core.List.{List}
use Prim.Native.Nat.{ℕ}
use Rattle.std.specs.Prelude.{Option}
use Rattle.links.specs.Queue.{goes_before}
use Rattle.board.specs.declared.numbers.Size.{Size}
use Rattle.board.specs.declared.numbers.MsgNo.{MsgNo}
use Rattle.board.specs.declared.records.Message.{Message}
use Rattle.board.specs.Numbers.{message_meant, number_of_message}
use Rattle.board.specs.Status.{number, fifo, with_fifo}
use Rattle.board.specs.Records.{with_link, with_prio}
use Rattle.board.specs.Board.{board_of, task, message}
use Rattle.board.specs.Writes.{put_message}
use Rattle.board.proofs.Meant.{number_of_message_lem}
use Rattle.paper.specs.Rules.{next_message, message_number}
use Rattle.stores.specs.Moves.{spot_for, spot_of, behind, queue_into, queue_out}
use Rattle.changes.specs.declared.spot.Spot.{Spot}
use Rattle.message_queue.specs.Spots.{message_spot}
use Rattle.stores.proofs.Seeks.{message-kind, cur-number}

-- ---- the words of a move: at is the spot found, d the bytes after the first store, d' after both
module _ (z : Size) (l : List ℕ) (m r : ℕ) (at : Spot MsgNo) where
  -- a message into a queue, as the record u; n is u with bit 0 of PRIO set, v that with its LINK
  pub queue_into_stored : (u n v : Message) (f : Bool) (p w : ℕ) (d d' : List ℕ) → f ≡ fifo u.prio → p ≡ number u.prio
      → w ≡ with_fifo u.prio → n ≡ with_prio u w → at ≡ message_spot z (spot_for z l r f p) → v ≡ with_link n (number_of_message at.cur)
      → d ≡ put_message z l m v → d' ≡ behind z d r at.prev m → d' ≡ queue_into z l m u r
  queue_into_stored u n v f p w d d' ef ep ew en ea ev ed ed' =
      let b = board_of z l in
      let s = spot_for z l r (fifo u.prio) (number u.prio) in
      let found : at ≡ message_spot z s = ea ∙ (λ i. message_spot z (spot_for z l r (ef i) (ep i))) in
      let cur : number_of_message at.cur ≡ s.cur = (λ i. number_of_message (found i).cur)
      ∙ cur-number z.messages (message-kind z) (λ y. goes_before (fifo u.prio) (number u.prio) (message_number b y))
      (next_message b) z.messages (task b r).mptr in
      ed' ∙ (λ i. behind z ((ed ∙ ap (put_message z l m) (ev ∙ (λ j. with_link ((en ∙ ap (with_prio u) ew) j) (cur j)))) i) r (found i).prev m)

  -- a message out of a queue
  pub queue_out_stored : (next : Option MsgNo) (d : List ℕ) → at ≡ message_spot z (spot_of z l r m)
      → next ≡ message_meant z (message (board_of z l) m).link → d ≡ behind z l r at.prev (number_of_message next) → d ≡ queue_out z l m r
  queue_out_stored next d ea en ed =
      let n = ap number_of_message en ∙ number_of_message_lem z (message (board_of z l) m).link in
      ed ∙ (λ i. behind z l r (ea i).prev (n i))
