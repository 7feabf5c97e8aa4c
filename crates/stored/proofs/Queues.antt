-- The queue of a task, on bytes of the right length whose links list queues: what code stores when a message goes in or is taken
-- out is what the paper says of the whole queue.
-- Assumes nothing.
use mathlib.Core.Path.{◌≡◌, refl, sym, ap, ◌∙◌, subst}
use mathlib.Core.Logic.{◌≢◌}
use mathlib.Core.Bool.{Bool, true, false, cond}
use mathlib.Core.List.{List}
use Prim.Native.Nat.{ℕ, ◌≤◌}
use lib.Dec.{eqb}
use lib.ListN.{length}
use Rattle.std.specs.Prelude.{Some, None}
use Rattle.links.specs.Queue.{first_of, rest_of, goes_before, insert, without}
use Rattle.links.specs.Chain.{In, Out, All, Chain}
use Rattle.links.specs.Seek.{Spot, seek}
use Rattle.links.proofs.Members.{out_not_in, all_of}
use Rattle.links.proofs.Chains.{chain_first, chain_frame, chain-walk, walk-length}
use Rattle.links.proofs.Insertion.{insert_stays}
use Rattle.board.specs.declared.numbers.Size.{Size}
use Rattle.board.specs.declared.records.Message.{Message}
use Rattle.board.specs.declared.places.Place.TheVariants.{Free, QueuedAt}
use Rattle.board.specs.Numbers.{outside, on_board, task_no, message_meant, Numbered}
use Rattle.board.specs.Status.{number, fifo, with_fifo}
use Rattle.board.specs.Records.{with_link, with_prio}
use Rattle.board.specs.Places.{is_queued_at}
use Rattle.board.specs.Board.{Board, total, board_of, task, message, place, with_message, with_place}
use Rattle.board.specs.Writes.{put_message}
use Rattle.board.proofs.Meant.{on_board-most}
use Rattle.board.proofs.Codec.{length-tasks, length-places}
use Rattle.paper.specs.Rules.{next_message, message_number, queue}
use Rattle.paper.specs.Changes.{link_message, with_mptr, with_queue}
use Rattle.paper.specs.Effects.{queue_with, woken, place_at}
use Rattle.linked.specs.Linked.{Linked}
use Rattle.linked.proofs.Tests.{says_is_queued_at}
use Rattle.paper.proofs.Which.{nth_numbered}
use Rattle.linked.proofs.Boards.{linked_walks}
use Rattle.kept.proofs.Reading.{message-put, message_other}
use Rattle.stores.specs.Changes as changes
use Rattle.stores.specs.Moves as moves
use Rattle.stored.proofs.Comes.{Comes, and_then, comes_to, comes_task, comes_message}
use Rattle.stored.proofs.Behind.{behind, spot_in, start_read, spot_read, behind_insert, behind_without, head_rest}
use Rattle.stored.proofs.Links.{queue_store, marked, marked_queue, message_again}

-- one word: MPTR of r, or LINK of the message before
comes_behind : (z : Size) (l : List ℕ) → length l ≡ total z → (r prev x : ℕ)
    → Comes z (moves.behind z l r (message_meant z prev) x) (behind (queue_store r) z.messages (board_of z l) prev x)
comes_behind z l e r prev x = go (outside z.messages prev)
  where
    go : (t : Bool) → Comes z (moves.behind z l r (cond t None (Some (record { 0 = prev }))) x)
        (cond t (with_mptr (board_of z l) r x) (link_message (board_of z l) prev x))
    go true = comes_task z l e r _
    go false = comes_message z l e prev _

module _ (z : Size) (l : List ℕ) (e : length l ≡ total z) (fuel : z.tasks ≤ z.messages) {order : List ℕ} {queues : ℕ → List ℕ}
    (h : Linked z (board_of z l) order queues) (r : ℕ) (n : Numbered z.tasks r) where
  abbrev b : Board
  b = board_of z l

  queue_walks : queue z b r ≡ queues r
  queue_walks = (linked_walks z b (length-tasks z l) (length-places z l) fuel order queues h).1 r n

  queue-chain : Chain (next_message b) (task b r).mptr (queue z b r)
  queue-chain = rw queue_walks (h.messages r n).chain

  -- the queue is of messages of the board
  pub queue_numbered : (y : ℕ) → In y (queue z b r) → Numbered z.messages y
  queue_numbered y i =
      let p = ((h.messages r n).exact y).0 (subst (In y) queue_walks i) in
      rw (← length-places z l) (nth_numbered Free (is_queued_at r) b.places refl y ((says_is_queued_at r (place b y)).1 p))

  queue_on : All (λ y. on_board z.messages y ≡ y) (queue z b r)
  queue_on = all_of _ (queue z b r) (λ y i. on_board-most z.messages y (queue_numbered y i).1)

  queue_spot : (goes : ℕ → Bool)
      → seek goes (moves.message_behind z b) z.messages 0 (on_board z.messages (task b r).mptr) ≡ spot_in goes (queue z b r)
  queue_spot goes =
      spot_read (queue_store r) b z.messages (queue z b r) queue-chain queue_on goes z.messages
      (walk-length (next_message b) z.messages (task b r).mptr)

  -- MPTR is the first of the queue, and is read so
  pub queue_first : (task b r).mptr ≡ first_of (queue z b r)
  queue_first = chain_first (next_message b) (task b r).mptr (queue z b r) queue-chain

  pub queue_read : on_board z.messages (task b r).mptr ≡ first_of (queue z b r)
  queue_read = start_read (queue_store r) b z.messages (queue z b r) queue-chain queue_on

  -- a message that becomes u goes in where its priority and queue type put it
  module _ (m : ℕ) (u : Message) (o : Out m (queue z b r)) where
    abbrev goes : ℕ → Bool
    goes y = goes_before (fifo u.prio) (number u.prio) (message_number b y)

    abbrev at : Spot
    at = moves.spot_for z l r (fifo u.prio) (number u.prio)

    other : (y : ℕ) → In y (queue z b r) → y ≢ m
    other y i d = out_not_in m (queue z b r) o (rw d at i)

    -- a record written of a message that isn't in the queue leaves the links
    chain_with : (v : Message) → Chain (next_message (with_message b m v)) (task b r).mptr (queue z b r)
    chain_with v =
        chain_frame (next_message b) (next_message (with_message b m v)) (task b r).mptr (queue z b r)
        (λ y i. ap (λ (t : Message). t.link) (message_other b m y v (other y i))) queue-chain

    -- what is stored: the record once, and one word
    pub queue_into_lem : Comes z (moves.queue_into z l m u r)
        (with_queue (with_message b m (with_prio u (with_fifo u.prio))) r (insert goes m (queue z b r)))
    queue_into_lem =
        let v : Message = with_prio u (with_fifo u.prio) in
        let k : List ℕ = put_message z l m (with_link v at.cur) in
        let put : Comes z k (link_message (with_message b m v) m at.cur) =
        comes_to z k _ _ (comes_message z l e m (with_link v at.cur)) (sym (message_again b m (λ t. with_link t at.cur) v)) in
        comes_to z (moves.queue_into z l m u r) _ _
        (and_then z k _ _ (λ s. behind (queue_store r) z.messages s at.prev m) put (λ f. comes_behind z k f r at.prev m))
        (behind_insert (queue_store r) (with_message b m v) z.messages (queue z b r) (chain_with v) queue_on goes m at o (queue_spot goes))

    -- what the paper says: the message becomes u, goes into the queue, and then has bit 0 of PRIO set
    module _ (k : Numbered (length b.messages) m) where
      reads : message (with_message b m u) m ≡ u
      reads = message-put b m u k

      goes_in : queue_with z (with_message b m u) m r ≡ insert goes m (queue z b r)
      goes_in =
          let d : Board = with_message b m u in
          let walks = chain-walk (next_message d) z.messages (task b r).mptr (queue z b r) (chain_with u) (walk-length (next_message b) _ (task b r).mptr) in
          (λ i. insert (λ y. goes_before (fifo (reads i).prio) (number (reads i).prio) (message_number d y)) m (walks.0 i))
          ∙ insert_stays _ goes m (queue z b r)
          (λ y i. ap (λ (t : Message). goes_before (fifo u.prio) (number u.prio) (number t.prio)) (message_other b m y u (other y i)))

      pub placed_once : place_at z (with_message b m u) m r
          ≡ woken (with_place (with_queue (with_message b m (with_prio u (with_fifo u.prio))) r (insert goes m (queue z b r))) m (QueuedAt (task_no r))) r
      placed_once =
          let d : Board = with_message b m u in
          let f : ℕ = with_fifo u.prio in
          let q' : List ℕ = insert goes m (queue z b r) in
          let at : Board → Board = λ x. woken (with_place x m (QueuedAt (task_no r))) r in
          (λ i. at (marked m (with_fifo (reads i).prio) (with_queue d r (goes_in i))))
          ∙ ap at (marked_queue d m f r q' ∙ ap (λ (x : Board). with_queue x r q') (message_again b m (λ t. with_prio t f) u))

  -- one is taken out
  pub queue_out_lem : (m : ℕ) → In m (queue z b r) → Comes z (moves.queue_out z l m r) (with_queue b r (without m (queue z b r)))
  queue_out_lem m i =
      let at : Spot = moves.spot_of z l r m in
      comes_to z (moves.queue_out z l m r) _ _ (comes_behind z l e r at.prev (moves.message_behind z b m))
      (behind_without (queue_store r) b z.messages (queue z b r) queue-chain queue_on m at i (queue_spot (λ y. eqb y m)))

  -- MPTR alone is stored: the first is passed by
  pub queue-next : In (task b r).mptr (queue z b r)
      → Comes z (changes.with_mptr z l r (moves.message_behind z b (task b r).mptr)) (with_queue b r (rest_of (queue z b r)))
  queue-next i =
      comes_to z _ _ _ (comes_task z l e r _) (head_rest (queue_store r) b z.messages (queue z b r) queue-chain queue_on i)
