-- The stores of the effects that calls share come to those effects, on a board that is settled. Assumes nothing.
use mathlib.Core.Path.{◌≡◌, sym, subst}
use mathlib.Core.Logic.{◌≢◌, inl}
use mathlib.Core.Bool.{Bool, true, false, cond, ◌&&◌}
use mathlib.Core.List.{List, [], ◌∷◌}
use Prim.Native.Nat.{ℕ}
use native.Mathlib.Decide.{ℕ_discrete}
use lib.ListN.{length}
use Rattle.links.specs.Queue.{first_of, rest_of}
use Rattle.links.specs.Chain.{In, Out}
use Rattle.board.specs.declared.numbers.Size.{Size}
use Rattle.board.specs.declared.records.Message.{Message}
use Rattle.board.specs.declared.places.Place.TheVariants.{QueuedAt}
use Rattle.board.specs.Numbers.{outside, on_board, task_no, Numbered}
use Rattle.board.specs.Status.{WAIT, IWAT, INTQ, MHBS, has}
use Rattle.board.specs.Board.{Board, total, board_of, task, with_message, with_place}
use Rattle.board.specs.Writes.{put_place}
use Rattle.board.proofs.Pieces.{within-outside, outside-zero}
use Rattle.board.proofs.Codec.{length-messages}
use Rattle.paper.specs.Rules.{present, queue, empty_queue}
use Rattle.paper.specs.Changes.{sets, clears, hold, with_queue, take_first}
use Rattle.paper.specs.Effects.{woken, place_at, emptied, post, wait_interrupt, waits}
use Rattle.linked.specs.Linked.{Linked}
use Rattle.kept.specs.Claims.{Sizes}
use Rattle.kept.specs.Settled.{Settled}
use Rattle.kept.proofs.Waiting.{task_numbered}
use Rattle.kept.proofs.Taking.{take_none}
use Rattle.stores.specs.Changes as changes
use Rattle.stores.specs.Moves as moves
use Rattle.stores.specs.Effects as effects
use Rattle.stored.proofs.Comes.{Comes, and_then, comes_to, comes_cond, comes_same, comes_task, comes_queued, comes_hold}
use Rattle.stored.proofs.Queues.{queue_numbered, queue_first, queue_read, queue_into_lem, placed_once, queue-next}

-- ---- flags
module _ (z : Size) (l : List ℕ) (e : length l ≡ total z) where
  comes_two : (k off on : ℕ) → Comes z (changes.sets z (changes.clears z l k off) k on) (sets (clears (board_of z l) k off) k on)
  comes_two k off on =
      let d : List ℕ = changes.clears z l k off in
      and_then z d _ _ (λ b. sets b k on) (comes_task z l e k _) (λ f. comes_task z d f k _)

  pub comes_woken : (r : ℕ) → Comes z (effects.woken z l r) (woken (board_of z l) r)
  comes_woken r = comes_cond z (has (task (board_of z l) r).stat WAIT) _ _ _ _ (comes_two r WAIT MHBS) (comes_same z l e)

  pub comes_emptied : (r : ℕ) → Comes z (effects.emptied z l r) (emptied (board_of z l) r)
  comes_emptied r =
      comes_cond z (has (task (board_of z l) r).stat MHBS && empty_queue (board_of z l) r) _ _ _ _ (comes_two r MHBS WAIT) (comes_same z l e)

  pub comes_post : (k : ℕ) → Comes z (effects.post z l k) (post (board_of z l) k)
  comes_post k = comes_cond z (has (task (board_of z l) k).stat IWAT) _ _ _ _ (comes_task z l e k _) (comes_task z l e k _)

  pub comes_wait : (c : ℕ) → Comes z (effects.wait_interrupt z l c) (wait_interrupt (board_of z l) c)
  comes_wait c = comes_cond z (has (task (board_of z l) c).stat INTQ) _ _ _ _ (comes_task z l e c _) (comes_task z l e c _)

  pub comes_waits : (c : ℕ) → Comes z (effects.waits z l c) (waits c (board_of z l))
  comes_waits c = comes_task z l e c _

-- ---- placing a message, as the record u
pub comes_placed : (z : Size) (l : List ℕ) → length l ≡ total z → Sizes z → {order : List ℕ} {queues : ℕ → List ℕ}
    → Linked z (board_of z l) order queues → (m : ℕ) (u : Message) (r : ℕ) → Numbered z.messages m → Numbered z.tasks r
    → let b = board_of z l in Out m (queue z b r) → Comes z (effects.place_at z l m u r) (place_at z (with_message b m u) m r)
comes_placed z l e a h m u r k n o =
    let q : List ℕ = moves.queue_into z l m u r in
    let d : List ℕ = put_place z q m (QueuedAt (task_no r)) in
    let queued = and_then z q d _ (λ x. with_place x m (QueuedAt (task_no r))) (queue_into_lem z l e a.limit h r n m u o)
    (λ f. comes_queued z q f m r n a.tasks) in
    comes_to z _ _ _ (and_then z d _ _ (λ x. woken x r) queued (λ f. comes_woken z d f r))
    (sym (placed_once z l e a.limit h r n m u o (rw (← length-messages z l) at k)))

-- ---- taking the first message of a queue
first_member : (q : List ℕ) (x : ℕ) → x ≡ first_of q → x ≢ 0 → In x q
first_member [] x e n = absurd (n e)
first_member (y ∷ q) x e n = inl e

module _ (z : Size) (l : List ℕ) (e : length l ≡ total z) (a : Sizes z) (order : List ℕ) (queues : ℕ → List ℕ)
    (s : Settled z (board_of z l) order queues) (c : ℕ) (there : present (board_of z l) c ≡ true) where
  abbrev from : Board
  from = board_of z l

  abbrev first : ℕ
  first = (task from c).mptr

  taker : Numbered z.tasks c
  taker = task_numbered z from order queues s c there

  -- MPTR is the first of the queue that is walked, and read so
  pub first_walked : first ≡ first_of (queue z from c)
  first_walked = queue_first z l e a.limit s.regular.linked c taker

  pub first_read : on_board z.messages first ≡ first_of (queue z from c)
  first_read = queue_read z l e a.limit s.regular.linked c taker

  first_in : first ≢ 0 → In first (queue z from c)
  first_in n = first_member (queue z from c) first first_walked n

  -- where there is one it is a message of the board
  pub first_numbered : first ≢ 0 → outside z.messages first ≡ false
  first_numbered n =
      let p = queue_numbered z l e a.limit s.regular.linked c taker first (first_in n) in within-outside z.messages first p.0 p.1

  pub comes_taken : Comes z (effects.take_first z l c) (take_first z from c)
  comes_taken = go (ℕ_discrete first 0)
    where
      k : List ℕ
      k = changes.with_mptr z l c (moves.message_behind z from first)

      taken : Bool → List ℕ
      taken t = cond t l (changes.hold z k c first)

      go : Dec (first ≡ 0) → Comes z (effects.take_first z l c) (take_first z from c)
      go (yes n) =
          subst (λ (t : Bool). Comes z (taken t) (take_first z from c)) (sym (outside-zero z.messages first n))
          (e, sym (take_none z from order queues a s c there n))
      go (no n) =
          subst (λ (t : Bool). Comes z (taken t) (take_first z from c)) (sym (first_numbered n))
          (subst (λ (x : ℕ). Comes z (taken false) (hold (with_queue from c (rest_of (queue z from c))) c x)) first_walked
          (and_then z k _ _ (λ x. hold x c first) (queue-next z l e a.limit s.regular.linked c taker (first_in n))
          (λ f. comes_hold z k f c first taker a.tasks)))
