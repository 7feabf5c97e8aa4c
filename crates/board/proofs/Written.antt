-- One writer is one change of the board of records: what the code leaves in bytes of the right length, read as a board, is the
-- board with that record so and nothing else changed.
-- Assumes nothing.
use mathlib.Core.Path.{◌≡◌, refl, sym, ap, ◌∙◌}
use mathlib.Core.List.{List, [], ◌∷◌, map}
use Prim.Native.Nat.{ℕ, ◌+◌, ◌*◌, ◌%◌, ◌≤◌, ◌<◌}
use native.Mathlib.Nat.{mod-eq_of_lt}
use native.Mathlib.Omega.{arith}
use lib.Dec.{lit<}
use lib.ListN.{length, get_or, set, take, drop}
use lib.Seq.{get_or-set_same, drop-set-lt}
use Rattle.board.specs.declared.numbers.Size.{Size}
use Rattle.board.specs.declared.records.Task.{Task}
use Rattle.board.specs.declared.records.Message.{Message}
use Rattle.board.specs.declared.places.Place.{Place}
use Rattle.board.specs.declared.places.Place.TheVariants.{Free, HeldBy, QueuedAt, OnTimer}
use Rattle.board.specs.Numbers.{task_no}
use Rattle.board.specs.Records.{task_of, task_bytes, message_of, message_bytes}
use Rattle.board.specs.Places.{place_of, place_byte, place_in, place_bytes}
use Rattle.board.specs.Board.{Area, total, task_area, message_area, place_area, cut, pieces, board, board_of, put}
use Rattle.board.specs.Board.{with_first, with_running, with_task, with_message, with_place}
use Rattle.board.specs.Writes.{put_in, put_first, put_running, put_task, put_message, put_place}
use Rattle.board.proofs.Numbered.{map-put}
use Rattle.board.proofs.Pieces.{pieces-put, pieces_before, pieces_behind, take_put_in, get_d_put_in, outside_above}
use Rattle.board.proofs.Codec.{task_back, message_back, place-held, place-queued, place-timer}

-- ---- any area
-- a record's bytes written are that record written
pub record-put : {A : Type 0} (a : Area) (f : List ℕ → A) (l : List ℕ) (k : ℕ) (vs : List ℕ)
    → a.base + a.count * a.stride ≤ length l → length vs ≡ a.stride
    → map f (pieces a (put_in a l k vs)) ≡ put (map f (pieces a l)) k (f vs)
record-put a f l k vs h v = ap (map f) (pieces-put a l k vs h v) ∙ map-put f (pieces a l) k vs

rest_of_four : (l : List ℕ) → take 2 (drop 2 l) ≡ drop 2 (take 4 l)
rest_of_four [] = refl
rest_of_four (x ∷ []) = refl
rest_of_four (x ∷ y ∷ l) = refl

-- bytes 0 to 3 lie before every area
head_put : (a : Area) (l : List ℕ) (k : ℕ) (vs : List ℕ) → 4 ≤ a.base
    → let d = put_in a l k vs in
    (get_or d 0 0 ≡ get_or l 0 0) × (get_or d 1 0 ≡ get_or l 1 0) × (take 2 (drop 2 d) ≡ take 2 (drop 2 l))
head_put a l k vs h =
    let e : drop 2 (take 4 (put_in a l k vs)) ≡ drop 2 (take 4 l) = ap (drop 2) (take_put_in a 4 l k vs h) in (
      get_d_put_in a l k vs 0 (omega arith),
      get_d_put_in a l k vs 1 (omega arith),
      rest_of_four (put_in a l k vs) ∙ e ∙ sym (rest_of_four l),
    )

-- bytes 0 and 1 are two, and every area lies behind them
first_other : (l : List ℕ) (v : ℕ) → get_or (set l 0 v) 1 0 ≡ get_or l 1 0
first_other [] v = refl
first_other (x ∷ l) v = refl

running_other : (l : List ℕ) (v : ℕ) → get_or (set l 1 v) 0 0 ≡ get_or l 0 0
running_other [] v = refl
running_other (x ∷ l) v = refl

pieces_head : (a : Area) (l : List ℕ) (i v : ℕ) → i < a.base → pieces a (set l i v) ≡ pieces a l
pieces_head a l i v h = ap (cut a.count a.stride) (drop-set-lt a.base l i v h)

-- ---- the board
module _ (z : Size) (l : List ℕ) where
  -- byte 0 or byte 1
  head_kept : (n v : ℕ) → n < 2 → let d = set l n v in
      board_of z d ≡ board (get_or d 0 0) (get_or d 1 0) (board_of z l).zeros (board_of z l).tasks (board_of z l).messages (board_of z l).places
  head_kept n v w =
      let t = ap (map task_of) (pieces_head (task_area z) l n v (omega (arith, w))) in
      let m = ap (map message_of) (pieces_head (message_area z) l n v (omega (arith, w))) in
      let p = ap (map (place_in z)) (pieces_head (place_area z) l n v (omega (arith, w))) in
      λ i. board (get_or (set l n v) 0 0) (get_or (set l n v) 1 0) (take 2 (drop-set-lt 2 l n v w i)) (t i) (m i) (p i)

  -- byte 0
  pub board-put-first : (v : ℕ) → 1 ≤ length l → board_of z (put_first l v) ≡ with_first (board_of z l) v
  board-put-first v h = let b = board_of z l in
      head_kept 0 v (lit< tt)
      ∙ (λ i. board (get_or-set_same l 0 v 0 h i) (first_other l v i) b.zeros b.tasks b.messages b.places)

  -- byte 1
  pub board-put-running : (v : ℕ) → 2 ≤ length l → board_of z (put_running l v) ≡ with_running (board_of z l) v
  board-put-running v h = let b = board_of z l in
      head_kept 1 v (lit< tt)
      ∙ (λ i. board (running_other l v i) (get_or-set_same l 1 v 0 h i) b.zeros b.tasks b.messages b.places)

  module _ (e : length l ≡ total z) where
    -- a task
    pub board-put-task : (k : ℕ) (t : Task) → board_of z (put_task z l k t) ≡ with_task (board_of z l) k t
    board-put-task k t =
        let a : Area = task_area z in
        let vs : List ℕ = task_bytes t in
        let h = head_put a l k vs (omega arith) in
        let w = record-put a task_of l k vs (omega arith) refl ∙ ap (put (board_of z l).tasks k) (task_back t) in
        let m = ap (map message_of) (pieces_behind a (message_area z) l k vs refl (omega arith)) in
        let p = ap (map (place_in z)) (pieces_behind a (place_area z) l k vs refl (omega arith)) in
        λ i. board (h.0 i) (h.1 i) (h.2 i) (w i) (m i) (p i)

    -- a message
    pub board-put-message : (m : ℕ) (r : Message) → board_of z (put_message z l m r) ≡ with_message (board_of z l) m r
    board-put-message m r =
        let a : Area = message_area z in
        let vs : List ℕ = message_bytes r in
        let h = head_put a l m vs (omega arith) in
        let t = ap (map task_of) (pieces_before a (task_area z) l m vs (omega arith)) in
        let w = record-put a message_of l m vs (omega arith) refl ∙ ap (put (board_of z l).messages m) (message_back r) in
        let p = ap (map (place_in z)) (pieces_behind a (place_area z) l m vs refl (omega arith)) in
        λ i. board (h.0 i) (h.1 i) (h.2 i) (t i) (w i) (p i)

    -- the place that the stored byte says
    pub board-put-place : (m : ℕ) (p : Place)
        → board_of z (put_place z l m p) ≡ with_place (board_of z l) m (place_of z (place_byte p % 256))
    board-put-place m p =
        let a : Area = place_area z in
        let vs : List ℕ = place_bytes p in
        let h = head_put a l m vs (omega arith) in
        let t = ap (map task_of) (pieces_before a (task_area z) l m vs (omega arith)) in
        let r = ap (map message_of) (pieces_before a (message_area z) l m vs (omega arith)) in
        let w = record-put a (place_in z) l m vs (omega arith) refl in
        λ i. board (h.0 i) (h.1 i) (h.2 i) (t i) (r i) (w i)

    -- free
    pub board-put-free : (m : ℕ) → board_of z (put_place z l m Free) ≡ with_place (board_of z l) m Free
    board-put-free m = board-put-place m Free

    -- held by a task of the board
    pub board-put-held : (m k : ℕ) → 1 ≤ k → k ≤ z.tasks → z.tasks ≤ 63
        → board_of z (put_place z l m (HeldBy (task_no k))) ≡ with_place (board_of z l) m (HeldBy (task_no k))
    board-put-held m k h n s =
        let b : k < 256 = omega arith in
        board-put-place m (HeldBy (task_no k))
        ∙ ap (with_place (board_of z l) m) (ap (place_of z) (mod-eq_of_lt b) ∙ place-held z k h n)

    -- queued at a task of the board
    pub board-put-queued : (m k : ℕ) → 1 ≤ k → k ≤ z.tasks → z.tasks ≤ 63
        → board_of z (put_place z l m (QueuedAt (task_no k))) ≡ with_place (board_of z l) m (QueuedAt (task_no k))
    board-put-queued m k h n s =
        let b : 64 + k < 256 = omega arith in
        board-put-place m (QueuedAt (task_no k))
        ∙ ap (with_place (board_of z l) m) (ap (place_of z) (mod-eq_of_lt b) ∙ place-queued z k h n s)

    -- on the timer, on a board whose places don't meet it
    pub board-put-timer : (m : ℕ) → z.tasks ≤ 63 → board_of z (put_place z l m OnTimer) ≡ with_place (board_of z l) m OnTimer
    board-put-timer m s =
        board-put-place m OnTimer
        ∙ ap (with_place (board_of z l) m) (place-timer z 128 refl (outside_above z.tasks 128 (omega arith)) (outside_above z.tasks 64 (omega arith)))
