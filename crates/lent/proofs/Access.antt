-- What the code's reads come to: a record outside reads as none, and one of the board by its bytes, from o on, where it starts.
-- Assumes nothing.
use mathlib.Core.Path.{◌≡◌, refl, sym, ap, ap₂, ◌∙◌}
use mathlib.Core.Bool.{true}
use mathlib.Core.List.{List, [], map}
use Prim.Native.Nat.{ℕ, ◌+◌, ◌*◌}
use native.Mathlib.Nat.{add-zero, add_assoc}
use lib.Dec.{T, ltb, ltb→lt}
use lib.ListN.{get_or, length-map}
use Rattle.board.specs.declared.numbers.Size.{Size}
use Rattle.board.specs.declared.records.Message.{Message}
use Rattle.board.specs.declared.places.Place.TheVariants.{Free}
use Rattle.board.specs.Numbers.{Numbered, outside}
use Rattle.board.specs.Status.{stored}
use Rattle.board.specs.Records.{word_at, task_of, no_task, message_of, no_message}
use Rattle.board.specs.Places.{place_of, place_in}
use Rattle.board.specs.Board.{Area, task_area, message_area, place_area, pieces, board_of, nth, task, message, place}
use Rattle.board.specs.Writes.{start}
use Rattle.board.proofs.Numbered.{nth-map}
use Rattle.board.proofs.Pieces.{within-outside, nth-outside, length-pieces, piece_byte}

-- ---- a number that the board does not have
-- any record
pub record_none : {A : Type 0} (a : Area) (f : List ℕ → A) (none : A) (l : List ℕ) (k : ℕ) → outside a.count k ≡ true
    → none ≡ nth none (map f (pieces a l)) k
record_none a f none l k e =
    let c = length-map (pieces a l) f ∙ length-pieces a l in
    sym (nth-outside none (map f (pieces a l)) k (ap (λ (m : ℕ). outside m k) c ∙ e))

module _ (z : Size) (l : List ℕ) (k : ℕ) where
  -- a task
  pub task_none : outside z.tasks k ≡ true → no_task ≡ task (board_of z l) k
  task_none = record_none (task_area z) task_of no_task l k

  -- a message
  pub message_none : outside z.messages k ≡ true → no_message ≡ message (board_of z l) k
  message_none = record_none (message_area z) message_of no_message l k

  -- a place
  pub place_none : outside z.messages k ≡ true → Free ≡ place (board_of z l) k
  place_none = record_none (place_area z) (place_in z) Free l k

-- ---- a record that starts at o
module _ (a : Area) (l : List ℕ) (k o : ℕ) (h : Numbered a.count k) (q : o ≡ start a k) where
  byte_read : (i : ℕ) → T (ltb i a.stride) → get_or l (o + i) 0 ≡ get_or (nth [] (pieces a l) k) i 0
  byte_read i t =
      ap (λ (x : ℕ). get_or l (x + i) 0) q
      ∙ sym (piece_byte a l k i (within-outside a.count k h.0 h.1) (ltb→lt i a.stride t))

  -- its first byte
  pub first_read : T (ltb 0 a.stride) → get_or l o 0 ≡ get_or (nth [] (pieces a l) k) 0 0
  first_read t = ap (λ (x : ℕ). get_or l x 0) (sym (add-zero o)) ∙ byte_read 0 t

  -- a word of it
  pub word_read : (i : ℕ) → T (ltb i a.stride) → T (ltb (i + 1) a.stride)
      → word_at l (o + i) ≡ word_at (nth [] (pieces a l) k) i
  word_read i t u =
      ap₂ (λ (x y : ℕ). x + 256 * y) (byte_read i t) (ap (λ (x : ℕ). get_or l x 0) (add_assoc o i 1) ∙ byte_read (i + 1) u)

module _ (z : Size) (l : List ℕ) (k o : ℕ) where
  -- a task
  pub task_read : Numbered z.tasks k → o ≡ start (task_area z) k
      → record {
        stat = stored (get_or l o 0);
        prio = get_or l (o + 1) 0;
        link = word_at l (o + 2);
        mptr = word_at l (o + 4);
        sptr = word_at l (o + 6);
        name = word_at l (o + 8);
      } ≡ task (board_of z l) k
  task_read h q =
      let a : Area = task_area z in
      let word = word_read a l k o h q in
      (λ i. record {
        stat = stored (first_read a l k o h q tt i);
        prio = byte_read a l k o h q 1 tt i;
        link = word 2 tt tt i;
        mptr = word 4 tt tt i;
        sptr = word 6 tt tt i;
        name = word 8 tt tt i;
      })
      ∙ sym (nth-map task_of [] no_task (pieces a l) k refl)

  -- a message
  pub message_read : Numbered z.messages k → o ≡ start (message_area z) k
      → record {
        stat = get_or l o 0;
        prio = get_or l (o + 1) 0;
        link = word_at l (o + 2);
        rptr = word_at l (o + 4);
        sptr = word_at l (o + 6);
      } ≡ message (board_of z l) k
  message_read h q =
      let a : Area = message_area z in
      let word = word_read a l k o h q in
      (λ i. record {
        stat = first_read a l k o h q tt i;
        prio = byte_read a l k o h q 1 tt i;
        link = word 2 tt tt i;
        rptr = word 4 tt tt i;
        sptr = word 6 tt tt i;
      })
      ∙ sym (nth-map message_of [] no_message (pieces a l) k refl)

  -- two of its fields alone
  pub link_read : Numbered z.messages k → o ≡ start (message_area z) k → word_at l (o + 2) ≡ (message (board_of z l) k).link
  link_read h q = ap (λ (u : Message). u.link) (message_read h q)

  pub prio_read : Numbered z.messages k → o ≡ start (message_area z) k → get_or l (o + 1) 0 ≡ (message (board_of z l) k).prio
  prio_read h q = ap (λ (u : Message). u.prio) (message_read h q)

  -- a place
  pub place_read : Numbered z.messages k → o ≡ start (place_area z) k → place_of z (get_or l o 0) ≡ place (board_of z l) k
  place_read h q =
      let a : Area = place_area z in
      ap (place_of z) (first_read a l k o h q tt) ∙ sym (nth-map (place_in z) [] Free (pieces a l) k refl)
