-- A board that fits is its bytes: read again it is the same board; its bytes are bytes, as many as the size says; and a board
-- that is read from such bytes fits.
-- Assumes nothing.
use mathlib.Core.Path.{◌≡◌, refl, sym, ap, ◌∙◌, subst}
use mathlib.Core.List.{List, [], ◌∷◌, ◌++◌, map, append-nil}
use Prim.Native.Nat.{ℕ, suc, ◌+◌, ◌-◌, ◌*◌, ◌<◌}
use native.Mathlib.Nat.{mod-eq_of_lt}
use native.Mathlib.Omega.{arith}
use lib.Dec.{eqb, lit<}
use lib.ListN.{length, get_or, drop, length-append, length-drop}
use lib.Seq.{drop-drop, take_at, drop_at, length-take-le}
use borrow.Author.Tests.{eqb-true}
use Rattle.links.specs.Chain.{All}
use Rattle.links.proofs.Bools.{cond_holds}
use Rattle.board.specs.declared.numbers.Size.{Size}
use Rattle.board.specs.declared.records.Task.{Task}
use Rattle.board.specs.declared.records.Message.{Message}
use Rattle.board.specs.declared.places.Place.{Place}
use Rattle.board.specs.declared.places.Place.TheVariants.{Free}
use Rattle.board.specs.Numbers.{outside}
use Rattle.board.specs.Records.{Byte, Word, word_at, task_of, task_bytes, no_task, message_of, message_bytes, no_message}
use Rattle.board.specs.Places.{place_of, place_byte, place_in, place_bytes}
use Rattle.board.specs.Board.{Board, board, task_area, message_area, place_area, join, board_of, bytes_of}
use Rattle.board.specs.Claims.{Bytes}
use Rattle.board.proofs.Pieces.{outside-within}
use Rattle.board.proofs.Codec.{Small, small_at, small_append, small-records, word_halves, length-records, records_read}
use Rattle.board.proofs.Codec.{read_holds, task_back, message_back, length-tasks, length-messages, length-places}
use Rattle.kept.specs.Settled.{FitsTask, FitsMessage, Fits}
use Rattle.kept.proofs.Reading.{FitsPlace}

-- ---- numbers below 256
small-zeros : (l : List ℕ) → All (λ x. x ≡ 0) l → Small l
small-zeros [] h = tt
small-zeros (x ∷ l) h = (rw h.0 (lit< tt), small-zeros l h.1)

small-task : (t : Task) → FitsTask t → Small (task_bytes t)
small-task t f =
    let l = word_halves t.link f.link in
    let m = word_halves t.mptr f.mptr in
    let s = word_halves t.sptr f.sptr in
    let n = word_halves t.name f.name in
    (f.stat, (f.prio, (l.0, (l.1, (m.0, (m.1, (s.0, (s.1, (n.0, (n.1, tt))))))))))

small-message : (u : Message) → FitsMessage u → Small (message_bytes u)
small-message u f =
    let l = word_halves u.link f.link in
    let p = word_halves u.rptr f.rptr in
    let s = word_halves u.sptr f.sptr in
    (f.stat, (f.prio, (l.0, (l.1, (p.0, (p.1, (s.0, (s.1, tt))))))))

-- ---- from the board to its bytes
module _ (z : Size) (b : Board) (f : Fits z b) where
  abbrev ts : List ℕ
  ts = join (map task_bytes b.tasks)

  abbrev ms : List ℕ
  ms = join (map message_bytes b.messages)

  abbrev ps : List ℕ
  ps = join (map place_bytes b.places)

  long-tasks : length ts ≡ 10 * z.tasks
  long-tasks = length-records task_bytes 10 (λ t. refl) b.tasks ∙ ap (λ (n : ℕ). 10 * n) f.tasks

  long-messages : length ms ≡ 8 * z.messages
  long-messages = length-records message_bytes 8 (λ r. refl) b.messages ∙ ap (λ (n : ℕ). 8 * n) f.messages

  long-places : length ps ≡ 1 * z.messages
  long-places = length-records place_bytes 1 (λ p. refl) b.places ∙ ap (λ (n : ℕ). 1 * n) f.places

  behind_zeros : drop 4 (bytes_of b) ≡ ts ++ (ms ++ ps)
  behind_zeros = drop_at b.zeros (ts ++ (ms ++ ps)) 2 f.zeros

  behind_tasks : drop (4 + 10 * z.tasks) (bytes_of b) ≡ ms ++ ps
  behind_tasks =
      sym (drop-drop (10 * z.tasks) 4 (bytes_of b)) ∙ ap (drop (10 * z.tasks)) behind_zeros
      ∙ drop_at ts (ms ++ ps) (10 * z.tasks) long-tasks

  behind_messages : drop (4 + 10 * z.tasks + 8 * z.messages) (bytes_of b) ≡ ps ++ []
  behind_messages =
      sym (drop-drop (8 * z.messages) (4 + 10 * z.tasks) (bytes_of b)) ∙ ap (drop (8 * z.messages)) behind_tasks
      ∙ drop_at ms ps (8 * z.messages) long-messages ∙ sym (append-nil ps)

  place_back : (p : Place) → FitsPlace z p → place_in z (place_bytes p) ≡ p
  place_back p h = ap (place_of z) (mod-eq_of_lt h.0) ∙ h.1

  -- read again it is the same board
  pub board-bytes : board_of z (bytes_of b) ≡ b
  board-bytes =
      let zs = take_at b.zeros (ts ++ (ms ++ ps)) 2 f.zeros in
      let t = records_read task_bytes 10 (λ t. refl) task_of no_task b.tasks (drop 4 (bytes_of b)) (ms ++ ps) z.tasks f.tasks
      behind_zeros (λ i. task_back (get_or b.tasks i no_task)) in
      let m = records_read message_bytes 8 (λ r. refl) message_of no_message b.messages (drop (4 + 10 * z.tasks) (bytes_of b)) ps
      z.messages f.messages behind_tasks (λ i. message_back (get_or b.messages i no_message)) in
      let p = records_read place_bytes 1 (λ p. refl) (place_in z) Free b.places
      (drop (4 + 10 * z.tasks + 8 * z.messages) (bytes_of b)) [] z.messages f.places behind_messages
      (λ i. place_back (get_or b.places i Free) (f.place (suc i))) in
      λ i. board b.first b.running (zs i) (t i) (m i) (p i)

  small-place : (p : Place) → FitsPlace z p → Small (place_bytes p)
  small-place p h = (omega arith, tt)

  small_whole : All (λ x. x ≡ 0) b.zeros → Small (bytes_of b)
  small_whole h =
      let t = small-records task_bytes no_task b.tasks (λ i. small-task (get_or b.tasks i no_task) (f.task (suc i))) in
      let m = small-records message_bytes no_message b.messages
      (λ i. small-message (get_or b.messages i no_message) (f.message (suc i))) in
      let p = small-records place_bytes Free b.places (λ i. small-place (get_or b.places i Free) (f.place (suc i))) in (
        f.first,
        (
          f.running,
          small_append b.zeros (ts ++ (ms ++ ps)) (small-zeros b.zeros h)
              (small_append ts (ms ++ ps) t (small_append ms ps m p)),
        ),
      )

  -- with R1 its bytes are bytes, and as many as the size says
  pub bytes_fit : All (λ x. x ≡ 0) b.zeros → Bytes z (bytes_of b)
  bytes_fit h = record {
    long = omega (
      arith,
      length-append b.zeros (ts ++ (ms ++ ps)),
      length-append ts (ms ++ ps),
      length-append ms ps,
      f.zeros,
      long-tasks,
      long-messages,
      long-places,
    );
    bytes = λ i. small_at (bytes_of b) i (small_whole h);
  }

-- ---- from bytes to their board
fits_word : (p : List ℕ) (i : ℕ) → Byte (get_or p i 0) → Byte (get_or p (i + 1) 0) → Word (word_at p i)
fits_word p i l h = omega arith

fits_task_of : (p : List ℕ) → ((i : ℕ) → i < 10 → Byte (get_or p i 0)) → FitsTask (task_of p)
fits_task_of p h = record {
  stat = h 0 (lit< tt);
  prio = h 1 (lit< tt);
  link = fits_word p 2 (h 2 (lit< tt)) (h 3 (lit< tt));
  mptr = fits_word p 4 (h 4 (lit< tt)) (h 5 (lit< tt));
  sptr = fits_word p 6 (h 6 (lit< tt)) (h 7 (lit< tt));
  name = fits_word p 8 (h 8 (lit< tt)) (h 9 (lit< tt));
}

fits-message_of : (p : List ℕ) → ((i : ℕ) → i < 8 → Byte (get_or p i 0)) → FitsMessage (message_of p)
fits-message_of p h = record {
  stat = h 0 (lit< tt);
  prio = h 1 (lit< tt);
  link = fits_word p 2 (h 2 (lit< tt)) (h 3 (lit< tt));
  rptr = fits_word p 4 (h 4 (lit< tt)) (h 5 (lit< tt));
  sptr = fits_word p 6 (h 6 (lit< tt)) (h 7 (lit< tt));
}

-- the byte of a place is the byte that it was read from
place_byte_lem : (z : Size) (p : ℕ) → place_byte (place_of z p) ≡ p
place_byte_lem z p =
    let P : Place → Type 0 = λ x. place_byte x ≡ p in
    cond_holds P (eqb p 0) _ _ (λ e. sym (eqb-true p 0 e))
    (λ e. cond_holds P (outside z.tasks p) _ _
    (λ o. cond_holds P (outside z.tasks (p - 64)) _ _ (λ h. cond_holds P (eqb p 128) _ _ (λ t. sym (eqb-true p 128 t)) (λ t. refl))
    (λ h. omega (arith, (outside-within z.tasks (p - 64) h).0))) (λ o. refl))

fits_place_of : (z : Size) (p : ℕ) → Byte p → FitsPlace z (place_of z p)
fits_place_of z p h = (subst Byte (sym (place_byte_lem z p)) h, ap (place_of z) (place_byte_lem z p))

-- what is read from bytes fits
pub fits-board : (z : Size) (l : List ℕ) → Bytes z l → Fits z (board_of z l)
fits-board z l h = record {
  first = h.bytes 0;
  running = h.bytes 1;
  zeros = length-take-le 2 (drop 2 l) (omega (arith, length-drop 2 l, h.long));
  tasks = length-tasks z l;
  messages = length-messages z l;
  places = length-places z l;
  task = read_holds l h.bytes FitsTask task_of no_task (task_area z) refl fits_task_of;
  message = read_holds l h.bytes FitsMessage message_of no_message (message_area z) refl fits-message_of;
  place = read_holds l h.bytes (FitsPlace z) (place_in z) Free (place_area z) refl
      (λ p b. fits_place_of z (get_or p 0 0) (b 0 (lit< tt)));
}
