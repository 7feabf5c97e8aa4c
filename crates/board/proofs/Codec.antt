-- Nothing is lost between the bytes and the records: a record read back from its bytes is the record, bytes written back from a
-- record are the bytes, and so of the whole board.
-- Assumes nothing.
use mathlib.Core.Path.{◌≡◌, refl, sym, ap, ap₂, ◌∙◌, subst}
use mathlib.Core.Logic.{◌≢◌}
use mathlib.Core.Bool.{Bool, true, false}
use mathlib.Core.List.{List, [], ◌∷◌, ◌++◌, map, append_assoc}
use Prim.Native.Nat.{ℕ, zero, suc, ◌+◌, ◌-◌, ◌*◌, ◌/◌, ◌%◌, ◌≤◌, ◌<◌}
use native.Mathlib.Nat.{mul-suc, mul-zero, mod-eq_of_lt}
use native.Mathlib.Omega.{arith}
use borrow.Author.Tests.{eq-eqb, ne_eqb, eqb-true, eqb-false}
use lib.Dec.{eqb, lit<}
use lib.ListN.{length, get_or, set, take, drop, take-append-drop, length-append, length-drop, length-map, drop_of_length-le}
use lib.Seq.{sets, drop-drop, drop-cons, take-add, take_all, take_at, drop_at, length-take-le}
use Rattle.board.specs.declared.numbers.Size.{Size}
use Rattle.board.specs.declared.records.Task.{Task}
use Rattle.board.specs.declared.records.Message.{Message}
use Rattle.board.specs.declared.places.Place.{Place}
use Rattle.board.specs.declared.places.Place.TheVariants.{Free, HeldBy, QueuedAt, OnTimer, Nowhere}
use Rattle.board.specs.Numbers.{outside, task_no}
use Rattle.board.specs.Records.{Byte, Word, word_at, word_bytes, task_of, task_bytes, message_of, message_bytes}
use Rattle.board.specs.Places.{place_of, place_byte, place_in, place_bytes}
use Rattle.board.specs.Board.{Area, total, task_area, message_area, place_area, cut, join, pieces, nth, board_of, bytes_of}
use Rattle.board.specs.Writes.{start, put_in}
use Rattle.board.specs.Claims.{WritingBackChangesNothing}
use Rattle.board.proofs.Numbered.{nth-map}
use Rattle.board.proofs.Pieces.{length-pieces, outside-within, within-outside, outside_above, put_in_outside, put_in_within}
use Rattle.board.proofs.Pieces.{nth-outside, piece_byte}

-- ---- bytes
-- every number is a byte
abbrev pub Small : List ℕ → Type 0
Small [] = Unit {0}
Small (x ∷ l) = (x < 256) × Small l

-- so each is below 256
pub small_at : (l : List ℕ) (i : ℕ) → Small l → get_or l i 0 < 256
small_at [] i h = omega arith
small_at (x ∷ l) zero h = h.0
small_at (x ∷ l) (suc i) h = small_at l i h.1

-- what the code knows of a slice says so
pub small_bytes : (l : List ℕ) → ((i : ℕ) → get_or l i 0 < 256) → Small l
small_bytes [] h = tt
small_bytes (x ∷ l) h = (h 0, small_bytes l (λ i. h (suc i)))

small-take : (n : ℕ) (l : List ℕ) → Small l → Small (take n l)
small-take zero l h = tt
small-take (suc n) [] h = tt
small-take (suc n) (x ∷ l) h = (h.0, small-take n l h.1)

-- what is left after the first few are dropped is bytes too
pub small-drop : (n : ℕ) (l : List ℕ) → Small l → Small (drop n l)
small-drop zero l h = h
small-drop (suc n) [] h = tt
small-drop (suc n) (x ∷ l) h = small-drop n l h.1

-- bytes behind bytes are bytes
pub small_append : (l r : List ℕ) → Small l → Small r → Small (l ++ r)
small_append [] r h g = g
small_append (x ∷ l) r h g = (h.0, small_append l r h.1 g)

small-set : (l : List ℕ) (i v : ℕ) → Small l → v < 256 → Small (set l i v)
small-set [] i v h g = tt
small-set (x ∷ l) zero v h g = (g, h.1)
small-set (x ∷ l) (suc i) v h g = (h.0, small-set l i v h.1 g)

small-sets : (l : List ℕ) (i : ℕ) (vs : List ℕ) → Small l → Small vs → Small (sets l i vs)
small-sets l i [] h g = h
small-sets l i (v ∷ vs) h g = small-sets (set l i v) (suc i) vs (small-set l i v h g.0) g.1

-- bytes with a record of bytes written are bytes
pub small_put_in : (a : Area) (l : List ℕ) (k : ℕ) (vs : List ℕ) → Small l → Small vs → Small (put_in a l k vs)
small_put_in a l k vs h g = go (outside a.count k) refl
  where
    go : (t : Bool) → outside a.count k ≡ t → Small (put_in a l k vs)
    go true e = subst Small (sym (put_in_outside a l k vs e)) h
    go false e = subst Small (sym (put_in_within a l k vs e)) (small-sets l (start a k) vs h g)

-- the n bytes from i on, one by one
abbrev pub bytes_from : ℕ → ℕ → List ℕ → List ℕ
bytes_from i zero l = []
bytes_from i (suc n) l = get_or l i 0 ∷ bytes_from (suc i) n l

-- all bytes from i on, one by one
pub drop_listed : (i n : ℕ) (l : List ℕ) → length l ≡ i + n → drop i l ≡ bytes_from i n l
drop_listed i zero l e = drop_of_length-le l {i = i} (omega arith)
drop_listed i (suc n) l e =
    drop-cons l i 0 (omega arith) ∙ ap (λ (r : List ℕ). get_or l i 0 ∷ r) (drop_listed (suc i) n l (omega arith))

-- ---- one record
-- the two bytes of a word
pub word_halves : (n : ℕ) → Word n → Byte (n % 256) × Byte (n / 256)
word_halves n h = (omega arith, omega arith)

-- a word read back from its two bytes is the word
pub word_back : (w : ℕ) → w % 256 + 256 * (w / 256) ≡ w
word_back w = omega arith

-- two bytes written back from the word that they are, are the bytes
pub word_whole : (l : List ℕ) (i : ℕ) → Small l → word_bytes (word_at l i) ≡ get_or l i 0 ∷ get_or l (i + 1) 0 ∷ []
word_whole l i h =
    let b = small_at l i h in
    let low : word_at l i % 256 ≡ get_or l i 0 = omega arith in
    let high : word_at l i / 256 ≡ get_or l (i + 1) 0 = omega arith in
    λ x. low x ∷ high x ∷ []

-- a task read back from its bytes is the task
pub task_back : (t : Task) → task_of (task_bytes t) ≡ t
task_back t =
    λ i. record {
      stat = t.stat;
      prio = t.prio;
      link = word_back t.link i;
      mptr = word_back t.mptr i;
      sptr = word_back t.sptr i;
      name = word_back t.name i;
    }

-- ten bytes written back from the task that they are, are the bytes
pub task_whole : (p : List ℕ) → length p ≡ 10 → Small p → task_bytes (task_of p) ≡ p
task_whole p e h =
    (λ i. get_or p 0 0 ∷ get_or p 1 0 ∷ word_whole p 2 h i ++ (word_whole p 4 h i ++ (word_whole p 6 h i ++ word_whole p 8 h i)))
    ∙ sym (drop_listed 0 10 p e)

-- a message read back from its bytes is the message
pub message_back : (r : Message) → message_of (message_bytes r) ≡ r
message_back r =
    λ i. record {
      stat = r.stat;
      prio = r.prio;
      link = word_back r.link i;
      rptr = word_back r.rptr i;
      sptr = word_back r.sptr i;
    }

-- eight bytes written back from the message that they are, are the bytes
pub message_whole : (p : List ℕ) → length p ≡ 8 → Small p → message_bytes (message_of p) ≡ p
message_whole p e h =
    (λ i. get_or p 0 0 ∷ get_or p 1 0 ∷ word_whole p 2 h i ++ (word_whole p 4 h i ++ word_whole p 6 h i)) ∙ sym (drop_listed 0 8 p e)

-- ---- one place
-- the byte 0 says free
pub place-free : (z : Size) (p : ℕ) → p ≡ 0 → place_of z p ≡ Free
place-free z p e = rw (eq-eqb p 0 e)

-- the byte k says held by task k
pub place-held : (z : Size) (k : ℕ) → 1 ≤ k → k ≤ z.tasks → place_of z k ≡ HeldBy (task_no k)
place-held z k h l = rw (within-outside z.tasks k h l, ne_eqb k 0 (λ (e : k ≡ 0). omega arith))

-- a byte that names no holder names, less 64, the receiver
pub place-receiver : (z : Size) (p k : ℕ) → p ≢ 0 → outside z.tasks p ≡ true → p - 64 ≡ k → outside z.tasks k ≡ false
    → place_of z p ≡ QueuedAt (task_no k)
place-receiver z p k n o e f = rw (e, f, o, ne_eqb p 0 n)

-- a byte that names neither says on the timer if it is 128, else nothing
pub place-timer : (z : Size) (p : ℕ) → p ≡ 128 → outside z.tasks p ≡ true → outside z.tasks (p - 64) ≡ true
    → place_of z p ≡ OnTimer
place-timer z p e o f = rw (f, o, ne_eqb p 0 (λ (i : p ≡ 0). omega arith), eq-eqb p 128 e)

pub place_nowhere : (z : Size) (p : ℕ) → p ≢ 0 → p ≢ 128 → outside z.tasks p ≡ true → outside z.tasks (p - 64) ≡ true
    → place_of z p ≡ Nowhere p
place_nowhere z p n h o f = rw (f, o, ne_eqb p 0 n, ne_eqb p 128 h)

-- the byte 64 + k says queued at task k
pub place-queued : (z : Size) (k : ℕ) → 1 ≤ k → k ≤ z.tasks → z.tasks ≤ 63 → place_of z (64 + k) ≡ QueuedAt (task_no k)
place-queued z k h l m =
    place-receiver z (64 + k) k (λ (e : 64 + k ≡ 0). omega arith) (outside_above z.tasks (64 + k) (omega arith)) (omega arith)
    (within-outside z.tasks k h l)

-- the byte of a place is the byte that it was read from
pub place_whole : (z : Size) (p : ℕ) → p < 256 → place_byte (place_of z p) % 256 ≡ p
place_whole z p h = go (eqb p 0) refl (outside z.tasks p) refl (outside z.tasks (p - 64)) refl (eqb p 128) refl
  where
    from : (x : Place) → place_of z p ≡ x → place_byte x ≡ p → place_byte (place_of z p) % 256 ≡ p
    from x e q = ap (λ (y : Place). place_byte y % 256) e ∙ ap (λ (n : ℕ). n % 256) q ∙ mod-eq_of_lt h

    go : (s : Bool) → eqb p 0 ≡ s → (t : Bool) → outside z.tasks p ≡ t → (u : Bool) → outside z.tasks (p - 64) ≡ u
        → (v : Bool) → eqb p 128 ≡ v → place_byte (place_of z p) % 256 ≡ p
    go true e t f u g v i = from Free (place-free z p (eqb-true p 0 e)) (sym (eqb-true p 0 e))
    go false e false f u g v i = let b = outside-within z.tasks p f in from (HeldBy (task_no p)) (place-held z p b.0 b.1) refl
    go false e true f true g true i = from OnTimer (place-timer z p (eqb-true p 128 i) f g) (sym (eqb-true p 128 i))
    go false e true f true g false i = from (Nowhere p) (place_nowhere z p (eqb-false p 0 e) (eqb-false p 128 i) f g) refl
    go false e true f false g v i =
        let b = outside-within z.tasks (p - 64) g in
        let q : 64 + (p - 64) ≡ p = omega arith in
        from (QueuedAt (task_no (p - 64))) (place-receiver z p (p - 64) (eqb-false p 0 e) f refl g) q

-- ---- records one behind the other
-- bytes read as records and written back are the bytes
pub join-cut : {A : Type 0} (f : List ℕ → A) (g : A → List ℕ) (w : ℕ) → ((p : List ℕ) → length p ≡ w → Small p → g (f p) ≡ p)
    → (n : ℕ) (l : List ℕ) → w * n ≤ length l → Small l → join (map g (map f (cut n w l))) ≡ take (w * n) l
join-cut f g w whole zero l e h = ap (λ (k : ℕ). take k l) (sym (mul-zero w))
join-cut f g w whole (suc n) l e h =
    let s : w * suc n ≡ w * n + w = mul-suc w n in
    let d : length (drop w l) ≡ length l - w = length-drop w l in
    let t : w + w * n ≡ w * suc n = omega arith in
    ap₂ (λ (p q : List ℕ). p ++ q) (whole (take w l) (length-take-le w l (omega arith)) (small-take w l h))
    (join-cut f g w whole n (drop w l) (omega arith) (small-drop w l h))
    ∙ sym (take-add w (w * n) l)
    ∙ ap (λ (k : ℕ). take k l) t

module _ {A : Type 0} (bytes : A → List ℕ) (w : ℕ) (long : (x : A) → length (bytes x) ≡ w) where
  -- they are as long as so many are
  pub length-records : (l : List A) → length (join (map bytes l)) ≡ w * length l
  length-records [] = sym (mul-zero w)
  length-records (x ∷ l) =
      omega (arith, length-append (bytes x) (join (map bytes l)), long x, length-records l, mul-suc w (length l))

  records_back : (of : List ℕ → A) (none : A) (l : List A) (rest : List ℕ)
      → ((i : ℕ) → of (bytes (get_or l i none)) ≡ get_or l i none) → map of (cut (length l) w (join (map bytes l) ++ rest)) ≡ l
  records_back of none [] rest h = refl
  records_back of none (x ∷ l) rest h =
      let j : List ℕ = join (map bytes l) ++ rest in
      let e : join (map bytes (x ∷ l)) ++ rest ≡ bytes x ++ j = append_assoc (bytes x) (join (map bytes l)) rest in
      ap (λ (y : List ℕ). of (take w y) ∷ map of (cut (length l) w (drop w y))) e
      ∙ ap₂ (λ (p q : List ℕ). of p ∷ map of (cut (length l) w q)) (take_at (bytes x) j w (long x))
      (drop_at (bytes x) j w (long x))
      ∙ ap₂ ◌∷◌ (h 0) (records_back of none l rest (λ i. h (suc i)))

  -- read again from r, which starts with them, they are the same, where each is
  pub records_read : (of : List ℕ → A) (none : A) (l : List A) (r rest : List ℕ) (n : ℕ) → length l ≡ n
      → r ≡ join (map bytes l) ++ rest → ((i : ℕ) → of (bytes (get_or l i none)) ≡ get_or l i none) → map of (cut n w r) ≡ l
  records_read of none l r rest n e d h =
      ap₂ (λ (k : ℕ) (y : List ℕ). map of (cut k w y)) (sym e) d ∙ records_back of none l rest h

-- they are bytes, where each is
pub small-records : {A : Type 0} (bytes : A → List ℕ) (none : A) (l : List A) → ((i : ℕ) → Small (bytes (get_or l i none)))
    → Small (join (map bytes l))
small-records bytes none [] h = tt
small-records bytes none (x ∷ l) h =
    small_append (bytes x) (join (map bytes l)) (h 0) (small-records bytes none l (λ i. h (suc i)))

-- read from bytes: what holds of any record of bytes holds of each
module _ (l : List ℕ) (h : (i : ℕ) → Byte (get_or l i 0)) where
  piece_bytes : (a : Area) (k i : ℕ) → i < a.stride → Byte (get_or (nth [] (pieces a l) k) i 0)
  piece_bytes a k i d = step (outside a.count k) refl
    where
      step : (t : Bool) → outside a.count k ≡ t → Byte (get_or (nth [] (pieces a l) k) i 0)
      step true e =
          subst (λ (p : List ℕ). Byte (get_or p i 0))
          (sym (nth-outside [] (pieces a l) k (ap (λ (n : ℕ). outside n k) (length-pieces a l) ∙ e))) (lit< tt)
      step false e = subst Byte (sym (piece_byte a l k i e d)) (h _)

  pub read_holds : {A : Type 0} (P : A → Type 0) (of : List ℕ → A) (none : A) (a : Area) → of [] ≡ none
      → ((p : List ℕ) → ((i : ℕ) → i < a.stride → Byte (get_or p i 0)) → P (of p)) → (k : ℕ) → P (nth none (map of (pieces a l)) k)
  read_holds P of none a e g k =
      subst P (sym (nth-map of [] none (pieces a l) k e)) (g (nth [] (pieces a l) k) (piece_bytes a k))

-- ---- the board
glue : (n o : ℕ) (l : List ℕ) → take n (drop o l) ++ drop (o + n) l ≡ drop o l
glue n o l = ap (λ (r : List ℕ). take n (drop o l) ++ r) (sym (drop-drop n o l)) ∙ take-append-drop n (drop o l)

place_piece : (z : Size) (p : List ℕ) → length p ≡ 1 → Small p → place_bytes (place_in z p) ≡ p
place_piece z p e h = ap (λ (x : ℕ). x ∷ []) (place_whole z (get_or p 0 0) (small_at p 0 h)) ∙ sym (drop_listed 0 1 p e)

-- bytes of the right length, written back from the board that they are, are the very bytes
pub bytes-board : (z : Size) (l : List ℕ) → length l ≡ total z → Small l → bytes_of (board_of z l) ≡ l
bytes-board z l e h =
    let t : ℕ = 4 + 10 * z.tasks in
    let m : ℕ = t + 8 * z.messages in
    let d₁ = length-drop 4 l in
    let d₂ = length-drop t l in
    let d₃ = length-drop m l in
    let ts = join-cut task_of task_bytes 10 task_whole z.tasks (drop 4 l) (omega arith) (small-drop 4 l h) in
    let ms = join-cut message_of message_bytes 8 message_whole z.messages (drop t l) (omega arith) (small-drop t l h) in
    let ps = join-cut (place_in z) place_bytes 1 (place_piece z) z.messages (drop m l) (omega arith) (small-drop m l h)
    ∙ take_all (1 * z.messages) (drop m l) (omega arith) in
    let two : List ℕ → List ℕ = λ r. get_or l 0 0 ∷ get_or l 1 0 ∷ r in
    (λ i. two (take 2 (drop 2 l) ++ (ts i ++ (ms i ++ ps i))))
    ∙ ap (λ (r : List ℕ). two (take 2 (drop 2 l) ++ (take (10 * z.tasks) (drop 4 l) ++ r))) (glue (8 * z.messages) t l)
    ∙ ap (λ (r : List ℕ). two (take 2 (drop 2 l) ++ r)) (glue (10 * z.tasks) 4 l)
    ∙ ap two (glue 2 2 l)
    ∙ ap (λ (r : List ℕ). get_or l 0 0 ∷ r) (sym (drop-cons l 1 0 (omega arith)))
    ∙ sym (drop-cons l 0 0 (omega arith))

pub writing_back_changes_nothing : WritingBackChangesNothing
writing_back_changes_nothing z l h = bytes-board z l h.long (small_bytes l h.bytes)

-- ---- as many records as the board has
-- tasks
pub length-tasks : (z : Size) (l : List ℕ) → length (board_of z l).tasks ≡ z.tasks
length-tasks z l = length-map (pieces (task_area z) l) task_of ∙ length-pieces (task_area z) l

-- messages
pub length-messages : (z : Size) (l : List ℕ) → length (board_of z l).messages ≡ z.messages
length-messages z l = length-map (pieces (message_area z) l) message_of ∙ length-pieces (message_area z) l

-- places
pub length-places : (z : Size) (l : List ℕ) → length (board_of z l).places ≡ z.messages
length-places z l = length-map (pieces (place_area z) l) (place_in z) ∙ length-pieces (place_area z) l
