-- Refusal 18 as code finds it is refusal 18: each entry is good and as many are used as messages are on the timer exactly if each
-- free entry is zero and the used ones name the messages on the timer, once each.
-- Assumes nothing.
use mathlib.Core.Path.{◌≡◌, refl, sym, ap, ◌∙◌, subst}
use mathlib.Core.Logic.{◌≢◌, inl, inr}
use mathlib.Core.Bool.{Bool, true, false, cond, not, ◌&&◌, ◌||◌, true≢false}
use mathlib.Core.Bool as bool
use mathlib.Core.List.{List, [], ◌∷◌}
use Prim.Native.Nat.{ℕ, zero, suc, ◌-◌, ◌≤◌, ◌<◌}
use native.Mathlib.Omega.{arith}
use lib.Dec.{eqb}
use lib.ListN.{length, get_or}
use borrow.Author.Tests.{eqb-true, eqb-false, eq-eqb, ne_eqb, not-true, not-false}
use Rattle.std.specs.Prelude.{Option, Some, None}
use Rattle.links.specs.Queue.{cons_if, which, rearranged, each}
use Rattle.links.specs.Chain.{In, Once, All}
use Rattle.links.proofs.Bools.{both, and_true, cond_holds, each_at, each_all}
use Rattle.links.proofs.Members.{out_not_in, not_in_out, all_at, all_of}
use Rattle.links.proofs.Exactly.{rearranged_in, rearranged-length, rearranged_once, counted-rearranged, which_once}
use Rattle.board.specs.declared.numbers.Size.{Size}
use Rattle.board.specs.declared.places.Place.TheVariants.{Free}
use Rattle.board.specs.Places.{is_on_timer}
use Rattle.board.specs.Board.{Board, place}
use Rattle.paper.proofs.Which.{which-nth}
use Rattle.timer.specs.declared.entry.Entry.{Entry}
use Rattle.timer.specs.Timer.{Timer, timer_length, timer_of, no_entry, is_used, entry}
use Rattle.timer.proofs.Codec.{length-entries}
use Rattle.timing.specs.Timing.{used, free_are_zero, on_timer, good_timer}
use Rattle.queue_rules.specs.Walks.{counted}
use Rattle.queue_rules.proofs.Counting.{counted-which}
use Rattle.queue_rules.proofs.Lists.{alike}
use Rattle.timer_rules.specs.Buffer.{timed_of, named_before, good_entry, used_of}

-- ---- the messages in entries, by the entry
-- entry i, counted from 0
abbrev at : List Entry → ℕ → Entry
at l i = get_or l i no_entry

in_behind : (t : Bool) (y x : ℕ) (q : List ℕ) → In y q → In y (cons_if t x q)
in_behind true y x q i = inr i
in_behind false y x q i = i

-- the message of a used entry is listed
used_in : (l : List Entry) (i : ℕ) → is_used (at l i) ≡ true → In (at l i).message (used l)
used_in [] i e = absurd (true≢false (sym e))
used_in (x ∷ l) zero e = rw e (inl refl)
used_in (x ∷ l) (suc i) e = in_behind (is_used x) (at l i).message x.message (used l) (used_in l i e)

-- and it is one of the entries
used-within : (l : List Entry) (i : ℕ) → is_used (at l i) ≡ true → i < length l
used-within [] i e = absurd (true≢false (sym e))
used-within (x ∷ l) zero e = omega arith
used-within (x ∷ l) (suc i) e = omega (arith, used-within l i e)

-- a used entry that names m
abbrev Naming : List Entry → ℕ → Type 0
Naming l m = (i : ℕ) × (is_used (at l i) ≡ true) × ((at l i).message ≡ m)

-- each that is listed is named by one
in_used : (l : List Entry) (m : ℕ) → In m (used l) → Naming l m
in_used [] m h = absurd h
in_used (x ∷ l) m h = step (is_used x) refl h (in_used l m)
  where
    later : Naming l m → Naming (x ∷ l) m
    later (i, e, d) = (suc i, e, d)

    step : (t : Bool) → is_used x ≡ t → In m (cons_if t x.message (used l)) → (In m (used l) → Naming l m) → Naming (x ∷ l) m
    step true e (inl d) ih = (0, e, sym d)
    step true e (inr i) ih = later (ih i)
    step false e i ih = later (ih i)

-- no used entry names what one before it names
abbrev Apart : List Entry → Type 0
Apart l = (i j : ℕ) → i < j → is_used (at l j) ≡ true → (at l i).message ≢ (at l j).message

-- so none is listed twice
apart_once : (l : List Entry) → Apart l → Once (used l)
apart_once [] h = tt
apart_once (x ∷ l) h = step (is_used x) (apart_once l (λ i j g. h (suc i) (suc j) (omega arith)))
  where
    named : Naming l x.message → ⊥
    named (j, e, d) = h 0 (suc j) (omega arith) e (sym d)

    step : (t : Bool) → Once (used l) → Once (cons_if t x.message (used l))
    step true d = (not_in_out x.message (used l) (λ i. named (in_used l x.message i)), d)
    step false d = d

-- and where none is, none does
once_apart : (l : List Entry) → Once (used l) → Apart l
once_apart [] d i j g e = absurd (true≢false (sym e))
once_apart (x ∷ l) d i zero g e = absurd (omega arith)
once_apart (x ∷ l) d zero (suc j) g e = step (is_used x) refl d
  where
    step : (t : Bool) → is_used x ≡ t → Once (cons_if t x.message (used l)) → x.message ≢ (at l j).message
    step true u d = λ h. out_not_in x.message (used l) d.0 (subst (λ (m : ℕ). In m (used l)) (sym h) (used_in l j e))
    step false u d = λ h. true≢false (sym e ∙ ap (λ (m : ℕ). not (eqb m 0)) (sym h) ∙ u)
once_apart (x ∷ l) d (suc i) (suc j) g e = once_apart l (behind (is_used x) d) i j (omega arith) e
  where
    behind : (t : Bool) → Once (cons_if t x.message (used l)) → Once (used l)
    behind true d = d.1
    behind false d = d

-- as many as entries are used
length-used : (n : ℕ) (l : List Entry) → length (used l) ≡ length (which is_used n l)
length-used n [] = refl
length-used n (x ∷ l) = step (is_used x) (length-used (suc n) l)
  where
    step : (t : Bool) → length (used l) ≡ length (which is_used (suc n) l)
        → length (cons_if t x.message (used l)) ≡ length (cons_if t n (which is_used (suc n) l))
    step true e = omega arith
    step false e = e

-- ---- free entries
-- the test says so of each that is free
free-zero : (l : List Entry) → free_are_zero l ≡ true → (i : ℕ) → is_used (at l i) ≡ false → eqb (at l i).due 0 ≡ true
free-zero [] h i e = refl
free-zero (x ∷ l) h zero e =
    let r = both (is_used x || eqb x.due 0) (free_are_zero l) h in rw e at r.0
free-zero (x ∷ l) h (suc i) e =
    let r = both (is_used x || eqb x.due 0) (free_are_zero l) h in free-zero l r.1 i e

-- and where each is, it says so
zero-free : (l : List Entry) → ((i : ℕ) → i < length l → is_used (at l i) ≡ false → eqb (at l i).due 0 ≡ true)
    → free_are_zero l ≡ true
zero-free [] h = refl
zero-free (x ∷ l) h =
    and_true (is_used x || eqb x.due 0) (free_are_zero l) (step (is_used x) (h 0 (omega arith)))
    (zero-free l (λ i g. h (suc i) (omega arith)))
  where
    step : (t : Bool) → (t ≡ false → eqb x.due 0 ≡ true) → (t || eqb x.due 0) ≡ true
    step true h = refl
    step false h = h refl

-- ---- each entry is good
module _ (t : Timer) (m : ℕ) where
  -- entry j does not name m
  abbrev pub other : ℕ → Bool
  other j = not (eqb (entry t j).message m)

  -- no entry before entry i does: so the test says
  unnamed_says : (i : ℕ) → not (named_before t (suc i) m) ≡ true → (j : ℕ) → j < i → (at t.entries j).message ≢ m
  unnamed_says i e j h =
      let a = not-false (each other (suc i - 1)) (not-true (named_before t (suc i) m) e) in
      let d = each_at other (suc i - 1) a (suc j) (omega arith) (omega arith) in
      eqb-false (at t.entries j).message m (not-true (eqb (at t.entries j).message m) d)

  says_unnamed : (i : ℕ) → ((j : ℕ) → j < i → (at t.entries j).message ≢ m) → not (named_before t (suc i) m) ≡ true
  says_unnamed i h = ap (λ (x : Bool). not (not x)) (each_all other (suc i - 1) others)
    where
      others : (k : ℕ) → 1 ≤ k → k ≤ suc i - 1 → other k ≡ true
      others zero g l = absurd (omega arith)
      others (suc j) g l = ap not (ne_eqb (at t.entries j).message m (h j (omega arith)))

module _ (b : Board) (t : Timer) where
  -- where each is good, the free ones are zero and the used ones name messages on the timer, none twice
  module _ (long : length t.entries ≡ 16) (g : each (good_entry b t) 16 ≡ true) where
    good_here : (i : ℕ) → i < length t.entries → good_entry b t (suc i) ≡ true
    good_here i h = each_at (good_entry b t) 16 g (suc i) (omega arith) (omega arith)

    good-free : free_are_zero t.entries ≡ true
    good-free = zero-free t.entries (λ i h u. rw u at (good_here i h))

    good-used : (i : ℕ) → is_used (at t.entries i) ≡ true
        → (is_on_timer (place b (at t.entries i).message) ≡ true)
        × (not (named_before t (suc i) (at t.entries i).message) ≡ true)
    good-used i u =
        let m = (at t.entries i).message in
        both (is_on_timer (place b m)) (not (named_before t (suc i) m)) (rw u at (good_here i (used-within t.entries i u)))

    good_once : Once (used t.entries)
    good_once = apart_once t.entries (λ i j h u. unnamed_says t (at t.entries j).message j (good-used j u).1 i h)

    good-timed : All (λ m. In m (on_timer b)) (used t.entries)
    good-timed = all_of (λ m. In m (on_timer b)) (used t.entries) (λ m i. listed m (in_used t.entries m i))
      where
        listed : (m : ℕ) → Naming t.entries m → In m (on_timer b)
        listed m (i, u, e) =
            (which-nth Free is_on_timer b.places refl m).1 (subst (λ (m : ℕ). is_on_timer (place b m) ≡ true) e (good-used i u).0)

  -- and the other way round
  module _ (f : free_are_zero t.entries ≡ true) (d : Once (used t.entries))
      (a : All (λ m. In m (on_timer b)) (used t.entries)) where
    named-timed : (i : ℕ) → is_used (at t.entries i) ≡ true → is_on_timer (place b (at t.entries i).message) ≡ true
    named-timed i u =
        let m = (at t.entries i).message in
        (which-nth Free is_on_timer b.places refl m).0
        (all_at (λ m. In m (on_timer b)) (used t.entries) a m (used_in t.entries i u))

    named-good : each (good_entry b t) 16 ≡ true
    named-good = each_all (good_entry b t) 16 here
      where
        here : (k : ℕ) → 1 ≤ k → k ≤ 16 → good_entry b t k ≡ true
        here zero h g = absurd (omega arith)
        here (suc i) h g =
            let m = (at t.entries i).message in
            cond_holds (λ (x : Bool). x ≡ true) (is_used (at t.entries i))
            (is_on_timer (place b m) && not (named_before t (suc i) m)) (eqb (at t.entries i).due 0)
            (λ u. and_true (is_on_timer (place b m)) (not (named_before t (suc i) m)) (named-timed i u)
            (says_unnamed t m i (λ j n. once_apart t.entries d j i n u))) (free-zero t.entries f i)

-- ---- as many are used as messages are on the timer
-- what the look at the entries told is that each is good and m are used
abbrev pub as_many : Option ℕ → ℕ → Bool
as_many (Some n) m = eqb n m
as_many None m = false

many_says : (t : Bool) (n m : ℕ) → as_many (cond t (Some n) None) m ≡ true → (t ≡ true) × (n ≡ m)
many_says true n m e = (refl, eqb-true n m e)
many_says false n m e = absurd (true≢false (sym e))

says_many : (t : Bool) (n m : ℕ) → t ≡ true → n ≡ m → as_many (cond t (Some n) None) m ≡ true
says_many true n m e d = eq-eqb n m d
says_many false n m e d = absurd (true≢false (sym e))

module _ (z : Size) (b : Board) (s : List ℕ) (h : length b.places ≡ z.messages) where
  many_used : counted (λ i. is_used (entry (timer_of s) i)) 16 ≡ length (used (timer_of s).entries)
  many_used =
      ap (counted (λ i. is_used (entry (timer_of s) i))) (sym (length-entries s))
      ∙ counted-which no_entry is_used 1 (timer_of s).entries ∙ sym (length-used 1 (timer_of s).entries)

  many_timed : timed_of z b ≡ length (on_timer b)
  many_timed = ap (counted (λ m. is_on_timer (place b m))) (sym h) ∙ counted-which Free is_on_timer 1 b.places

  -- the code's look at the entries says what the definition says of them
  entries_same : as_many (used_of b (timer_of s)) (timed_of z b)
      ≡ free_are_zero (timer_of s).entries && rearranged (used (timer_of s).entries) (on_timer b)
  entries_same = alike (as_many (used_of b t) (timed_of z b)) (free_are_zero l && rearranged (used l) (on_timer b)) forth back
    where
      t : Timer
      t = timer_of s

      l : List Entry
      l = (timer_of s).entries

      forth : as_many (used_of b t) (timed_of z b) ≡ true → free_are_zero l && rearranged (used l) (on_timer b) ≡ true
      forth e =
          let r = many_says (each (good_entry b t) 16) (counted (λ i. is_used (entry t i)) 16) (timed_of z b) e in
          let n = length-entries s in
          let m : length (used l) ≡ length (on_timer b) = sym many_used ∙ r.1 ∙ many_timed in
          and_true (free_are_zero l) (rearranged (used l) (on_timer b)) (good-free b t n r.0)
          (counted-rearranged (used l) (on_timer b) (good_once b t n r.0) (good-timed b t n r.0) m)

      back : free_are_zero l && rearranged (used l) (on_timer b) ≡ true → as_many (used_of b t) (timed_of z b) ≡ true
      back e =
          let r = both (free_are_zero l) (rearranged (used l) (on_timer b)) e in
          let d = rearranged_once (used l) (on_timer b) r.1 (which_once is_on_timer 1 b.places) in
          let a = all_of (λ m. In m (on_timer b)) (used l) (λ m. (rearranged_in (used l) (on_timer b) r.1 m).0) in
          says_many (each (good_entry b t) 16) (counted (λ i. is_used (entry t i)) 16) (timed_of z b) (named-good b t r.0 d a)
          (many_used ∙ rearranged-length (used l) (on_timer b) r.1 ∙ sym many_timed)

  -- 18 asks for the length, that each entry is good, and that as many are used as messages are on the timer
  pub good-timer_is : good_timer b s ≡ eqb (length s) timer_length && as_many (used_of b (timer_of s)) (timed_of z b)
  good-timer_is =
      let l = (timer_of s).entries in
      bool.and_assoc (eqb (length s) timer_length) (free_are_zero l) (rearranged (used l) (on_timer b))
      ∙ ap (λ (t : Bool). eqb (length s) timer_length && t) (sym entries_same)
