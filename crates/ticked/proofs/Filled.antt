-- A free entry is taken: the messages are those there were and one more, and free entries are still zero.
-- Assumes nothing.
use mathlib.Core.Path.{◌≡◌, refl, ap}
use mathlib.Core.Bool.{Bool, true, false, ◌||◌}
use mathlib.Core.List.{List, [], ◌∷◌, ◌++◌}
use Prim.Native.Nat.{ℕ, zero, suc, ◌<◌}
use native.Mathlib.Omega.{arith}
use lib.Dec.{eqb}
use lib.ListN.{length, get_or, set}
use Rattle.links.proofs.Bools.{both, and_true}
use Rattle.board.specs.Numbers.{Numbered}
use Rattle.board.specs.Board.{nth, put}
use Rattle.timer.specs.declared.entry.Entry.{Entry}
use Rattle.timer.specs.Timer.{no_entry, is_used}
use Rattle.timing.specs.Timing.{used, free_are_zero}

-- the list after has m somewhere between those of the list before
pub record Between (m : ℕ) (before after : List ℕ) : Type 0 where
  pub front : List ℕ
  pub back : List ℕ
  pub was : before ≡ front ++ back
  pub is : after ≡ front ++ m ∷ back

module _ (e : Entry) (full : is_used e ≡ true) where
  filled_at : (es : List Entry) (i : ℕ) → i < length es → is_used (get_or es i no_entry) ≡ false
      → Between e.message (used es) (used (set es i e))
  filled_at [] i h f = absurd (omega arith)
  filled_at (x ∷ es) zero h f = record { front = []; back = used es; was = rw f; is = rw full }
  filled_at (x ∷ es) (suc i) h f = step (is_used x) refl (filled_at es i (omega arith) f)
    where
      step : (t : Bool) → is_used x ≡ t → Between e.message (used es) (used (set es i e))
          → Between e.message (used (x ∷ es)) (used (x ∷ set es i e))
      step true u b = record {
        front = x.message ∷ b.front;
        back = b.back;
        was = rw u (ap (λ (l : List ℕ). x.message ∷ l) b.was);
        is = rw u (ap (λ (l : List ℕ). x.message ∷ l) b.is);
      }
      step false u b = record { front = b.front; back = b.back; was = rw u b.was; is = rw u b.is }

  -- the messages, where the entry i was free
  pub filled_used : (es : List Entry) (i : ℕ) → Numbered (length es) i → is_used (nth no_entry es i) ≡ false
      → Between e.message (used es) (used (put es i e))
  filled_used es zero n f = absurd (omega (arith, n.0))
  filled_used es (suc i) n f = filled_at es i (omega (arith, n.1)) f

  zero_at : (es : List Entry) (i : ℕ) → free_are_zero es ≡ true → free_are_zero (set es i e) ≡ true
  zero_at [] i h = refl
  zero_at (x ∷ es) zero h =
      and_true (is_used e || eqb e.due 0) (free_are_zero es) (rw full) (both (is_used x || eqb x.due 0) (free_are_zero es) h).1
  zero_at (x ∷ es) (suc i) h =
      let r = both (is_used x || eqb x.due 0) (free_are_zero es) h in
      and_true (is_used x || eqb x.due 0) (free_are_zero (set es i e)) r.0 (zero_at es i r.1)

  -- the free ones
  pub filled_zero : (es : List Entry) (i : ℕ) → free_are_zero es ≡ true → free_are_zero (put es i e) ≡ true
  filled_zero es zero h = h
  filled_zero es (suc i) h = zero_at es i h
