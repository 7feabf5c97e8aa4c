-- A message on the timer stands in exactly one entry, by the entry's number.
-- Assumes nothing.
use mathlib.Core.Path.{◌≡◌, refl, sym, ap, ◌∙◌, subst}
use mathlib.Core.Logic.{◌≢◌, inl, inr}
use mathlib.Core.Bool.{Bool, true, false, not}
use mathlib.Core.List.{List, [], ◌∷◌}
use Prim.Native.Nat.{ℕ, zero, suc, ◌<◌}
use native.Mathlib.Omega.{arith}
use lib.ListN.{length, get_or}
use borrow.Author.Tests.{ne_eqb}
use Rattle.links.specs.Queue.{cons_if}
use Rattle.links.specs.Chain.{In, Once, Out}
use Rattle.links.proofs.Members.{out_not_in}
use Rattle.board.specs.declared.places.Place.TheVariants.{OnTimer}
use Rattle.board.specs.Numbers.{Numbered}
use Rattle.board.specs.Board.{Board, place}
use Rattle.timer.specs.declared.entry.Entry.{Entry}
use Rattle.timer.specs.Timer.{Timer, no_entry, is_used, entry}
use Rattle.timing.specs.Timing.{used}
use Rattle.ticked.specs.Claims.{OneTimer}
use Rattle.ticked.proofs.Entries.{used_in, once_rest, once_first, used-later}
use Rattle.ticked.proofs.Buffers.{Matches}

-- the entry i, counted from 0, names m
abbrev Names : List Entry → ℕ → ℕ → Type 0
Names es m i = (i < length es) × ((get_or es i no_entry).message ≡ m)

-- ---- one of them, if the message is there
names-used : (m : ℕ) (es : List Entry) → In m (used es) → (i : ℕ) × Names es m i
names-used m [] i = absurd i
names-used m (x ∷ es) i = step (is_used x) i (names-used m es)
  where
    step : (t : Bool) → In m (cons_if t x.message (used es)) → (In m (used es) → (i : ℕ) × Names es m i)
        → (i : ℕ) × Names (x ∷ es) m i
    step true (inl e) ih = (0, (omega arith, sym e))
    step true (inr j) ih = let (k, p) = ih j in (suc k, (omega (arith, p.0), p.1))
    step false j ih = let (k, p) = ih j in (suc k, (omega (arith, p.0), p.1))

module _ (m : ℕ) (some : m ≢ 0) where
  -- an entry that names it is in use
  names_full : (e : Entry) → e.message ≡ m → is_used e ≡ true
  names_full e p = ap not (ne_eqb e.message 0 (λ q. some (sym p ∙ q)))

  used-names : (es : List Entry) (i : ℕ) → Names es m i → In m (used es)
  used-names [] i (l, e) = absurd (omega arith)
  used-names (x ∷ es) zero (l, e) = subst (λ (n : ℕ). In n (used (x ∷ es))) e (used_in x (x ∷ es) (inl refl) (names_full x e))
  used-names (x ∷ es) (suc i) (l, e) = used-later x es m (used-names es i (omega arith, e))

  -- ---- no two of them, if no message stands twice
  names_one : (es : List Entry) → Once (used es) → (i j : ℕ) → Names es m i → Names es m j → i ≡ j
  names_one [] d i j (l, e) q = absurd (omega arith)
  names_one (x ∷ es) d zero zero p q = refl
  names_one (x ∷ es) d zero (suc j) p (l, e) =
      absurd (out_not_in m (used es) (subst (λ (n : ℕ). Out n (used es)) p.1 (once_first x es (names_full x p.1) d))
      (used-names es j (omega arith, e)))
  names_one (x ∷ es) d (suc i) zero (l, e) q =
      absurd (out_not_in m (used es) (subst (λ (n : ℕ). Out n (used es)) q.1 (once_first x es (names_full x q.1) d))
      (used-names es i (omega arith, e)))
  names_one (x ∷ es) d (suc i) (suc j) (l, e) (k, f) =
      ap suc (names_one es (once_rest x es d) i j (omega arith, e) (omega arith, f))

-- ---- against the board
-- entries that are right for it name a message on the timer once, and no other
pub one_timer : (b : Board) (t : Timer) → length t.entries ≡ 16 → Matches b t.entries → (m : ℕ) → m ≢ 0
    → (place b m ≡ OnTimer → OneTimer t m) × (place b m ≢ OnTimer → (j : ℕ) → Numbered 16 j → (entry t j).message ≢ m)
one_timer b t long h m some = (one, λ n j k p. n ((h.exact m).0 (there j k p)))
  where
    names : (j : ℕ) → Numbered 16 (suc j) → (entry t (suc j)).message ≡ m → Names t.entries m j
    names j k p = (omega (arith, k.1, long), p)

    there : (j : ℕ) → Numbered 16 j → (entry t j).message ≡ m → In m (used t.entries)
    there zero k p = absurd (omega (arith, k.0))
    there (suc j) k p = used-names m some t.entries j (names j k p)

    same : (i j : ℕ) → Names t.entries m i → Numbered 16 j → (entry t j).message ≡ m → j ≡ suc i
    same i zero p k q = absurd (omega (arith, k.0))
    same i (suc j) p k q = ap suc (names_one m some t.entries h.once j i (names j k q) p)

    one : place b m ≡ OnTimer → OneTimer t m
    one o =
        let (i, p) = names-used m t.entries ((h.exact m).1 o) in
        (suc i, (omega arith, omega (arith, p.0, long)), p.1, λ j. same i j p)
