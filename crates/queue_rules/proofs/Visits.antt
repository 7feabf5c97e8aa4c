-- The counting walk: what each turn of the loop does to it, and what it comes to.
-- Assumes nothing.
use mathlib.Core.Path.{◌≡◌, refl, sym, ap, ap₂, ◌∙◌}
use mathlib.Core.Bool.{Bool, true, false, cond, ◌&&◌}
use mathlib.Core.List.{List, [], ◌∷◌}
use Prim.Native.Nat.{ℕ, zero, suc, ◌+◌, ◌-◌, ◌≤◌, ◌<◌}
use native.Mathlib.Omega.{arith}
use lib.ListN.{length}
use lib.Dec.{eqb, leb}
use borrow.Author.Tests.{eq-eqb, ne_eqb, eqb-true, eqb-false}
use Rattle.std.specs.Prelude.{Some, None, Option}
use Rattle.links.specs.Queue.{walk, ends, rising}
use Rattle.links.proofs.Bools.{both, and_true}
use Rattle.links.proofs.Chains.{walk-length, walk-chain, chain-walk}
use Rattle.queue_rules.specs.Walks.{went, visited}

module _ (next number : ℕ → ℕ) (good : ℕ → Bool) where
  -- ---- the loop
  -- a walk ends where the link is 0
  pub visited_end : (n x low s : ℕ) → x ≡ 0 → visited next number good n x low s ≡ Some s
  unfolding visited
  visited_end zero x low s e = ap (λ (t : Bool). cond t (Some s) None) (eq-eqb x 0 e)
  visited_end (suc n) zero low s e = refl
  visited_end (suc n) (suc x) low s e = absurd (omega arith)

  -- with no link left to follow it must be 0
  pub visited_out : (n x low s : ℕ) → n ≡ 0 → (x ≡ 0 → ⊥) → visited next number good n x low s ≡ None
  unfolding visited
  visited_out zero x low s e h = ap (λ (t : Bool). cond t (Some s) None) (ne_eqb x 0 h)
  visited_out (suc n) x low s e h = absurd (omega arith)

  -- one link followed
  visited_turned : (n x low s : ℕ) → 0 < n → (x ≡ 0 → ⊥) → visited next number good n x low s
      ≡ cond (good x && leb low (number x)) (visited next number good (n - 1) (next x) (number x) (s + 1)) None
  unfolding visited
  visited_turned zero x low s h g = absurd (omega arith)
  visited_turned (suc n) zero low s h g = absurd (g refl)
  visited_turned (suc n) (suc x) low s h g =
      let e : suc n - 1 ≡ n = omega arith in
      let f : suc s ≡ s + 1 = omega arith in
      ap₂
      (λ (i j : ℕ). cond (good (suc x) && leb low (number (suc x)))
      (visited next number good i (next (suc x)) (number (suc x)) j) None)
      (sym e) f

  -- a record that does not belong there
  pub visited_stray : (n x low s : ℕ) → (x ≡ 0 → ⊥) → good x ≡ false → visited next number good n x low s ≡ None
  unfolding visited
  visited_stray zero x low s h e = ap (λ (t : Bool). cond t (Some s) None) (ne_eqb x 0 h)
  visited_stray (suc n) zero low s h e = absurd (h refl)
  visited_stray (suc n) (suc x) low s h e =
      ap
      (λ (t : Bool). cond (t && leb low (number (suc x))) (visited next number good n (next (suc x)) (number (suc x)) (suc s)) None)
      e

  -- what a walk is behind a turn, however the turn is told
  module _ {A : Type 0} (on : ℕ → ℕ → A) (end stray : A) (go : A → Option ℕ) (n s : ℕ) (he : go end ≡ Some (s + 1))
      (hs : go stray ≡ None)
      (ho : (y p : ℕ) → (y ≡ 0 → ⊥) → go (on y p) ≡ visited next number good (n - 1) y p (s + 1)) where
    pub went-visited : (x low : ℕ) → 0 < n → (x ≡ 0 → ⊥)
        → go (went next number good on end stray x low) ≡ visited next number good n x low s
    went-visited x low h g =
        turn (good x && leb low (number x)) (eqb (next x) 0) refl ∙ sym (visited_turned n x low s h g)
      where
        turn : (t u : Bool) → eqb (next x) 0 ≡ u → go (cond t (cond u end (on (next x) (number x))) stray)
            ≡ cond t (visited next number good (n - 1) (next x) (number x) (s + 1)) None
        turn true true e =
            he ∙ sym (visited_end (n - 1) (next x) (number x) (s + 1) (eqb-true (next x) 0 e))
        turn true false e = ho (next x) (number x) (eqb-false (next x) 0 e)
        turn false u e = hs

  -- ---- what it comes to
  -- all belong there
  abbrev pub every : List ℕ → Bool
  every [] = true
  every (x ∷ q) = good x && every q

  -- the links end, visit only what belongs there, and priority numbers never fall from low on
  abbrev pub orderly : ℕ → ℕ → ℕ → Bool
  orderly n x low = ends next n x && (every (walk next n x) && rising number low (walk next n x))

  visited_is : (n x low s : ℕ)
      → visited next number good n x low s ≡ cond (orderly n x low) (Some (s + length (walk next n x))) None
  unfolding visited
  visited_is zero x low s = go (eqb x 0)
    where
      go : (t : Bool) → cond t (Some s) None ≡ cond (t && true) (Some (s + 0)) None
      go true = ap Some (let e : s ≡ s + 0 = omega arith in e)
      go false = refl
  visited_is (suc n) zero low s = ap Some (let e : s ≡ s + 0 = omega arith in e)
  visited_is (suc n) (suc x) low s =
      go (good (suc x)) (leb low (number (suc x))) (visited_is n (next (suc x)) (number (suc x)) (suc s))
    where
      q : List ℕ
      q = walk next n (next (suc x))

      end : Bool
      end = ends next n (next (suc x))

      rises : Bool
      rises = rising number (number (suc x)) q

      swap : (t u v : Bool) → t && (u && v) ≡ t && (true && u && (true && v))
      swap true u v = refl
      swap false u v = refl

      none : (t u v : Bool) → (t && (false && u && v) ≡ false) × (t && (true && u && (false && v)) ≡ false)
      none true true v = (refl, refl)
      none true false v = (refl, refl)
      none false u v = (refl, refl)

      go : (t u : Bool) → visited next number good n (next (suc x)) (number (suc x)) (suc s)
          ≡ cond (orderly n (next (suc x)) (number (suc x))) (Some (suc s + length q)) None
          → cond (t && u) (visited next number good n (next (suc x)) (number (suc x)) (suc s)) None
          ≡ cond (end && (t && every q && (u && rises))) (Some (s + suc (length q))) None
      go true true e =
          e ∙ ap₂ (λ (t : Bool) (m : ℕ). cond t (Some m) None) (swap end (every q) rises)
          (let f : suc s + length q ≡ s + suc (length q) = omega arith in f)
      go true false e = ap (λ (t : Bool). cond t (Some (s + suc (length q))) None) (sym (none end (every q) rises).1)
      go false u e = ap (λ (t : Bool). cond t (Some (s + suc (length q))) None) (sym (none end (every q) (u && rises)).0)

  -- a whole walk
  pub visited_whole : (n x : ℕ) → visited next number good n x 0 0 ≡ cond (orderly n x 0) (Some (length (walk next n x))) None
  visited_whole n x =
      let e : 0 + length (walk next n x) ≡ length (walk next n x) = omega arith in
      visited_is n x 0 0 ∙ ap (λ (m : ℕ). cond (orderly n x 0) (Some m) None) e

  -- a walk that is orderly is so with fewer links or more, as long as they are enough for what it sees
  pub orderly_moves : (n m x low : ℕ) → orderly n x low ≡ true → length (walk next n x) ≤ m
      → (orderly m x low ≡ true) × (walk next m x ≡ walk next n x)
  orderly_moves n m x low e h =
      let p = both (ends next n x) (every (walk next n x) && rising number low (walk next n x)) e in
      let w = chain-walk next m x (walk next n x) (walk-chain next n x p.0) h in
      (and_true (ends next m x) _ w.1 (ap (λ (q : List ℕ). every q && rising number low q) w.0 ∙ p.1), w.0)

  -- how many it saw
  abbrev seen_in : Option ℕ → ℕ
  seen_in (Some m) = m
  seen_in None = 0

  -- no more than it may follow links
  pub visited_bound : (n x m : ℕ) → visited next number good n x 0 0 ≡ Some m → m ≤ n
  visited_bound n x m e = go (orderly n x 0) (ap seen_in (sym e ∙ visited_whole n x))
    where
      go : (t : Bool) → m ≡ seen_in (cond t (Some (length (walk next n x))) None) → m ≤ n
      go true h = omega (arith, walk-length next n x)
      go false h = omega arith
