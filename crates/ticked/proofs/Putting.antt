-- One of a list written over: the new one stands there, and so does each that isn't the one written over.
-- Assumes nothing.
use mathlib.Core.Path.{refl}
use mathlib.Core.Logic.{◌≢◌, inl, inr}
use mathlib.Core.List.{List, [], ◌∷◌}
use Prim.Native.Nat.{ℕ, zero, suc, ◌<◌}
use native.Mathlib.Omega.{arith}
use lib.ListN.{length, get_or, set}
use Rattle.links.specs.Chain.{In}
use Rattle.board.specs.Numbers.{Numbered}
use Rattle.board.specs.Board.{nth, put}

module _ {A : Type 0} (x : A) where
  set_in : (l : List A) (i : ℕ) → i < length l → In x (set l i x)
  set_in [] i h = absurd (omega arith)
  set_in (y ∷ l) zero h = inl refl
  set_in (y ∷ l) (suc i) h = inr (set_in l i (omega arith))

  -- the new one
  pub put_in : (l : List A) (k : ℕ) → Numbered (length l) k → In x (put l k x)
  put_in l zero h = absurd (omega (arith, h.0))
  put_in l (suc i) h = set_in l i (omega (arith, h.1))

  set_other : (none y : A) (l : List A) (i : ℕ) → In y l → y ≢ get_or l i none → In y (set l i x)
  set_other none y [] i j h = absurd j
  set_other none y (e ∷ l) zero (inl p) h = absurd (h p)
  set_other none y (e ∷ l) zero (inr j) h = inr j
  set_other none y (e ∷ l) (suc i) (inl p) h = inl p
  set_other none y (e ∷ l) (suc i) (inr j) h = inr (set_other none y l i j h)

  -- the others
  pub put_other : (none y : A) (l : List A) (k : ℕ) → In y l → y ≢ nth none l k → In y (put l k x)
  put_other none y l zero j h = j
  put_other none y l (suc i) j h = set_other none y l i j h
