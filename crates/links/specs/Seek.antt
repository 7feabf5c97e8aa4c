-- The walk that looks for a place in a queue, as code makes it. Contracts of code cite this file; what it finds is proved (proofs/Seeking),
-- so no reader needs to believe it.
--   Spot                          where the walk stands: the last number passed and the number stopped at, 0 for none
--   seek goes next n prev cur     from cur, with prev just passed, to the first that goes is true of; at most n turns
-- Assumes nothing.
use Rattle.std.specs.Prelude.{Bool, true, false, ℕ, zero, suc}

pub record Spot : Type 0 where
  pub prev : ℕ
  pub cur : ℕ

abbrev pub seek : (ℕ → Bool) → (ℕ → ℕ) → ℕ → ℕ → ℕ → Spot
seek goes next zero prev cur = record { prev = prev; cur = cur }
seek goes next (suc n) prev zero = record { prev = prev; cur = 0 }
seek goes next (suc n) prev (suc x) =
    elim (goes (suc x)) [ true ↦ record { prev = prev; cur = suc x } | false ↦ seek goes next n (suc x) (next (suc x)) ]
