-- What holds of every byte, by one computed test.
-- Assumes nothing.
use mathlib.Core.Path.{◌≡◌, refl, ap, ◌∙◌}
use mathlib.Core.Bool.{Bool, true, false, false≢true, ◌&&◌}
use Prim.Native.Nat.{ℕ, zero, suc, ◌<◌}
use native.Mathlib.Omega.{arith}
use native.Mathlib.Decide.{ℕ_discrete}

-- the test passes at every number below n
abbrev pub below : (ℕ → Bool) → ℕ → Bool
below p zero = true
below p (suc n) = p n && below p n

both : (s t : Bool) → (s && t) ≡ true → (s ≡ true) × (t ≡ true)
both true t e = (refl, e)
both false t e = absurd (false≢true e)

-- a test that passes at every number below n passes at each
pub below_at : (p : ℕ → Bool) (n : ℕ) → below p n ≡ true → (x : ℕ) → x < n → p x ≡ true
below_at p zero e x h = absurd (omega arith)
below_at p (suc n) e x h = go (both (p n) (below p n) e) (below_at p n (both (p n) (below p n) e).1 x) (ℕ_discrete x n)
  where
    go : (p n ≡ true) × (below p n ≡ true) → (x < n → p x ≡ true) → Dec (x ≡ n) → p x ≡ true
    go b ih (yes q) = ap p q ∙ b.0
    go b ih (no q) = ih (omega arith)
