-- The walk that looks for a place in a queue, as code makes it: the last number passed and the number stopped at, 0 for none.
-- Assumes nothing.
use mathlib.Core.Path.{◌≡◌, refl, ap, ◌∙◌}
use mathlib.Core.Bool.{Bool, true, false}
use mathlib.Core.List.{List, [], ◌∷◌}
use Prim.Native.Nat.{ℕ, zero, suc, ◌-◌, ◌≤◌, ◌<◌}
use native.Mathlib.Omega.{arith}
use lib.ListN.{length}
use Rattle.links.specs.Queue.{first_of}
use Rattle.links.specs.Chain.{Chain}
use Rattle.links.specs.Seek.{seek}
use Rattle.links.proofs.Insertion.{before, after, last_or, last0}

-- ---- a turn, where fuel and number are no `suc`
-- one that is passed
pub seek-turn : (goes : ℕ → Bool) (next : ℕ → ℕ) (n prev cur : ℕ) → 0 < n → 0 < cur → goes cur ≡ false
    → seek goes next n prev cur ≡ seek goes next (n - 1) cur (next cur)
seek-turn goes next zero prev cur h g e = absurd (omega arith)
seek-turn goes next (suc n) prev zero h g e = absurd (omega arith)
seek-turn goes next (suc n) prev (suc x) h g e =
    let d : n ≡ suc n - 1 = omega arith in rw (e, seek) (ap (λ (k : ℕ). seek goes next k (suc x) (next (suc x))) d)

-- one that is stopped at
pub seek_found : (goes : ℕ → Bool) (next : ℕ → ℕ) (n prev cur : ℕ) → goes cur ≡ true
    → seek goes next n prev cur ≡ record { prev = prev; cur = cur }
seek_found goes next zero prev cur e = refl
seek_found goes next (suc n) prev zero e = refl
seek_found goes next (suc n) prev (suc x) e = rw (e, seek)

-- the end of the links
pub seek_end : (goes : ℕ → Bool) (next : ℕ → ℕ) (n prev cur : ℕ) → cur ≡ 0
    → seek goes next n prev cur ≡ record { prev = prev; cur = cur }
seek_end goes next zero prev cur e = refl
seek_end goes next (suc n) prev cur e = rw e

-- the end of the fuel
pub seek_out : (goes : ℕ → Bool) (next : ℕ → ℕ) (n prev cur : ℕ) → n ≡ 0
    → seek goes next n prev cur ≡ record { prev = prev; cur = cur }
seek_out goes next n prev cur e = rw e

-- ---- what is found
-- from x on, with p just passed
seek_from : (goes : ℕ → Bool) (next : ℕ → ℕ) (n p x : ℕ) (q : List ℕ) → Chain next x q → length q ≤ n
    → seek goes next n p x ≡ record { prev = last_or p (before goes q); cur = first_of (after goes q) }
seek_from goes next n p x [] c h = seek_end goes next n p x c ∙ ap (λ (y : ℕ). record { prev = p; cur = y }) c
seek_from goes next n p x (y ∷ q) c h =
    ap (seek goes next n p) c.0 ∙ step (goes y) refl (seek_from goes next (n - 1) y (next y) q c.2 (omega arith))
  where
    step : (t : Bool) → goes y ≡ t
        → seek goes next (n - 1) y (next y) ≡ record { prev = last_or y (before goes q); cur = first_of (after goes q) }
        → seek goes next n p y ≡ record { prev = last_or p (before goes (y ∷ q)); cur = first_of (after goes (y ∷ q)) }
    step true e ih = rw (seek_found goes next n p y e, e, before, after)
    step false e ih = rw (e, before, after) (seek-turn goes next n p y (omega arith) (omega (arith, c.1)) e ∙ ih)

-- in a queue: the last of those before the first that goes is true of, and that one
pub seek_is : (goes : ℕ → Bool) (next : ℕ → ℕ) (n x : ℕ) (q : List ℕ) → Chain next x q → length q ≤ n
    → seek goes next n 0 x ≡ record { prev = last0 (before goes q); cur = first_of (after goes q) }
seek_is goes next n x q c h = seek_from goes next n 0 x q c h
