-- Chains of links: what fixes them, what leaves them as they are, and that the walk of a chain is the chain.
-- Assumes nothing.
use mathlib.Core.Path.{◌≡◌, refl, sym, ap, ap₂, ◌∙◌, subst}
use mathlib.Core.Logic.{inl, inr}
use mathlib.Core.Bool.{true}
use mathlib.Core.List.{List, [], ◌∷◌, ◌++◌}
use Prim.Native.Nat.{ℕ, zero, suc, ◌-◌, ◌≤◌, ◌<◌}
use native.Mathlib.Omega.{arith}
use lib.ListN.{length, length-append}
use borrow.Author.Tests.{eqb-true}
use Rattle.links.specs.Queue.{walk, ends, first_of}
use Rattle.links.specs.Chain.{In, Out, Once, All, Chain}
use Rattle.links.proofs.Members.{not_in_out, in_split}

-- ---- what a chain is
-- it starts with its first
pub chain_first : (next : ℕ → ℕ) (x : ℕ) (q : List ℕ) → Chain next x q → x ≡ first_of q
chain_first next x [] c = c
chain_first next x (y ∷ q) c = c.0

-- 0 is none of it
pub chain_out_zero : (next : ℕ → ℕ) (x : ℕ) (q : List ℕ) → Chain next x q → Out 0 q
chain_out_zero next x [] c = tt
chain_out_zero next x (y ∷ q) c = ((λ e. c.1 (sym e)), chain_out_zero next (next y) q c.2)

-- a start and the links fix it
pub chain_one : (next : ℕ → ℕ) (x : ℕ) (q r : List ℕ) → Chain next x q → Chain next x r → q ≡ r
chain_one next x [] [] c d = refl
chain_one next x [] (z ∷ r) c d = absurd (d.1 (sym d.0 ∙ c))
chain_one next x (y ∷ q) [] c d = absurd (c.1 (sym c.0 ∙ d))
chain_one next x (y ∷ q) (z ∷ r) c d =
    let e : y ≡ z = sym c.0 ∙ d.0 in
    ap₂ ◌∷◌ e (chain_one next (next y) q r c.2 (subst (λ (u : ℕ). Chain next (next u) r) (sym e) d.2))

-- links that list the same are the same at the members
pub chain-links : (f g : ℕ → ℕ) (x y : ℕ) (q : List ℕ) → Chain f x q → Chain g y q → (j : ℕ) → In j q → f j ≡ g j
chain-links f g x y [] c d j i = absurd i
chain-links f g x y (h ∷ q) c d j (inl e) =
    ap f e ∙ chain_first f (f h) q c.2 ∙ sym (chain_first g (g h) q d.2) ∙ ap g (sym e)
chain-links f g x y (h ∷ q) c d j (inr i) = chain-links f g (f h) (g h) q c.2 d.2 j i

-- from any place on it is a chain
pub chain_from : (next : ℕ → ℕ) (x : ℕ) (a b : List ℕ) → Chain next x (a ++ b) → Chain next (first_of b) b
chain_from next x [] b c = subst (λ (z : ℕ). Chain next z b) (chain_first next x b c) c
chain_from next x (y ∷ a) b c = chain_from next (next y) a b c.2

-- two that meet go the same way on
pub chain_meet : (next : ℕ → ℕ) (x y m : ℕ) (a b c d : List ℕ) → Chain next x (a ++ m ∷ b) → Chain next y (c ++ m ∷ d) → b ≡ d
chain_meet next x y m a b c d h g =
    chain_one next (next m) b d (chain_from next x a (m ∷ b) h).2 (chain_from next y c (m ∷ d) g).2

-- one that ends has no repeats
pub chain_once : (next : ℕ → ℕ) (x : ℕ) (q : List ℕ) → Chain next x q → Once q
chain_once next x [] c = tt
chain_once next x (y ∷ q) c = (not_in_out y q twice, chain_once next (next y) q c.2)
  where
    twice : In y q → ⊥
    twice i =
        let r = in_split y q i in
        let e : q ≡ r.back = chain_meet next x (next y) y [] q r.front r.back c (rw r.whole at c.2) in
        omega (arith, ap length e, ap length r.whole, length-append r.front (y ∷ r.back))

-- ---- what leaves a chain as it is
-- links matter at the members only
pub chain_frame : (f g : ℕ → ℕ) (x : ℕ) (q : List ℕ) → ((y : ℕ) → In y q → g y ≡ f y) → Chain f x q → Chain g x q
chain_frame f g x [] h c = c
chain_frame f g x (y ∷ q) h c = (c.0, c.1, rw (h y (inl refl)) (chain_frame f g (f y) q (λ z i. h z (inr i)) c.2))

-- links that are led nowhere where they leave a bound, and none of the members does
pub chain-within : (bound next : ℕ → ℕ) (x : ℕ) (q : List ℕ) → bound 0 ≡ 0 → All (λ y. bound y ≡ y) q → Chain next x q
    → Chain (λ y. bound (next y)) (bound x) q
chain-within bound next x [] e a c = ap bound c ∙ e
chain-within bound next x (y ∷ q) e a c =
    (ap bound c.0 ∙ a.0, c.1, chain-within bound next (next y) q e a.1 c.2)

-- what holds of 0 and of each member holds of where the links start
pub chain-start : (P : ℕ → Type 0) (next : ℕ → ℕ) (x : ℕ) (q : List ℕ) → P 0 → All P q → Chain next x q → P x
chain-start P next x [] h a c = subst P (sym c) h
chain-start P next x (y ∷ q) h a c = subst P (sym c.0) a.0

-- and of where a member's link leads
pub chain_next : (P : ℕ → Type 0) (next : ℕ → ℕ) (x m : ℕ) (q : List ℕ) → P 0 → All P q → Chain next x q → In m q → P (next m)
chain_next P next x m [] h a c i = absurd i
chain_next P next x m (y ∷ q) h a c (inl e) =
    subst (λ (u : ℕ). P (next u)) (sym e) (chain-start P next (next y) q h a.1 c.2)
chain_next P next x m (y ∷ q) h a c (inr i) = chain_next P next (next y) m q h a.1 c.2 i

-- ---- a turn of the walk, where fuel and number are no `suc`
-- one more is visited
pub walk_step : (next : ℕ → ℕ) (n x : ℕ) → 0 < n → 0 < x → walk next n x ≡ x ∷ walk next (n - 1) (next x)
walk_step next zero x h g = absurd (omega arith)
walk_step next (suc n) zero h g = absurd (omega arith)
walk_step next (suc n) (suc x) h g = let e : n ≡ suc n - 1 = omega arith in ap (λ (k : ℕ). suc x ∷ walk next k (next (suc x))) e

-- at 0 nothing is visited
pub walk_end : (next : ℕ → ℕ) (n x : ℕ) → x ≡ 0 → walk next n x ≡ []
walk_end next zero x e = refl
walk_end next (suc n) x e = rw e

-- at 0 the walk ends
pub ends_end : (next : ℕ → ℕ) (n x : ℕ) → x ≡ 0 → ends next n x ≡ true
ends_end next zero x e = rw e
ends_end next (suc n) x e = rw e

-- ---- the walk is the chain
-- a walk visits no more than its fuel
pub walk-length : (next : ℕ → ℕ) (n x : ℕ) → length (walk next n x) ≤ n
walk-length next zero x = omega arith
walk-length next (suc n) zero = omega arith
walk-length next (suc n) (suc x) = omega (arith, walk-length next n (next (suc x)))

-- a walk that ends is a chain
pub walk-chain : (next : ℕ → ℕ) (n x : ℕ) → ends next n x ≡ true → Chain next x (walk next n x)
walk-chain next zero x e = eqb-true x 0 e
walk-chain next (suc n) zero e = refl
walk-chain next (suc n) (suc x) e = (refl, omega arith, walk-chain next n (next (suc x)) e)

-- a chain no longer than the fuel is what is walked, and the walk ends
pub chain-walk : (next : ℕ → ℕ) (n x : ℕ) (q : List ℕ) → Chain next x q → length q ≤ n
    → (walk next n x ≡ q) × (ends next n x ≡ true)
chain-walk next n x [] c h = (walk_end next n x c, ends_end next n x c)
chain-walk next zero x (y ∷ q) c h = absurd (omega arith)
chain-walk next (suc n) zero (y ∷ q) c h = absurd (c.1 (sym c.0))
chain-walk next (suc n) (suc x) (y ∷ q) c h =
    let d : Chain next (next (suc x)) q = subst (λ (u : ℕ). Chain next (next u) q) (sym c.0) c.2 in
    let r = chain-walk next n (next (suc x)) q d (omega arith) in
    (ap₂ ◌∷◌ c.0 r.0, r.1)
