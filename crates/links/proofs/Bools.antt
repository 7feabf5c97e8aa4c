-- A test that cannot pass, two tests at once, a choice, a test of each number from 1 to n, and one of each in a list.
-- Assumes nothing.
use mathlib.Core.Path.{◌≡◌, refl, sym, ap, ◌∙◌}
use mathlib.Core.Bool.{Bool, true, false, cond, ◌&&◌, true≢false}
use mathlib.Core.List.{List, [], ◌∷◌}
use Prim.Native.Nat.{ℕ, zero, suc, ◌+◌, ◌≤◌}
use native.Mathlib.Omega.{arith}
use native.Mathlib.Decide.{ℕ_discrete}
use Rattle.links.specs.Queue.{each}
use Rattle.links.specs.Chain.{All}

-- ---- one test
-- one that cannot pass fails
pub refuted : (t : Bool) → (t ≡ true → ⊥) → t ≡ false
refuted true h = absurd (h refl)
refuted false h = refl

-- ---- two tests
-- where both together pass, each passes
pub both : (s t : Bool) → s && t ≡ true → (s ≡ true) × (t ≡ true)
both true t e = (refl, e)
both false t e = absurd (true≢false (sym e))

-- where each passes, both together pass
pub and_true : (s t : Bool) → s ≡ true → t ≡ true → s && t ≡ true
and_true s t e h = rw (e, h)

-- ---- a choice
-- what holds of both holds of the one taken
pub cond_holds : {A : Type 0} (P : A → Type 0) (t : Bool) (x y : A) → (t ≡ true → P x) → (t ≡ false → P y) → P (cond t x y)
cond_holds P true x y h g = h refl
cond_holds P false x y h g = g refl

-- ---- each number from 1 to n
-- what passes for each passes for any one
pub each_at : (f : ℕ → Bool) (n : ℕ) → each f n ≡ true → (k : ℕ) → 1 ≤ k → k ≤ n → f k ≡ true
each_at f zero e k h g = absurd (omega arith)
each_at f (suc n) e k h g = let r = both (each f n) (f (suc n)) e in step r.1 (ℕ_discrete k (suc n)) (each_at f n r.0 k h)
  where
    step : f (suc n) ≡ true → Dec (k ≡ suc n) → (k ≤ n → f k ≡ true) → f k ≡ true
    step top (yes i) ih = ap f i ∙ top
    step top (no i) ih = ih (omega arith)

-- where it fails for one, not each passes
pub each_fails : (f : ℕ → Bool) (n k : ℕ) → 1 ≤ k → k ≤ n → f k ≡ false → each f n ≡ false
each_fails f n k h g e = refuted (each f n) (λ a. true≢false (sym (each_at f n a k h g) ∙ e))

-- what passes for any one passes for each
pub each_all : (f : ℕ → Bool) (n : ℕ) → ((k : ℕ) → 1 ≤ k → k ≤ n → f k ≡ true) → each f n ≡ true
each_all f zero h = refl
each_all f (suc n) h =
    and_true (each f n) (f (suc n)) (each_all f n (λ k g i. h k g (omega arith))) (h (suc n) (omega arith) (omega arith))

-- one more passes
pub each_next : (f : ℕ → Bool) (k : ℕ) → each f k ≡ true → f (k + 1) ≡ true → each f (k + 1) ≡ true
each_next f k e h =
    let s : k + 1 ≡ suc k = omega arith in ap (each f) s ∙ and_true (each f k) (f (suc k)) e (ap f (sym s) ∙ h)

-- ---- each in a list
abbrev pub every : {A : Type 0} → (A → Bool) → List A → Bool
every test [] = true
every test (x ∷ l) = test x && every test l

-- what passes for each holds of all
pub every_all : {A : Type 0} (test : A → Bool) (l : List A) → every test l ≡ true → All (λ x. test x ≡ true) l
every_all test [] e = tt
every_all test (x ∷ l) e = let r = both (test x) (every test l) e in (r.0, every_all test l r.1)
