-- The smallest number that fails a test: none where each passes, and else one that fails, with only such before it as pass.
-- Assumes nothing.
use mathlib.Core.Path.{◌≡◌, refl, sym, ap, ◌∙◌}
use mathlib.Core.Bool.{Bool, true, false, cond, ◌&&◌, true≢false}
use Prim.Native.Nat.{ℕ, zero, suc, ◌+◌, ◌≤◌, ◌<◌}
use native.Mathlib.Omega.{arith}
use native.Mathlib.Decide.{ℕ_discrete}
use lib.Dec.{leb}
use borrow.Author.Tests.{leb-true, leb-false}
use Rattle.links.specs.Queue.{each, or_else, smallest_failing}
use Rattle.links.proofs.Bools.{both, each_at}

module _ (f : ℕ → Bool) where
  -- the next number asked, behind x as the smallest so far
  abbrev further : ℕ → ℕ → ℕ
  further n x = or_else x (cond (f (suc n)) 0 (suc n))

  -- each passes
  pub smallest_none : (n : ℕ) → each f n ≡ true → smallest_failing f n ≡ 0
  smallest_none zero e = refl
  smallest_none (suc n) e =
      let r = both (each f n) (f (suc n)) e in
      ap (further n) (smallest_none n r.0) ∙ ap (λ (t : Bool). cond t 0 (suc n)) r.1

  -- each up to k passes, and the next does not
  pub smallest_is : (n k : ℕ) → k < n → each f k ≡ true → f (k + 1) ≡ false → smallest_failing f n ≡ k + 1
  smallest_is zero k h e g = absurd (omega arith)
  smallest_is (suc n) k h e g = go (ℕ_discrete k n) (λ i. smallest_is n k i e g)
    where
      go : Dec (k ≡ n) → (k < n → smallest_failing f n ≡ k + 1) → smallest_failing f (suc n) ≡ k + 1
      go (yes i) ih =
          let s : suc n ≡ k + 1 = omega arith in
          ap (further n) (smallest_none n (sym (ap (each f) i) ∙ e)) ∙ ap (λ (t : Bool). cond t 0 (suc n)) (ap f s ∙ g) ∙ s
      go (no i) ih =
          let s : k + 1 ≡ suc k = omega arith in
          ap (further n) (ih (omega (arith, i)) ∙ s) ∙ sym s

  -- not each passes: so many do, and then one that does not
  pub record Failing (n : ℕ) : Type 0 where
    pub before : ℕ
    pub below : before < n
    pub pass : each f before ≡ true
    pub fails : f (before + 1) ≡ false

  pub first_failing : (n : ℕ) → each f n ≡ false → Failing n
  first_failing zero e = absurd (true≢false e)
  first_failing (suc n) e = go (each f n) refl (first_failing n)
    where
      go : (t : Bool) → each f n ≡ t → (each f n ≡ false → Failing n) → Failing (suc n)
      go true p ih =
          let s : n + 1 ≡ suc n = omega arith in
          record { before = n; below = omega arith; pass = p; fails = ap f s ∙ sym (ap (λ (t : Bool). t && f (suc n)) p) ∙ e }
      go false p ih =
          let r = ih p in
          record { before = r.before; below = omega (arith, r.below); pass = r.pass; fails = r.fails }

  -- then the smallest is one of the numbers, fails, and each before it passes
  pub smallest_one : (n : ℕ) → each f n ≡ false → (1 ≤ smallest_failing f n) × (smallest_failing f n ≤ n)
  smallest_one n e =
      let r = first_failing n e in
      let q = smallest_is n r.before r.below r.pass r.fails in (omega arith, omega (arith, r.below))

  pub smallest_fails : (n : ℕ) → each f n ≡ false → f (smallest_failing f n) ≡ false
  smallest_fails n e = let r = first_failing n e in ap f (smallest_is n r.before r.below r.pass r.fails) ∙ r.fails

  pub smallest_least : (n : ℕ) → each f n ≡ false → (k : ℕ) → 1 ≤ k → f k ≡ false → smallest_failing f n ≤ k
  smallest_least n e k h g =
      let r = first_failing n e in
      go r.before r.pass (smallest_is n r.before r.below r.pass r.fails) (leb k r.before) refl
    where
      go : (i : ℕ) → each f i ≡ true → smallest_failing f n ≡ i + 1 → (t : Bool) → leb k i ≡ t → smallest_failing f n ≤ k
      go i p q true d = absurd (true≢false (sym (each_at f i p k h (leb-true k i d)) ∙ g))
      go i p q false d = let j = leb-false k i d in omega arith

  -- and it stays the smallest behind one more number
  pub smallest_stays : (n : ℕ) → each f n ≡ false → smallest_failing f (n + 1) ≡ smallest_failing f n
  smallest_stays n e =
      let r = first_failing n e in
      let i : r.before < n + 1 = omega (arith, r.below) in
      smallest_is (n + 1) r.before i r.pass r.fails ∙ sym (smallest_is n r.before r.below r.pass r.fails)
