-- The entries that the machine keeps, of tasks and of messages alike: each made at its own time before now, with the priority
-- number that is read of its id now, and no two of one id. So they are with one entry more, and with one less.
-- Assumes nothing.
use mathlib.Core.Path.{◌≡◌, sym, ap, ◌∙◌, subst}
use mathlib.Core.Logic.{◌≢◌, ◌⊎◌, inl, inr}
use mathlib.Core.Bool.{Bool, true, not}
use mathlib.Core.List.{List, [], ◌∷◌, ◌++◌}
use Prim.Native.Nat.{ℕ, suc, ◌≤◌, ◌<◌}
use native.Mathlib.Omega.{arith}
use lib.Dec.{eqb}
use borrow.Author.Tests.{eqb-false, not-true}
use Rattle.links.specs.Chain.{In}
use Rattle.links.proofs.Members.{in_add}
use Rattle.history.specs.Ranking.{Entry, keep, DifferentTimes}
use Rattle.history.proofs.Entries.{times_add, times-keep, in_keep}

-- number reads the priority number of an id
pub record Roll (number : ℕ → ℕ) (now : ℕ) (l : List Entry) : Type 0 where
  pub times : DifferentTimes l
  pub past : (x : Entry) → In x l → x.time < now
  pub numbers : (x : Entry) → In x l → number x.id ≡ x.number
  pub single : (x y : Entry) → In x l → In y l → x.id ≡ y.id → x ≡ y

-- all but the entry of m
abbrev pub others : ℕ → Entry → Bool
others m e = not (eqb e.id m)

module _ (number number' : ℕ → ℕ) (now : ℕ) (l : List Entry) (h : Roll number now l) where
  -- later on, where the numbers read are the same
  pub roll_stays : (now' : ℕ) → now ≤ now' → ((x : Entry) → In x l → number' x.id ≡ number x.id) → Roll number' now' l
  roll_stays now' n g = record {
    times = h.times;
    past = λ x s. omega (arith, h.past x s);
    numbers = λ x s. g x s ∙ h.numbers x s;
    single = h.single;
  }

  -- without the entry of m, where the numbers read of others are the same
  pub roll_without : (m : ℕ) → ((k : ℕ) → k ≢ m → number' k ≡ number k) → Roll number' now (keep (others m) l)
  roll_without m g = record {
    times = times-keep (others m) l h.times;
    past = λ x s. h.past x (from x s).0;
    numbers = λ x s. g x.id (eqb-false x.id m (not-true _ (from x s).1)) ∙ h.numbers x (from x s).0;
    single = λ x y s t. h.single x y (from x s).0 (from y t).0;
  }
    where
      from : (x : Entry) → In x (keep (others m) l) → In x l × (others m x ≡ true)
      from x = (in_keep (others m) x l).0

  -- ---- an entry made now, of an id that has none
  module _ (e : Entry) (made : e.time ≡ now) (own : number' e.id ≡ e.number)
      (new : (x : Entry) → In x l → x.id ≢ e.id) (same : (k : ℕ) → k ≢ e.id → number' k ≡ number k) where
    single_add : (x y : Entry) → In x l ⊎ (x ≡ e) → In y l ⊎ (y ≡ e) → x.id ≡ y.id → x ≡ y
    single_add x y (inl s) (inl t) i = h.single x y s t i
    single_add x y (inl s) (inr q) i = absurd (new x s (i ∙ ap (λ (z : Entry). z.id) q))
    single_add x y (inr p) (inl t) i = absurd (new y t (sym i ∙ ap (λ (z : Entry). z.id) p))
    single_add x y (inr p) (inr q) i = p ∙ sym q

    past_add : (x : Entry) → In x l ⊎ (x ≡ e) → x.time < suc now
    past_add x (inl s) = omega (arith, h.past x s)
    past_add x (inr p) = omega (arith, ap (λ (z : Entry). z.time) p, made)

    numbers_add : (x : Entry) → In x l ⊎ (x ≡ e) → number' x.id ≡ x.number
    numbers_add x (inl s) = same x.id (new x s) ∙ h.numbers x s
    numbers_add x (inr p) = subst (λ (z : Entry). number' z.id ≡ z.number) (sym p) own

    earlier : (x : Entry) → In x l → x.time < e.time
    earlier x s = omega (arith, h.past x s, made)

    -- with it
    pub roll_add : Roll number' (suc now) (l ++ (e ∷ []))
    roll_add = record {
      times = times_add l e h.times earlier;
      past = λ x s. past_add x ((in_add x e l).0 s);
      numbers = λ x s. numbers_add x ((in_add x e l).0 s);
      single = λ x y s t. single_add x y ((in_add x e l).0 s) ((in_add y e l).0 t);
    }
