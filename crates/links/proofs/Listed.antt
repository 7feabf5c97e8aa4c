-- R3 and R5: `lists` says that the links from x are a chain of exactly the members, priority numbers never falling.
-- Assumes nothing.
use mathlib.Core.Path.{◌≡◌, refl, sym, ◌∙◌}
use mathlib.Core.Logic.{⊎_elim}
use mathlib.Core.Bool.{Bool, true, false, ◌&&◌, true≢false}
use mathlib.Core.List.{List}
use Prim.Native.Nat.{ℕ, ◌≤◌}
use native.Mathlib.Omega.{arith}
use lib.ListN.{length}
use Rattle.links.specs.Queue.{walk, ends, rearranged, rising, lists}
use Rattle.links.specs.Chain.{In, Out, Once, All, Sorted, Chain}
use Rattle.links.proofs.Bools.{both, and_true}
use Rattle.links.proofs.Members.{all_of}
use Rattle.links.proofs.Chains.{chain_once, walk-chain, chain-walk}
use Rattle.links.proofs.Exactly.{rearranged-length, not_rearranged, counted-rearranged}
use Rattle.links.proofs.Insertion.{rising-sorted, sorted-rising}

-- ---- what the test says
module _ (next number : ℕ → ℕ) (n x : ℕ) (members : List ℕ) where
  -- its three parts
  pub lists_parts : lists next number n x members ≡ true
      → (ends next n x ≡ true) × (rearranged (walk next n x) members ≡ true) × (rising number 0 (walk next n x) ≡ true)
  lists_parts e =
      let r = both (ends next n x && rearranged (walk next n x) members) (rising number 0 (walk next n x)) e in
      let s = both (ends next n x) (rearranged (walk next n x) members) r.0 in
      (s.0, s.1, r.1)

  -- where they pass it passes
  parts_lists : ends next n x ≡ true → rearranged (walk next n x) members ≡ true → rising number 0 (walk next n x) ≡ true
      → lists next number n x members ≡ true
  parts_lists e h g =
      and_true (ends next n x && rearranged (walk next n x) members) (rising number 0 (walk next n x))
      (and_true (ends next n x) (rearranged (walk next n x) members) e h) g

  -- where it fails the walk does not end, meets another, misses a member, or a priority number falls: F, if each of these gives F
  pub lists_fails : (F : Type 0) → Once members → (ends next n x ≡ false → F)
      → ((y : ℕ) → In y (walk next n x) → Out y members → F) → ((y : ℕ) → In y members → Out y (walk next n x) → F)
      → (rising number 0 (walk next n x) ≡ false → F)
      → lists next number n x members ≡ false → F
  lists_fails F d noEnd meets misses falls e =
      step (ends next n x) refl (rearranged (walk next n x) members) refl (rising number 0 (walk next n x)) refl
    where
      strays : ends next n x ≡ true → rearranged (walk next n x) members ≡ false → F
      strays h g =
          ⊎_elim (λ (y, i, o). meets y i o) (λ (y, i, o). misses y i o)
          (not_rearranged (walk next n x) members (chain_once next x (walk next n x) (walk-chain next n x h)) d g)

      step : (s : Bool) → ends next n x ≡ s → (t : Bool) → rearranged (walk next n x) members ≡ t
          → (u : Bool) → rising number 0 (walk next n x) ≡ u → F
      step false h t g u r = noEnd h
      step true h false g u r = strays h g
      step true h true g false r = falls r
      step true h true g true r = absurd (true≢false (sym (parts_lists h g r) ∙ e))

  -- a queue that passes is a chain of the members, each as often, sorted
  pub lists-chain : lists next number n x members ≡ true
      → Chain next x (walk next n x) × (rearranged (walk next n x) members ≡ true) × Sorted number (walk next n x)
  lists-chain e =
      let r = lists_parts e in
      (walk-chain next n x r.0, r.1, (rising-sorted number 0 (walk next n x) r.2).1)

  -- a chain of the members, each as often, sorted, passes with fuel for them, and it is what is walked
  pub chain-lists : (q : List ℕ) → Chain next x q → rearranged q members ≡ true → Sorted number q → length members ≤ n
      → (lists next number n x members ≡ true) × (walk next n x ≡ q)
  chain-lists q c e s h =
      let w = chain-walk next n x q c (omega (arith, rearranged-length q members e)) in
      let g = sorted-rising number 0 q (all_of _ q (λ y i. omega arith)) s in
      (parts_lists w.1 (rw w.0 e) (rw w.0 g), w.0)

  -- a walk that ends, of members only, as many as there are, priority numbers never falling, passes
  pub lists-counted : ends next n x ≡ true → All (λ y. In y members) (walk next n x) → length (walk next n x) ≡ length members
      → rising number 0 (walk next n x) ≡ true → lists next number n x members ≡ true
  lists-counted e h l g =
      parts_lists e (counted-rearranged (walk next n x) members (chain_once next x (walk next n x) (walk-chain next n x e)) h l) g
