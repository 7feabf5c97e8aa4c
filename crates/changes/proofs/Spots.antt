-- What a walk by closures finds is the spot that the walk over words finds: next gives what a link means, stops whether goes.
-- Assumes nothing.
use mathlib.Core.Path.{◌≡◌, refl, ap, ◌∙◌, subst}
use mathlib.Core.Bool.{Bool, true, false}
use Prim.Native.Nat.{ℕ, zero, suc, ◌-◌}
use native.Mathlib.Omega.{arith}
use Rattle.std.specs.Prelude.{Option, Some, None}
use Rattle.links.specs.Seek.{seek}
use Rattle.board.specs.Numbers.{stored}
use Rattle.stores.proofs.Seeks.{Kind, Seeks, Found, real, ended, spent, stopped, passed}
use Rattle.changes.specs.declared.spot.Spot.{Spot}
use Rattle.changes.specs.Spots.{spot_meant, Walks}

module _ {K : Type 0} {no : K → ℕ} {meant : ℕ → Option K} {bound : ℕ → ℕ} (kind : Kind (stored no) meant bound Some no)
    {next : K → Option K → Type 0} {stops : K → Bool → Type 0} (goes : ℕ → Bool) (link : ℕ → ℕ)
    (leads : (k : K) (y : Option K) → next k y → y ≡ meant (link (no k)))
    (says : (k : K) (t : Bool) → stops k t → goes (no k) ≡ t) where
  same : {prev cur : Option K} {at : Spot K} {s : _} → at ≡ record { prev = prev; cur = cur } → Found meant prev cur s
      → at ≡ spot_meant meant s
  same e (p, c) = e ∙ (λ i. record { prev = p i; cur = c i })

  walked : (most x n : ℕ) (prev cur : Option K) (at : Spot K)
      → Seeks (stored no) meant goes (λ y. bound (link y)) most x n prev cur
      → Walks next stops n prev cur at → at ≡ spot_meant meant (seek goes (λ y. bound (link y)) most 0 x)
  walked most x zero prev cur at inv w = same w (spent inv (omega arith))
  walked most x (suc n) prev None at inv w = same w (ended inv refl)
  walked most x (suc n) prev (Some k) at inv (true, t, w) = same w (stopped kind inv k refl (says k true t))
  walked most x (suc n) prev (Some k) at inv (false, t, (y, s, w)) =
      let left : suc n - 1 ≡ n = omega arith in
      walked most x n (Some k) y at
      (subst (λ (m : ℕ). Seeks (stored no) meant goes (λ y. bound (link y)) most x m (Some k) y) left
      (passed kind inv k refl y (link (no k)) (omega arith) (says k false t) (leads k y s) refl)) w

  pub spot_found : (most w : ℕ) (first : Option K) (at : Spot K) → None ≡ meant 0 → first ≡ meant w
      → Walks next stops most None first at
      → at ≡ spot_meant meant (seek goes (λ y. bound (link y)) most 0 (bound w))
  spot_found most w first at e ef h =
      let r = real kind first w ef in
      walked most _ most None first at (record { same = refl; last = e; here = r.1 }) h
      ∙ ap (λ (x : ℕ). spot_meant meant (seek goes (λ y. bound (link y)) most 0 x)) r.0
