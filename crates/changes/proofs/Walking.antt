-- The turns of the loop that walks to a spot, in plain variables: next and stops say what the calls gave, n links are left.
--   Reaches next stops n prev cur m p c     what is reached from prev and cur with n links is reached from p and c with m
-- Assumes nothing.
use mathlib.Core.Path.{◌≡◌, refl, sym, subst}
use mathlib.Core.Bool.{Bool, true, false}
use Prim.Native.Nat.{ℕ, zero, suc, ◌+◌, ◌-◌, ◌≤◌, ◌<◌}
use native.Mathlib.Omega.{arith}
use Rattle.std.specs.Prelude.{Option, Some, None}
use Rattle.changes.specs.declared.spot.Spot.{Spot}
use Rattle.changes.specs.Spots.{Walks}

module _ {N : Type 0} (next : N → Option N → Type 0) (stops : N → Bool → Type 0) where
  abbrev pub Reaches : ℕ → Option N → Option N → ℕ → Option N → Option N → Type 0
  Reaches n prev cur m p c = (at : Spot N) → Walks next stops n prev cur at → Walks next stops m p c at

  -- before the first
  pub starts : (most : ℕ) (prev cur : Option N) → Reaches (most - 0) prev cur most prev cur
  starts most prev cur at w = subst (λ (k : ℕ). Walks next stops k prev cur at) (omega arith) w

  -- past one that stops isn't true of
  pub onward : (most i : ℕ) (prev cur y : Option N) (x : N) (p c : Option N) → i < most → cur ≡ Some x → stops x false → next x y
      → Reaches (most - i) prev cur most p c → Reaches (most - (i + 1)) cur y most p c
  onward most i prev cur y x p c h e t s r at w =
      let left : suc (most - (i + 1)) ≡ most - i = omega arith in
      r at (subst (λ (k : ℕ). Walks next stops k prev cur at) left
      (subst (λ (v : Option N). Walks next stops (suc (most - (i + 1))) prev v at) (sym e)
      (false, t, (y, s, subst (λ (v : Option N). Walks next stops (most - (i + 1)) v y at) e w))))

  -- after the last link
  pub spent : (n : ℕ) (prev cur : Option N) → n ≤ 0 → Walks next stops n prev cur (record { prev = prev; cur = cur })
  spent n prev cur h =
      let none : 0 ≡ n = omega arith in
      subst (λ (k : ℕ). Walks next stops k prev cur (record { prev = prev; cur = cur })) none refl

  -- at the end of the queue
  pub ended : (n : ℕ) (prev cur : Option N) → cur ≡ None → Walks next stops n prev cur (record { prev = prev; cur = cur })
  ended n prev cur e =
      subst (λ (v : Option N). Walks next stops n prev v (record { prev = prev; cur = v })) (sym e) (go n)
    where
      go : (n : ℕ) → Walks next stops n prev None (record { prev = prev; cur = None })
      go zero = refl
      go (suc n) = refl

  -- at one that stops is true of
  pub stopped : (n : ℕ) (prev cur : Option N) (x : N) → cur ≡ Some x → stops x true
      → Walks next stops n prev cur (record { prev = prev; cur = cur })
  stopped n prev cur x e t =
      subst (λ (v : Option N). Walks next stops n prev v (record { prev = prev; cur = v })) (sym e) (go n)
    where
      go : (n : ℕ) → Walks next stops n prev (Some x) (record { prev = prev; cur = Some x })
      go zero = refl
      go (suc n) = (true, t, refl)
