-- What a test says: it passes exactly if a statement holds. Tests put together say their statements put together.
-- Assumes nothing.
use mathlib.Core.Path.{◌≡◌, refl, sym}
use mathlib.Core.Logic.{◌⊎◌, inl, inr, ⊎_elim, ◌↔◌}
use mathlib.Core.Bool.{Bool, true, false, not, ◌&&◌, ◌||◌, true≢false}
use Prim.Native.Nat.{ℕ, ◌≤◌, ◌<◌}
use lib.Dec.{eqb, leb, ltb}
use borrow.Author.Tests.{eqb-true, eq-eqb, leb-true, le-leb, ltb-true, lt-ltb}
use Rattle.links.specs.Queue.{each}
use Rattle.links.proofs.Bools.{refuted, both, and_true, each_at, each_all}
use Rattle.board.specs.Numbers.{Numbered}

-- the test t passes exactly if P holds
abbrev pub Says : Bool → Type 0 → Type 0
Says t P = (t ≡ true) ↔ P

-- ---- of numbers
-- it is 0
pub says_zero : {n : ℕ} → Says (eqb n 0) (n ≡ 0)
says_zero {n = n} = (eqb-true n 0, eq-eqb n 0)

-- the first is at most the second
pub says_leb : {a b : ℕ} → Says (leb a b) (a ≤ b)
says_leb {a = a} {b = b} = (leb-true a b, le-leb a b)

-- the first is below the second
pub says_ltb : {a b : ℕ} → Says (ltb a b) (a < b)
says_ltb {a = a} {b = b} = (ltb-true a b, lt-ltb a b)

-- two tests that say the same are the same
pub says_same : {s t : Bool} {P : Type 0} → Says s P → Says t P → s ≡ t
says_same {s = true} h g = sym (g.1 (h.0 refl))
says_same {s = false} h g = sym (refuted _ (λ e. true≢false (sym (h.1 (g.0 e)))))

-- ---- put together
infixl 35 ◌&◌
-- both at once
pub ◌&◌ : {s t : Bool} {P Q : Type 0} → Says s P → Says t Q → Says (s && t) (P × Q)
◌&◌ {s = s} {t = t} h g =
    ((λ e. let r = both s t e in (h.0 r.0, g.0 r.1)), λ p. and_true s t (h.1 p.0) (g.1 p.1))

-- one or the other
pub says_or : {s t : Bool} {P Q : Type 0} → Says s P → Says t Q → Says (s || t) (P ⊎ Q)
says_or {s = true} h g = ((λ e. inl (h.0 refl)), λ p. refl)
says_or {s = false} h g = ((λ e. inr (g.0 e)), ⊎_elim (λ p. absurd (true≢false (sym (h.1 p)))) g.1)

-- the other, where the one passes
pub says_where : {s t : Bool} {Q : Type 0} → Says t Q → Says (not s || t) (s ≡ true → Q)
says_where {s = true} g = ((λ e i. g.0 e), λ h. g.1 (h refl))
says_where {s = false} g = ((λ e i. absurd (true≢false (sym i))), λ h. refl)

-- each from 1 to n
pub says_each : {f : ℕ → Bool} {P : ℕ → Type 0} {n : ℕ} → ((k : ℕ) → Says (f k) (P k))
    → Says (each f n) ((k : ℕ) → Numbered n k → P k)
says_each {f = f} {n = n} h =
    ((λ e k i. (h k).0 (each_at f n e k i.0 i.1)), λ a. each_all f n (λ k g i. (h k).1 (a k (g, i))))

-- ---- turned round
-- the test fails
pub says_not : {t : Bool} → Says (not t) (t ≡ false)
says_not {t = true} = (sym, sym)
says_not {t = false} = ((λ e. refl), λ e. refl)

-- what it says doesn't hold
pub says_never : {t : Bool} {P : Type 0} → Says t P → Says (not t) (P → ⊥)
says_never {t = true} h = ((λ e. absurd (true≢false (sym e))), λ n. absurd (n (h.0 refl)))
says_never {t = false} h = ((λ e p. true≢false (sym (h.1 p))), λ n. refl)

-- where the one passes the other fails
pub says_apart : {s t : Bool} → Says (not (s && t)) (s ≡ true → t ≡ false)
says_apart {s = true} = ((λ e i. says_not.0 e), λ h. says_not.1 (h refl))
says_apart {s = false} = ((λ e i. absurd (true≢false (sym i))), λ h. refl)
