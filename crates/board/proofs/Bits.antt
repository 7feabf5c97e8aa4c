-- STAT bit by bit: what is set reads set, what is cleared reads clear, every other bit stays, and a bit changed and changed back
-- leaves the status. And bit 0 of PRIO. What is asked of the masks alone, or of every byte, is computed: at the bits by name it
-- is `refl`.
-- Assumes nothing.
use mathlib.Core.Path.{◌≡◌, refl, sym, ap, ap₂, ◌∙◌}
use mathlib.Core.Bool.{Bool, true, false, not, ◌||◌, true≢false}
use Prim.Native.Nat.{ℕ, ◌-◌, ◌/◌, ◌%◌, ◌<◌}
use native.Mathlib.Nat.{mod-lt}
use native.Mathlib.Omega.{arith}
use lib.Arith.{bin_ind}
use lib.Bits.{bit_and, bit_or, and_shr, and_mod, or_shr, or_mod, and_zero_r, or_zero_r}
use lib.Bits.{and_le_l, or_lt}
use lib.Dec.{eqb, lit<}
use borrow.Author.Tests.{eq-eqb, eqb-true}
use Rattle.board.specs.declared.status.Status.{Status}
use Rattle.board.specs.Status.{has, stored, with_bit, without_bit, number, fifo, with_fifo}
use Rattle.board.proofs.EveryByte.{below, below_at}

-- ---- equations of three numbers that go digit by digit
record Digitwise (f : ℕ → ℕ → ℕ → ℕ) : Type 0 where
  half : (a b c : ℕ) → f a b c / 2 ≡ f (a / 2) (b / 2) (c / 2)
  last : (a b c : ℕ) → f a b c % 2 ≡ f (a % 2) (b % 2) (c % 2)

-- the two sides agree at digits
abbrev alike : (ℕ → ℕ → ℕ → ℕ) → (ℕ → ℕ → ℕ → ℕ) → Bool
alike f g = below (λ a. below (λ b. below (λ c. eqb (f a b c) (g a b c)) 2) 2) 2

digit : (n : ℕ) → n % 2 < 2
digit n = mod-lt n (lit< tt)

alike_last : (f g : ℕ → ℕ → ℕ → ℕ) → alike f g ≡ true → (a b c : ℕ) → f (a % 2) (b % 2) (c % 2) ≡ g (a % 2) (b % 2) (c % 2)
alike_last f g e a b c =
    let p = below_at (λ a. below (λ b. below (λ c. eqb (f a b c) (g a b c)) 2) 2) 2 e (a % 2) (digit a) in
    let q = below_at (λ b. below (λ c. eqb (f (a % 2) b c) (g (a % 2) b c)) 2) 2 p (b % 2) (digit b) in
    eqb-true _ _ (below_at (λ c. eqb (f (a % 2) (b % 2) c) (g (a % 2) (b % 2) c)) 2 q (c % 2) (digit c))

-- what holds of digits holds of numbers
same_digits : (f g : ℕ → ℕ → ℕ → ℕ) → Digitwise f → Digitwise g → ((b c : ℕ) → f 0 b c ≡ g 0 b c) → alike f g ≡ true
    → (a b c : ℕ) → f a b c ≡ g a b c
same_digits f g df dg base e =
    bin_ind (λ (n : ℕ). (b c : ℕ) → f n b c ≡ g n b c) base
    (λ n ih b c.
    let h : f n b c / 2 ≡ g n b c / 2 = df.half n b c ∙ ih (b / 2) (c / 2) ∙ sym (dg.half n b c) in
    let d : f n b c % 2 ≡ g n b c % 2 = df.last n b c ∙ alike_last f g e n b c ∙ sym (dg.last n b c) in
    omega arith)

first : Digitwise (λ a b c. a)
first = record { half = λ a b c. refl; last = λ a b c. refl }

second : Digitwise (λ a b c. b)
second = record { half = λ a b c. refl; last = λ a b c. refl }

third : Digitwise (λ a b c. c)
third = record { half = λ a b c. refl; last = λ a b c. refl }

and_digits : {f g : ℕ → ℕ → ℕ → ℕ} → Digitwise f → Digitwise g → Digitwise (λ a b c. bit_and (f a b c) (g a b c))
and_digits {f} {g} df dg = record {
  half = λ a b c. and_shr (f a b c) (g a b c) 1 ∙ ap₂ bit_and (df.half a b c) (dg.half a b c);
  last = λ a b c. and_mod (f a b c) (g a b c) 1 ∙ ap₂ bit_and (df.last a b c) (dg.last a b c);
}

or_digits : {f g : ℕ → ℕ → ℕ → ℕ} → Digitwise f → Digitwise g → Digitwise (λ a b c. bit_or (f a b c) (g a b c))
or_digits {f} {g} df dg = record {
  half = λ a b c. or_shr (f a b c) (g a b c) 1 ∙ ap₂ bit_or (df.half a b c) (dg.half a b c);
  last = λ a b c. or_mod (f a b c) (g a b c) 1 ∙ ap₂ bit_or (df.last a b c) (dg.last a b c);
}

and_or : (a b c : ℕ) → bit_and (bit_or a b) c ≡ bit_or (bit_and a c) (bit_and b c)
and_or =
    same_digits (λ a b c. bit_and (bit_or a b) c) (λ a b c. bit_or (bit_and a c) (bit_and b c))
    (and_digits (or_digits first second) third) (or_digits (and_digits first third) (and_digits second third)) (λ b c. refl) refl

and_assoc : (a b c : ℕ) → bit_and (bit_and a b) c ≡ bit_and a (bit_and b c)
and_assoc =
    same_digits (λ a b c. bit_and (bit_and a b) c) (λ a b c. bit_and a (bit_and b c))
    (and_digits (and_digits first second) third) (and_digits first (and_digits second third)) (λ b c. refl) refl

-- ---- a bit set
-- asked of a byte: set, the bit reads set
abbrev pub reads_set : ℕ → ℕ → Bool
reads_set bit x = has (stored (bit_or x bit)) bit

-- the bit reads set
pub with_bit-has : (bit : ℕ) → below (reads_set bit) 256 ≡ true → (s : Status) → s.0 < 256 → has (with_bit s bit) bit ≡ true
with_bit-has bit t s h = below_at (reads_set bit) 256 t s.0 h

-- a bit apart stays
pub with_bit_other : (s : Status) (bit other : ℕ) → bit_and bit other ≡ 0 → has (with_bit s bit) other ≡ has s other
with_bit_other s bit other e =
    ap (λ (x : ℕ). not (eqb x 0)) (and_or s.0 bit other ∙ ap (bit_or (bit_and s.0 other)) e ∙ or_zero_r (bit_and s.0 other))

-- the status stays a byte
pub with_bit-small : (s : Status) (bit : ℕ) → s.0 < 256 → bit < 256 → (with_bit s bit).0 < 256
with_bit-small s bit h k = or_lt 8 s.0 bit h k

-- ---- a bit cleared
-- the bit reads clear
pub without_bit-has : (s : Status) (bit : ℕ) → bit_and (255 - bit) bit ≡ 0 → has (without_bit s bit) bit ≡ false
without_bit-has s bit e =
    ap not (eq-eqb _ 0 (and_assoc s.0 (255 - bit) bit ∙ ap (bit_and s.0) e ∙ and_zero_r s.0))

-- a bit apart stays
pub without_bit_other : (s : Status) (bit other : ℕ) → bit_and (255 - bit) other ≡ other
    → has (without_bit s bit) other ≡ has s other
without_bit_other s bit other e =
    ap (λ (x : ℕ). not (eqb x 0)) (and_assoc s.0 (255 - bit) other ∙ ap (bit_and s.0) e)

-- the status stays a byte
pub without_bit-small : (s : Status) (bit : ℕ) → s.0 < 256 → (without_bit s bit).0 < 256
without_bit-small s bit h = omega (arith, and_le_l s.0 (255 - bit))

-- ---- a bit changed and changed back
or_right : (s t : Bool) → s ≡ false → s || t ≡ true → t ≡ true
or_right true t e h = absurd (true≢false e)
or_right false t e h = h

-- asked of a byte: if the bit is set, clearing it and setting it again gives the byte
abbrev pub set_back : ℕ → ℕ → Bool
set_back bit x = not (has (stored x) bit) || eqb (bit_or (bit_and x (255 - bit)) bit) x

-- a bit that was set, cleared and set again gives the status
pub set_cleared : (bit : ℕ) → below (set_back bit) 256 ≡ true → (s : Status) → s.0 < 256 → has s bit ≡ true
    → with_bit (without_bit s bit) bit ≡ s
set_cleared bit t s h e =
    let r = or_right (not (has s bit)) _ (ap not e) (below_at (set_back bit) 256 t s.0 h) in
    ap stored (eqb-true (bit_or (bit_and s.0 (255 - bit)) bit) s.0 r)

-- asked of a byte: if the bit is clear, setting it and clearing it again gives the byte
abbrev pub clear_back : ℕ → ℕ → Bool
clear_back bit x = has (stored x) bit || eqb (bit_and (bit_or x bit) (255 - bit)) x

-- a bit that was clear, set and cleared again gives it
pub clear_set : (bit : ℕ) → below (clear_back bit) 256 ≡ true → (s : Status) → s.0 < 256 → has s bit ≡ false
    → without_bit (with_bit s bit) bit ≡ s
clear_set bit t s h e =
    let r = or_right (has s bit) _ e (below_at (clear_back bit) 256 t s.0 h) in
    ap stored (eqb-true (bit_and (bit_or s.0 bit) (255 - bit)) s.0 r)

-- ---- PRIO
-- with bit 0 set the number is the same
pub number-with_fifo : (p : ℕ) → number (with_fifo p) ≡ number p
number-with_fifo p = omega arith

-- bit 0 reads set
pub fifo-with_fifo : (p : ℕ) → fifo (with_fifo p) ≡ true
fifo-with_fifo p = eq-eqb (with_fifo p % 2) 1 (omega arith)

-- the byte stays a byte
pub with_fifo-small : (p : ℕ) → p < 256 → with_fifo p < 256
with_fifo-small p h = omega arith
