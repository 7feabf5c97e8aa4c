-- The bits of STAT beside DEBUG and MROB: with these two cleared each of the others reads as before, and is set and cleared as
-- before. Only the low byte of a status counts, so each fact is one computed test of every byte.
-- Assumes nothing.
use mathlib.Core.Path.{◌≡◌, refl, sym, ap, ◌∙◌}
use mathlib.Core.Bool.{Bool, true, not}
use Prim.Native.Nat.{ℕ, ◌-◌, ◌%◌}
use native.Mathlib.Nat.{mod-lt, mod-eq_of_lt}
use native.Mathlib.Omega.{arith}
use lib.Bits.{bit_and, bit_or, and_le_r, and_mod, or_mod}
use lib.Dec.{eqb, lit<}
use borrow.Author.Tests.{eqb-true}
use Rattle.board.specs.declared.status.Status.{Status}
use Rattle.board.specs.Status.{WAIT, IWAT, BIT5, INTQ, DEBUG, MHBS, TCBB, stored, has, with_bit, without_bit}
use Rattle.board.specs.Records.{Byte}
use Rattle.board.proofs.EveryByte.{below, below_at}
use Rattle.bare.specs.Bare.{bare}

-- ---- the low byte
-- f looks at nothing else
abbrev Low : (Status → Status) → Type 0
Low f = (n : ℕ) → f (stored n) ≡ f (stored (n % 256))

and_low : (n mask : ℕ) → Byte mask → bit_and n mask ≡ bit_and (n % 256) mask
and_low n mask h =
    let e : bit_and n mask % 256 ≡ bit_and n mask = mod-eq_of_lt (omega (arith, and_le_r n mask)) in
    sym e ∙ and_mod n mask 8 ∙ ap (bit_and (n % 256)) (mod-eq_of_lt h)

or_low : (n bit : ℕ) → Byte bit → bit_or n bit % 256 ≡ bit_or (n % 256) bit
or_low n bit h = or_mod n bit 8 ∙ ap (bit_or (n % 256)) (mod-eq_of_lt h)

bare_low : Low bare
bare_low n = rw (and_low n (255 - DEBUG) (lit< tt))

-- ---- two that agree at every byte
abbrev agrees : (Status → Status) → (Status → Status) → Bool
agrees f g = below (λ n. eqb (f (stored n)).0 (g (stored n)).0) 256

-- agree, if they look at nothing else
agree : (f g : Status → Status) → Low f → Low g → agrees f g ≡ true → (s : Status) → f s ≡ g s
agree f g low deep e s =
    let at_byte = below_at (λ n. eqb (f (stored n)).0 (g (stored n)).0) 256 e (s.0 % 256) (mod-lt s.0 (lit< tt)) in
    low s.0 ∙ ap stored (eqb-true _ _ at_byte) ∙ sym (deep s.0)

-- cleared twice is cleared once
pub bare_twice : (s : Status) → bare (bare s) ≡ bare s
bare_twice s = agree (λ s. bare (bare s)) bare (λ n. ap bare (bare_low n)) bare_low refl s

-- ---- one bit
abbrev masked : ℕ → Status → Status
masked bit s = stored (bit_and s.0 bit)

-- a bit for which the two don't matter
pub record Other (bit : ℕ) : Type 0 where
  pub reads : (s : Status) → has (bare s) bit ≡ has s bit
  pub sets : (s : Status) → bare (with_bit s bit) ≡ with_bit (bare s) bit
  pub clears : (s : Status) → bare (without_bit s bit) ≡ without_bit (bare s) bit

module _ (bit : ℕ) (h : Byte bit) where
  masked_low : Low (masked bit)
  masked_low n = ap stored (and_low n bit h)

  set_low : Low (λ s. bare (with_bit s bit))
  set_low n = bare_low (bit_or n bit) ∙ ap (λ (x : ℕ). bare (stored x)) (or_low n bit h)

  cleared_low : Low (λ s. bare (without_bit s bit))
  cleared_low n = ap (λ (x : ℕ). bare (stored x)) (and_low n (255 - bit) (omega arith))

  -- three tests of every byte say that
  other : agrees (λ s. masked bit (bare s)) (masked bit) ≡ true
      → agrees (λ s. bare (with_bit s bit)) (λ s. with_bit (bare s) bit) ≡ true
      → agrees (λ s. bare (without_bit s bit)) (λ s. without_bit (bare s) bit) ≡ true → Other bit
  other r e c = record {
    reads = λ s. ap (λ (x : Status). not (eqb x.0 0))
        (agree (λ s. masked bit (bare s)) (masked bit) (λ n. ap (masked bit) (bare_low n)) masked_low r s);
    sets = agree _ _ set_low (λ n. ap (λ (s : Status). with_bit s bit) (bare_low n)) e;
    clears = agree _ _ cleared_low (λ n. ap (λ (s : Status). without_bit s bit) (bare_low n)) c;
  }

-- ---- so it is for each of the other six
pub wait : Other WAIT
wait = other WAIT (lit< tt) refl refl refl

pub iwat : Other IWAT
iwat = other IWAT (lit< tt) refl refl refl

pub bit5 : Other BIT5
bit5 = other BIT5 (lit< tt) refl refl refl

pub intq : Other INTQ
intq = other INTQ (lit< tt) refl refl refl

pub mhbs : Other MHBS
mhbs = other MHBS (lit< tt) refl refl refl

pub tcbb : Other TCBB
tcbb = other TCBB (lit< tt) refl refl refl
