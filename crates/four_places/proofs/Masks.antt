-- 'None of these bytes is 0', tested of all of them together as one number (document 02, Ask 2). Take 1 off each byte: a byte then has a
-- highest bit that it had not before, its mark, only where it borrowed, and the lowest that borrows is a 0. The law is of any bytes and any
-- number of them, a byte a step from the lowest up: below the first 0 nothing borrows, and behind it the answer is known. What is computed
-- is the 255 values of one byte.
--   number l       the bytes l as one number, the lowest first
--   ones n         1 in each of n bytes
--   above n        the first number that n bytes cannot hold
--   marks n r x    the highest bits of the n bytes that r has and x has not; mark q p of one byte
-- Assumes nothing.
use Rattle.std.proofs.Common.{◌≡◌, ℕ, zero, suc, ◌+◌, ◌-◌, ◌*◌, ◌/◌, ◌%◌, ◌^◌, ◌<◌, Bool, not, ◌&&◌, eqb, List, [], ◌∷◌, length, sym, refl, ap, ◌∙◌, ap₂, mod-lt, div-add-mod', arith, eq-eqb, ne_eqb, eqb-true}
use native.Mathlib.Decide.{ℕ_discrete}
use lib.Arith.{digits_div, digits_mod, mod-mul}
use lib.Bits.{bit_and, and_block, and_zero_r, and_le_l}
use Rattle.std.specs.Int.{w32, from_le_bytes}
use Rattle.board.proofs.EveryByte.{below_at}
use Rattle.board.proofs.Codec.{Small}
use Rattle.four_places.specs.Fours.{none_zero}

abbrev number : List ℕ → ℕ
number [] = 0
number (p ∷ l) = p + 256 * number l

abbrev ones : ℕ → ℕ
ones zero = 0
ones (suc n) = ones n * 256 + 1

abbrev above : ℕ → ℕ
above zero = 1
above (suc n) = above n * 256

abbrev marks : ℕ → ℕ → ℕ → ℕ
marks n r x = bit_and (bit_and r (above n - 1 - x)) (128 * ones n)

above_pos : (n : ℕ) → 0 < above n
above_pos zero = omega arith
above_pos (suc n) = omega (arith, above_pos n)

-- ---- the lowest byte by itself
abbrev mark : ℕ → ℕ → ℕ
mark q p = bit_and (bit_and q (255 - p)) 128

-- less 1, a byte is not marked, unless it was a 0
mark_none : (q : ℕ) → q < 255 → mark q (q + 1) ≡ 0
mark_none q h = eqb-true _ _ (below_at (λ (x : ℕ). eqb (mark x (x + 1)) 0) 255 refl q h)

marks_more : (n r x q p : ℕ) → q < 256 → p < 256 → x < above n
    → marks (suc n) (r * 256 + q) (x * 256 + p) ≡ marks n r x * 256 + mark q p
marks_more n r x q p hq hp hx =
    let e : above (suc n) - 1 - (x * 256 + p) ≡ (above n - 1 - x) * 256 + (255 - p) = omega arith in
    let f : 128 * ones (suc n) ≡ 128 * ones n * 256 + 128 = omega arith in
    ap₂ (λ (u v : ℕ). bit_and (bit_and (r * 256 + q) u) v) e f
    ∙ ap (λ (u : ℕ). bit_and u (128 * ones n * 256 + 128)) (and_block 8 r (above n - 1 - x) q (255 - p) hq (omega arith))
    ∙ and_block 8 (bit_and r (above n - 1 - x)) (128 * ones n) (bit_and q (255 - p)) 128 (omega (arith, and_le_l q (255 - p)))
    (omega arith)

-- a sum that wraps around, by its lowest byte and the rest
wraps : (c t s p : ℕ) → 0 < c → p < 256 → t ≡ s * 256 + p → t % (c * 256) ≡ s % c * 256 + p
wraps c t s p hc hp e =
    mod-mul t hc (omega arith)
    ∙ ap₂ (λ (u v : ℕ). u % c * 256 + v) (ap (λ (u : ℕ). u / 256) e ∙ digits_div s hp) (ap (λ (u : ℕ). u % 256) e ∙ digits_mod s hp)

-- no mark in the lowest byte and none in the others
no_mark : (a : ℕ) → eqb (a * 256 + 0) 0 ≡ eqb a 0
no_mark a = go (ℕ_discrete a 0)
  where
    go : Dec (a ≡ 0) → eqb (a * 256 + 0) 0 ≡ eqb a 0
    go (yes e) = eq-eqb (a * 256 + 0) 0 (omega arith) ∙ sym (eq-eqb a 0 e)
    go (no h) = ne_eqb (a * 256 + 0) 0 (λ (e : a * 256 + 0 ≡ 0). h (omega arith)) ∙ sym (ne_eqb a 0 h)

-- r is a number of n + 1 bytes, the lowest of them q; with 1 more in each byte it is the byte p and y above it
module _ (n r s q p y : ℕ) (er : r ≡ s * 256 + q) (hp : p < 256) (e : (r + ones (suc n)) % above (suc n) ≡ p + 256 * y) where
  -- the sum by its lowest byte k, with t above it
  sum : (t k : ℕ) → k < 256 → r + ones (suc n) ≡ t * 256 + k → t % above n * 256 + k ≡ p + 256 * y
  sum t k hk et = sym (wraps (above n) (r + ones (suc n)) t k (above_pos n) hk et) ∙ e

  -- q is 255: p is 0, it has borrowed, and is marked
  borrows : q ≡ 255 → (p ≡ 0) × (marks (suc n) r (p + 256 * y) ≡ marks n s y * 256 + 128)
  borrows full =
      let f = sum (s + ones n + 1) 0 (omega arith) (omega arith) in
      let fits = mod-lt (s + ones n + 1) (above_pos n) in
      let x : p + 256 * y ≡ y * 256 + 0 = omega arith in
      let m = marks_more n s y 255 0 (omega arith) (omega arith) (omega arith) in
      (omega arith, ap₂ (marks (suc n)) (er ∙ ap (λ (u : ℕ). s * 256 + u) full) x ∙ m)

  -- it is less: p is one more, nothing is borrowed, and p is not marked
  borrows_not : q < 255 → (p ≡ q + 1) × ((s + ones n) % above n ≡ y) × (marks (suc n) r (p + 256 * y) ≡ marks n s y * 256 + 0)
  borrows_not less =
      let f = sum (s + ones n) (q + 1) (omega arith) (omega arith) in
      let fits = mod-lt (s + ones n) (above_pos n) in
      let x : p + 256 * y ≡ y * 256 + (q + 1) = omega arith in
      let m = marks_more n s y q (q + 1) (omega arith) (omega arith) (omega arith) in
      let none = ap (λ (u : ℕ). marks n s y * 256 + u) (mark_none q less) in
      (omega arith, omega arith, ap₂ (marks (suc n)) er x ∙ m ∙ none)

-- ---- all bytes: there is no mark exactly if none of them is 0, where r is their number less 1 in each byte
pub marked : (l : List ℕ) → Small l → (r : ℕ) → (r + ones (length l)) % above (length l) ≡ number l
    → eqb (marks (length l) r (number l)) 0 ≡ none_zero l
marked [] h r e = eq-eqb _ 0 (and_zero_r (bit_and r (above 0 - 1 - 0)))
marked (p ∷ l) h r e =
    go (r / 256) (r % 256) (sym (div-add-mod' r 256)) (mod-lt r (omega arith)) (ℕ_discrete (r % 256) 255) (marked l h.1)
  where
    go : (s q : ℕ) → r ≡ s * 256 + q → q < 256 → Dec (q ≡ 255)
        → ((s : ℕ) → (s + ones (length l)) % above (length l) ≡ number l → eqb (marks (length l) s (number l)) 0 ≡ none_zero l)
        → eqb (marks (suc (length l)) r (p + 256 * number l)) 0 ≡ (not (eqb p 0) && none_zero l)
    go s q er hq (yes full) ih =
        let b = borrows (length l) r s q p (number l) er h.0 e full in
        ap (λ (u : ℕ). eqb u 0) b.1 ∙ ne_eqb (marks (length l) s (number l) * 256 + 128) 0 (λ i. omega arith)
        ∙ sym (ap (λ (t : Bool). not t && none_zero l) (eq-eqb p 0 b.0))
    go s q er hq (no less) ih =
        let b = borrows_not (length l) r s q p (number l) er h.0 e (omega arith) in
        ap (λ (u : ℕ). eqb u 0) b.2 ∙ no_mark (marks (length l) s (number l)) ∙ ih s b.1
        ∙ sym (ap (λ (t : Bool). not t && none_zero l) (ne_eqb p 0 (λ (i : p ≡ 0). omega (arith, b.0))))

-- four bytes and their number x, from which the code takes 16843009 by adding what that lacks to 2^32
pub four_marked : (l : List ℕ) → length l ≡ 4 → Small l → (x : ℕ) → x < 2 ^ 32 → x ≡ from_le_bytes w32 l
    → eqb (bit_and (bit_and ((x + 4278124287) % 2 ^ 32) (4294967295 - x)) 2155905152) 0 ≡ none_zero l
four_marked [] e h x f n = absurd (omega arith)
four_marked (p ∷ []) e h x f n = absurd (omega arith)
four_marked (p ∷ q ∷ []) e h x f n = absurd (omega arith)
four_marked (p ∷ q ∷ s ∷ []) e h x f n = absurd (omega arith)
four_marked (p ∷ q ∷ s ∷ t ∷ []) e h x f n =
    let l = p ∷ q ∷ s ∷ t ∷ [] in
    let r = (x + 4278124287) % 2 ^ 32 in
    let m : x ≡ number l = omega arith in
    ap (λ (y : ℕ). eqb (bit_and (bit_and r (4294967295 - y)) 2155905152) 0) m ∙ marked l h r (omega arith)
four_marked (p ∷ q ∷ s ∷ t ∷ u ∷ l) e h x f n = absurd (omega arith)
