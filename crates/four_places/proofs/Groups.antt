-- The four places behind a message, by their bytes.
-- Assumes nothing.
use Rattle.std.proofs.Common.{◌≡◌, ℕ, ◌+◌, ◌-◌, ◌*◌, ◌<◌, ◌≤◌, Bool, true, false, not, ◌&&◌, eqb, ltb, List, [], ◌∷◌, get_or, sym, refl, ap, ◌∙◌, true≢false, arith, ltb-false, ltb-true, eqb-true}
use mathlib.Core.Bool as bool
use borrow.Author.Tests.{eqb-false}
use Rattle.board.specs.declared.numbers.Size.{Size}
use Rattle.board.specs.Numbers.{outside}
use Rattle.board.specs.Places.{place_of, is_free}
use Rattle.board.specs.Board.{board_of}
use Rattle.board.proofs.Pieces.{outside-within, outside_above}
use Rattle.board.proofs.Codec.{place-free, place-held, place-receiver, place-timer, place_nowhere}
use Rattle.lent.proofs.Access.{place_read, place_none}
use Rattle.four_places.specs.Fours.{none_zero, in_use, none_free}

-- a place is free exactly if its byte is 0
free-zero : (z : Size) (p : ℕ) → is_free (place_of z p) ≡ eqb p 0
free-zero z p = go (eqb p 0) refl (outside z.tasks p) refl (outside z.tasks (p - 64)) refl (eqb p 128) refl
  where
    go : (s : Bool) → eqb p 0 ≡ s → (t : Bool) → outside z.tasks p ≡ t → (u : Bool) → outside z.tasks (p - 64) ≡ u
        → (v : Bool) → eqb p 128 ≡ v → is_free (place_of z p) ≡ s
    go true f t g u h v i = ap is_free (place-free z p (eqb-true p 0 f))
    go false f false g u h v i = let w = outside-within z.tasks p g in ap is_free (place-held z p w.0 w.1)
    go false f true g true h true i = ap is_free (place-timer z p (eqb-true p 128 i) g h)
    go false f true g true h false i = ap is_free (place_nowhere z p (eqb-false p 0 f) (eqb-false p 128 i) g h)
    go false f true g false h v i = ap is_free (place-receiver z p (p - 64) (eqb-false p 0 f) g refl h)

module _ (z : Size) (l : List ℕ) where
  -- message m by the byte of its place, which is at o
  used-byte : (m o : ℕ) → 1 ≤ m → m ≤ z.messages → o ≡ 10 * z.tasks + 8 * z.messages + m + 3
      → in_use (board_of z l) m ≡ not (eqb (get_or l o 0) 0)
  used-byte m o h k e =
      ap (λ x. not (is_free x)) (sym (place_read z l m o (h, k) (omega arith))) ∙ ap not (free-zero z (get_or l o 0))

  module _ (m : ℕ) where
    -- the four behind m by the bytes from o on
    pub four_bytes : (o : ℕ) → m + 4 ≤ z.messages → o ≡ 10 * z.tasks + 8 * z.messages + m + 4
        → none_zero (get_or l o 0 ∷ get_or l (o + 1) 0 ∷ get_or l (o + 2) 0 ∷ get_or l (o + 3) 0 ∷ []) ≡ none_free (board_of z l) m
    four_bytes o h e =
        sym (λ i. used-byte (m + 1) o (omega arith) (omega arith) (omega arith) i
        && (used-byte (m + 2) (o + 1) (omega arith) (omega arith) (omega arith) i
        && (used-byte (m + 3) (o + 2) (omega arith) (omega arith) (omega arith) i
        && (used-byte (m + 4) (o + 3) (omega arith) (omega arith) (omega arith)
        ∙ sym (bool.and-true (not (eqb (get_or l (o + 3) 0) 0)))) i)))

    -- the fourth is beyond the board, and so reads as free
    pub four_beyond : z.messages < m + 4 → none_free (board_of z l) m ≡ false
    four_beyond h =
        let b = board_of z l in
        ap (λ x. in_use b (m + 1) && (in_use b (m + 2) && (in_use b (m + 3) && not (is_free x))))
        (sym (place_none z l (m + 4) (outside_above z.messages (m + 4) h)))
        ∙ last (in_use b (m + 1)) (in_use b (m + 2)) (in_use b (m + 3))
      where
        last : (s t u : Bool) → (s && (t && (u && false))) ≡ false
        last false t u = refl
        last true false u = refl
        last true true false = refl
        last true true true = refl

    -- so where none is free, all four are of the board
    pub four_within : none_free (board_of z l) m ≡ true → m + 4 ≤ z.messages
    four_within e = go (ltb z.messages (m + 4)) refl
      where
        go : (t : Bool) → ltb z.messages (m + 4) ≡ t → m + 4 ≤ z.messages
        go true f = absurd (true≢false (sym e ∙ four_beyond (ltb-true z.messages (m + 4) f)))
        go false f = ltb-false z.messages (m + 4) f
