-- The search for the lowest free message: what a turn of each loop of `lowest_free`, and each way out of it, make of the definition.
-- Assumes nothing.
use mathlib.Core.Path.{◌≡◌, refl, sym, ap, ◌∙◌}
use mathlib.Core.Bool.{true, false}
use mathlib.Core.List.{List}
use Prim.Native.Nat.{ℕ, ◌+◌, ◌≤◌, ◌<◌}
use native.Mathlib.Omega.{arith}
use borrow.Author.Tests.{not-true}
use Rattle.std.specs.Prelude.{Option, None}
use Rattle.links.proofs.Bools.{both}
use Rattle.board.specs.declared.numbers.Size.{Size}
use Rattle.board.specs.declared.numbers.MsgNo.{MsgNo}
use Rattle.board.specs.declared.places.Place.{Place}
use Rattle.board.specs.declared.places.Place.TheVariants.{Free, HeldBy, QueuedAt, OnTimer, Nowhere}
use Rattle.board.specs.Numbers.{message_meant}
use Rattle.board.specs.Places.{is_free}
use Rattle.board.specs.Board.{Board, board_of, place}
use Rattle.paper.specs.Effects.{lowest_free}
use Rattle.inner.proofs.Searching.{found_above, found_here, found_above_lem, found_none}
use Rattle.four_places.specs.Fours.{in_use, none_free}
use Rattle.four_places.proofs.Groups.{four_within}

-- the search has come to m: the lowest free message above it is the lowest of all
abbrev pub Sought : Board → ℕ → Type 0
Sought b m = found_above is_free b m ≡ lowest_free b

-- the code met another variant than Free
not_free : (p : Place) → (p ≡ Free → ⊥) → is_free p ≡ false
not_free Free h = absurd (h refl)
not_free (HeldBy k) h = refl
not_free (QueuedAt k) h = refl
not_free OnTimer h = refl
not_free (Nowhere n) h = refl

module _ (z : Size) (l : List ℕ) where
  abbrev b : Board
  b = board_of z l

  -- n, the one behind m, is in use
  behind_one : (m n : ℕ) → n ≡ m + 1 → m < z.messages → in_use b n ≡ true → Sought b m → Sought b n
  behind_one m n e h t inv =
      ap (found_above is_free b) e
      ∙ found_above_lem (λ x. x) is_free z l m inv h (ap (λ (x : ℕ). is_free (place b x)) (sym e) ∙ not-true _ t)

  module _ (m : ℕ) (inv : Sought b m) where
    -- none of the four behind m is free
    pub behind_four : none_free b m ≡ true → Sought b (m + 4)
    behind_four e =
        let h = four_within z l m e in
        let one = both (in_use b (m + 1)) _ e in
        let two = both (in_use b (m + 2)) _ one.1 in
        let three = both (in_use b (m + 3)) (in_use b (m + 4)) two.1 in
        behind_one (m + 3) (m + 4) (omega arith) (omega arith) three.1
        (behind_one (m + 2) (m + 3) (omega arith) (omega arith) three.0
        (behind_one (m + 1) (m + 2) (omega arith) (omega arith) two.0
        (behind_one m (m + 1) (omega arith) (omega arith) one.0 inv)))

    -- there is no other: none is free
    pub free_none : z.messages ≤ m → None ≡ message_meant z (lowest_free b)
    free_none h = ap (message_meant z) (found_none (λ x. x) is_free z l m inv h)

    -- p is the place of the next one
    module _ (h : m < z.messages) {p : Place} (e : p ≡ place b (m + 1)) where
      -- it is free
      pub free_here : p ≡ Free → {x : Option MsgNo} → x ≡ message_meant z (m + 1) → x ≡ message_meant z (lowest_free b)
      free_here f ex = ex ∙ ap (message_meant z) (found_here (λ x. x) is_free z l m inv h (ap is_free (sym e ∙ f)))

      -- it is not
      pub free_above : (p ≡ Free → ⊥) → Sought b (m + 1)
      free_above f = found_above_lem (λ x. x) is_free z l m inv h (ap is_free (sym e) ∙ not_free p f)
