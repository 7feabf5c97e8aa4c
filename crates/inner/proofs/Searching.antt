-- The search of a list for the first one that passes a test: what a turn of such a loop, and its end, make of the definition. So
-- for the places of a board.
--   first_above test q i   the number of the first one of q above number i that passes, 0 if none; f of it is what the loop is to
--                          answer
--   found_above test b m   the first message above m whose place passes
-- Assumes nothing.
use mathlib.Core.Path.{◌≡◌, sym, ◌∙◌}
use mathlib.Core.Bool.{Bool, true, false}
use mathlib.Core.List.{List}
use Prim.Native.Nat.{ℕ, suc, ◌+◌, ◌≤◌, ◌<◌}
use native.Mathlib.Omega.{arith}
use lib.ListN.{length, drop, drop_of_length-le}
use lib.Seq.{drop-cons}
use Rattle.links.specs.Queue.{first_of, cons_if, which}
use Rattle.board.specs.declared.numbers.Size.{Size}
use Rattle.board.specs.declared.places.Place.{Place}
use Rattle.board.specs.declared.places.Place.TheVariants.{Free}
use Rattle.board.specs.Board.{Board, board_of, nth, place}
use Rattle.board.proofs.Codec.{length-places}

abbrev pub first_above : {A : Type 0} → (A → Bool) → List A → ℕ → ℕ
first_above test q i = first_of (which test (suc i) (drop i q))

-- the first i of the list were looked at
module _ {A B : Type 0} (f : ℕ → B) (none : A) (test : A → Bool) (q : List A) (i : ℕ) {v : B}
    (inv : f (first_above test q i) ≡ v) where
  -- the test of the next one says t
  turn : (t : Bool) → i < length q → test (nth none q (i + 1)) ≡ t
      → f (first_of (cons_if t (i + 1) (which test (suc (i + 1)) (drop (i + 1) q)))) ≡ v
  turn t h e =
      let s : i + 1 ≡ suc i = omega arith in
      let g : t ≡ test (nth none q (suc i)) = sym e ∙ (λ x. test (nth none q (s x))) in
      let d = drop-cons q i none h in
      (λ x. f (first_of (cons_if (g x) (s x) (which test (suc (s x)) (drop (s x) q)))))
      ∙ (λ x. f (first_of (which test (suc i) (sym d x)))) ∙ inv

  -- the next one passes: it is that
  pub first_here : i < length q → test (nth none q (i + 1)) ≡ true → f (i + 1) ≡ v
  first_here = turn true

  -- the next one does not
  pub first_above_lem : i < length q → test (nth none q (i + 1)) ≡ false → f (first_above test q (i + 1)) ≡ v
  first_above_lem = turn false

  -- there is no next one
  pub first_none : length q ≤ i → f 0 ≡ v
  first_none h = let d = drop_of_length-le q {i = i} h in (λ x. f (first_of (which test (suc i) (sym d x)))) ∙ inv

abbrev pub found_above : (Place → Bool) → Board → ℕ → ℕ
found_above test b m = first_above test b.places m

-- the messages up to m were looked at
module _ {A : Type 0} (f : ℕ → A) (test : Place → Bool) (z : Size) (l : List ℕ) (m : ℕ) {v : A}
    (inv : f (found_above test (board_of z l) m) ≡ v) where
  -- the next one passes: it is that
  pub found_here : m < z.messages → test (place (board_of z l) (m + 1)) ≡ true → f (m + 1) ≡ v
  found_here h = first_here f Free test (board_of z l).places m inv (omega (arith, length-places z l))

  -- the next one does not
  pub found_above_lem : m < z.messages → test (place (board_of z l) (m + 1)) ≡ false → f (found_above test (board_of z l) (m + 1)) ≡ v
  found_above_lem h = first_above_lem f Free test (board_of z l).places m inv (omega (arith, length-places z l))

  -- there is no next one
  pub found_none : z.messages ≤ m → f 0 ≡ v
  found_none h = first_none f Free test (board_of z l).places m inv (omega (arith, length-places z l))
