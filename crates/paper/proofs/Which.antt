-- Records numbered from 1 and a test that the record none fails: the numbers of those that pass.
-- Assumes nothing.
use mathlib.Core.Path.{◌≡◌, refl, sym, ap, ◌∙◌}
use mathlib.Core.Logic.{◌↔◌}
use mathlib.Core.Bool.{Bool, true, false, true≢false}
use mathlib.Core.List.{List}
use Prim.Native.Nat.{ℕ, zero, suc, ◌-◌}
use native.Mathlib.Omega.{arith}
use lib.ListN.{length}
use Rattle.links.specs.Queue.{which}
use Rattle.links.specs.Chain.{In}
use Rattle.links.proofs.Exactly.{in_which, which_in}
use Rattle.board.specs.Numbers.{outside, Numbered}
use Rattle.board.specs.Board.{nth}
use Rattle.board.proofs.Pieces.{outside-within, nth-outside}

module _ {A : Type 0} (none : A) (f : A → Bool) (l : List A) (fails : f none ≡ false) where
  -- each is the number of a record
  pub nth_numbered : (y : ℕ) → f (nth none l y) ≡ true → Numbered (length l) y
  nth_numbered y e = step (outside (length l) y) refl
    where
      step : (t : Bool) → outside (length l) y ≡ t → Numbered (length l) y
      step true o = absurd (true≢false (sym e ∙ ap f (nth-outside none l y o) ∙ fails))
      step false o = outside-within (length l) y o

  -- `which` has just these
  pub which-nth : (y : ℕ) → In y (which f 1 l) ↔ (f (nth none l y) ≡ true)
  which-nth zero = ((λ i. absurd (omega (arith, (in_which none f 1 0 l i).0))), λ e. absurd (true≢false (sym e ∙ fails)))
  which-nth (suc y) =
      let e : suc y - 1 ≡ y = omega arith in (
        (λ i. rw e at (in_which none f 1 (suc y) l i).2),
        λ h. which_in none f 1 (suc y) l (omega arith) (omega (arith, (nth_numbered (suc y) h).1)) (rw e h),
      )
