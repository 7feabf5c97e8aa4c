-- A row of refusals, test by test. Assumes nothing.
use mathlib.Core.Path.{◌≡◌, refl, sym, ap, ◌∙◌}
use mathlib.Core.Bool.{Bool, true, false, not}
use mathlib.Core.List.{List, [], ◌∷◌, ◌++◌}
use Prim.Native.Nat.{ℕ}
use native.Mathlib.Omega.{arith}
use lib.ListN.{length}
use borrow.Author.Tests.{eq-eqb}
use Rattle.board.specs.declared.numbers.Size.{Size}
use Rattle.board.specs.Board.{Board, total}
use Rattle.paper.specs.declared.call.Call.{Call}
use Rattle.paper.specs.declared.answer.Rule.{Rule}
use Rattle.paper.specs.declared.answer.Refusal.{Refusal}
use Rattle.paper.specs.declared.answer.Refusal.TheVariants.{RuleBroken}
use Rattle.paper.specs.Rules.{passes}
use Rattle.paper.specs.Named.{broken_rule}
use Rattle.paper.specs.Refusals.{Test, no1, no2_by, own_row, row, Stop, given}

-- a test that applies stops
pub given_stop : (t : Test) (tests : List Test) → t.applies ≡ true → given (t ∷ tests) ≡ Stop t.refusal
given_stop t tests e = rw (e, given)

-- one that does not is passed
pub given_on : (t : Test) (tests : List Test) → t.applies ≡ false → given (t ∷ tests) ≡ given tests
given_on t tests e = rw (e, given)

-- what stops a row stops a longer one
pub given-more : (tests more : List Test) (q : Refusal) → given tests ≡ Stop q → given (tests ++ more) ≡ Stop q
given-more [] more q e = absurd (let y : ◌≡◌ {A = ℕ} 0 1 = cc in omega arith)
given-more (t ∷ tests) more q e = go t.applies refl (given-more tests more q)
  where
    go : (b : Bool) → t.applies ≡ b → (given tests ≡ Stop q → given (tests ++ more) ≡ Stop q)
        → given (t ∷ (tests ++ more)) ≡ Stop q
    go true a on = given_stop t (tests ++ more) a ∙ sym (given_stop t tests a) ∙ e
    go false a on = given_on t (tests ++ more) a ∙ on (sym (given_on t tests a) ∙ e)

-- on a board of the right length that passes, refusals 1 and 2 are passed
pub rules_kept : (z : Size) (l : List ℕ) (r : Rule) (t : Bool) (tests : List Test) → length l ≡ total z → t ≡ true
    → given (no1 z l ∷ no2_by r t ∷ tests) ≡ given tests
rules_kept z l r t tests long sound =
    given_on (no1 z l) (no2_by r t ∷ tests) (ap not (eq-eqb (length l) (total z) long))
    ∙ given_on (no2_by r t) tests (ap not sound)

pub row_own : (z : Size) (l : List ℕ) (b : Board) (c : ℕ) (call : Call) → length l ≡ total z → passes z b ≡ true
    → given (row z l b c call) ≡ given (own_row z b c call)
row_own z l b c call = rules_kept z l (broken_rule z b) (passes z b) (own_row z b c call)

-- where it does not pass, 2 stops
pub rule_broken : (z : Size) (l : List ℕ) (r : Rule) (t : Bool) (tests : List Test) → length l ≡ total z → t ≡ false
    → given (no1 z l ∷ no2_by r t ∷ tests) ≡ Stop (RuleBroken r)
rule_broken z l r t tests long broken =
    given_on (no1 z l) (no2_by r t ∷ tests) (ap not (eq-eqb (length l) (total z) long))
    ∙ given_stop (no2_by r t) tests (ap not broken)
