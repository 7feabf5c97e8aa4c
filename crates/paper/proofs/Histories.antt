-- Calls made one after another: some, and then others; and what a program that meets the contracts is handed and leaves.
-- Assumes nothing.
use mathlib.Core.Path.{◌≡◌, refl, ap, ◌∙◌}
use mathlib.Core.Bool.{Bool, not}
use mathlib.Core.List.{List, [], ◌∷◌, ◌++◌}
use Prim.Native.Nat.{ℕ}
use lib.ListN.{length}
use borrow.Author.Tests.{eq-eqb}
use Rattle.board.specs.declared.numbers.Size.{Size}
use Rattle.board.specs.Numbers.{small}
use Rattle.board.specs.Board.{total}
use Rattle.paper.specs.declared.call.Call.{Call}
use Rattle.paper.specs.declared.answer.Refusal.TheVariants.{WrongLength}
use Rattle.paper.specs.Refusals.{test, given}
use Rattle.paper.specs.Outcomes.{accepted, judge, blank, effect, fresh}
use Rattle.paper.specs.History.{run, Made}
use Rattle.paper.specs.Answers.{Answer}

-- ---- some calls, and then others
-- the bytes after them
pub after_append : (z : Size) (l : List ℕ) (calls more : List Call)
    → (run z l (calls ++ more)).after ≡ (run z (run z l calls).after more).after
after_append z l [] more = refl
after_append z l (call ∷ calls) more = after_append z (effect z l call).after calls more

-- their answers
pub answers_append : (z : Size) (l : List ℕ) (calls more : List Call)
    → (run z l (calls ++ more)).answers ≡ (run z l calls).answers ++ (run z (run z l calls).after more).answers
answers_append z l [] more = refl
answers_append z l (call ∷ calls) more =
    ap (λ (k : List Answer). (effect z l call).answer ∷ k) (answers_append z (effect z l call).after calls more)

-- ---- a program that meets the contracts of fresh and of the step
-- it leaves the bytes of the definitions
pub made_bytes : (l d : List ℕ) (calls : List Call) (answers : List Answer) → Made l calls answers d
    → d ≡ (run small l calls).after
made_bytes l d [] [] w = w
made_bytes l d [] (a ∷ answers) w = absurd w
made_bytes l d (call ∷ calls) [] w = absurd w
made_bytes l d (call ∷ calls) (a ∷ answers) w =
    made_bytes w.0 d calls answers w.2 ∙ ap (λ (m : List ℕ). (run small m calls).after) w.1.leaves

-- and one that does so meets the contracts
pub run-made : (l : List ℕ) (calls : List Call) → let p = run small l calls in Made l calls p.answers p.after
run-made l [] = refl
run-made l (call ∷ calls) =
    let o = effect small l call in (o.after, record { answers = refl; leaves = refl }, run-made o.after calls)

-- fresh on a board's length leaves zeros
pub fresh-leaves : (l : List ℕ) → length l ≡ total small → (fresh small l).after ≡ blank small
fresh-leaves l e =
    ap (λ (x : Bool). (judge l (given (test WrongLength (not x) ∷ [])) (accepted 0 0 0 (blank small))).after)
    (eq-eqb (length l) (total small) e)
