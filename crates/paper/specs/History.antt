-- A history: calls made one after another on the bytes of a board, refused ones among them. A reader must believe this file.
--   run z l calls       the answer of each call, and the bytes after the last
--   Made l calls as d   a program was handed the answers as for these calls and left d of l, each call as the contract of the step says
-- Assumes nothing.
use Rattle.std.specs.Prelude.{◌≡◌, List, [], ◌∷◌, ℕ}
use Rattle.board.specs.declared.numbers.Size.{Size}
use Rattle.board.specs.Numbers.{small}
use Rattle.paper.specs.declared.call.Call.{Call}
use Rattle.paper.specs.Outcomes.{Ends, effect}
use Rattle.paper.specs.Answers.{Answer}

pub record Ran : Type 0 where
  pub answers : List Answer
  pub after : List ℕ

abbrev pub run : Size → List ℕ → List Call → Ran
run z l [] = record { answers = []; after = l }
run z l (call ∷ calls) = let o = effect z l call in let p = run z o.after calls in
    record { answers = o.answer ∷ p.answers; after = p.after }

abbrev pub Made : List ℕ → List Call → List Answer → List ℕ → Type 0
Made l [] [] d = d ≡ l
Made l [] (a ∷ answers) d = ⊥
Made l (call ∷ calls) [] d = ⊥
Made l (call ∷ calls) (a ∷ answers) d = (m : List ℕ) × Ends a m (effect small l call) × Made m calls answers d
