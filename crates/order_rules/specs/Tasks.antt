-- Which tasks the walk of the task queue can meet: the proofs that the trait of queue_rules asks for.
--   task_means          a word that means a task is its number, and not 0
--   task_beyond         no task that a board does not have is present
-- Assumes nothing.
use Rattle.std.specs.Prelude.{◌≡◌, false, List, ℕ, Some, None}
use Rattle.std.proofs.Common.{ap, ◌∙◌}
use Rattle.board.specs.declared.numbers.Size.{Size}
use Rattle.board.specs.declared.numbers.TaskNo.{TaskNo}
use Rattle.board.specs.Numbers.{outside, task_meant}
use Rattle.board.specs.Records.{no_task}
use Rattle.board.specs.Board.{board_of}
use Rattle.board.proofs.Pieces.{not_none, nth-outside}
use Rattle.board.proofs.Meant.{task_meant_there, task_meant_none}
use Rattle.board.proofs.Codec.{length-tasks}
use Rattle.paper.specs.Rules.{is_there, present}

pub task_means : (z : Size) (w : ℕ) (k : TaskNo) → task_meant z w ≡ Some k → (k.0 ≡ w) × (w ≡ 0 → ⊥)
task_means z w k e =
    let t = task_meant_there z w k e in (t.1, λ f. not_none z.tasks k.0 t.0 (t.1 ∙ f))

pub task_beyond : (z : Size) (l : List ℕ) (w : ℕ) → task_meant z w ≡ None → present (board_of z l) w ≡ false
task_beyond z l w e =
    ap is_there
    (nth-outside no_task (board_of z l).tasks w (ap (λ (n : ℕ). outside n w) (length-tasks z l) ∙ task_meant_none z w e))
