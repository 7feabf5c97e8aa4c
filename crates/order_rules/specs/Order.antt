-- R3 as code tests it: one walk of the task queue that counts, and meets the first ready task. The contracts of src/tasks.rt cite this file.
--   task_turned z b k low   one link of the task queue; one that leads beyond the board leads astray
--   order_visited b n x ..  the walk of the task queue
--   order_from z b n x      the walk of at most n links from x on, with the first ready task that it meets
--   listed_by p w           what a walk says where p tasks are present: all are listed and this is the first ready one, or it is broken
-- Assumes nothing.
use Rattle.std.specs.Prelude.{cond, ℕ, eqb, Option, Some, None, Result, Ok, Err}
use Rattle.links.specs.Queue.{walk, first_with}
use Rattle.board.specs.declared.numbers.Size.{Size}
use Rattle.board.specs.declared.numbers.TaskNo.{TaskNo}
use Rattle.board.specs.Numbers.{task_meant}
use Rattle.board.specs.Board.{Board}
use Rattle.paper.specs.Rules.{present, ready, next_task, task_number}
use Rattle.paper.specs.declared.answer.Rule.{Rule}
use Rattle.paper.specs.declared.answer.Rule.TheVariants.{R3}
use Rattle.order_rules.specs.declared.tasks.Seen.{Seen}
use Rattle.queue_rules.specs.declared.walk.Turn.{Turn}
use Rattle.queue_rules.specs.Walks.{turned, visited}

abbrev pub task_turned : Size → Board → ℕ → ℕ → Turn TaskNo
task_turned z b = turned (task_meant z) (next_task b) (task_number b) (present b)

abbrev pub order_visited : Board → ℕ → ℕ → ℕ → ℕ → Option ℕ
order_visited b = visited (next_task b) (task_number b) (present b)

abbrev pub seen_with : ℕ → Option TaskNo → Option Seen
seen_with n c = Some (record { n = n; c = c })

-- what a walk saw, and c is the first ready task
abbrev pub with_ready : Option ℕ → Option TaskNo → Option Seen
with_ready (Some n) c = seen_with n c
with_ready None c = None

abbrev pub order_from : Size → Board → ℕ → ℕ → Option Seen
order_from z b n x = with_ready (order_visited b n x 0 0) (task_meant z (first_with (ready b) (walk (next_task b) n x)))

abbrev pub listed_by : ℕ → Option Seen → Result (Option TaskNo) Rule
listed_by p (Some s) = cond (eqb s.n p) (Ok s.c) (Err R3)
listed_by p None = Err R3
