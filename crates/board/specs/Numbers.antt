-- The two kinds of numbers and the sizes of a board. A reader must believe this file.
--   small              the board of document 01: 32 tasks, 128 messages
--   Numbered n k       k is a number from 1 to n
--   outside last n     n is 0 or above the last number
--   task_meant z w     the task that the word w means on a board of size z, if any; message_meant likewise
--   number_of_task t   its number, 0 for no task; number_of_message likewise
--   on_board last w    w itself where it is a number up to the last, else 0
-- Assumes nothing.
use Rattle.std.specs.Prelude.{Bool, cond, ◌||◌, ℕ, ◌≤◌, eqb, ltb, Option, Some, None}
use Rattle.board.specs.declared.numbers.Size.{Size}
use Rattle.board.specs.declared.numbers.TaskNo.{TaskNo}
use Rattle.board.specs.declared.numbers.MsgNo.{MsgNo}

abbrev pub small : Size
small = record { tasks = 32; messages = 128 }

abbrev pub Numbered : ℕ → ℕ → Type 0
Numbered n k = (1 ≤ k) × (k ≤ n)

abbrev pub outside : ℕ → ℕ → Bool
outside last n = eqb n 0 || ltb last n

abbrev pub task_no : ℕ → TaskNo
task_no k = record { 0 = k }

abbrev pub msg_no : ℕ → MsgNo
msg_no m = record { 0 = m }

abbrev pub task_meant : Size → ℕ → Option TaskNo
task_meant z w = cond (outside z.tasks w) None (Some (record { 0 = w }))

abbrev pub message_meant : Size → ℕ → Option MsgNo
message_meant z w = cond (outside z.messages w) None (Some (record { 0 = w }))

-- what is stored for a number of either kind: 0 for none
abbrev pub stored : {N : Type 0} → (N → ℕ) → Option N → ℕ
stored number (Some n) = number n
stored number None = 0

abbrev pub number_of_task : Option TaskNo → ℕ
number_of_task = stored (λ k. k.0)

abbrev pub number_of_message : Option MsgNo → ℕ
number_of_message = stored (λ m. m.0)

abbrev pub on_board : ℕ → ℕ → ℕ
on_board last w = cond (outside last w) 0 w
