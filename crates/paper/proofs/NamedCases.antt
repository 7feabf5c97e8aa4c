-- Which rule refusal 2 names, and which record: document 02, Ask 1. Worked cases on the board of Slips.
-- Assumes nothing.
use mathlib.Core.Path.{◌≡◌, refl}
use lib.ListN.{set}
use Rattle.std.specs.Prelude.{Err}
use Rattle.board.specs.declared.places.Place.TheVariants.{QueuedAt}
use Rattle.board.specs.Numbers.{task_no, msg_no}
use Rattle.board.specs.Status.{WAIT, IWAT, MHBS}
use Rattle.board.specs.Records.{with_prio}
use Rattle.board.specs.Board.{Board, board_of, bytes_of, message, with_first, with_running, with_message, with_place}
use Rattle.paper.specs.declared.call.Call.TheVariants.{Find}
use Rattle.paper.specs.declared.answer.Rule.{Rule}
use Rattle.paper.specs.declared.answer.Rule.TheVariants.{R1, R2, R3, R4, R5, R6, R7}
use Rattle.paper.specs.declared.answer.Refusal.TheVariants.{RuleBroken}
use Rattle.paper.specs.Changes.{sets, link_message, with_mptr}
use Rattle.paper.specs.Outcomes.{effect, check}
use Rattle.paper.proofs.Slips.{tiny, two_queues}
use Rattle.paper.specs.Answers.{Answer}

-- a board that passes: task 1 has the queue 2, 4 and task 2 the queue 3; task 3 is absent and message 1 free
abbrev sound : Board
sound = board_of tiny (two_queues 0)

abbrev checked : Board → Answer
checked b = (check tiny (bytes_of b)).answer

abbrev broken : Rule → Answer
broken r = Err (RuleBroken r)

-- ---- each rule, with its record
-- byte 2 isn't zero
pub case_r1_no_record : (check tiny (set (two_queues 0) 2 9)).answer ≡ broken R1
case_r1_no_record = refl

-- task 3 is absent and has an MPTR
pub case_r2_task : checked (with_mptr sound 3 1) ≡ broken (R2 (task_no 3))
case_r2_task = refl

-- byte 0 passes over task 1
pub case_r3_no_record : checked (with_first sound 2) ≡ broken R3
case_r3_no_record = refl

-- message 1 is free and has a LINK
pub case_r4_message : checked (link_message sound 1 2) ≡ broken (R4 (msg_no 1))
case_r4_message = refl

-- message 4 stands behind message 2 with a smaller priority number
pub case_r5_queue : checked (with_message sound 4 (with_prio (message sound 4) 0x0F)) ≡ broken (R5 (task_no 1))
case_r5_queue = refl

-- task 2 waits for a message and has one
pub case_r6_task : checked (sets sound 2 WAIT) ≡ broken (R6 (task_no 2))
case_r6_task = refl

-- task 1 runs and is due a message
pub case_r7_due : checked (sets sound 1 MHBS) ≡ broken (R7 1)
case_r7_due = refl

-- nobody is said to run, and two are ready
pub case_r7_nobody : checked (with_running sound 0) ≡ broken (R7 0)
case_r7_nobody = refl

-- task 2 runs, and task 1, of a smaller priority number, is ready
pub case_r7_outranked : checked (with_running sound 2) ≡ broken (R7 2)
case_r7_outranked = refl

-- task 1 is said to run and waits for an interrupt
pub case_r7_waits : checked (sets sound 1 IWAT) ≡ broken (R7 1)
case_r7_waits = refl

-- both wait, and one is said to run
pub case_r7_none_ready : checked (sets (sets sound 1 IWAT) 2 IWAT) ≡ broken (R7 1)
case_r7_none_ready = refl

-- byte 1 names no task of the board: it is told as it is
pub case_r7_raw_byte : checked (with_running sound 255) ≡ broken (R7 255)
case_r7_raw_byte = refl

-- a call is told the same as the check
pub case_call_told : (effect tiny (bytes_of (sets sound 2 WAIT)) (Find 0)).answer ≡ broken (R6 (task_no 2))
case_call_told = refl

-- ---- the lowest rule, then the smallest record
-- task 3 breaks R2, and message 1, of a smaller number, R4
pub case_lowest_rule : checked (with_mptr (link_message sound 1 2) 3 1) ≡ broken (R2 (task_no 3))
case_lowest_rule = refl

-- message 1 has a LINK though it is free, and message 3 is queued at the absent task 3
pub case_smallest_message : checked (with_place (link_message sound 1 2) 3 (QueuedAt (task_no 3))) ≡ broken (R4 (msg_no 1))
case_smallest_message = refl

-- both tasks wait for a message and have one
pub case_smallest_task : checked (sets (sets sound 1 WAIT) 2 WAIT) ≡ broken (R6 (task_no 1))
case_smallest_task = refl

-- R6 is not judged where R5 is broken: task 2 strays into the queue of task 1, which waits for a message
pub case_r5_before_r6 : checked (sets (link_message sound 3 4) 1 WAIT) ≡ broken (R5 (task_no 2))
case_r5_before_r6 = refl

-- R7 is not judged where R6 is broken: task 1 runs and is due a message, and task 2 waits for one and has one
pub case_r6_before_r7 : checked (sets (sets sound 1 MHBS) 2 WAIT) ≡ broken (R6 (task_no 2))
case_r6_before_r7 = refl

-- ---- R5: the task whose own walk is wrong
-- the queues share message 4, which is queued at task 1: task 2 is wrong, and task 1 visits exactly its own
pub case_later_strays : checked (link_message sound 3 4) ≡ broken (R5 (task_no 2))
case_later_strays = refl

-- they share it, and it is queued at task 2: task 1 is wrong, and task 2 visits exactly its own
pub case_earlier_strays : checked (with_place (link_message sound 3 4) 4 (QueuedAt (task_no 2))) ≡ broken (R5 (task_no 1))
case_earlier_strays = refl

-- message 4 is queued at task 2, and no link leads to it
pub case_misses_own : checked (with_place (link_message sound 2 0) 4 (QueuedAt (task_no 2))) ≡ broken (R5 (task_no 2))
case_misses_own = refl

-- the links of task 1 lead back to its first message
pub case_no_end : checked (link_message sound 4 2) ≡ broken (R5 (task_no 1))
case_no_end = refl
