-- Worked cases on a board of three tasks and four messages, 70 bytes: one for each of document 01's 'Slips that look right' and for each
-- other way in which a definition could go wrong unseen. They compute in milliseconds, so they stand beside the definitions.
-- Assumes nothing.
use mathlib.Core.Path.{◌≡◌, refl}
use mathlib.Core.List.{List, [], ◌∷◌, ◌++◌, map}
use Prim.Native.Nat.{ℕ}
use lib.ListN.{replicate}
use Rattle.std.specs.Prelude.{Err}
use Rattle.board.specs.declared.numbers.Size.{Size}
use Rattle.board.specs.Board.{board_of, message}
use Rattle.paper.specs.declared.call.Call.{Call}
use Rattle.paper.specs.declared.call.Call.TheVariants.{Install, PostInterrupt, Find, Claim, Prepare, Release, Send, Resend, Forward}
use Rattle.paper.specs.declared.call.Call.TheVariants.{Return, Receive, ReceiveAndWait, CancelMessage, WaitForInterrupt}
use Rattle.board.specs.Numbers.{task_no}
use Rattle.paper.specs.declared.answer.Rule.TheVariants.{R5}
use Rattle.paper.specs.declared.answer.Refusal.TheVariants.{RuleBroken, NoSuchMessage, NotHeld, NoSuchTask, BadPriority}
use Rattle.paper.specs.declared.answer.Refusal.TheVariants.{NotInstallable, BadSender}
use Rattle.paper.specs.Rules.{queue, order}
use Rattle.paper.specs.Outcomes.{blank, check}
use Rattle.paper.specs.History.{run}
use Rattle.paper.specs.Answers.{Answer, accepts}

abbrev pub tiny : Size
tiny = record { tasks = 3; messages = 4 }

abbrev pub answers_to : List Call → List Answer
answers_to calls = (run tiny (blank tiny) calls).answers

abbrev pub after : List Call → List ℕ
after calls = (run tiny (blank tiny) calls).after

abbrev queue_after : List Call → ℕ → List ℕ
queue_after calls r = queue tiny (board_of tiny (after calls)) r

abbrev pub ok : Answer
ok = accepts 0 1 0

-- task 2 waits for a message; task 1, of higher priority, runs and holds messages 1 and 2
abbrev sleeper : List Call
sleeper =
    Install 2 0x01 0x33 0 0 ∷ ReceiveAndWait ∷ Install 1 0x01 0x31 0 0 ∷ Claim ∷ Claim ∷ Prepare 1 0 0x15 0 ∷ Prepare 2 0 0x0B 0 ∷ []

abbrev asleep : List Answer
asleep = accepts 0 2 0 ∷ accepts 0 0 0 ∷ ok ∷ accepts 1 1 0 ∷ accepts 2 1 0 ∷ ok ∷ ok ∷ []

-- ---- the five slips
-- bit 0 is set after a LIFO placement
case_lifo_bit :
    (message (board_of tiny (after (Install 1 0x01 0x31 0 0 ∷ Claim ∷ Prepare 1 0 0x14 0 ∷ Send 1 1 ∷ []))) 1).prio ≡ 0x15
case_lifo_bit = refl

-- a woken task gets the more urgent message that came before it ran
case_woken_waits : answers_to (sleeper ++ (Send 1 2 ∷ Send 2 2 ∷ WaitForInterrupt ∷ [])) ≡ asleep ++ (ok ∷ ok ∷ accepts 0 2 2 ∷ [])
case_woken_waits = refl

-- a woken task whose only message is cancelled waits again
case_cancelled_sleeps :
    answers_to (sleeper ++ (Send 1 2 ∷ CancelMessage 1 2 ∷ WaitForInterrupt ∷ [])) ≡ asleep ++ (ok ∷ ok ∷ accepts 0 0 0 ∷ [])
case_cancelled_sleeps = refl

-- forward leaves RPTR: a later resend goes where the message was sent first
case_forward_rptr : queue_after (sleeper ++ (Send 1 1 ∷ Receive ∷ Forward 1 2 ∷ CancelMessage 1 2 ∷ Resend 1 ∷ [])) 1 ≡ 1 ∷ []
case_forward_rptr = refl

-- task 1 runs; tasks 1 and 2 with the queues 2, 4 and 3, then what LINK of message 3 says; message 4 is queued at task 1
abbrev pub two_queues : ℕ → List ℕ
two_queues next =
    (1 ∷ 1 ∷ 0 ∷ 0 ∷ [])
    ++ (0x01 ∷ 0x31 ∷ 2 ∷ 0 ∷ 2 ∷ 0 ∷ 0 ∷ 0 ∷ 0 ∷ 0 ∷ [])
    ++ (0x01 ∷ 0x33 ∷ 0 ∷ 0 ∷ 3 ∷ 0 ∷ 0 ∷ 0 ∷ 0 ∷ 0 ∷ [])
    ++ replicate 10 0
    ++ replicate 8 0
    ++ (0 ∷ 0x11 ∷ 4 ∷ 0 ∷ 0 ∷ 0 ∷ 0 ∷ 0 ∷ [])
    ++ (0 ∷ 0x11 ∷ next ∷ 0 ∷ 0 ∷ 0 ∷ 0 ∷ 0 ∷ [])
    ++ (0 ∷ 0x11 ∷ 0 ∷ 0 ∷ 0 ∷ 0 ∷ 0 ∷ 0 ∷ [])
    ++ (0 ∷ 65 ∷ 66 ∷ 65 ∷ [])

-- two queues that share a tail don't pass, and the same board with its own tails does
case_shared_tail : (check tiny (two_queues 4)).answer ≡ Err (RuleBroken (R5 (task_no 2)))
case_shared_tail = refl

case_own_tails : (check tiny (two_queues 0)).answer ≡ ok
case_own_tails = refl

-- ---- order
-- of two equals LIFO goes ahead and FIFO behind
case_lifo_and_fifo :
    queue_after
    (Install 1 0x01 0x31 0 0 ∷ Claim ∷ Claim ∷ Claim ∷ Prepare 1 0 0x14 0 ∷ Prepare 2 0 0x14 0 ∷ Prepare 3 0 0x15 0 ∷ Send 1 1 ∷ Send 2 1 ∷ Send 3 1 ∷ [])
    1
    ≡ 2 ∷ 1 ∷ 3 ∷ []
case_lifo_and_fifo = refl

-- of two equal tasks the earlier installed stands first, and find goes by that order and not by number
case_installed_behind : order tiny (board_of tiny (after (Install 3 0x01 0x33 0 7 ∷ Install 1 0x01 0x33 0 7 ∷ []))) ≡ 3 ∷ 1 ∷ []
case_installed_behind = refl

case_find_in_order : answers_to (Install 3 0x01 0x33 0 7 ∷ Install 1 0x01 0x33 0 7 ∷ Find 7 ∷ []) ≡ accepts 0 3 0 ∷ accepts 0 3 0 ∷ accepts 3 3 0 ∷ []
case_find_in_order = refl

-- ---- refusals
-- the lowest that applies: PRIO before the number on install, the message before its holder, the holder before the receiver
case_lowest_first :
    answers_to (Install 4 0x01 0x02 0 0 ∷ Install 1 0x01 0x31 0 0 ∷ Send 5 9 ∷ Send 1 9 ∷ Claim ∷ Send 1 9 ∷ [])
    ≡ Err BadPriority ∷ ok ∷ Err NoSuchMessage ∷ Err NotHeld ∷ accepts 1 1 0 ∷ Err NoSuchTask ∷ []
case_lowest_first = refl

-- the last task and the last message of the board are there, and neither 0 nor what would be behind them
case_last_numbers :
    answers_to (Install 3 0x01 0x31 0 0 ∷ Install 4 0x01 0x31 0 0 ∷ Install 0 0x01 0x31 0 0 ∷ Release 4 ∷ Release 5 ∷ Release 0 ∷ [])
    ≡ accepts 0 3 0 ∷ Err NotInstallable ∷ Err NotInstallable ∷ Err NotHeld ∷ Err NoSuchMessage ∷ Err NoSuchMessage ∷ []
case_last_numbers = refl

-- a sender may be 0, absent or the last task, and none behind it
case_last_sender :
    answers_to (Install 1 0x01 0x31 0 0 ∷ Claim ∷ Prepare 1 0 0 0 ∷ Prepare 1 0 0 3 ∷ Prepare 1 0 0 4 ∷ [])
    ≡ ok ∷ accepts 1 1 0 ∷ ok ∷ ok ∷ Err BadSender ∷ []
case_last_sender = refl

-- ---- who is meant
-- return goes to the sender and resend to the receiver
case_return_and_resend :
    map (queue_after (sleeper ++ (Prepare 1 0 0x15 2 ∷ Send 1 1 ∷ Receive ∷ Return 1 ∷ []))) (1 ∷ 2 ∷ []) ≡ [] ∷ (1 ∷ []) ∷ []
case_return_and_resend = refl

-- a message that is released is claimed anew with nothing left of what it was
case_released_cleared :
    answers_to (Install 1 0x01 0x31 0 0 ∷ Claim ∷ Prepare 1 0 0x15 1 ∷ Release 1 ∷ Claim ∷ [])
    ≡ ok ∷ accepts 1 1 0 ∷ ok ∷ ok ∷ accepts 1 1 0 ∷ []
case_released_cleared = refl

-- an interrupt that wakes a task is not queued as well: its next wait is a wait
case_post_wakes_once :
    answers_to (Install 1 0x01 0x31 0 0 ∷ WaitForInterrupt ∷ PostInterrupt 1 ∷ WaitForInterrupt ∷ [])
    ≡ ok ∷ accepts 0 0 0 ∷ ok ∷ accepts 0 0 0 ∷ []
case_post_wakes_once = refl
