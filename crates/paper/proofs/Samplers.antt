-- Who runs: document 02, Ask 3. Worked cases on the board of Slips, tasks 1 and 2 being the two samplers; and the conversion of saved boards.
-- Assumes nothing.
use mathlib.Core.Path.{◌≡◌, refl}
use mathlib.Core.List.{List, [], ◌∷◌, ◌++◌}
use Prim.Native.Nat.{ℕ}
use Rattle.std.specs.Prelude.{Err}
use Rattle.board.specs.Status.{MHBS}
use Rattle.board.specs.Board.{board_of, bytes_of, with_running}
use Rattle.paper.specs.declared.call.Call.{Call}
use Rattle.paper.specs.declared.call.Call.TheVariants.{Install, PostInterrupt, CancelTask, Claim, Prepare, Send, SendAndWait}
use Rattle.paper.specs.declared.call.Call.TheVariants.{ReceiveAndWait, WaitForInterrupt}
use Rattle.paper.specs.declared.answer.Rule.TheVariants.{R1, R7}
use Rattle.paper.specs.declared.answer.Refusal.TheVariants.{RuleBroken, NobodyRuns}
use Rattle.paper.specs.Changes.{sets}
use Rattle.paper.specs.Outcomes.{accepted, refused, check}
use Rattle.paper.specs.Conversion.{convert}
use Rattle.paper.proofs.Slips.{tiny, answers_to, after, two_queues}
use Rattle.paper.specs.Answers.{Answer, accepts}

-- the task c runs on, or then
abbrev runs : ℕ → Answer
runs c = accepts 0 c 0

-- task 1 of this PRIO waits for an interrupt, and task 2, of PRIO 33H, runs
abbrev samplers : ℕ → List Call
samplers p = Install 1 0x01 p 0 0 ∷ Install 2 0x01 0x33 0 0 ∷ WaitForInterrupt ∷ []

abbrev sampling : List Answer
sampling = runs 1 ∷ runs 1 ∷ runs 2 ∷ []

-- ---- an equal
-- a post to the earlier sampler does not push the later one aside, and byte 1 says so
case_equal_goes_on : answers_to (samplers 0x33 ++ (PostInterrupt 1 ∷ [])) ≡ sampling ++ (runs 2 ∷ [])
case_equal_goes_on = refl

case_byte_1 : (board_of tiny (after (samplers 0x33 ++ (PostInterrupt 1 ∷ [])))).running ≡ 2
case_byte_1 = refl

-- one of a smaller priority number runs at once
case_smaller_at_once : answers_to (samplers 0x31 ++ (PostInterrupt 1 ∷ [])) ≡ sampling ++ (runs 1 ∷ [])
case_smaller_at_once = refl

-- nor does an equal that is installed; and one of a smaller number does
case_installed_equal : answers_to (samplers 0x33 ++ (Install 3 0x01 0x33 0 0 ∷ [])) ≡ sampling ++ (runs 2 ∷ [])
case_installed_equal = refl

case_installed_smaller : answers_to (samplers 0x33 ++ (Install 3 0x01 0x31 0 0 ∷ [])) ≡ sampling ++ (runs 3 ∷ [])
case_installed_smaller = refl

-- ---- who ran no longer may
-- it waits: the earlier equal, which is ready, runs
case_waits_next : answers_to (samplers 0x33 ++ (PostInterrupt 1 ∷ WaitForInterrupt ∷ [])) ≡ sampling ++ (runs 2 ∷ runs 1 ∷ [])
case_waits_next = refl

-- it cancels itself: so too; and installed again it is one among equals, behind the one that runs
case_cancelled_next :
    answers_to (samplers 0x33 ++ (PostInterrupt 1 ∷ CancelTask 2 ∷ Install 2 0x01 0x33 0 0 ∷ [])) ≡ sampling ++ (runs 2 ∷ runs 1 ∷ runs 1 ∷ [])
case_cancelled_next = refl

-- one that does not run is cancelled: nothing changes
case_other_cancelled :
    answers_to (samplers 0x33 ++ (PostInterrupt 1 ∷ CancelTask 1 ∷ [])) ≡ sampling ++ (runs 2 ∷ runs 2 ∷ [])
case_other_cancelled = refl

-- nobody is ready: byte 1 is 0, and 3 is given; then the one that is posted runs
case_nobody_ready :
    answers_to (samplers 0x33 ++ (WaitForInterrupt ∷ Claim ∷ PostInterrupt 2 ∷ [])) ≡ sampling ++ (runs 0 ∷ Err NobodyRuns ∷ runs 2 ∷ [])
case_nobody_ready = refl

case_byte_1_zero : (board_of tiny (after (samplers 0x33 ++ (WaitForInterrupt ∷ [])))).running ≡ 0
case_byte_1_zero = refl

-- ---- messages
-- task 1 waits for a message; task 2, its equal, runs and holds message 1
abbrev mail : List Call
mail = Install 1 0x01 0x33 0 0 ∷ Install 2 0x01 0x33 0 0 ∷ ReceiveAndWait ∷ Claim ∷ Prepare 1 0 0x15 0 ∷ []

abbrev mailed : List Answer
mailed = runs 1 ∷ runs 1 ∷ runs 2 ∷ accepts 1 2 0 ∷ runs 2 ∷ []

-- it is sent to the earlier equal, which is then due it: that board passes, and it is handed over when that task runs
case_equal_due : answers_to (mail ++ (Send 1 1 ∷ WaitForInterrupt ∷ [])) ≡ mailed ++ (runs 2 ∷ accepts 0 1 1 ∷ [])
case_equal_due = refl

case_equal_due_passes : (check tiny (after (mail ++ (Send 1 1 ∷ [])))).answer ≡ runs 2
case_equal_due_passes = refl

-- a task that is due a message is ready: it does not yield to an earlier equal
case_due_goes_on :
    answers_to (samplers 0x33 ++ (PostInterrupt 1 ∷ Claim ∷ Prepare 1 0 0x15 0 ∷ Send 1 2 ∷ ReceiveAndWait ∷ []))
    ≡ sampling ++ (runs 2 ∷ accepts 1 2 0 ∷ runs 2 ∷ runs 2 ∷ accepts 0 2 1 ∷ [])
case_due_goes_on = refl

-- first who runs is settled, then a message is handed over: task 2 is due message 2 when the sending of message 1 wakes task 1, of a smaller
-- number, and gets it only when it runs again
case_chosen_first :
    answers_to
    (Install 2 0x01 0x33 0 0 ∷ Install 1 0x01 0x31 0 0 ∷ ReceiveAndWait ∷ Claim ∷ Claim ∷ Prepare 1 0 0x15 0 ∷ Prepare 2 0 0x15 0 ∷ Send 2 2
    ∷ SendAndWait 1 1 ∷ WaitForInterrupt ∷ [])
    ≡ runs 2 ∷ runs 1 ∷ runs 2 ∷ accepts 1 2 0 ∷ accepts 2 2 0 ∷ runs 2 ∷ runs 2 ∷ runs 2 ∷ accepts 0 1 1 ∷ accepts 0 2 2 ∷ []
case_chosen_first = refl

-- ---- saved boards
-- the board of Slips as it was saved, when byte 1 was zero
abbrev saved : List ℕ
saved = bytes_of (with_running (board_of tiny (two_queues 0)) 0)

-- the first ready task ran, and byte 1 becomes that; nothing else changes
case_converted : convert tiny saved ≡ accepted 0 1 0 (two_queues 0)
case_converted = refl

-- a board that is converted, and one of today, breaks the old R1
case_converted_again : convert tiny (two_queues 0) ≡ refused (two_queues 0) (RuleBroken R1)
case_converted_again = refl

-- the old R7 speaks of the first ready task, and names it
case_old_r7 : let l = bytes_of (sets (board_of tiny saved) 1 MHBS) in convert tiny l ≡ refused l (RuleBroken (R7 1))
case_old_r7 = refl
