-- A message on the timer, place 128: document 02, Ask 5. What R4 asks of it, what calls make of it, and who cannot be cancelled
-- for it. Worked cases on a board of the size of Slips. Assumes nothing.
use mathlib.Core.Path.{◌≡◌, refl}
use mathlib.Core.Bool.{true, false}
use mathlib.Core.List.{[], ◌∷◌, map}
use Prim.Native.Nat.{ℕ}
use Rattle.std.specs.Prelude.{Err}
use Rattle.board.specs.declared.records.Message.{Message}
use Rattle.board.specs.declared.places.Place.{Place}
use Rattle.board.specs.declared.places.Place.TheVariants.{HeldBy, OnTimer}
use Rattle.board.specs.Numbers.{task_no}
use Rattle.board.specs.Board.{Board, board_of, bytes_of, with_message, with_place}
use Rattle.paper.specs.declared.call.Call.{Call}
use Rattle.paper.specs.declared.call.Call.TheVariants.{Install, CancelTask, Claim, Release, CancelMessage}
use Rattle.paper.specs.declared.answer.Refusal.TheVariants.{NotHeld, TaskBusy, NotQueued}
use Rattle.paper.specs.Rules.{passes}
use Rattle.paper.specs.Outcomes.{effect}
use Rattle.paper.proofs.Slips.{tiny, after, ok}
use Rattle.paper.specs.Answers.{Answer, accepts}

-- tasks 1 and 2 are there, and task 1 runs; task 3 is absent; message 1 has these fields and is at this place
abbrev station : Message → Place → Board
station u p =
    with_place (with_message (board_of tiny (after (Install 1 0x01 0x31 0 0 ∷ Install 2 0x01 0x33 0 0 ∷ []))) 1 u) 1 p

abbrev on_timer : (prio link rptr sptr : ℕ) → Board
on_timer prio link rptr sptr = station (record { stat = 0; prio = prio; link = link; rptr = rptr; sptr = sptr }) OnTimer

-- ---- R4
-- LINK is 0, SPTR present and PRIO below FEH; it may be even, and RPTR may be absent
case_on_timer :
    map (passes tiny) (on_timer 0x15 0 0 2 ∷ on_timer 0x14 0 0 2 ∷ on_timer 0xFD 0 0 2 ∷ on_timer 0x15 0 3 2 ∷ [])
    ≡ true ∷ true ∷ true ∷ true ∷ []
case_on_timer = refl

-- with a LINK
case_on_timer_link : passes tiny (on_timer 0x15 2 0 2) ≡ false
case_on_timer_link = refl

-- SPTR absent, 0 and beyond the board
case_on_timer_sender :
    map (passes tiny) (on_timer 0x15 0 0 3 ∷ on_timer 0x15 0 0 0 ∷ on_timer 0x15 0 0 4 ∷ []) ≡ false ∷ false ∷ false ∷ []
case_on_timer_sender = refl

-- PRIO of priority 127
case_on_timer_prio : map (passes tiny) (on_timer 0xFE 0 0 2 ∷ on_timer 0xFF 0 0 2 ∷ []) ≡ false ∷ false ∷ []
case_on_timer_prio = refl

-- RPTR beyond the board
case_on_timer_receiver : passes tiny (on_timer 0x15 0 4 2) ≡ false
case_on_timer_receiver = refl

-- ---- calls
abbrev answer : Board → Call → Answer
answer b call = (effect tiny (bytes_of b) call).answer

-- it is not held, not queued and not free
case_on_timer_elsewhere :
    map (answer (on_timer 0x15 0 1 1)) (Release 1 ∷ CancelMessage 1 1 ∷ Claim ∷ [])
    ≡ Err NotHeld ∷ Err NotQueued ∷ accepts 2 1 0 ∷ []
case_on_timer_elsewhere = refl

-- ---- refusal 10
-- its sender cannot be cancelled, and its receiver can
case_awaited : map (answer (on_timer 0x15 0 1 2)) (CancelTask 2 ∷ CancelTask 1 ∷ []) ≡ Err TaskBusy ∷ accepts 0 2 0 ∷ []
case_awaited = refl

-- so can the sender of a message that is elsewhere
case_awaited_nowhere :
    answer (station (record { stat = 0; prio = 0x15; link = 0; rptr = 1; sptr = 2 }) (HeldBy (task_no 1))) (CancelTask 2) ≡ ok
case_awaited_nowhere = refl
