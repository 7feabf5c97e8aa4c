-- Boards that a rule one notch looser would let pass, and boards that one a notch stricter would refuse. What life says of them, whether calls
-- can make them, is told in Rattle.reached, proofs/Cases. Worked cases on the board of Slips.
-- Assumes nothing.
use mathlib.Core.Path.{◌≡◌, refl}
use mathlib.Core.Bool.{true, false}
use Rattle.board.specs.declared.places.Place.TheVariants.{HeldBy}
use Rattle.board.specs.Numbers.{task_no}
use Rattle.board.specs.Status.{WAIT, IWAT, INTQ, MHBS, stored}
use Rattle.board.specs.Records.{with_prio, with_sptr}
use Rattle.board.specs.Board.{Board, board_of, message, with_running, with_task, with_message, with_place}
use Rattle.paper.specs.Rules.{passes}
use Rattle.paper.specs.Changes.{sets, link_message}
use Rattle.paper.proofs.Slips.{tiny, two_queues}

-- tasks 1 and 2 are ready, with the queues 2, 4 and 3; task 1, of the smaller number, runs; task 3 is absent, message 1 free
abbrev sound : Board
sound = board_of tiny (two_queues 0)

-- task 1 holds message 1 too, of PRIO 11H
abbrev holding : Board
holding = with_place (with_message sound 1 (with_prio (message sound 1) 0x11)) 1 (HeldBy (task_no 1))

-- both tasks have the priority number of task 1, and task 2 runs
abbrev pub equals : Board
equals = with_running (with_task sound 2 (record { stat = stored 0x01; prio = 0x31; link = 0; mptr = 3; sptr = 0; name = 0 })) 2

-- ---- a notch looser
-- a held message with a LINK
abbrev pub held_with_link : Board
held_with_link = link_message holding 1 2

case_held_with_link : passes tiny held_with_link ≡ false
case_held_with_link = refl

-- WAIT with a queue
abbrev pub waits_with_queue : Board
waits_with_queue = sets sound 2 WAIT

case_waits_with_queue : passes tiny waits_with_queue ≡ false
case_waits_with_queue = refl

-- an even PRIO in a queue
abbrev pub even_in_queue : Board
even_in_queue = with_message sound 3 (with_prio (message sound 3) 0x10)

case_even_in_queue : passes tiny even_in_queue ≡ false
case_even_in_queue = refl

-- INTQ with IWAT
abbrev pub parked_with_interrupt : Board
parked_with_interrupt = sets (sets sound 2 IWAT) 2 INTQ

case_parked_with_interrupt : passes tiny parked_with_interrupt ≡ false
case_parked_with_interrupt = refl

-- byte 1 names the later of two ready tasks of different numbers
abbrev pub later_runs : Board
later_runs = with_running sound 2

case_later_runs : passes tiny later_runs ≡ false
case_later_runs = refl

-- ---- a notch stricter
-- SPTR of a held message names a task that is absent
abbrev pub sender_absent : Board
sender_absent = with_message holding 1 (with_sptr (message holding 1) 3)

case_sender_absent : passes tiny sender_absent ≡ true
case_sender_absent = refl

-- a held message with an even PRIO
abbrev pub even_held : Board
even_held = with_message holding 1 (with_prio (message holding 1) 0x10)

case_even_held : passes tiny even_held ≡ true
case_even_held = refl

-- IWAT with a queue that isn't empty
abbrev pub parked_with_queue : Board
parked_with_queue = sets sound 2 IWAT

case_parked_with_queue : passes tiny parked_with_queue ≡ true
case_parked_with_queue = refl

-- an earlier equal is due a message
abbrev pub earlier_equal_due : Board
earlier_equal_due = sets equals 1 MHBS

case_earlier_equal_due : passes tiny earlier_equal_due ≡ true
case_earlier_equal_due = refl
