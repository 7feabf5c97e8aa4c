-- What start and tick do: worked cases on a board of the size of Rattle.paper, proofs/Slips, one for each way in which a
-- definition could go wrong unseen. Assumes nothing.
use mathlib.Core.Path.{◌≡◌, refl}
use mathlib.Core.List.{List, [], ◌∷◌, ◌++◌, map}
use Prim.Native.Nat.{ℕ}
use lib.ListN.{take, replicate}
use Rattle.timer.specs.declared.entry.Entry.{Entry}
use Rattle.timer.specs.Timer.{Timer, timer, timer_bytes, no_entry}
use Rattle.paper.specs.declared.call.Call.TheVariants.{Install, Claim, Prepare, Send, Receive, ReceiveAndWait, CancelMessage}
use Rattle.paper.specs.declared.call.Call.TheVariants.{WaitForInterrupt}
use Rattle.paper.specs.Outcomes.{blank}
use Rattle.paper.proofs.Slips.{tiny, ok}
use Rattle.paper.specs.Answers.{Answer, accepts}
use Rattle.timing.specs.Timing.{Timed, started_timer, freed, tick}
use Rattle.timing.specs.Events.{Event, Called, Started, Ticked, RanAll, run_all}

-- ---- a timer with these entries and free ones behind them
abbrev pub fires : ℕ → ℕ → Entry
fires m at = record { message = m; due = at }

abbrev pub timer_with : ℕ → List Entry → Timer
timer_with now l = timer now (take 16 (l ++ replicate 16 no_entry))

abbrev pub buffer : ℕ → List Entry → List ℕ
buffer now l = timer_bytes (timer_with now l)

case_zero_at_first : buffer 0 [] ≡ replicate 50 0
case_zero_at_first = refl

-- ---- a board on which task 1 runs; it is the sender of messages 1 and 2, of one priority
-- MPTR is this, the LINKs of the two are one and two, their places p and q
abbrev pub station : (mptr one two p q : ℕ) → List ℕ
station mptr one two p q =
    (1 ∷ 1 ∷ 0 ∷ 0 ∷ [])
    ++ (0x01 ∷ 0x31 ∷ 0 ∷ 0 ∷ mptr ∷ 0 ∷ 0 ∷ 0 ∷ 0 ∷ 0 ∷ [])
    ++ replicate 20 0
    ++ (0 ∷ 0x15 ∷ one ∷ 0 ∷ 0 ∷ 0 ∷ 1 ∷ 0 ∷ [])
    ++ (0 ∷ 0x15 ∷ two ∷ 0 ∷ 0 ∷ 0 ∷ 1 ∷ 0 ∷ [])
    ++ replicate 16 0
    ++ (p ∷ q ∷ 0 ∷ 0 ∷ [])

-- it holds both
abbrev pub holds : List ℕ
holds = station 0 0 0 1 1

-- what is left of that, of a timer without entries and of now, by what happens then
abbrev after : ℕ → List Event → RanAll
after now events = run_all tiny holds (buffer now []) events

-- ---- start
-- the place becomes 128, and no other byte changes
case_place_128 : (after 0 (Started 2 5 ∷ [])).board ≡ station 0 0 0 1 128
case_place_128 = refl

-- it is due now plus the delay, less 65,536 where that is beyond 65,535
case_due : (after 7 (Started 2 5 ∷ [])).timer ≡ buffer 7 (fires 2 12 ∷ [])
case_due = refl

case_due_wraps : started_timer (timer_with 65535 []) 2 1 ≡ timer_with 65535 (fires 2 0 ∷ [])
case_due_wraps = refl

-- the lowest free entry is taken, also where a higher one is in use
case_lowest_entry :
    (after 0 (Started 1 1 ∷ Started 2 5 ∷ Ticked ∷ Called Receive ∷ Started 1 3 ∷ [])).timer
    ≡ buffer 1 (fires 1 4 ∷ fires 2 5 ∷ [])
case_lowest_entry = refl

-- a start that is refused, of a message that is not held, takes no entry
case_refused_start : (after 0 (Started 3 5 ∷ [])).timer ≡ buffer 0 []
case_refused_start = refl

-- ---- tick: what is due
-- now runs on past 65,535 to 0, and what is due at 0 comes back then
case_now_wraps : (after 65535 (Started 1 1 ∷ Ticked ∷ [])).timer ≡ buffer 0 []
case_now_wraps = refl

case_back_at_0 : (after 65535 (Started 1 1 ∷ Ticked ∷ [])).board ≡ station 1 0 0 65 1
case_back_at_0 = refl

-- not one tick earlier
case_not_early : (after 0 (Started 1 2 ∷ Ticked ∷ [])).board ≡ station 0 0 0 128 1
case_not_early = refl

-- a due word below now is to come, not past
case_not_past : (after 1 (Started 1 65535 ∷ Ticked ∷ [])).board ≡ station 0 0 0 128 1
case_not_past = refl

case_not_past_entry : (after 1 (Started 1 65535 ∷ Ticked ∷ [])).timer ≡ buffer 2 (fires 1 0 ∷ [])
case_not_past_entry = refl

-- a free entry does nothing when now becomes 0
case_free_at_0 : tick tiny holds (buffer 65535 []) ≡ record { answer = ok; board = holds; timer = buffer 0 [] }
case_free_at_0 = refl

-- nor at the due word that a faulty one has
case_free_stays : map (freed 5) (fires 0 5 ∷ fires 1 5 ∷ []) ≡ fires 0 5 ∷ no_entry ∷ []
case_free_stays = refl

-- due now: the next tick is too late for it
abbrev due_now : ℕ → Timed
due_now now = record { answer = ok; board = station 0 0 0 128 1; timer = buffer now (fires 1 7 ∷ []) }

case_due_now : tick tiny (due_now 7).board (due_now 7).timer ≡ due_now 8
case_due_now = refl

-- ---- tick: where it goes
-- two that are due at once stand in the queue in entry order, and both entries are free again
case_entry_order : (after 0 (Started 2 1 ∷ Started 1 1 ∷ Ticked ∷ [])).board ≡ station 2 0 1 65 65
case_entry_order = refl

case_entries_freed : (after 0 (Started 2 1 ∷ Started 1 1 ∷ Ticked ∷ [])).timer ≡ buffer 1 []
case_entries_freed = refl

-- one that is due leaves the entry of another
case_other_entry : (after 0 (Started 2 1 ∷ Started 1 2 ∷ Ticked ∷ [])).timer ≡ buffer 1 (no_entry ∷ fires 1 2 ∷ [])
case_other_entry = refl

-- task 2 waits for a message; task 1 runs and holds messages 1 and 2, which go back to task 2, the second ahead of the first
abbrev sleeper : List Event
sleeper =
    map Called
    (Install 2 0x01 0x33 0 0 ∷ ReceiveAndWait ∷ Install 1 0x01 0x31 0 0 ∷ Claim ∷ Claim
    ∷ Prepare 1 0 0x15 2 ∷ Prepare 2 0 0x0B 2 ∷ [])

abbrev asleep : List Answer
asleep = accepts 0 2 0 ∷ accepts 0 0 0 ∷ ok ∷ accepts 1 1 0 ∷ accepts 2 1 0 ∷ ok ∷ ok ∷ []

abbrev answers_to : List Event → List Answer
answers_to events = (run_all tiny (blank tiny) (buffer 0 []) events).answers

-- dispatch comes once, at the end: task 2 is handed the first by rank, not the first by entry. Nobody ran when the tick came
case_first_by_rank :
    answers_to (sleeper ++ (Started 1 1 ∷ Started 2 1 ∷ Called WaitForInterrupt ∷ Ticked ∷ []))
    ≡ asleep ++ (ok ∷ ok ∷ accepts 0 0 0 ∷ accepts 0 2 2 ∷ [])
case_first_by_rank = refl

-- it goes to SPTR, task 1, and not to task 2, which it was sent to once
case_to_its_sender :
    answers_to
    (sleeper
    ++ (Called (Prepare 1 0 0x15 1) ∷ Called (Send 1 2) ∷ Called (CancelMessage 1 2)
    ∷ Started 1 1 ∷ Ticked ∷ Called Receive ∷ []))
    ≡ asleep ++ (ok ∷ ok ∷ ok ∷ ok ∷ ok ∷ accepts 1 1 0 ∷ [])
case_to_its_sender = refl

-- no task is there at all
case_tick_with_nobody : (tick tiny (blank tiny) (buffer 0 [])).answer ≡ accepts 0 0 0
case_tick_with_nobody = refl
