-- When start and tick are refused: worked cases on the boards of Cases. Assumes nothing.
use mathlib.Core.Path.{◌≡◌, refl}
use mathlib.Core.Bool.{Bool, true, false}
use mathlib.Core.List.{List, [], ◌∷◌, ◌++◌, map}
use Prim.Native.Nat.{ℕ}
use lib.ListN.{replicate}
use Rattle.std.specs.Prelude.{Err}
use Rattle.board.specs.declared.numbers.Size.{Size}
use Rattle.board.specs.Board.{join, board_of, bytes_of, with_message}
use Rattle.timer.specs.declared.entry.Entry.{Entry}
use Rattle.timer.specs.Timer.{timer, timer_bytes, no_entry}
use Rattle.paper.specs.declared.answer.Rule.TheVariants.{R1}
use Rattle.paper.specs.declared.answer.Refusal.TheVariants.{WrongLength, RuleBroken, NobodyRuns, NoSuchMessage, NotHeld}
use Rattle.paper.specs.declared.answer.Refusal.TheVariants.{NoSuchTask, BadPriority, NoDelay, NoTimerFree, BadTimer}
use Rattle.paper.specs.Outcomes.{blank}
use Rattle.paper.proofs.Slips.{tiny}
use Rattle.paper.specs.Answers.{accepts, Answer}
use Rattle.timing.specs.Timing.{good_timer, lowest_entry, start, tick}
use Rattle.timing.proofs.Cases.{fires, buffer, station, holds}

-- ---- 18
-- message 1 is on the timer, and message 2 is held
abbrev good : ℕ → List Entry → Bool
good now l = good_timer (board_of tiny (station 0 0 0 128 1)) (buffer now l)

-- any entry will do, and any now; due now is no fault
case_good : map (good 9) ((fires 1 5 ∷ []) ∷ (no_entry ∷ fires 1 0 ∷ []) ∷ (fires 1 9 ∷ []) ∷ []) ≡ true ∷ true ∷ true ∷ []
case_good = refl

-- it is in no entry
case_in_no_entry : good 0 [] ≡ false
case_in_no_entry = refl

-- it is in two
case_in_two_entries : good 0 (fires 1 5 ∷ fires 1 7 ∷ []) ≡ false
case_in_two_entries = refl

-- an entry has one that is held, or one that no board has
case_held_in_entry : good 0 (fires 1 5 ∷ fires 2 5 ∷ []) ≡ false
case_held_in_entry = refl

case_beyond_in_entry : good 0 (fires 1 5 ∷ fires 200 5 ∷ []) ≡ false
case_beyond_in_entry = refl

-- a free entry has a due word
case_free_not_zero : good 0 (fires 1 5 ∷ fires 0 5 ∷ []) ≡ false
case_free_not_zero = refl

-- a byte more, a byte less
case_other_length :
    map (good_timer (board_of tiny holds)) (replicate 51 0 ∷ replicate 50 0 ∷ replicate 49 0 ∷ []) ≡ false ∷ true ∷ false ∷ []
case_other_length = refl

-- a fresh board: now may be what it will, and no entry may be in use
case_fresh_board :
    map (λ s. (tick tiny (blank tiny) s).answer) (buffer 700 [] ∷ buffer 0 (fires 1 5 ∷ []) ∷ [])
    ≡ accepts 0 0 0 ∷ Err BadTimer ∷ []
case_fresh_board = refl

-- ---- in the paper's order
-- 1 and 2 before 18, and 18 before the rest: no buffer at all, with no board, with one that breaks R1, with one where nobody runs
abbrev boards : List (List ℕ)
boards = [] ∷ (0 ∷ 0 ∷ 1 ∷ replicate 67 0) ∷ blank tiny ∷ []

abbrev faults : List Answer
faults = Err WrongLength ∷ Err (RuleBroken R1) ∷ Err BadTimer ∷ []

case_start_18 : map (λ l. (start tiny l [] 9 0).answer) boards ≡ faults
case_start_18 = refl

case_tick_18 : map (λ l. (tick tiny l []).answer) boards ≡ faults
case_tick_18 = refl

-- 3, 4 and 5
case_start_3 : (start tiny (blank tiny) (buffer 0 []) 9 0).answer ≡ Err NobodyRuns
case_start_3 = refl

case_start_4_5 :
    map (λ m. (start tiny (station 0 0 0 1 128) (buffer 0 (fires 2 5 ∷ [])) m 0).answer) (0 ∷ 5 ∷ 2 ∷ 3 ∷ [])
    ≡ Err NoSuchMessage ∷ Err NoSuchMessage ∷ Err NotHeld ∷ Err NotHeld ∷ []
case_start_4_5 = refl

-- 6 and 7 as for return, and 16 behind them: start replaces neither SPTR 0 nor priority 127
-- message 1 is held, with this PRIO and SPTR
abbrev holding : ℕ → ℕ → List ℕ
holding prio sptr =
    bytes_of (with_message (board_of tiny holds) 1 (record { stat = 0; prio = prio; link = 0; rptr = 1; sptr = sptr }))

case_start_6_7_16 :
    map (λ l. (start tiny l (buffer 0 []) 1 0).answer)
    (holding 0xFF 0 ∷ holding 0xFF 3 ∷ holding 0xFF 1 ∷ holding 0xFE 1 ∷ holding 0xFD 1 ∷ [])
    ≡ Err NoSuchTask ∷ Err NoSuchTask ∷ Err BadPriority ∷ Err BadPriority ∷ Err NoDelay ∷ []
case_start_6_7_16 = refl

-- ---- all sixteen in use, on a board of one task and seventeen messages, of which it holds the last, of this PRIO
abbrev seventeen : Size
seventeen = record { tasks = 1; messages = 17 }

abbrev own : ℕ → List ℕ
own prio = 0 ∷ prio ∷ 0 ∷ 0 ∷ 0 ∷ 0 ∷ 1 ∷ 0 ∷ []

abbrev full : ℕ → List ℕ
full prio =
    (1 ∷ 1 ∷ 0 ∷ 0 ∷ []) ++ (0x01 ∷ 0x31 ∷ replicate 8 0) ++ join (replicate 16 (own 0x15)) ++ own prio
    ++ replicate 16 128 ++ (1 ∷ [])

abbrev sixteen : List ℕ
sixteen =
    timer_bytes
    (timer 0 (map (λ m. fires m 5) (16 ∷ 15 ∷ 14 ∷ 13 ∷ 12 ∷ 11 ∷ 10 ∷ 9 ∷ 8 ∷ 7 ∷ 6 ∷ 5 ∷ 4 ∷ 3 ∷ 2 ∷ 1 ∷ [])))

-- 17, and 16 before it, and 7 before both
case_start_17 :
    map (λ delay. (start seventeen (full 0x15) sixteen 17 delay).answer) (1 ∷ 0 ∷ []) ≡ Err NoTimerFree ∷ Err NoDelay ∷ []
case_start_17 = refl

case_start_7_before_17 : (start seventeen (full 0xFF) sixteen 17 0).answer ≡ Err BadPriority
case_start_7_before_17 = refl

-- the sixteenth is there for whoever comes last
case_last_entry : lowest_entry (timer 0 (replicate 15 (fires 1 5) ++ (no_entry ∷ []))) ≡ 16
case_last_entry = refl
