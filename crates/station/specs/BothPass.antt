-- What start and tick look at before all else: 1, 2 and 18, which are a tick's whole row. The contract of both_pass, which no caller sees,
-- cites this file; start and tick are proved to meet their own (proofs/Timing), so no reader needs to believe it.
--   both_pass l s      the refusal that a tick would give of a board of the bytes l with the timer buffer s; where it gives none, who runs
-- Assumes nothing.
use Rattle.std.specs.Prelude.{List, ℕ, Option, Result, Ok, Err}
use Rattle.board.specs.declared.numbers.TaskNo.{TaskNo}
use Rattle.board.specs.Numbers.{small, task_meant}
use Rattle.board.specs.Board.{board_of}
use Rattle.paper.specs.Refusals.{Verdict, Go, Stop, given}
use Rattle.paper.specs.declared.answer.Refusal.{Refusal}
use Rattle.timing.specs.Timing.{tick_row}

abbrev pub unless_stopped : Verdict → Option TaskNo → Result (Option TaskNo) Refusal
unless_stopped Go c = Ok c
unless_stopped (Stop q) c = Err q

abbrev pub both_pass : List ℕ → List ℕ → Result (Option TaskNo) Refusal
both_pass l s = let b = board_of small l in unless_stopped (given (tick_row small l b s)) (task_meant small b.running)
