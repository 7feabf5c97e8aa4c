-- A history of calls, starts and ticks, made one after another on the bytes of a board and of one timer buffer, refused ones among them.
-- A reader must believe this file.
--   Event                   a call, a start or a tick
--   happen z l s event      the answer, and all bytes of both buffers afterwards; a call is lent no buffer
--   run_all z l s events    the answer of each event, and the bytes of both after the last
--   ticks events            how many of them are ticks
--   Happened l s events as d t   a program was handed the answers as for these events and left d of l and t of s, each event as the
--                          contract of the step, of start or of tick says
-- Assumes nothing.
use Rattle.std.specs.Prelude.{◌≡◌, List, [], ◌∷◌, ℕ, suc}
use Rattle.board.specs.declared.numbers.Size.{Size}
use Rattle.board.specs.Numbers.{small}
use Rattle.paper.specs.declared.call.Call.{Call}
use Rattle.paper.specs.Outcomes.{effect}
use Rattle.paper.specs.Answers.{Answer}
use Rattle.timing.specs.Timing.{Timed, EndsTimed, start, tick}

pub data Event : Type 0 where
  Called : Call → Event
  Started : (m delay : ℕ) → Event
  Ticked : Event

abbrev pub happen : Size → List ℕ → List ℕ → Event → Timed
happen z l s (Called call) = let o = effect z l call in record { answer = o.answer; board = o.after; timer = s }
happen z l s (Started m delay) = start z l s m delay
happen z l s Ticked = tick z l s

pub record RanAll : Type 0 where
  pub answers : List Answer
  pub board : List ℕ
  pub timer : List ℕ

abbrev pub run_all : Size → List ℕ → List ℕ → List Event → RanAll
run_all z l s [] = record { answers = []; board = l; timer = s }
run_all z l s (event ∷ events) = let o = happen z l s event in let p = run_all z o.board o.timer events in
    record { answers = o.answer ∷ p.answers; board = p.board; timer = p.timer }

abbrev pub ticks : List Event → ℕ
ticks [] = 0
ticks (Called call ∷ events) = ticks events
ticks (Started m delay ∷ events) = ticks events
ticks (Ticked ∷ events) = suc (ticks events)

abbrev pub Happened : List ℕ → List ℕ → List Event → List Answer → List ℕ → List ℕ → Type 0
Happened l s [] [] d t = (d ≡ l) × (t ≡ s)
Happened l s [] (a ∷ answers) d t = ⊥
Happened l s (event ∷ events) [] d t = ⊥
Happened l s (event ∷ events) (a ∷ answers) d t =
    (m : List ℕ) × (u : List ℕ) × EndsTimed a m u (happen small l s event) × Happened m u events answers d t
