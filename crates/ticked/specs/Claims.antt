-- What start and tick keep, beside the nineteen calls, as statements; their proofs are in proofs/Theorems and proofs/Delays. A reader must
-- believe this file.
--   TimerSizes z           sizes for which a message number fits the byte of an entry too
--   Passing z l s          l are the bytes of a board that passes, and s those of a timer buffer that is good for it
--   FittingEvent event     its arguments are words and bytes, as the code's types have it; AllEventsFit events: so of each
--   EventsStayPassing      an event on a board and a buffer that pass leaves such, refused or not
--   NeverStuck             refusal 15 is given by no start and no tick, whatever the bytes
--   TicksGo                a tick on a board and a buffer that pass is accepted
--   OneTimer t m           exactly one entry of t names the message m
--   BlocksOnce z o         where the outcome o is accepted, every block is free, held by one present task, in one queue once, or on the
--                          timer in one entry once
--   EveryBlockOnce         so it is after a start or tick on whatever bytes
--   due_queues             the queues once the messages that are due have gone back, each placed at its SPTR task by its priority and
--                          queue type, in entry order
--   DueInEntryOrder        those are the queues that a tick's dispatch finds
--   GoesBack z o r m       the outcome o of a tick has the message m back at task r: queued there, or handed to it by this very dispatch
--   ExactlyTheDelay        a started message is on the timer until the delay-th tick after its start, whatever calls, starts and ticks
--                          come between, and goes back to its SPTR task at that tick
-- Assumes nothing.
use Rattle.std.specs.Prelude.{◌≡◌, ◌≢◌, ◌⊎◌, true, cond, List, [], ◌∷◌, ℕ, suc, ◌<◌, get_or, Err}
use Rattle.links.specs.Chain.{All}
use Rattle.board.specs.declared.numbers.Size.{Size}
use Rattle.board.specs.declared.places.Place.TheVariants.{HeldBy, QueuedAt, OnTimer}
use Rattle.board.specs.Numbers.{task_no, Numbered}
use Rattle.board.specs.Records.{Byte, Word}
use Rattle.board.specs.Board.{Board, board_of, message, place}
use Rattle.board.specs.Claims.{Bytes}
use Rattle.timer.specs.declared.entry.Entry.{Entry}
use Rattle.timer.specs.Timer.{Timer, timer_of, is_due, entry}
use Rattle.timer.specs.Claims.{TimerBytes}
use Rattle.paper.specs.declared.answer.Refusal.TheVariants.{NothingToDeliver}
use Rattle.paper.specs.Rules.{passes}
use Rattle.paper.specs.Effects.{give_back}
use Rattle.paper.specs.Answers.{accepts}
use Rattle.linked.specs.Claims.{Whereabouts}
use Rattle.kept.specs.Settled.{Settled, Fitting}
use Rattle.kept.specs.Touched.{IntoQueue, queues_after}
use Rattle.kept.specs.Claims.{Sizes}
use Rattle.timing.specs.Timing.{good_timer, next_now, returned, Timed, start, tick}
use Rattle.timing.specs.Events.{Event, Called, Started, Ticked, happen, run_all, ticks}

pub record TimerSizes (z : Size) : Type 0 where
  pub sizes : Sizes z
  pub byte : z.messages < 256

pub record Passing (z : Size) (l s : List ℕ) : Type 0 where
  pub bytes : Bytes z l
  pub sound : passes z (board_of z l) ≡ true
  pub timer_bytes : TimerBytes s
  pub good : good_timer (board_of z l) s ≡ true

abbrev pub FittingEvent : Event → Type 0
FittingEvent (Called call) = Fitting call
FittingEvent (Started m delay) = Word m × Word delay
FittingEvent Ticked = Unit {0}

abbrev pub AllEventsFit : List Event → Type 0
AllEventsFit events = All FittingEvent events

-- ---- a board and a buffer that pass
abbrev pub EventsStayPassing : Type 0
EventsStayPassing =
    (z : Size) (l s : List ℕ) (event : Event) → TimerSizes z → FittingEvent event → Passing z l s
    → let o = happen z l s event in Passing z o.board o.timer

abbrev pub NeverStuck : Type 0
NeverStuck =
    (z : Size) (l s : List ℕ) → TimerSizes z → ((i : ℕ) → Byte (get_or l i 0)) → ((i : ℕ) → Byte (get_or s i 0))
    → ((m delay : ℕ) → Word m → Word delay → (start z l s m delay).answer ≢ Err NothingToDeliver)
    × ((tick z l s).answer ≢ Err NothingToDeliver)

abbrev pub TicksGo : Type 0
TicksGo =
    (z : Size) (l s : List ℕ) → TimerSizes z → Passing z l s → (c : ℕ) × (m : ℕ) × ((tick z l s).answer ≡ accepts 0 c m)

-- ---- demand 2, its last sentence, judged against the buffer
abbrev pub OneTimer : Timer → ℕ → Type 0
OneTimer t m =
    (i : ℕ) × Numbered 16 i × ((entry t i).message ≡ m) × ((j : ℕ) → Numbered 16 j → (entry t j).message ≡ m → j ≡ i)

abbrev pub BlocksOnce : Size → Timed → Type 0
BlocksOnce z o =
    (v c k : ℕ) → o.answer ≡ accepts v c k → (m : ℕ) → Numbered z.messages m → let b = board_of z o.board in
    Whereabouts z b m × (place b m ≡ OnTimer → OneTimer (timer_of o.timer) m)
    × (place b m ≢ OnTimer → (j : ℕ) → Numbered 16 j → (entry (timer_of o.timer) j).message ≢ m)

abbrev pub EveryBlockOnce : Type 0
EveryBlockOnce =
    (z : Size) (l s : List ℕ) → TimerSizes z → ((i : ℕ) → Byte (get_or l i 0)) → ((i : ℕ) → Byte (get_or s i 0))
    → ((m delay : ℕ) → Word m → Word delay → BlocksOnce z (start z l s m delay)) × BlocksOnce z (tick z l s)

-- ---- several due at one tick
abbrev pub due_queues : Size → ℕ → List Entry → Board → (ℕ → List ℕ) → ℕ → List ℕ
due_queues z at [] b queues = queues
due_queues z at (e ∷ es) b queues = let u = message b e.message in
    due_queues z at es (cond (is_due at e) (give_back z b e.message) b)
    (cond (is_due at e) (queues_after b queues (IntoQueue e.message u.prio u.sptr)) queues)

abbrev pub DueInEntryOrder : Type 0
DueInEntryOrder =
    (z : Size) (l s : List ℕ) (order : List ℕ) (queues : ℕ → List ℕ) → TimerSizes z → Passing z l s
    → let b = board_of z l in let t = timer_of s in Settled z b order queues
    → Settled z (returned z (next_now t) t.entries b) order (due_queues z (next_now t) t.entries b queues)

-- ---- the delay
abbrev pub GoesBack : Size → Timed → ℕ → ℕ → Type 0
GoesBack z o r m = let p = place (board_of z o.board) m in
    (c : ℕ) × (k : ℕ) × (o.answer ≡ accepts 0 c k) × ((p ≡ QueuedAt (task_no r)) ⊎ ((k ≡ m) × (c ≡ r) × (p ≡ HeldBy (task_no r))))

abbrev pub ExactlyTheDelay : Type 0
ExactlyTheDelay =
    (z : Size) (l s : List ℕ) (m delay v c k : ℕ) → TimerSizes z → Passing z l s → Word m → Word delay
    → let o = start z l s m delay in o.answer ≡ accepts v c k
    → (between : List Event) → AllEventsFit between → ticks between < delay
    → let p = run_all z o.board o.timer between in
    (place (board_of z p.board) m ≡ OnTimer)
    × (suc (ticks between) ≡ delay → GoesBack z (tick z p.board p.timer) (message (board_of z l) m).sptr m)
