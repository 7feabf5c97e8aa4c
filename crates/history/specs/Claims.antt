-- Demand 3 as statements; their proofs are in proofs/Ranks, proofs/Theorems and proofs/Coded. A reader must believe this file.
--   OneRanking            of entries made at different times exactly one list is the ranking
--   LinksRank next x l    the links from x are exactly the ranking of the entries l, and then 0
--   Agrees z l p          the bytes l and the plain machine p agree: the board passes, the links from byte 0 and from each MPTR are the
--                         rankings, every other field is the machine's, and byte 1 is the machine's running task
--   plain_run z x events  the machine after these events, and its answers
--   zeros                 a timer buffer of zeros
--   LinksAgree            whatever calls, starts and ticks are made from the fresh board and a buffer of zeros, all answers agree, one by one,
--                         and afterwards the bytes agree, and the buffer is the machine's
--   CodeAgrees            so it is with every program that meets the contracts of fresh, of the step, of start and of tick (Rattle.station,
--                         src/lib.rt): fresh is lent no buffer, so whoever makes the board zeroes it
-- Assumes nothing.
use Rattle.std.specs.Prelude.{◌≡◌, true, List, [], ◌∷◌, ℕ, length, replicate, eqb}
use Rattle.links.specs.Chain.{Chain}
use Rattle.board.specs.declared.numbers.Size.{Size}
use Rattle.board.specs.declared.records.Task.{Task}
use Rattle.board.specs.declared.records.Message.{Message}
use Rattle.board.specs.declared.places.Place.{Place}
use Rattle.board.specs.declared.places.Place.TheVariants as places
use Rattle.board.specs.Numbers.{small, Numbered}
use Rattle.board.specs.Board.{board_of, total, task, message, place}
use Rattle.paper.specs.Rules.{next_task, next_message, passes}
use Rattle.paper.specs.Outcomes.{blank, Ends, fresh}
use Rattle.paper.specs.Answers.{Answer}
use Rattle.timer.specs.Timer.{timer_length, timer_bytes}
use Rattle.timing.specs.Events.{Event, run_all, Happened}
use Rattle.ticked.specs.Claims.{TimerSizes, AllEventsFit}
use Rattle.history.specs.Ranking.{Entry, keep, Ranking, DifferentTimes, Names}
use Rattle.history.specs.Machine.{Sheet, Block, Whose, Free, Held, Queued, Timed, Plain}
use Rattle.history.specs.Clockwork.{Clocked, begin, happens}

-- ---- the ranking is one
pub record Ranked (l : List Entry) : Type 0 where
  pub list : List Entry
  pub ranking : Ranking l list
  pub only : (q : List Entry) → Ranking l q → q ≡ list

abbrev pub OneRanking : Type 0
OneRanking = (l : List Entry) → DifferentTimes l → Ranked l

-- ---- a board and the machine
abbrev pub sheet_of : Task → Sheet
sheet_of t = record { stat = t.stat; prio = t.prio; sptr = t.sptr; name = t.name }

abbrev pub block_of : Message → Block
block_of u = record { stat = u.stat; prio = u.prio; rptr = u.rptr; sptr = u.sptr }

abbrev pub IsWhere : Place → Whose → Type 0
IsWhere places.Free w = w ≡ Free
IsWhere (places.HeldBy k) w = w ≡ Held k.0
IsWhere (places.QueuedAt k) w = w ≡ Queued k.0
IsWhere places.OnTimer w = w ≡ Timed
IsWhere (places.Nowhere p) w = ⊥

pub record LinksRank (next : ℕ → ℕ) (x : ℕ) (l : List Entry) : Type 0 where
  pub numbers : List ℕ
  pub names : Names l numbers
  pub chain : Chain next x numbers

pub record Agrees (z : Size) (l : List ℕ) (p : Plain) : Type 0 where
  pub sound : passes z (board_of z l) ≡ true
  pub tasks : (k : ℕ) → sheet_of (task (board_of z l) k) ≡ p.sheets k
  pub messages : (m : ℕ) → block_of (message (board_of z l) m) ≡ p.blocks m
  pub places : (m : ℕ) → IsWhere (place (board_of z l) m) (p.whose m)
  pub times : DifferentTimes p.installs × DifferentTimes p.placements
  pub order : LinksRank (next_task (board_of z l)) (board_of z l).first p.installs
  pub queues : (k : ℕ) → Numbered z.tasks k
      → LinksRank (next_message (board_of z l)) (task (board_of z l) k).mptr (keep (λ e. eqb e.at k) p.placements)
  pub runs : (board_of z l).running ≡ p.running

-- ---- histories
pub record PlainRan : Type 0 where
  pub answers : List Answer
  pub machine : Clocked

abbrev pub plain_run : Size → Clocked → List Event → PlainRan
plain_run z x [] = record { answers = []; machine = x }
plain_run z x (event ∷ events) =
    let o = happens z x event in
    let rest = plain_run z o.machine events in
    record { answers = o.answer ∷ rest.answers; machine = rest.machine }

abbrev pub zeros : List ℕ
zeros = replicate timer_length 0

abbrev pub LinksAgree : Type 0
LinksAgree =
    (z : Size) → TimerSizes z → (events : List Event) → AllEventsFit events
    → let r = run_all z (blank z) zeros events in let q = plain_run z begin events in
    (r.answers ≡ q.answers) × Agrees z r.board q.machine.plain × (r.timer ≡ timer_bytes q.machine.timer)

-- ---- the same of code
abbrev pub CodeAgrees : Type 0
CodeAgrees =
    (lent l d t : List ℕ) (a : Answer) (events : List Event) (answers : List Answer)
    → length lent ≡ total small → Ends a l (fresh small lent) → AllEventsFit events → Happened l zeros events answers d t
    → let q = plain_run small begin events in
    (answers ≡ q.answers) × Agrees small d q.machine.plain × (t ≡ timer_bytes q.machine.timer)
