-- R1 to R7 as documents 01 and 02 word them, with no test that computes: what a board that passes is. A reader must believe this file.
--   Proper t                   what R2 asks of a present task
--   PlaceGood z b m p          what R4 asks of the message m where its place is p
--   Flags s Empty              what R6 asks of a status; Empty says that the queue is empty
--   Regular z b order queues   R1 to R5; the links list the tasks as order and the messages of task k as queues k
--   Leads b c                  c is a ready task of the smallest ready priority number
--   RunsRightly b c            what R7 asks of the task c that runs, but for MHBS
--   Sound z b                  R1 to R7
-- Assumes nothing.
use Rattle.std.specs.Prelude.{◌≡◌, ◌≢◌, ◌⊎◌, ◌↔◌, true, false, List, ℕ, ◌≤◌, ◌<◌}
use Rattle.links.specs.Chain.{All}
use Rattle.board.specs.declared.numbers.Size.{Size}
use Rattle.board.specs.declared.status.Status.{Status}
use Rattle.board.specs.declared.records.Task.{Task}
use Rattle.board.specs.declared.records.Message.{Message}
use Rattle.board.specs.declared.places.Place.{Place}
use Rattle.board.specs.declared.places.Place.TheVariants.{Free, HeldBy, QueuedAt, OnTimer, Nowhere}
use Rattle.board.specs.Numbers.{Numbered}
use Rattle.board.specs.Status.{WAIT, IWAT, BIT5, INTQ, MHBS, TCBB, has, fifo}
use Rattle.board.specs.Records.{no_task, no_message}
use Rattle.board.specs.Board.{Board, task, message, place}
use Rattle.paper.specs.Rules.{present, task_number, ready}
use Rattle.linked.specs.Linked.{Linked}

pub record Proper (t : Task) : Type 0 where
  pub there : has t.stat TCBB ≡ true
  pub bit5 : has t.stat BIT5 ≡ false
  pub odd : fifo t.prio ≡ true
  pub low : 0x03 ≤ t.prio
  pub high : t.prio ≤ 0xFD

pub record Pointers (z : Size) (u : Message) : Type 0 where
  pub receiver : u.rptr ≤ z.tasks
  pub sender : u.sptr ≤ z.tasks

abbrev pub PlaceGood : Size → Board → ℕ → Place → Type 0
PlaceGood z b m Free = message b m ≡ no_message
PlaceGood z b m (HeldBy k) = Pointers z (message b m) × ((message b m).link ≡ 0) × (present b k.0 ≡ true)
PlaceGood z b m (QueuedAt k) =
    Pointers z (message b m) × (fifo (message b m).prio ≡ true) × ((message b m).prio < 0xFF) × (present b k.0 ≡ true)
PlaceGood z b m OnTimer =
    Pointers z (message b m) × ((message b m).link ≡ 0) × (present b (message b m).sptr ≡ true) × ((message b m).prio < 0xFE)
PlaceGood z b m (Nowhere p) = ⊥

pub record Flags (s : Status) (Empty : Type 0) : Type 0 where
  pub one : has s WAIT ≡ true → has s IWAT ≡ false
  pub waiting : has s WAIT ≡ true → Empty × (has s MHBS ≡ false)
  pub parked : has s IWAT ≡ true → (has s INTQ ≡ false) × (has s MHBS ≡ false)
  pub due : has s MHBS ≡ true → Empty → ⊥

pub record Regular (z : Size) (b : Board) (order : List ℕ) (queues : ℕ → List ℕ) : Type 0 where
  pub zeros : All (λ x. x ≡ 0) b.zeros  -- R1
  pub records : (k : ℕ) → Numbered z.tasks k → (task b k ≡ no_task) ⊎ Proper (task b k)  -- R2
  pub linked : Linked z b order queues  -- R3, R5
  pub places : (m : ℕ) → Numbered z.messages m → PlaceGood z b m (place b m)  -- R4

pub record Leads (b : Board) (c : ℕ) : Type 0 where
  pub awake : ready b c ≡ true
  pub smallest : (k : ℕ) → ready b k ≡ true → task_number b c ≤ task_number b k

pub record RunsRightly (b : Board) (c : ℕ) : Type 0 where
  pub nobody : (c ≡ 0) ↔ ((k : ℕ) → ready b k ≡ false)
  pub leads : c ≢ 0 → Leads b c

pub record Sound (z : Size) (b : Board) : Type 0 where
  pub order : List ℕ
  pub queues : ℕ → List ℕ
  pub regular : Regular z b order queues  -- R1 to R5
  pub flags : (k : ℕ) → Numbered z.tasks k → Flags (task b k).stat ((task b k).mptr ≡ 0)  -- R6
  pub runs : RunsRightly b b.running  -- R7
  pub idle : has (task b b.running).stat MHBS ≡ false  -- R7
