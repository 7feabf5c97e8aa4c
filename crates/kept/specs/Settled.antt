-- A board between a call's body and its dispatch: R1 to R6 hold, with the lists that its links list. A reader of the promises about
-- calls must believe this file.
--   Fits z b                   the records are as many as the size says and every field fits its bytes
--   Settled z b order queues   b fits and keeps R1 to R6; its links list the tasks as order and the messages of task k as queues k
--   Awake b c                  the task c that calls, if any, is ready
--   Fitting call               the call's arguments are words and bytes, as the code's types have it; AllFit calls: so of each
-- Assumes nothing.
use Rattle.std.specs.Prelude.{◌≡◌, ◌≢◌, true, List, ℕ, length}
use Rattle.links.specs.Chain.{All}
use Rattle.board.specs.declared.numbers.Size.{Size}
use Rattle.board.specs.declared.records.Task.{Task}
use Rattle.board.specs.declared.records.Message.{Message}
use Rattle.board.specs.Numbers.{Numbered}
use Rattle.board.specs.Records.{Byte, Word}
use Rattle.board.specs.Places.{place_of, place_byte}
use Rattle.board.specs.Board.{Board, task, message, place}
use Rattle.paper.specs.declared.call.Call.{Call}
use Rattle.paper.specs.Rules.{ready}
use Rattle.paper.specs.Arguments.{arguments_of}
use Rattle.linked.specs.Sound.{Regular, Flags}

pub record FitsTask (t : Task) : Type 0 where
  pub stat : Byte t.stat.0
  pub prio : Byte t.prio
  pub link : Word t.link
  pub mptr : Word t.mptr
  pub sptr : Word t.sptr
  pub name : Word t.name

pub record FitsMessage (u : Message) : Type 0 where
  pub stat : Byte u.stat
  pub prio : Byte u.prio
  pub link : Word u.link
  pub rptr : Word u.rptr
  pub sptr : Word u.sptr

pub record Fits (z : Size) (b : Board) : Type 0 where
  pub first : Byte b.first
  pub running : Byte b.running
  pub zeros : length b.zeros ≡ 2
  pub tasks : length b.tasks ≡ z.tasks
  pub messages : length b.messages ≡ z.messages
  pub places : length b.places ≡ z.messages
  pub task : (k : ℕ) → FitsTask (task b k)
  pub message : (m : ℕ) → FitsMessage (message b m)
  pub place : (m : ℕ) → (Byte (place_byte (place b m))) × (place_of z (place_byte (place b m)) ≡ place b m)

pub record Settled (z : Size) (b : Board) (order : List ℕ) (queues : ℕ → List ℕ) : Type 0 where
  pub fits : Fits z b
  pub regular : Regular z b order queues  -- R1 to R5
  pub flags : (k : ℕ) → Numbered z.tasks k → Flags (task b k).stat ((task b k).mptr ≡ 0)  -- R6

abbrev pub Awake : Board → ℕ → Type 0
Awake b c = c ≢ 0 → ready b c ≡ true

abbrev pub Fitting : Call → Type 0
Fitting call = All Word (arguments_of call).words × All Byte (arguments_of call).bytes

abbrev pub AllFit : List Call → Type 0
AllFit calls = All Fitting calls
