-- What a board that passes is, as statements; their proofs are in proofs/Theorems. A reader must believe this file.
--   PassesExactly     a board passes exactly if R1 to R7 hold as the paper words them
--   LinksAreLists     on a board that passes the links list the tasks and each queue, and what the walks visit are those lists; and
--                     links that list anything list just that
--   OneWhereabouts    on a board that passes every message is free, held by one present task, in one queue once, or placed on the timer
--   ConvertedPasses   a board that is converted passes, and the task that is told to run is in byte 1
--   OnlyByte1         of a board that is converted byte 1 alone is another: the links visit the same, and find gives the same
-- Assumes nothing.
use Rattle.std.specs.Prelude.{◌≡◌, ◌≢◌, ◌↔◌, true, List, ℕ, ◌≤◌, length, get_or}
use Rattle.links.specs.Chain.{In, Out, Once}
use Rattle.board.specs.declared.numbers.Size.{Size}
use Rattle.board.specs.declared.places.Place.TheVariants.{Free, HeldBy, QueuedAt, OnTimer}
use Rattle.board.specs.Numbers.{task_no, Numbered}
use Rattle.board.specs.Records.{no_message}
use Rattle.board.specs.Board.{Board, board_of, message, place}
use Rattle.paper.specs.Rules.{present, order, queue, passes}
use Rattle.paper.specs.Effects.{find}
use Rattle.paper.specs.Conversion.{convert}
use Rattle.paper.specs.Answers.{accepts}
use Rattle.linked.specs.Linked.{Linked}
use Rattle.linked.specs.Sound.{Sound}

-- a board has no more tasks than messages, so that one limit serves both kinds of walk
abbrev pub PassesExactly : Type 0
PassesExactly = (z : Size) (l : List ℕ) → z.tasks ≤ z.messages → (passes z (board_of z l) ≡ true) ↔ Sound z (board_of z l)

abbrev pub LinksAreLists : Type 0
LinksAreLists =
    (z : Size) (l : List ℕ) → z.tasks ≤ z.messages → let b = board_of z l in
    (passes z b ≡ true → Linked z b (order z b) (queue z b))
    × ((q : List ℕ) (queues : ℕ → List ℕ) → Linked z b q queues
    → (order z b ≡ q) × ((k : ℕ) → Numbered z.tasks k → queue z b k ≡ queues k))

-- where a message is
pub data Whereabouts (z : Size) (b : Board) (m : ℕ) : Type 0 where
  free : place b m ≡ Free → message b m ≡ no_message → ((k : ℕ) → Numbered z.tasks k → Out m (queue z b k)) → Whereabouts z b m
  held : (k : ℕ) → place b m ≡ HeldBy (task_no k) → present b k ≡ true → ((j : ℕ) → Numbered z.tasks j → Out m (queue z b j))
      → Whereabouts z b m
  queued : (k : ℕ) → place b m ≡ QueuedAt (task_no k) → present b k ≡ true → In m (queue z b k) → Once (queue z b k)
      → ((j : ℕ) → Numbered z.tasks j → In m (queue z b j) → j ≡ k) → Whereabouts z b m
  on_timer : place b m ≡ OnTimer → ((k : ℕ) → Numbered z.tasks k → Out m (queue z b k)) → Whereabouts z b m

abbrev pub OneWhereabouts : Type 0
OneWhereabouts =
    (z : Size) (l : List ℕ) → z.tasks ≤ z.messages → passes z (board_of z l) ≡ true
    → (m : ℕ) → Numbered z.messages m → Whereabouts z (board_of z l) m

-- ---- the conversion of a saved board
abbrev pub ConvertedPasses : Type 0
ConvertedPasses =
    (z : Size) (l : List ℕ) (v c m : ℕ) → (convert z l).answer ≡ accepts v c m
    → let d = board_of z (convert z l).after in (passes z d ≡ true) × (d.running ≡ c)

abbrev pub OnlyByte1 : Type 0
OnlyByte1 =
    (z : Size) (l : List ℕ) → let d = (convert z l).after in let b = board_of z l in let e = board_of z d in
    (length d ≡ length l) × ((i : ℕ) → i ≢ 1 → get_or d i 0 ≡ get_or l i 0)
    × (order z e ≡ order z b) × ((k : ℕ) → queue z e k ≡ queue z b k) × ((name : ℕ) → find z e name ≡ find z b name)
