-- A board and plain lists: the task queue as one list, the queue of each task as one. A reader must believe this file.
--   Listing next number x q Member   the links from x list q: exactly those of which Member holds, in the order of priority numbers
--   Linked z b order queues          the links of the board b list the tasks as order and the messages of task k as queues k
-- Assumes nothing.
use Rattle.std.specs.Prelude.{◌≡◌, ◌↔◌, true, List, ℕ}
use Rattle.links.specs.Chain.{In, Sorted, Chain}
use Rattle.board.specs.declared.numbers.Size.{Size}
use Rattle.board.specs.declared.places.Place.TheVariants.{QueuedAt}
use Rattle.board.specs.Numbers.{task_no, Numbered}
use Rattle.board.specs.Board.{Board, task, place}
use Rattle.paper.specs.Rules.{present, next_task, next_message, task_number, message_number}

-- a chain that ends visits nothing twice (links, chain_once), so 'exactly those' is 'exactly those, once each'
pub record Listing (next number : ℕ → ℕ) (x : ℕ) (q : List ℕ) (Member : ℕ → Type 0) : Type 0 where
  pub chain : Chain next x q
  pub exact : (y : ℕ) → In y q ↔ Member y
  pub sorted : Sorted number q

-- R3 and R5
pub record Linked (z : Size) (b : Board) (order : List ℕ) (queues : ℕ → List ℕ) : Type 0 where
  pub tasks : Listing (next_task b) (task_number b) b.first order (λ k. present b k ≡ true)
  pub messages : (k : ℕ) → Numbered z.tasks k
      → Listing (next_message b) (message_number b) (task b k).mptr (queues k) (λ m. place b m ≡ QueuedAt (task_no k))
