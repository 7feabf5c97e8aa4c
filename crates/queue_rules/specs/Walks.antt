-- The walk of a queue as code makes it, counting as it goes. The contracts of src/lib.rt cite this file; that it says the same as R3 and
-- R5 is proved (proofs/Lists), so no reader needs to believe it.
--   went next number good .. x low     one link followed, where good says which records belong to the queue
--   turned meant next number good x low  that, where meant w is the record that a word means: a link that means none leads astray
--   visited next number good n x low s a walk of at most n links from x that saw s before and met the priority number low last
--   counted f n                         how many numbers from 1 to n pass f
--   message_turned z b k m low          one link of task k's queue; one that leads beyond the board leads astray
--   queue_walked b n k                  the walk of task k's queue, of at most n links
--   walked b most n                     the walks of the queues of tasks 1 to n, one after the other, of at most so many links together
--   saw w n                             a walk that ended and saw n
--   Lengths b n t                       of the messages from 1 to n so many are queued at each task below 256, by its number in the table t
--   breaking z f                        the smallest task that f is not true of, if any
-- Assumes nothing.
use Rattle.std.specs.Prelude.{◌≡◌, Bool, false, cond, ◌&&◌, List, ℕ, zero, suc, ◌+◌, ◌-◌, ◌<◌, get_or, eqb, leb, Option, Some, None}
use Rattle.links.specs.Queue.{smallest_failing}
use Rattle.board.specs.declared.numbers.Size.{Size}
use Rattle.board.specs.declared.numbers.TaskNo.{TaskNo}
use Rattle.board.specs.declared.numbers.MsgNo.{MsgNo}
use Rattle.board.specs.Numbers.{task_meant, message_meant}
use Rattle.board.specs.Places.{is_queued_at, is_queued}
use Rattle.board.specs.Board.{Board, task, place}
use Rattle.paper.specs.Rules.{next_message, message_number}
use Rattle.queue_rules.specs.declared.walk.Turn.{Turn}
use Rattle.queue_rules.specs.declared.walk.Turn.TheVariants.{Next, End, Stray}

-- to the end, on, or astray
abbrev pub went : {A : Type 0} → (ℕ → ℕ) → (ℕ → ℕ) → (ℕ → Bool) → (ℕ → ℕ → A) → A → A → ℕ → ℕ → A
went next number good on end stray x low =
    cond (good x && leb low (number x)) (cond (eqb (next x) 0) end (on (next x) (number x))) stray

abbrev pub onward : {N : Type 0} → Option N → ℕ → Turn N
onward (Some x) p = Next x p
onward None p = Stray

abbrev pub turned : {N : Type 0} → (ℕ → Option N) → (ℕ → ℕ) → (ℕ → ℕ) → (ℕ → Bool) → ℕ → ℕ → Turn N
turned meant next number good = went next number good (λ y p. onward (meant y) p) End Stray

unfoldable pub visited : (ℕ → ℕ) → (ℕ → ℕ) → (ℕ → Bool) → ℕ → ℕ → ℕ → ℕ → Option ℕ
visited next number good zero x low seen = cond (eqb x 0) (Some seen) None
visited next number good (suc n) zero low seen = Some seen
visited next number good (suc n) (suc x) low seen =
    cond (good (suc x) && leb low (number (suc x))) (visited next number good n (next (suc x)) (number (suc x)) (suc seen)) None

unfoldable pub counted : (ℕ → Bool) → ℕ → ℕ
counted f zero = 0
counted f (suc n) = cond (f (suc n)) (suc (counted f n)) (counted f n)

-- message m is queued, queued at k
abbrev pub queued : Board → ℕ → Bool
queued b m = is_queued (place b m)

abbrev pub queued_at : Board → ℕ → ℕ → Bool
queued_at b k m = is_queued_at k (place b m)

abbrev pub message_turned : Size → Board → ℕ → ℕ → ℕ → Turn MsgNo
message_turned z b k = turned (message_meant z) (next_message b) (message_number b) (queued_at b k)

abbrev pub queue_visited : Board → ℕ → ℕ → ℕ → ℕ → ℕ → Option ℕ
queue_visited b k = visited (next_message b) (message_number b) (queued_at b k)

abbrev pub queue_walked : Board → ℕ → ℕ → Option ℕ
queue_walked b n k = queue_visited b k n (task b k).mptr 0 0

-- one queue's walk behind those before it
abbrev pub behind : ℕ → Option ℕ → (Option ℕ)
behind s None = None
behind s (Some n) = Some (s + n)

abbrev pub walked_on : Option ℕ → (ℕ → Option ℕ) → Option ℕ
walked_on None next = None
walked_on (Some s) next = behind s (next s)

unfoldable pub walked : Board → ℕ → ℕ → Option ℕ
walked b most zero = Some 0
walked b most (suc k) = walked_on (walked b most k) (λ s. queue_walked b (most - s) (suc k))

abbrev pub saw : Option ℕ → ℕ → Bool
saw (Some n) m = eqb n m
saw None m = false

abbrev pub Lengths : Board → ℕ → List ℕ → Type 0
Lengths b n t = (k : ℕ) → k < 256 → get_or t k 0 ≡ counted (queued_at b k) n

abbrev pub breaking : Size → (ℕ → Bool) → Option TaskNo
breaking z f = task_meant z (smallest_failing f z.tasks)
