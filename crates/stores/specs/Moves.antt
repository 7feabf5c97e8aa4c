-- The two moves of a queue as stores on the bytes l: a record goes in at its spot, a record is taken out. A link that names nothing of the
-- board leads nowhere. Contracts of code cite this file; no reader needs to believe it.
--   message_behind z b m          the message that LINK of m names, 0 for none; task_behind z b k likewise
--   spot_for z l r f p            where a message of priority number p goes in the queue of r (f: FIFO)
--   spot_of z l r m               where message m stands in the queue of r; spot_for_task, spot_of_task likewise
--   behind z l r prev x           what stands behind prev in the queue of r is x: its first where prev is none; so behind_task
--   queue_into z l m u r          message m becomes u, bit 0 of PRIO set, and goes into the queue of r; queue_out z l m r it is taken out
--   order_into z l k t            task k becomes t and goes into the task queue; order_out z l k it is taken out
-- Assumes nothing.
use Rattle.std.specs.Prelude.{Bool, true, List, ℕ, ◌%◌, eqb, Option, Some, None}
use Rattle.links.specs.Queue.{goes_before}
use Rattle.links.specs.Seek.{Spot, seek}
use Rattle.board.specs.declared.numbers.Size.{Size}
use Rattle.board.specs.declared.numbers.TaskNo.{TaskNo}
use Rattle.board.specs.declared.numbers.MsgNo.{MsgNo}
use Rattle.board.specs.declared.records.Task.{Task}
use Rattle.board.specs.declared.records.Message.{Message}
use Rattle.board.specs.Numbers.{task_meant, message_meant, on_board}
use Rattle.board.specs.Status.{number, fifo, with_fifo}
use Rattle.board.specs.Records.{task_with_link, with_link, with_prio}
use Rattle.board.specs.Board.{Board, board_of, task}
use Rattle.board.specs.Writes.{put_first, put_task, put_message}
use Rattle.paper.specs.Rules.{next_task, next_message, task_number, message_number}
use Rattle.stores.specs.Changes.{with_mptr, link_task, link_message}

-- ---- where a link leads
abbrev pub message_behind : Size → Board → ℕ → ℕ
message_behind z b m = on_board z.messages (next_message b m)

abbrev pub task_behind : Size → Board → ℕ → ℕ
task_behind z b k = on_board z.tasks (next_task b k)

-- ---- the queue of a task
abbrev pub spot_for : Size → List ℕ → ℕ → Bool → ℕ → Spot
spot_for z l r f p = let b = board_of z l in
    seek (λ y. goes_before f p (message_number b y)) (message_behind z b) z.messages 0 (on_board z.messages (task b r).mptr)

abbrev pub spot_of : Size → List ℕ → ℕ → ℕ → Spot
spot_of z l r m = let b = board_of z l in
    seek (λ y. eqb y m) (message_behind z b) z.messages 0 (on_board z.messages (task b r).mptr)

abbrev pub behind : Size → List ℕ → ℕ → Option MsgNo → ℕ → List ℕ
behind z l r (Some m) x = link_message z l m.0 x
behind z l r None x = with_mptr z l r x

abbrev pub queue_into : Size → List ℕ → ℕ → Message → ℕ → List ℕ
queue_into z l m u r = let at = spot_for z l r (fifo u.prio) (number u.prio) in
    behind z (put_message z l m (with_link (with_prio u (with_fifo u.prio)) at.cur)) r (message_meant z at.prev) m

abbrev pub queue_out : Size → List ℕ → ℕ → ℕ → List ℕ
queue_out z l m r = behind z l r (message_meant z (spot_of z l r m).prev) (message_behind z (board_of z l) m)

-- ---- the task queue
abbrev pub spot_for_task : Size → List ℕ → ℕ → Spot
spot_for_task z l p = let b = board_of z l in
    seek (λ y. goes_before true p (task_number b y)) (task_behind z b) z.messages 0 (on_board z.tasks b.first)

abbrev pub spot_of_task : Size → List ℕ → ℕ → Spot
spot_of_task z l k = let b = board_of z l in
    seek (λ y. eqb y k) (task_behind z b) z.messages 0 (on_board z.tasks b.first)

abbrev pub behind_task : Size → List ℕ → Option TaskNo → ℕ → List ℕ
behind_task z l (Some k) x = link_task z l k.0 x
behind_task z l None x = put_first l (x % 256)

abbrev pub order_into : Size → List ℕ → ℕ → Task → List ℕ
order_into z l k t = let at = spot_for_task z l (number t.prio) in
    behind_task z (put_task z l k (task_with_link t at.cur)) (task_meant z at.prev) k

abbrev pub order_out : Size → List ℕ → ℕ → List ℕ
order_out z l k = behind_task z l (task_meant z (spot_of_task z l k).prev) (task_behind z (board_of z l) k)
