-- The task queue, on bytes of the right length whose links list queues: what code stores when a task goes in or is taken out is
-- what the paper says of the whole queue.
-- Assumes nothing.
use mathlib.Core.Path.{◌≡◌, refl, sym, ap, subst}
use mathlib.Core.Bool.{Bool, true, false, cond}
use mathlib.Core.List.{List}
use Prim.Native.Nat.{ℕ, ◌≤◌, ◌<◌}
use native.Mathlib.Omega.{arith}
use lib.Dec.{eqb}
use lib.ListN.{length}
use Rattle.std.specs.Prelude.{Some, None}
use Rattle.links.specs.Queue.{walk, goes_before, insert, without}
use Rattle.links.specs.Chain.{In, Out, All, Chain}
use Rattle.links.specs.Seek.{Spot, seek}
use Rattle.links.proofs.Members.{out_not_in, all_of}
use Rattle.links.proofs.Chains.{chain_frame, walk-length}
use Rattle.board.specs.declared.numbers.Size.{Size}
use Rattle.board.specs.declared.records.Task.{Task}
use Rattle.board.specs.Numbers.{outside, on_board, task_meant, Numbered}
use Rattle.board.specs.Status.{number}
use Rattle.board.specs.Records.{task_with_link}
use Rattle.board.specs.Board.{Board, total, board_of, with_first, with_task}
use Rattle.board.specs.Writes.{put_task}
use Rattle.board.proofs.Pieces.{outside-within}
use Rattle.board.proofs.Meant.{on_board-most}
use Rattle.board.proofs.Codec.{length-tasks, length-places}
use Rattle.paper.specs.Rules.{next_task, task_number, order}
use Rattle.paper.specs.Changes.{link_task, with_order}
use Rattle.linked.specs.Linked.{Linked}
use Rattle.linked.proofs.Boards.{present-within, linked_walks}
use Rattle.kept.proofs.Reading.{task_other}
use Rattle.stores.specs.Moves as moves
use Rattle.stored.proofs.Comes.{Comes, and_then, comes_to, comes_first, comes_task}
use Rattle.stored.proofs.Behind.{behind, spot_in, spot_read, walk_read, behind_insert, behind_without}
use Rattle.stored.proofs.Links.{order_store, task_again}

-- one word: byte 0, or LINK of the task before
comes_behind : (z : Size) (l : List ℕ) → length l ≡ total z → (prev x : ℕ) → x < 256
    → Comes z (moves.behind_task z l (task_meant z prev) x) (behind order_store z.tasks (board_of z l) prev x)
comes_behind z l e prev x h = go (outside z.tasks prev)
  where
    go : (t : Bool) → Comes z (moves.behind_task z l (cond t None (Some (record { 0 = prev }))) x)
        (cond t (with_first (board_of z l) x) (link_task (board_of z l) prev x))
    go true = comes_first z l e x h
    go false = comes_task z l e prev _

-- no word leads beyond the board
on_board_low : (n w : ℕ) → on_board n w ≤ n
on_board_low n w = go (outside n w) refl
  where
    go : (t : Bool) → outside n w ≡ t → cond t 0 w ≤ n
    go true e = omega arith
    go false e = (outside-within n w e).1

module _ (z : Size) (l : List ℕ) (e : length l ≡ total z) (fuel : z.tasks ≤ z.messages) (small : z.tasks ≤ 63)
    {tasks : List ℕ} {queues : ℕ → List ℕ} (h : Linked z (board_of z l) tasks queues) where
  abbrev b : Board
  b = board_of z l

  order_walks : order z b ≡ tasks
  order_walks = (linked_walks z b (length-tasks z l) (length-places z l) fuel tasks queues h).0

  order-chain : Chain (next_task b) b.first (order z b)
  order-chain = rw order_walks h.tasks.chain

  -- the queue is of tasks of the board
  order_on : All (λ k. on_board z.tasks k ≡ k) (order z b)
  order_on = all_of _ (order z b) (λ k i.
      let there = (h.tasks.exact k).0 (subst (In k) order_walks i) in
      on_board-most z.tasks k (present-within z b (length-tasks z l) (length-places z l) fuel k there).1)

  order_spot : (goes : ℕ → Bool)
      → seek goes (moves.task_behind z b) z.messages 0 (on_board z.tasks b.first) ≡ spot_in goes (order z b)
  order_spot goes =
      spot_read order_store b z.tasks (order z b) order-chain order_on goes z.messages (walk-length (next_task b) z.messages b.first)

  -- a walk that leaves the board nowhere visits the queue
  pub order_read : walk (moves.task_behind z b) z.messages (on_board z.tasks b.first) ≡ order z b
  order_read =
      walk_read order_store b z.tasks (order z b) order-chain order_on z.messages (walk-length (next_task b) z.messages b.first)

  -- a record written of a task that isn't in the queue leaves the links
  chain_with : (k : ℕ) (t : Task) → Out k (order z b) → Chain (next_task (with_task b k t)) b.first (order z b)
  chain_with k t o =
      chain_frame (next_task b) (next_task (with_task b k t)) b.first (order z b)
      (λ y i. ap (λ (u : Task). u.link) (task_other b k y t (λ d. out_not_in k (order z b) o (rw d at i)))) order-chain

  -- one goes in behind its equals
  pub order_into_lem : (k : ℕ) (t : Task) → Numbered z.tasks k → Out k (order z b)
      → Comes z (moves.order_into z l k t)
      (with_order (with_task b k t) (insert (λ x. goes_before true (number t.prio) (task_number b x)) k (order z b)))
  order_into_lem k t n o =
      let at : Spot = moves.spot_for_task z l (number t.prio) in
      let goes : ℕ → Bool = λ y. goes_before true (number t.prio) (task_number b y) in
      let d : List ℕ = put_task z l k (task_with_link t at.cur) in
      let put : Comes z d (link_task (with_task b k t) k at.cur) =
      comes_to z d _ _ (comes_task z l e k (task_with_link t at.cur)) (sym (task_again b k (λ u. task_with_link u at.cur) t)) in
      comes_to z (moves.order_into z l k t) _ _
      (and_then z d _ _ (λ s. behind order_store z.tasks s at.prev k) put (λ f. comes_behind z d f at.prev k (omega (arith, n.1))))
      (behind_insert order_store (with_task b k t) z.tasks (order z b) (chain_with k t o) order_on goes k at o (order_spot goes))

  -- one is taken out
  pub order_out_lem : (k : ℕ) → In k (order z b) → Comes z (moves.order_out z l k) (with_order b (without k (order z b)))
  order_out_lem k i =
      let at : Spot = moves.spot_of_task z l k in
      comes_to z (moves.order_out z l k) _ _
      (comes_behind z l e at.prev (moves.task_behind z b k) (omega (arith, on_board_low z.tasks (next_task b k))))
      (behind_without order_store b z.tasks (order z b) order-chain order_on k at i (order_spot (λ y. eqb y k)))
