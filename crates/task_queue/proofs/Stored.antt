-- The two words of a move, in plain variables: a task into the task queue, a task out of it.
-- Assumes nothing.
use mathlib.Core.Path.{◌≡◌, ap, ◌∙◌}
use mathlib.Core.Bool.{true}
use mathlib.Core.List.{List}
use Prim.Native.Nat.{ℕ}
use Rattle.std.specs.Prelude.{Option}
use Rattle.links.specs.Queue.{goes_before}
use Rattle.board.specs.declared.numbers.Size.{Size}
use Rattle.board.specs.declared.numbers.TaskNo.{TaskNo}
use Rattle.board.specs.declared.records.Task.{Task}
use Rattle.board.specs.Numbers.{task_meant, number_of_task, on_board}
use Rattle.board.specs.Status.{number}
use Rattle.board.specs.Records.{task_with_link}
use Rattle.board.specs.Board.{board_of, task}
use Rattle.board.specs.Writes.{put_task}
use Rattle.board.proofs.Meant.{number_of_task_lem}
use Rattle.paper.specs.Rules.{next_task, task_number}
use Rattle.stores.specs.Moves.{spot_for_task, spot_of_task, behind_task, order_into, order_out}
use Rattle.changes.specs.declared.spot.Spot.{Spot}
use Rattle.task_queue.specs.Spots.{task_spot}
use Rattle.stores.proofs.Seeks.{task-kind, cur-number}

-- ---- the words of a move: at is the spot found, d the bytes after the first store, d' after both
module _ (z : Size) (l : List ℕ) (k : ℕ) (at : Spot TaskNo) (t : Task) where
  -- a task into the task queue, as the record t
  pub order_into_stored : (u : Task) (p : ℕ) (d d' : List ℕ) → p ≡ number t.prio → at ≡ task_spot z (spot_for_task z l p)
      → u ≡ task_with_link t (number_of_task at.cur) → d ≡ put_task z l k u → d' ≡ behind_task z d at.prev k → d' ≡ order_into z l k t
  order_into_stored u p d d' ep ea eu ed ed' =
      let b = board_of z l in
      let s = spot_for_task z l (number t.prio) in
      let found : at ≡ task_spot z s = ea ∙ (λ i. task_spot z (spot_for_task z l (ep i))) in
      let cur : number_of_task at.cur ≡ s.cur = (λ i. number_of_task (found i).cur)
      ∙ cur-number z.tasks (task-kind z) (λ y. goes_before true (number t.prio) (task_number b y)) (next_task b) z.messages b.first in
      ed' ∙ (λ i. behind_task z ((ed ∙ ap (put_task z l k) (eu ∙ ap (task_with_link t) cur)) i) (found i).prev k)

  -- a task out of the task queue; t is its record
  pub order_out_stored : (next : Option TaskNo) (d : List ℕ) → at ≡ task_spot z (spot_of_task z l k) → t ≡ task (board_of z l) k
      → next ≡ task_meant z t.link → d ≡ behind_task z l at.prev (number_of_task next) → d ≡ order_out z l k
  order_out_stored next d ea et en ed =
      let n = ap number_of_task en ∙ number_of_task_lem z t.link ∙ ap (λ (u : Task). on_board z.tasks u.link) et in
      ed ∙ (λ i. behind_task z l (ea i).prev (n i))
