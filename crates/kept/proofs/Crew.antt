-- The board after the tasks are relinked, record by record.
-- Assumes nothing.
use mathlib.Core.Path.{◌≡◌, ap}
use mathlib.Core.Bool.{true}
use mathlib.Core.List.{List, []}
use Prim.Native.Nat.{ℕ}
use lib.ListN.{length}
use Rattle.board.specs.declared.records.Task.{Task}
use Rattle.board.specs.Records.{task_with_link}
use Rattle.board.specs.Board.{Board, task, message, place}
use Rattle.board.proofs.Numbered.{length-put}
use Rattle.paper.specs.Changes.{link_task, with_order}
use Rattle.kept.specs.Touched.{Frame}
use Rattle.kept.proofs.Reading.{relink_keeps}
use Rattle.kept.proofs.Framing.{frame_order}
use Rattle.kept.proofs.SameBoard.{sheet}

-- ---- the tasks relinked
module _ (b : Board) (q : List ℕ) where
  -- each task is the same but for its links
  pub order_sheet : (j : ℕ) → sheet (task (with_order b q) j) ≡ sheet (task b j)
  order_sheet j = let f : Frame b (with_order b q) [] [] [] 0 [] true = frame_order b q in ap sheet (f.tasks j tt)

  -- and has the same queue
  pub order-mptr : (j : ℕ) → (task (with_order b q) j).mptr ≡ (task b j).mptr
  order-mptr j = let f : Frame b (with_order b q) [] [] [] 0 [] true = frame_order b q in ap (λ (t : Task). t.mptr) (f.tasks j tt)

  -- messages, places and byte 1 stay
  pub order-message : (m : ℕ) → message (with_order b q) m ≡ message b m
  order-message m = let f : Frame b (with_order b q) [] [] [] 0 [] true = frame_order b q in f.queue m tt tt

  pub order-place : (m : ℕ) → place (with_order b q) m ≡ place b m
  order-place m = let f : Frame b (with_order b q) [] [] [] 0 [] true = frame_order b q in f.places m tt

  pub order-running : (with_order b q).running ≡ b.running
  order-running = let f : Frame b (with_order b q) [] [] [] 0 [] true = frame_order b q in f.running

  -- there are as many tasks
  pub order-length : length (with_order b q).tasks ≡ length b.tasks
  order-length =
      relink_keeps (λ (c : Board). length c.tasks) link_task (λ c x y. length-put c.tasks x (task_with_link (task c x) y)) b q
