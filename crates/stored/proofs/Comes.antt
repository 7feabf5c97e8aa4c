-- Bytes that come to a board of records: one store, one change. Assumes nothing.
use mathlib.Core.Path.{◌≡◌, refl, ap, ◌∙◌}
use mathlib.Core.Bool.{Bool, true, false, cond}
use mathlib.Core.List.{List}
use Prim.Native.Nat.{ℕ, ◌%◌, ◌≤◌, ◌<◌}
use native.Mathlib.Nat.{mod-eq_of_lt}
use native.Mathlib.Omega.{arith}
use lib.ListN.{length, length-set}
use Rattle.board.specs.declared.numbers.Size.{Size}
use Rattle.board.specs.declared.records.Task.{Task}
use Rattle.board.specs.declared.records.Message.{Message}
use Rattle.board.specs.declared.places.Place.{Place}
use Rattle.board.specs.declared.places.Place.TheVariants.{Free, HeldBy, QueuedAt, OnTimer}
use Rattle.board.specs.Numbers.{task_no, Numbered}
use Rattle.board.specs.Records.{task_bytes, message_bytes}
use Rattle.board.specs.Places.{place_bytes}
use Rattle.board.specs.Board.{Board, total, board_of, task_area, message_area, place_area, with_first, with_running, with_task, with_message, with_place}
use Rattle.board.specs.Writes.{put_first, put_running, put_task, put_message, put_place}
use Rattle.board.proofs.Pieces.{length_put_in}
use Rattle.board.proofs.Written.{board-put-first, board-put-running, board-put-task, board-put-message, board-put-free, board-put-held, board-put-queued, board-put-timer}
use Rattle.paper.specs.Changes.{hold}
use Rattle.stores.specs.Changes as changes

-- the bytes l have the board's length and are the board b
abbrev pub Comes : Size → List ℕ → Board → Type 0
Comes z l b = (length l ≡ total z) × (board_of z l ≡ b)

-- what is done next, said of the board of the bytes so far
pub and_then : (z : Size) (l m : List ℕ) (b : Board) (f : Board → Board) → Comes z l b → (length l ≡ total z → Comes z m (f (board_of z l)))
    → Comes z m (f b)
and_then z l m b f c g = let r = g c.0 in (r.0, r.1 ∙ ap f c.1)

-- and that this is another board
pub comes_to : (z : Size) (l : List ℕ) (b d : Board) → Comes z l b → b ≡ d → Comes z l d
comes_to z l b d c e = (c.0, c.1 ∙ e)

-- one of two
pub comes_cond : (z : Size) (t : Bool) (l m : List ℕ) (b d : Board) → Comes z l b → Comes z m d → Comes z (cond t l m) (cond t b d)
comes_cond z true l m b d h g = h
comes_cond z false l m b d h g = g

module _ (z : Size) (l : List ℕ) (e : length l ≡ total z) where
  -- nothing is done
  pub comes_same : Comes z l (board_of z l)
  comes_same = (e, refl)

  -- ---- byte 0, which has room for any task number; one record
  pub comes_first : (k : ℕ) → k < 256 → Comes z (put_first l (k % 256)) (with_first (board_of z l) k)
  comes_first k h =
      (length-set l 0 (k % 256) ∙ e, board-put-first z l (k % 256) (omega arith) ∙ ap (with_first (board_of z l)) (mod-eq_of_lt h))

  -- byte 1, likewise
  pub comes_running : (c : ℕ) → c < 256 → Comes z (put_running l (c % 256)) (with_running (board_of z l) c)
  comes_running c h =
      (length-set l 1 (c % 256) ∙ e, board-put-running z l (c % 256) (omega arith) ∙ ap (with_running (board_of z l)) (mod-eq_of_lt h))

  pub comes_task : (k : ℕ) (t : Task) → Comes z (put_task z l k t) (with_task (board_of z l) k t)
  comes_task k t = (length_put_in (task_area z) l k (task_bytes t) ∙ e, board-put-task z l e k t)

  pub comes_message : (m : ℕ) (u : Message) → Comes z (put_message z l m u) (with_message (board_of z l) m u)
  comes_message m u = (length_put_in (message_area z) l m (message_bytes u) ∙ e, board-put-message z l e m u)

  -- ---- one place
  length-place : (m : ℕ) (p : Place) → length (put_place z l m p) ≡ total z
  length-place m p = length_put_in (place_area z) l m (place_bytes p) ∙ e

  pub comes_free : (m : ℕ) → Comes z (put_place z l m Free) (with_place (board_of z l) m Free)
  comes_free m = (length-place m Free, board-put-free z l e m)

  pub comes_held : (m k : ℕ) → Numbered z.tasks k → z.tasks ≤ 63
      → Comes z (put_place z l m (HeldBy (task_no k))) (with_place (board_of z l) m (HeldBy (task_no k)))
  comes_held m k n s = (length-place m (HeldBy (task_no k)), board-put-held z l e m k n.0 n.1 s)

  pub comes_timed : (m : ℕ) → z.tasks ≤ 63 → Comes z (put_place z l m OnTimer) (with_place (board_of z l) m OnTimer)
  comes_timed m s = (length-place m OnTimer, board-put-timer z l e m s)

  pub comes_queued : (m k : ℕ) → Numbered z.tasks k → z.tasks ≤ 63
      → Comes z (put_place z l m (QueuedAt (task_no k))) (with_place (board_of z l) m (QueuedAt (task_no k)))
  comes_queued m k n s = (length-place m (QueuedAt (task_no k)), board-put-queued z l e m k n.0 n.1 s)

-- a message in a task's hands
pub comes_hold : (z : Size) (l : List ℕ) → length l ≡ total z → (c m : ℕ) → Numbered z.tasks c → z.tasks ≤ 63
    → Comes z (changes.hold z l c m) (hold (board_of z l) c m)
comes_hold z l e c m n s =
    and_then z (changes.link_message z l m 0) _ _ (λ b. with_place b m (HeldBy (task_no c))) (comes_message z l e m _)
    (λ f. comes_held z (changes.link_message z l m 0) f m c n s)
