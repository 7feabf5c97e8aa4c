-- The changes that effects are made of (paper, Changes), as stores on the bytes l. Contracts of code cite this file; no reader needs to
-- believe it.
--   sets z l k BIT, clears z l k BIT     a bit of task k's STAT set, cleared
--   with_mptr z l k m                    MPTR of task k is m
--   link_task z l k next                 LINK of task k is next; link_message z l m next that of message m
--   hold z l c m                         task c holds message m, with LINK 0
-- Assumes nothing.
use Rattle.std.specs.Prelude.{List, ℕ}
use Rattle.board.specs.declared.numbers.Size.{Size}
use Rattle.board.specs.declared.places.Place.TheVariants.{HeldBy}
use Rattle.board.specs.Numbers.{task_no}
use Rattle.board.specs.Status.{with_bit, without_bit}
use Rattle.board.specs.Records.{task_with_stat, task_with_link, task_with_mptr, with_link}
use Rattle.board.specs.Board.{board_of, task, message}
use Rattle.board.specs.Writes.{put_task, put_message, put_place}

abbrev pub sets : Size → List ℕ → ℕ → ℕ → List ℕ
sets z l k bit = let t = task (board_of z l) k in put_task z l k (task_with_stat t (with_bit t.stat bit))

abbrev pub clears : Size → List ℕ → ℕ → ℕ → List ℕ
clears z l k bit = let t = task (board_of z l) k in put_task z l k (task_with_stat t (without_bit t.stat bit))

abbrev pub with_mptr : Size → List ℕ → ℕ → ℕ → List ℕ
with_mptr z l k m = put_task z l k (task_with_mptr (task (board_of z l) k) m)

abbrev pub link_task : Size → List ℕ → ℕ → ℕ → List ℕ
link_task z l k next = put_task z l k (task_with_link (task (board_of z l) k) next)

abbrev pub link_message : Size → List ℕ → ℕ → ℕ → List ℕ
link_message z l m next = put_message z l m (with_link (message (board_of z l) m) next)

abbrev pub hold : Size → List ℕ → ℕ → ℕ → List ℕ
hold z l c m = put_place z (link_message z l m 0) m (HeldBy (task_no c))
