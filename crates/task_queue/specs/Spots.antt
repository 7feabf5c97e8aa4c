-- A spot in the task queue as code hands it on: tasks, not words.
--   task_spot z s     the spot s, for a board of size z
-- Assumes nothing.
use Rattle.links.specs.Seek as words
use Rattle.board.specs.declared.numbers.Size.{Size}
use Rattle.board.specs.declared.numbers.TaskNo.{TaskNo}
use Rattle.board.specs.Numbers.{task_meant}
use Rattle.changes.specs.declared.spot.Spot.{Spot}
use Rattle.changes.specs.Spots.{spot_meant}

abbrev pub task_spot : Size → words.Spot → Spot TaskNo
task_spot z = spot_meant (task_meant z)
