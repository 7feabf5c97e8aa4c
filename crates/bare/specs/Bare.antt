-- A board without DEBUG and MROB. A reader must believe this file.
--   bare s           the status with DEBUG and MROB cleared
--   bare_task t      the task so, if it is present; an absent one is ten zero bytes by R2, which either bit would break
--   bare_board b     the board with every task so
-- Assumes nothing.
use Rattle.std.specs.Prelude.{cond, map}
use Rattle.board.specs.declared.status.Status.{Status}
use Rattle.board.specs.declared.records.Task.{Task}
use Rattle.board.specs.Status.{DEBUG, MROB, without_bit}
use Rattle.board.specs.Records.{task_with_stat}
use Rattle.board.specs.Board.{Board, with_tasks}
use Rattle.paper.specs.Rules.{is_there}

abbrev pub bare : Status → Status
bare s = without_bit (without_bit s DEBUG) MROB

abbrev pub bare_task : Task → Task
bare_task t = cond (is_there t) (task_with_stat t (bare t.stat)) t

abbrev pub bare_board : Board → Board
bare_board b = with_tasks b (map bare_task b.tasks)
