-- `lent::by_word::task_meant` meets its contract.
use Rattle.std.proofs.Common.{ap, sym, ◌∙◌}
use Rattle.board.specs.declared.numbers.TaskNo.{TaskNo}
use Rattle.board.specs.Board.{task}
use Rattle.board.proofs.Meant.{task_meant-task, task_meant_none}
use Rattle.lent.specs.Lent.{board}
use Rattle.lent.proofs.Access.{task_none}
use Rattle.lent.proofs.by_word.task_meant.Goals as goal

pub returns-in-Some : goal.returns-in-Some
returns-in-Some c = let b = c.args.b in c.task.ensures ∙ ap (λ (j : TaskNo). task (board b) j.0) (task_meant-task b.size c.args.w _ (sym c.in-Some.ensures)).1

pub returns-in-None : goal.returns-in-None
returns-in-None c = let b = c.args.b in c.none.ensures ∙ task_none b.size b.bytes.now c.args.w (task_meant_none b.size c.args.w (sym c.in-None.ensures))
