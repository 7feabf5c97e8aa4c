-- `task_calls::is_busy` meets its contract.
use mathlib.Core.Path.{◌≡◌, sym, ap, ◌∙◌}
use mathlib.Core.Bool.{Bool, not, ◌||◌}
use borrow.Author.Tests.{eq-eqb, ne_eqb}
use Rattle.board.specs.declared.records.Task.{Task}
use Rattle.board.specs.Status.{IWAT, has}
use Rattle.board.specs.Board.{task}
use Rattle.lent.specs.Lent.{board}
use Rattle.paper.specs.Rules.{empty_queue}
use Rattle.paper.specs.Refusals.{holds_one, is_awaited}
use Rattle.task_calls.proofs.is_busy.Goals.{then-t-ne0, else-t-ne0}
use Rattle.task_calls.proofs.is_busy.Goals as goal

pub returns-then-has : goal.returns-then-has
returns-then-has c =
    let b = board c.args.l in
    let k = c.args.k.0 in
    let first : c.if-t-ne0.value ≡ not (empty_queue b k) || holds_one b k =
    elim c.if-t-ne0.branch [
      | then-t-ne0 w ↦ w.value-is ∙ rw (← c.task-t.ensures, ne_eqb c.task-t.result.mptr 0 w.if-t-ne0.true)
      | else-t-ne0 w ↦ w.value-is ∙ w.holds_one.ensures ∙ rw (← c.task-t.ensures, eq-eqb c.task-t.result.mptr 0 w.if-t-ne0.false)
    ] in
    let waits : Bool = has (task b k).stat IWAT in
    let second : c.if-holds_one.value ≡ (not (empty_queue b k) || holds_one b k) || waits =
    elim c.if-holds_one.branch [
      | goal.then-holds_one w ↦ w.value-is ∙ w.if-holds_one.true ∙ ap (λ (x : Bool). x || waits) (sym w.if-holds_one.true ∙ first)
      | goal.else-holds_one w ↦ w.value-is ∙ w.has.ensures ∙ ap (λ (x : Task). has x.stat IWAT) c.task-t.ensures
          ∙ ap (λ (x : Bool). x || waits) (sym w.if-holds_one.false ∙ first)
    ] in
    c.if-has.true ∙ ap (λ (x : Bool). x || is_awaited c.args.l.size b k) (sym c.if-has.true ∙ second)
