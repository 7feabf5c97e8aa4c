-- `task_calls::named` meets its contract.
use mathlib.Core.Path.{ap, ◌∙◌}
use native.Mathlib.Omega.{arith}
use Rattle.board.specs.Numbers.{number_of_task}
use Rattle.lent.specs.Lent.{board}
use Rattle.task_calls.proofs.Naming.{named_none, named_here, named_behind}
use Rattle.task_calls.proofs.named.Goals as goal

pub returns-in_err-cur : goal.returns-in_err-cur
returns-in_err-cur c =
    let a = c.args in
    ap number_of_task c.from_residual.ensures
    ∙ named_none a.l.size (board a.l) a.name _ c.loop.invariant.0 c.loop.invariant.1 c.in_err-cur.was

pub returns-then-t-name : goal.returns-then-t-name
returns-then-t-name c =
    let a = c.args in
    named_here a.l.size (board a.l) a.name _ c.loop.invariant.0 c.loop.invariant.1 (omega (arith, c.loop-test.true))
    c.in_ok-cur.was c.task-t.ensures c.if-t-name.true

pub loop-preserved : goal.loop-preserved
loop-preserved c =
    let a = c.args in
    named_behind a.l.size (board a.l) a.name _ c.loop.invariant.0 c.loop.invariant.1 (omega (arith, c.loop-test.true))
    c.in_ok-cur.was c.task-t.ensures _ (omega arith) c.if-t-name.false c.next-cur.ensures
