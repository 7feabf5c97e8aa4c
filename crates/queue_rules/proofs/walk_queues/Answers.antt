-- `queue_rules::walk_queues` meets its contract.
use mathlib.Core.Path.{sym, ap, ◌∙◌}
use Prim.Native.Nat.{◌-◌}
use native.Mathlib.Omega.{arith}
use Rattle.lent.specs.Lent.{board}
use Rattle.board.proofs.Meant.{task_meant_there}
use Rattle.queue_rules.specs.Walks.{queue_walked}
use Rattle.queue_rules.proofs.Turns.{counted_there, walks_start, walks_break, walks_on, walks_bound}
use Rattle.queue_rules.proofs.walk_queues.Goals as goal

pub loop-before-init : goal.loop-before-init
loop-before-init c = (walks_start (board c.args.l) c.args.queued, omega arith)

pub returns-in_err-k : goal.returns-in_err-k
returns-in_err-k c =
    absurd (counted_there c.args.l.size c.loop-before.before c.loop-before-test.true (sym c.meant.ensures ∙ c.in_err-k.was))

pub returns-in_err-sum : goal.returns-in_err-sum
returns-in_err-sum c =
    let p = c.loop-before in
    let a = c.args in
    let b = board a.l in
    c.from_residual-in_err-sum.ensures
    ∙ walks_break b a.queued p.before p.sum p.invariant.0 a.l.size.tasks c.loop-before-test.true
    (sym c.in_err-sum.was ∙ c.walk_queue.ensures
    ∙ ap (queue_walked b (a.queued - p.sum)) (task_meant_there a.l.size _ _ (sym c.meant.ensures ∙ c.in_ok-k.was)).1)

pub overflow_add-sum : goal.overflow_add-sum
overflow_add-sum c =
    let p = c.loop-before in
    let a = c.args in
    let b = board a.l in
    let e =
    sym c.in_ok-sum.was ∙ c.walk_queue.ensures
    ∙ ap (queue_walked b (a.queued - p.sum)) (task_meant_there a.l.size _ _ (sym c.meant.ensures ∙ c.in_ok-k.was)).1 in
    omega (arith, walks_bound b a.queued p.before p.sum p.invariant.0 _ e p.invariant.1)

pub loop-before-preserved : goal.loop-before-preserved
loop-before-preserved c =
    let p = c.loop-before in
    let a = c.args in
    let b = board a.l in
    let e =
    sym c.in_ok-sum.was ∙ c.walk_queue.ensures
    ∙ ap (queue_walked b (a.queued - p.sum)) (task_meant_there a.l.size _ _ (sym c.meant.ensures ∙ c.in_ok-k.was)).1 in
    (walks_on b a.queued p.before p.sum p.invariant.0 _ e, walks_bound b a.queued p.before p.sum p.invariant.0 _ e p.invariant.1)
