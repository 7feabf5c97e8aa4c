-- `order_rules::tasks::walk_from` meets its contract.
use mathlib.Core.Path.{sym, ap, ap₂, ◌∙◌}
use Prim.Native.Nat.{ℕ, ◌-◌}
use native.Mathlib.Omega.{arith}
use Rattle.std.specs.Prelude.{Option}
use Rattle.links.specs.Queue.{walk, first_with}
use Rattle.board.specs.declared.numbers.TaskNo.{TaskNo}
use Rattle.board.specs.declared.records.Task.{Task}
use Rattle.board.specs.Numbers.{task_meant}
use Rattle.board.specs.Status.{is_ready}
use Rattle.lent.specs.Lent.{board}
use Rattle.paper.specs.Rules.{present, ready, next_task, task_number}
use Rattle.order_rules.specs.Order.{with_ready}
use Rattle.order_rules.specs.Tasks.{task_means, task_beyond}
use Rattle.queue_rules.proofs.Walking.{walk_ends, walk_strays, walk_goes_on, walk_gives_up}
use Rattle.order_rules.proofs.OrderTurns.{order-found, nobody_ends, nobody_yet}
use Rattle.order_rules.proofs.tasks.walk_from.Goals as goal

pub returns-then-ready : goal.returns-then-ready
returns-then-ready c =
    let p = c.loop-seen in
    let a = c.args in
    ap₂ with_ready (sym c.in_ok-n.was ∙ c.walk.ensures ∙ p.invariant.1)
    (order-found a.l.size a.l.bytes.now (a.limit - p.seen) p.k (omega arith) p.invariant.0
    (sym (c.ready.ensures ∙ ap (λ (r : Task). is_ready r.stat) c.task.ensures) ∙ c.if-ready.true) p.invariant.2)

pub returns-in-End : goal.returns-in-End
returns-in-End c =
    let p = c.loop-seen in
    let a = c.args in
    let z = a.l.size in
    let b = board a.l in
    ap₂ with_ready
    (walk_ends (λ (t : TaskNo). t.0) (task_meant z) (next_task b) (task_number b) (present b) (task_means z) (task_beyond z a.l.bytes.now) _
    p.seen p.k p.low c.loop-seen-test.true p.invariant.0 p.invariant.1 c.turn.ensures c.in-End.is)
    (ap (task_meant z)
    (nobody_ends z a.l.bytes.now _ p.seen p.k p.low c.loop-seen-test.true p.invariant.0 p.invariant.2 c.turn.ensures
    (sym (c.ready.ensures ∙ ap (λ (r : Task). is_ready r.stat) c.task.ensures) ∙ c.if-ready.false) c.in-End.is))

pub returns-in-Stray : goal.returns-in-Stray
returns-in-Stray c =
    let p = c.loop-seen in
    let a = c.args in
    let z = a.l.size in
    let b = board a.l in
    ap (λ (w : Option ℕ). with_ready w (task_meant z (first_with (ready b) (walk (next_task b) a.limit a.first.0))))
    (walk_strays (λ (t : TaskNo). t.0) (task_meant z) (next_task b) (task_number b) (present b) (task_means z) (task_beyond z a.l.bytes.now) _
    p.seen p.k p.low c.loop-seen-test.true p.invariant.0 p.invariant.1 c.turn.ensures c.in-Stray.is)

pub loop-seen-preserved : goal.loop-seen-preserved
loop-seen-preserved c =
    let p = c.loop-seen in
    let a = c.args in
    let z = a.l.size in
    let b = board a.l in
    let g =
    walk_goes_on (λ (t : TaskNo). t.0) (task_meant z) (next_task b) (task_number b) (present b) (task_means z) (task_beyond z a.l.bytes.now) _
    p.seen p.k p.low c.loop-seen-test.true p.invariant.0 p.invariant.1 c.turn.ensures _ _ c.in-Next.is in (
      g.0,
      g.1,
      nobody_yet z a.l.bytes.now _ p.seen p.k p.low c.loop-seen-test.true p.invariant.0 p.invariant.2 c.turn.ensures
          (sym (c.ready.ensures ∙ ap (λ (r : Task). is_ready r.stat) c.task.ensures) ∙ c.if-ready.false) _ _ c.in-Next.is,
    )

pub returns : goal.returns
returns c =
    let p = c.loop-seen in
    let a = c.args in
    let z = a.l.size in
    let b = board a.l in
    ap (λ (w : Option ℕ). with_ready w (task_meant z (first_with (ready b) (walk (next_task b) a.limit a.first.0))))
    (walk_gives_up (λ (t : TaskNo). t.0) (task_meant z) (next_task b) (task_number b) (present b) (task_means z) (task_beyond z a.l.bytes.now) _
    p.k p.low p.seen (omega arith) p.invariant.0 p.invariant.1)
