-- `order_rules::who::first_ready` meets its contract.
use mathlib.Core.Path.{◌≡◌, sym, ap, ◌∙◌}
use Prim.Native.Nat.{ℕ, ◌+◌, ◌-◌}
use native.Mathlib.Omega.{arith}
use Rattle.board.specs.declared.records.Task.{Task}
use Rattle.links.specs.Queue.{walk, first_with}
use Rattle.board.specs.Numbers.{task_meant, number_of_task}
use Rattle.board.specs.Status.{is_ready}
use Rattle.lent.specs.Lent.{board}
use Rattle.paper.specs.Rules.{next_task, ready}
use Rattle.order_rules.proofs.OrderTurns.{walk-meant, meant_again, first_at_end, first_no_link, first_here, first_behind_it}
use Rattle.order_rules.proofs.who.first_ready.Goals as goal

pub loop-seen-init : goal.loop-seen-init
loop-seen-init c =
    let a = c.args in
    let b = board a.l in
    let d : a.l.size.messages - 0 ≡ a.l.size.messages = omega arith in (
      meant_again a.l.size a.l.bytes.now b.first c.first_task-who.result c.first_task-who.ensures,
      walk-meant a.l.size a.l.bytes.now (a.l.size.messages - 0) b.first c.first_task-who.result c.first_task-who.ensures
          ∙ ap (λ (n : ℕ). first_with (ready b) (walk (next_task b) n b.first)) d,
    )

pub returns-in_err-k : goal.returns-in_err-k
returns-in_err-k c =
    let p = c.loop-seen in
    let a = c.args in
    c.from_residual.ensures ∙ first_at_end a.l.size a.l.bytes.now _ p.who p.invariant.0 p.invariant.1 c.in_err-k.was

pub returns-then-ready : goal.returns-then-ready
returns-then-ready c =
    let p = c.loop-seen in
    let a = c.args in
    c.in_ok-k.was
    ∙ first_here a.l.size a.l.bytes.now _ p.who p.invariant.0 p.invariant.1 _ c.in_ok-k.was (omega arith)
    (sym (c.ready.ensures ∙ ap (λ (t : Task). is_ready t.stat) c.task-t.ensures) ∙ c.if-ready.true)

pub loop-seen-preserved : goal.loop-seen-preserved
loop-seen-preserved c =
    let p = c.loop-seen in
    let a = c.args in
    let b = board a.l in
    let t = c.task-t in
    let d : a.l.size.messages - (p._seen + 1) ≡ a.l.size.messages - p._seen - 1 = omega arith in
    let g =
    first_behind_it a.l.size a.l.bytes.now _ p.who p.invariant.0 p.invariant.1 _ c.in_ok-k.was (omega arith)
    c.next-who.result (c.next-who.ensures ∙ ap (λ (r : Task). task_meant a.l.size r.link) t.ensures)
    (sym (c.ready.ensures ∙ ap (λ (r : Task). is_ready r.stat) t.ensures) ∙ c.if-ready.false) in
    (g.0, ap (λ (n : ℕ). first_with (ready b) (walk (next_task b) n (number_of_task c.next-who.result))) d ∙ g.1)

pub returns : goal.returns
returns c =
    let p = c.loop-seen in
    let a = c.args in
    first_no_link a.l.size a.l.bytes.now _ p.who p.invariant.0 p.invariant.1 (omega arith)
