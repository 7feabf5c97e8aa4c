-- `queue_rules::walk_queue` meets its contract.
use mathlib.Core.Path.{sym, ap, ◌∙◌}
use Rattle.lent.specs.Lent.{board}
use Rattle.board.specs.declared.records.Task.{Task}
use Rattle.paper.specs.Rules.{next_message, message_number}
use Rattle.queue_rules.specs.Walks.{queued_at, queue_visited}
use Rattle.queue_rules.specs.Queues.{message_beyond}
use Rattle.queue_rules.proofs.Visits.{visited_end, visited_stray}
use Rattle.queue_rules.proofs.walk_queue.Goals as goal

pub returns-then-t-eq0 : goal.returns-then-t-eq0
returns-then-t-eq0 c =
    let a = c.args in
    let b = board a.l in
    sym
    (visited_end (next_message b) (message_number b) (queued_at b a.k.0) a.most _ 0 0
    (sym (ap (λ (t : Task). t.mptr) c.task-t.ensures) ∙ c.if-t-eq0.true))

pub returns-in_err-first : goal.returns-in_err-first
returns-in_err-first c =
    let a = c.args in
    let b = board a.l in
    let w = c.task-t.result.mptr in
    let e =
    visited_stray (next_message b) (message_number b) (queued_at b a.k.0) a.most w 0 0 c.if-t-eq0.false
    (message_beyond a.l.size a.l.bytes.now a.k.0 w (sym c.first.ensures ∙ c.in_err-first.was)) in
    c.from_residual.ensures ∙ sym e ∙ ap (λ (t : Task). queue_visited b a.k.0 a.most t.mptr 0 0) c.task-t.ensures
