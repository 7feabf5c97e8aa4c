-- `queue_rules::QueueOfQueue::turn` meets its contract.
use mathlib.Core.Path.{sym, ap, ◌∙◌}
use borrow.Author.Tests.{le-leb}
use Rattle.std.proofs.Common.{rules}
use Rattle.board.specs.Status.{number}
use Rattle.queue_rules.proofs.QueueOfQueue.turn.Goals as goal

pub returns-in-On : goal.returns-in-On
returns-in-On c =
    let h = le-leb c.args.low _ (rw (c.number-p.ensures ∙ ap number c.prio.ensures) at c.if-p-low.false) in
    rw (sym c.queued_at.ensures ∙ c.if-not-queued_at.false, h) (search rules)

pub returns-in-End : goal.returns-in-End
returns-in-End c =
    let h = le-leb c.args.low _ (rw (c.number-p.ensures ∙ ap number c.prio.ensures) at c.if-p-low.false) in
    rw (sym c.queued_at.ensures ∙ c.if-not-queued_at.false, h) (search rules)
