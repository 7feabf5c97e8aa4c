-- `timer_calls::start::lowest_entry` meets its contract.
use Rattle.std.proofs.Common.{refl, arith}
use Rattle.timer_calls.proofs.Starting.{entry_free, entry-used, all_used}
use Rattle.timer_calls.proofs.start.lowest_entry.Goals as goal

pub loop-before-init : goal.loop-before-init
loop-before-init c = refl

pub returns-then-not-used : goal.returns-then-not-used
returns-then-not-used c =
    entry_free c.args.s.now c.loop-before.before c.loop-before.invariant (omega arith) c.entry_at.ensures
    c.used.ensures c.if-not-used.true

pub loop-before-preserved : goal.loop-before-preserved
loop-before-preserved c =
    entry-used c.args.s.now c.loop-before.before c.loop-before.invariant (omega arith) c.entry_at.ensures
    c.used.ensures c.if-not-used.false

pub returns : goal.returns
returns c = all_used c.args.s.now c.loop-before.before c.loop-before.invariant (omega arith)
