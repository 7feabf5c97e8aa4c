-- `timer_rules::named_before` meets its contract.
use Rattle.timer.specs.Timer.{timer_of}
use Rattle.timer_rules.proofs.BufferTurns.{named_here, named-later, named_none}
use Rattle.timer_rules.proofs.named_before.Goals as goal

pub returns-then-entry_at-m : goal.returns-then-entry_at-m
returns-then-entry_at-m c =
    let a = c.args in
    let p = c.loop-j in
    named_here (timer_of a.s.now) a.m p.j p.auto.j c.entry_at.ensures a.i c.loop-j-test.true c.if-entry_at-m.true

pub loop-j-preserved : goal.loop-j-preserved
loop-j-preserved c =
    let a = c.args in
    let p = c.loop-j in
    named-later (timer_of a.s.now) a.m p.j p.auto.j c.entry_at.ensures p.invariant c.if-entry_at-m.false

pub returns : goal.returns
returns c =
    let p = c.loop-j in
    let a = c.args in
    named_none (timer_of a.s.now) a.m a.i p.j p.invariant c.loop-j-test.false
