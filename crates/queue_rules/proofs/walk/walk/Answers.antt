-- `queue_rules::walk::walk` meets its contract.
use native.Mathlib.Omega.{arith}
use Rattle.queue_rules.proofs.Walking.{walk_ends, walk_strays, walk_goes_on, walk_gives_up}
use Rattle.queue_rules.proofs.walk.walk.Goals as goal

pub returns-in-End : goal.returns-in-End
returns-in-End g c =
    let q = c.args.q in
    let p = c.loop-seen in
    walk_ends g.Q.At.Number.number (g.Q.Queue.meant q) _ _ _ (g.met.Q.Queue.means q) (g.met.Q.Queue.beyond q) _ p.seen p.at p.low
    c.loop-seen-test.true p.invariant.0 p.invariant.1 c.turn.ensures c.in-End.is

pub returns-in-Stray : goal.returns-in-Stray
returns-in-Stray g c =
    let q = c.args.q in
    let p = c.loop-seen in
    walk_strays g.Q.At.Number.number (g.Q.Queue.meant q) _ _ _ (g.met.Q.Queue.means q) (g.met.Q.Queue.beyond q) _ p.seen p.at p.low
    c.loop-seen-test.true p.invariant.0 p.invariant.1 c.turn.ensures c.in-Stray.is

pub loop-seen-preserved : goal.loop-seen-preserved
loop-seen-preserved g c =
    let q = c.args.q in
    let p = c.loop-seen in
    walk_goes_on g.Q.At.Number.number (g.Q.Queue.meant q) _ _ _ (g.met.Q.Queue.means q) (g.met.Q.Queue.beyond q) _ p.seen p.at p.low
    c.loop-seen-test.true p.invariant.0 p.invariant.1 c.turn.ensures _ _ c.in-Next.is

pub returns : goal.returns
returns g c =
    let q = c.args.q in
    let p = c.loop-seen in
    walk_gives_up g.Q.At.Number.number (g.Q.Queue.meant q) _ _ _ (g.met.Q.Queue.means q) (g.met.Q.Queue.beyond q) _ p.at p.low p.seen
    (omega arith) p.invariant.0 p.invariant.1
