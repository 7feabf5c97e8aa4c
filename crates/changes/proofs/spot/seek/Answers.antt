-- `changes::spot::seek` meets its contract.
use native.Mathlib.Omega.{arith}
use Rattle.changes.proofs.Walking.{starts, onward, spent, ended, stopped}
use Rattle.changes.proofs.spot.seek.Goals.{else-loop-test, then-loop-test+in_default, then-loop-test+in-Some+then-stops}
use Rattle.changes.proofs.spot.seek.Goals as goal

pub loop-init : goal.loop-init
loop-init g c = starts _ _ c.args.most _ _

pub loop-preserved : goal.loop-preserved
loop-preserved g c =
    onward _ _ c.args.most c.loop.counter _ _ _ c.in-Some.x _ _ c.loop-test.true c.in-Some.is (rw c.if-stops.false at c.stops.ensures) c.next.ensures
    c.loop.invariant

pub returns : goal.returns
returns g c = c.loop.invariant c.loop.at (elim c.loop-test.branch [
  | else-loop-test w ↦ spent _ _ _ c.loop.at.prev c.loop.at.cur (omega arith)
  | then-loop-test+in_default w ↦ ended _ _ _ c.loop.at.prev c.loop.at.cur w.in_default.is
  | then-loop-test+in-Some+then-stops w ↦ stopped _ _ _ c.loop.at.prev c.loop.at.cur w.in-Some.x w.in-Some.is (rw w.if-stops.true at w.stops.ensures)
])
