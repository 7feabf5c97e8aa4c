-- `changes::spot::seek` meets its contract.
use Rattle.std.specs.Prelude.{None, ◌-◌}
use Rattle.changes.proofs.Walking.{Reaches}
use Rattle.changes.proofs.spot.seek.Given as goal

abbrev pub invariant-loop : goal.invariant-loop
invariant-loop g l =
    Reaches (goal.F-post g l.next) (goal.S-post g l.stops) (l.most - l.counter) l.at.prev l.at.cur l.most None l.initial.at.cur
