-- `timer_rules::count_used` meets its contract.
use Rattle.std.proofs.Common.{◌≡◌, true}
use Rattle.links.specs.Queue.{each}
use Rattle.lent.specs.Lent.{board}
use Rattle.timer.specs.Timer.{timer_of, is_used, entry}
use Rattle.queue_rules.specs.Walks.{counted}
use Rattle.timer_rules.specs.Buffer.{good_entry}
use Rattle.timer_rules.proofs.count_used.Given as goal

abbrev pub invariant-loop-before : goal.invariant-loop-before
invariant-loop-before l =
    (each (good_entry (board l.l) (timer_of l.s)) l.before ≡ true) × (l.n ≡ counted (λ i. is_used (entry (timer_of l.s) i)) l.before)
