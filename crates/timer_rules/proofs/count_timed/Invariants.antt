-- `timer_rules::count_timed` meets its contract.
use Rattle.std.proofs.Common.{◌≡◌}
use Rattle.lent.specs.Lent.{board}
use Rattle.board.specs.Board.{place}
use Rattle.board.specs.Places.{is_on_timer}
use Rattle.queue_rules.specs.Walks.{counted}
use Rattle.timer_rules.proofs.count_timed.Given as goal

abbrev pub invariant-loop-before : goal.invariant-loop-before
invariant-loop-before l = l.n ≡ counted (λ m. is_on_timer (place (board l.l) m)) l.before
