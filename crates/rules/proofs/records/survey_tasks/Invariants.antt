-- `rules::records::survey_tasks` meets its contract.
use Rattle.std.proofs.Common.{◌≡◌, true}
use Rattle.links.specs.Queue.{each, smallest_failing}
use Rattle.board.specs.Numbers.{task_meant}
use Rattle.lent.specs.Lent.{board}
use Rattle.paper.specs.Rules.{present, rule2_at, rule6_at}
use Rattle.queue_rules.specs.Walks.{counted}
use Rattle.rules.proofs.records.survey_tasks.Given as goal

abbrev pub invariant-loop-before : goal.invariant-loop-before
invariant-loop-before l =
    let b = board l.l in
    (each (rule2_at b) l.before ≡ true) × (l.breaks6 ≡ task_meant l.l.size (smallest_failing (rule6_at b) l.before))
    × (l.present ≡ counted (present b) l.before)
