-- `rules::records::survey_messages` meets its contract.
use Rattle.std.proofs.Common.{◌≡◌, true}
use Rattle.links.specs.Queue.{each}
use Rattle.lent.specs.Lent.{board}
use Rattle.queue_rules.specs.Walks.{counted, queued}
use Rattle.rules.specs.Checked.{rule4_of}
use Rattle.rules.proofs.records.survey_messages.Given as goal

abbrev pub invariant-loop-before : goal.invariant-loop-before
invariant-loop-before l =
    let b = board l.l in
    (each (rule4_of l.edition l.l.size b) l.before ≡ true) × (l.queued ≡ counted (queued b) l.before)
