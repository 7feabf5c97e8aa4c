-- `rules::records::present_at` meets its contract.
use mathlib.Core.Path.{ap, ◌∙◌}
use Rattle.paper.specs.Rules.{is_there}
use Rattle.rules.proofs.records.present_at.Goals as goal

pub returns : goal.returns
returns c = c.present.ensures ∙ ap is_there c.task.ensures
