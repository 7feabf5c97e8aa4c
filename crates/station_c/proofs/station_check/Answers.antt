-- `station_c::station_check` meets its contract.
use mathlib.Core.Path.{ap, ◌∙◌}
use Rattle.paper.specs.Answers.{handed, Answer}
use Rattle.for_c.specs.Packed.{packed}
use Rattle.station_c.proofs.station_check.Goals as goal

pub returns : goal.returns
returns c = c.pack.ensures ∙ ap (λ (a : Answer). packed (handed a)) c.check.ensures.answers
