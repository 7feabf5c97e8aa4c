-- `station_c::station_fresh` meets its contract.
use mathlib.Core.Path.{ap, ◌∙◌}
use Rattle.paper.specs.Answers.{handed, Answer}
use Rattle.for_c.specs.Packed.{packed}
use Rattle.station_c.proofs.station_fresh.Goals as goal

pub returns : goal.returns
returns c =
    (c.pack.ensures ∙ ap (λ (a : Answer). packed (handed a)) c.fresh.ensures.answers, c.fresh.ensures.leaves)
