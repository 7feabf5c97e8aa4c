-- `station_c::station_start` meets its contract.
use mathlib.Core.Path.{ap, ◌∙◌}
use Rattle.paper.specs.Answers.{handed, Answer}
use Rattle.for_c.specs.Packed.{packed}
use Rattle.station_c.proofs.station_start.Goals as goal

pub returns : goal.returns
returns c =
    let s = c.start.ensures in
    record { word = c.pack.ensures ∙ ap (λ (a : Answer). packed (handed a)) s.answers; board = s.board; timer = s.timer }
