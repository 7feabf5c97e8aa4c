-- `station_c::station_tick` meets its contract.
use mathlib.Core.Path.{ap, ◌∙◌}
use Rattle.paper.specs.Answers.{handed, Answer}
use Rattle.for_c.specs.Packed.{packed}
use Rattle.station_c.proofs.station_tick.Goals as goal

pub returns : goal.returns
returns c =
    let s = c.tick.ensures in
    record { word = c.pack.ensures ∙ ap (λ (a : Answer). packed (handed a)) s.answers; board = s.board; timer = s.timer }
