-- `station::sized` meets its contract.
use mathlib.Core.Path.{refl}
use Rattle.station.proofs.sized.Goals as goal

pub returns : goal.returns
returns c = refl
