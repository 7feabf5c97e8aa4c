-- `task_queue::seek::goes_first` meets its contract.
use mathlib.Core.Path.{refl}
use Rattle.task_queue.proofs.seek.goes_first.Goals as goal

pub returns : goal.returns
returns c = refl
