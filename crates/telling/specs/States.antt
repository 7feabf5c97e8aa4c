-- The state of a task as a person calls it.
--   state_of s runs     of a task with status s that runs or not
-- Assumes nothing.
use Rattle.std.specs.Prelude.{Bool, cond}
use Rattle.board.specs.declared.status.Status.{Status}
use Rattle.board.specs.Status.{WAIT, IWAT, MHBS, has}
use Rattle.telling.specs.declared.state.State.{State}
use Rattle.telling.specs.declared.state.State.TheVariants.{Running, Ready, HandedOver, Waits, WaitsForInterrupt}

abbrev pub state_of : Status → Bool → State
state_of s runs =
    cond runs Running (cond (has s WAIT) Waits (cond (has s IWAT) WaitsForInterrupt (cond (has s MHBS) HandedOver Ready)))
