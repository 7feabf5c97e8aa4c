-- `board::places::Place::byte` meets its contract.
use mathlib.Core.Path.{ap}
use Prim.Native.Nat.{ℕ, ◌+◌, ◌%◌}
use Rattle.board.proofs.places.Place.byte.Goals as goal

pub returns-in-QueuedAt : goal.returns-in-QueuedAt
returns-in-QueuedAt c = rw c.in-QueuedAt.is (ap (λ (x : ℕ). (64 + x) % 256) c.number-in-QueuedAt.ensures)
