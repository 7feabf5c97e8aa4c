-- A spot in a queue as code hands it on, tasks or messages, not words; and the walk to it, by what its closures gave.
--   spot_meant meant s                the spot s, where meant says what a word means
--   Walks next stops n prev cur at    from cur, with prev just passed, to the first that stops was true of; at most n links
-- Assumes nothing.
use Rattle.std.specs.Prelude.{◌≡◌, Bool, true, false, ℕ, zero, suc, Option, Some, None}
use Rattle.links.specs.Seek as words
use Rattle.changes.specs.declared.spot.Spot.{Spot}

abbrev pub spot_meant : {N : Type 0} → (ℕ → Option N) → words.Spot → Spot N
spot_meant meant s = record { prev = meant s.prev; cur = meant s.cur }

abbrev pub Walks : {N : Type 0} → (N → Option N → Type 0) → (N → Bool → Type 0) → ℕ → Option N → Option N → Spot N → Type 0
Walks next stops zero prev cur at = at ≡ record { prev = prev; cur = cur }
Walks next stops (suc n) prev None at = at ≡ record { prev = prev; cur = None }
Walks {N} next stops (suc n) prev (Some x) at = (t : Bool) × stops x t × elim t [
  | true ↦ at ≡ record { prev = prev; cur = Some x }
  | false ↦ (y : Option N) × next x y × Walks next stops n (Some x) y at
]
