-- The call that C asks for by its kind. A reader of the exports must believe this file.
--   asked_of kind a b c s p   kinds 1 to 19 in the paper's order, a b c its words, s and p its STAT and PRIO; any other kind is no call
-- Assumes nothing.
use Rattle.std.specs.Prelude.{List, ◌∷◌, map, ℕ, get_or, Option, Some, None}
use Rattle.paper.specs.Arguments.{calls_of}
use Rattle.paper.specs.declared.call.Call.{Call}

abbrev pub by_kind : ℕ → ℕ → ℕ → ℕ → ℕ → List (Option Call)
by_kind a b c s p = None ∷ map Some (calls_of a b c s p)

abbrev pub asked_of : ℕ → ℕ → ℕ → ℕ → ℕ → ℕ → Option Call
asked_of kind a b c s p = get_or (by_kind a b c s p) kind None
