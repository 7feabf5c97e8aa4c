-- Where a record lies. The contracts of task_start, message_start and place_start cite this file, and that of timer's entry_start.
--   StartsAt a k x      x is where record k of the area a starts, none where the area has no such record
-- Assumes nothing.
use Rattle.std.specs.Prelude.{◌≡◌, true, ℕ, Option, MatchOption}
use Rattle.board.specs.Numbers.{Numbered, outside}
use Rattle.board.specs.Board.{Area}
use Rattle.board.specs.Writes.{start}

abbrev pub StartsAt : Area → ℕ → Option ℕ → Type 0
StartsAt a k x = MatchOption x (outside a.count k ≡ true) (λ o. Numbered a.count k × (o ≡ start a k))
