-- Which blocks a total counts.
--   within b low high m     the place byte of message m is from low to high
-- Assumes nothing.
use Rattle.std.specs.Prelude.{ℕ, ◌%◌, Bool, ◌&&◌, nat_le}
use Rattle.board.specs.Places.{place_byte}
use Rattle.board.specs.Board.{Board, place}

abbrev pub within : Board → ℕ → ℕ → ℕ → Bool
within b low high m = nat_le low (place_byte (place b m) % 256) && nat_le (place_byte (place b m) % 256) high
