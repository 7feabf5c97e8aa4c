-- Four places tested together: what the contracts of `none_zero` and `none_free` cite. No reader needs to believe it.
--   none_zero l     none of the bytes l is 0
--   in_use b m      message m is not free
--   none_free b m   all of the four messages behind m are in use; one that the board does not have reads as free
-- Assumes nothing.
use Rattle.std.specs.Prelude.{ℕ, ◌+◌, Bool, true, not, ◌&&◌, List, [], ◌∷◌, ◌==◌}
use Rattle.board.specs.Places.{is_free}
use Rattle.board.specs.Board.{Board, place}

abbrev pub none_zero : List ℕ → Bool
none_zero [] = true
none_zero (p ∷ l) = not (p == 0) && none_zero l

abbrev pub in_use : Board → ℕ → Bool
in_use b m = not (is_free (place b m))

abbrev pub none_free : Board → ℕ → Bool
none_free b m = in_use b (m + 1) && (in_use b (m + 2) && (in_use b (m + 3) && in_use b (m + 4)))
