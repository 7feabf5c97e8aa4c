-- A board on lent bytes, as contracts speak of it.
--   board b             the board that the bytes hold
--   Becomes b c l       b has become c: the bytes are l, of the same size and the same loan
-- Assumes nothing.
use Rattle.std.specs.Prelude.{◌≡◌, List, ℕ}
use Rattle.board.specs.Board.{Board, board_of}
use Rattle.lent.specs.declared.bytes.Lent.{Lent}
use Rattle.lent.specs.declared.bytes.LentMut.{LentMut}

abbrev pub board : Lent → Board
board b = board_of b.size b.bytes.now

pub record Becomes (old new : LentMut) (l : List ℕ) : Type 0 where
  pub bytes : new.bytes.now ≡ l
  pub size : new.size ≡ old.size
  pub loan : new.bytes.ghost_name ≡ old.bytes.ghost_name
