-- What holds of the bytes of a board, as a statement; its proof is in proofs/Codec. A reader must believe this file.
--   Bytes z l                     a list of bytes of the board's length
--   WritingBackChangesNothing     bytes read as a board and written back are the very bytes: no byte of a board goes unread
-- Assumes nothing.
use Rattle.std.specs.Prelude.{◌≡◌, List, ℕ, length, get_or}
use Rattle.board.specs.declared.numbers.Size.{Size}
use Rattle.board.specs.Records.{Byte}
use Rattle.board.specs.Board.{total, board_of, bytes_of}

pub record Bytes (z : Size) (l : List ℕ) : Type 0 where
  pub long : length l ≡ total z
  pub bytes : (i : ℕ) → Byte (get_or l i 0)

abbrev pub WritingBackChangesNothing : Type 0
WritingBackChangesNothing = (z : Size) (l : List ℕ) → Bytes z l → bytes_of (board_of z l) ≡ l
