-- What a writer makes of the bytes it is lent, whatever their length. The contracts of src/bytes.rt cite this file.
--   put_now s w         the bytes s with the word for now so; put_entry s i e with entry i so
-- Assumes nothing.
use Rattle.std.specs.Prelude.{List, ℕ, ◌/◌, ◌%◌, set}
use Rattle.board.specs.Writes.{put_in}
use Rattle.timer.specs.declared.entry.Entry.{Entry}
use Rattle.timer.specs.Timer.{entry_area, entry_bytes}

abbrev pub put_now : List ℕ → ℕ → List ℕ
put_now s w = set (set s 0 (w % 256)) 1 (w / 256)

abbrev pub put_entry : List ℕ → ℕ → Entry → List ℕ
put_entry s i e = put_in entry_area s i (entry_bytes e)
