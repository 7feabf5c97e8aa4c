-- What holds of the bytes of a timer buffer, as a statement; its proof is in proofs/Codec. A reader must believe this file.
--   TimerBytes s                  a list of bytes of the buffer's length
--   WritingBackChangesNothing     bytes read as a timer and written back are the very bytes: no byte of a buffer goes unread
-- Assumes nothing.
use Rattle.std.specs.Prelude.{◌≡◌, List, ℕ, length, get_or}
use Rattle.board.specs.Records.{Byte}
use Rattle.timer.specs.Timer.{timer_length, timer_of, timer_bytes}

pub record TimerBytes (s : List ℕ) : Type 0 where
  pub long : length s ≡ timer_length
  pub bytes : (i : ℕ) → Byte (get_or s i 0)

abbrev pub WritingBackChangesNothing : Type 0
WritingBackChangesNothing = (s : List ℕ) → TimerBytes s → timer_bytes (timer_of s) ≡ s
