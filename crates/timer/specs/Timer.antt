-- The timer buffer: document 02, Ask 5. A reader must believe this file.
--   Timer               the word for now, the tick counter, and the entries, sixteen of them
--   timer_length        the bytes of a buffer, 50
--   timer_of s          the bytes s read once as a timer; timer_bytes t the timer written back
--   no_entry            three zero bytes; is_used e: its message byte isn't 0
--   is_due at e         the entry is used, and its due word is at: a free entry is never due
--   entry t i           entry i, counted from 1, a free one for 0 and numbers beyond; with_entry t i e the timer with that entry so
-- Assumes nothing.
use Rattle.std.specs.Prelude.{Bool, not, ◌&&◌, List, ◌∷◌, ◌++◌, map, ℕ, eqb, get_or}
use Rattle.board.specs.Records.{word_at, word_bytes}
use Rattle.board.specs.Board.{Area, pieces, join, nth, put}
use Rattle.timer.specs.declared.entry.Entry.{Entry}

pub record Timer : Type 0 where
  pub ticks : ℕ  -- now
  pub entries : List Entry

abbrev pub timer : ℕ → List Entry → Timer
timer n l = record { ticks = n; entries = l }

-- ---- where they lie: a word for now, then sixteen entries of a message byte and a due word
abbrev pub timer_length : ℕ
timer_length = 50

abbrev pub entry_area : Area
entry_area = record { base = 2; stride = 3; count = 16 }

abbrev pub entry_of : List ℕ → Entry
entry_of l = record { message = get_or l 0 0; due = word_at l 1 }

abbrev pub entry_bytes : Entry → List ℕ
entry_bytes e = e.message ∷ word_bytes e.due

abbrev pub timer_of : List ℕ → Timer
timer_of s = timer (word_at s 0) (map entry_of (pieces entry_area s))

abbrev pub timer_bytes : Timer → List ℕ
timer_bytes t = word_bytes t.ticks ++ join (map entry_bytes t.entries)

-- ---- an entry
abbrev pub no_entry : Entry
no_entry = record { message = 0; due = 0 }

abbrev pub is_used : Entry → Bool
is_used e = not (eqb e.message 0)

abbrev pub is_due : ℕ → Entry → Bool
is_due at e = is_used e && eqb e.due at

abbrev pub entry : Timer → ℕ → Entry
entry t i = nth no_entry t.entries i

abbrev pub with_entry : Timer → ℕ → Entry → Timer
with_entry t i e = timer t.ticks (put t.entries i e)
