-- Task and message records and the bytes they are made of: document 01, 'What the board holds'. A reader must believe this file.
--   Byte x, Word x        x fits a byte, a word
--   word_at l i           the word at i, low byte first; word_bytes w its two bytes
--   task_of l             the task record in these ten bytes, task_bytes t the bytes of a record; message_of, message_bytes: eight bytes
--   no_task, no_message   the records of zeros
--   task_with_stat t s .. the record with one field changed, the others as they were
-- Assumes nothing.
use Rattle.std.specs.Prelude.{List, [], ◌∷◌, ◌++◌, ℕ, ◌+◌, ◌*◌, ◌/◌, ◌%◌, ◌<◌, get_or}
use Rattle.board.specs.declared.status.Status.{Status}
use Rattle.board.specs.declared.records.Task.{Task}
use Rattle.board.specs.declared.records.Message.{Message}
use Rattle.board.specs.Status.{stored}

-- ---- bytes and words
abbrev pub Byte : ℕ → Type 0
Byte x = x < 256

abbrev pub Word : ℕ → Type 0
Word x = x < 65536

abbrev pub word_at : List ℕ → ℕ → ℕ
word_at l i = get_or l i 0 + 256 * get_or l (i + 1) 0

abbrev pub word_bytes : ℕ → List ℕ
word_bytes w = w % 256 ∷ w / 256 ∷ []

-- ---- a task: STAT, PRIO, LINK, MPTR, SPTR, NAME at 0, 1, 2, 4, 6, 8
abbrev pub task_of : List ℕ → Task
task_of l =
    record { stat = stored (get_or l 0 0); prio = get_or l 1 0; link = word_at l 2; mptr = word_at l 4; sptr = word_at l 6; name = word_at l 8 }

abbrev pub task_bytes : Task → List ℕ
task_bytes t =
    t.stat.0 ∷ t.prio ∷ word_bytes t.link ++ (word_bytes t.mptr ++ (word_bytes t.sptr ++ word_bytes t.name))

abbrev pub no_task : Task
no_task = record { stat = stored 0; prio = 0; link = 0; mptr = 0; sptr = 0; name = 0 }

-- ---- a message: STAT, PRIO, LINK, RPTR, SPTR at 0, 1, 2, 4, 6
abbrev pub message_of : List ℕ → Message
message_of l = record { stat = get_or l 0 0; prio = get_or l 1 0; link = word_at l 2; rptr = word_at l 4; sptr = word_at l 6 }

abbrev pub message_bytes : Message → List ℕ
message_bytes u = u.stat ∷ u.prio ∷ word_bytes u.link ++ (word_bytes u.rptr ++ word_bytes u.sptr)

abbrev pub no_message : Message
no_message = record { stat = 0; prio = 0; link = 0; rptr = 0; sptr = 0 }

-- ---- a record with one field changed
abbrev pub task_with_stat : Task → Status → Task
task_with_stat t s = record { stat = s; prio = t.prio; link = t.link; mptr = t.mptr; sptr = t.sptr; name = t.name }

abbrev pub task_with_link : Task → ℕ → Task
task_with_link t w = record { stat = t.stat; prio = t.prio; link = w; mptr = t.mptr; sptr = t.sptr; name = t.name }

abbrev pub task_with_mptr : Task → ℕ → Task
task_with_mptr t w = record { stat = t.stat; prio = t.prio; link = t.link; mptr = w; sptr = t.sptr; name = t.name }

abbrev pub with_stat : Message → ℕ → Message
with_stat u s = record { stat = s; prio = u.prio; link = u.link; rptr = u.rptr; sptr = u.sptr }

abbrev pub with_prio : Message → ℕ → Message
with_prio u p = record { stat = u.stat; prio = p; link = u.link; rptr = u.rptr; sptr = u.sptr }

abbrev pub with_link : Message → ℕ → Message
with_link u w = record { stat = u.stat; prio = u.prio; link = w; rptr = u.rptr; sptr = u.sptr }

abbrev pub with_rptr : Message → ℕ → Message
with_rptr u w = record { stat = u.stat; prio = u.prio; link = u.link; rptr = w; sptr = u.sptr }

abbrev pub with_sptr : Message → ℕ → Message
with_sptr u w = record { stat = u.stat; prio = u.prio; link = u.link; rptr = u.rptr; sptr = w }
