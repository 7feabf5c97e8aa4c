-- The changes that document 01's effects are made of: one field, one bit, one queue. A reader must believe this file.
-- A board with one record or place written keeps all others (Rattle.board, Board), so every other byte stays.
--   sets b k BIT         task k with the bit set, clears b k BIT with it cleared
--   with_queue b r q     the links from MPTR of r list q; with_order b q the links from byte 0 list q
--   hold b c m           c holds m, with LINK 0
--   take_first z b c     c holds the first message of its queue; nothing where it is empty
-- Assumes nothing.
use Rattle.std.specs.Prelude.{List, ℕ}
use Rattle.links.specs.Queue.{first_of, rest_of, relink}
use Rattle.board.specs.declared.numbers.Size.{Size}
use Rattle.board.specs.declared.places.Place.TheVariants.{HeldBy}
use Rattle.board.specs.Numbers.{task_no}
use Rattle.board.specs.Status.{with_bit, without_bit}
use Rattle.board.specs.Records.{task_with_stat, task_with_link, task_with_mptr, with_link}
use Rattle.board.specs.Board.{Board, task, message, with_first, with_task, with_message, with_place}
use Rattle.paper.specs.Rules.{queue}

-- ---- one bit of STAT
abbrev pub sets : Board → ℕ → ℕ → Board
sets b k bit = with_task b k (task_with_stat (task b k) (with_bit (task b k).stat bit))

abbrev pub clears : Board → ℕ → ℕ → Board
clears b k bit = with_task b k (task_with_stat (task b k) (without_bit (task b k).stat bit))

-- ---- the links of a queue
abbrev pub link_task : Board → ℕ → ℕ → Board
link_task b k next = with_task b k (task_with_link (task b k) next)

abbrev pub link_message : Board → ℕ → ℕ → Board
link_message b m next = with_message b m (with_link (message b m) next)

abbrev pub with_mptr : Board → ℕ → ℕ → Board
with_mptr b k m = with_task b k (task_with_mptr (task b k) m)

abbrev pub with_queue : Board → ℕ → List ℕ → Board
with_queue b r q = with_mptr (relink link_message b q) r (first_of q)

abbrev pub with_order : Board → List ℕ → Board
with_order b q = with_first (relink link_task b q) (first_of q)

-- ---- a message in a task's hands
abbrev pub hold : Board → ℕ → ℕ → Board
hold b c m = with_place (link_message b m 0) m (HeldBy (task_no c))

abbrev pub take_first : Size → Board → ℕ → Board
take_first z b c = hold (with_queue b c (rest_of (queue z b c))) c (first_of (queue z b c))
