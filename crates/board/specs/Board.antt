-- The board: document 01, 'What the board holds'. A reader must believe this file.
--   total z             the bytes of a board of size z; 1,476 for the small one
--   board_of z l        the bytes l read once as a board of records; bytes_of b the board written back
--   board first ..      the board of these bytes and records; with_first, with_running, with_tasks, with_messages, with_places: b with that
--                       field so
--   task b k            task k, a record of zeros for 0 and numbers beyond the board; so message b m; place b m is then Free
--   with_task b k t     the board with task k so and nothing else changed; for 0 and beyond it is b itself; so with_message, with_place
-- Assumes nothing.
use Rattle.std.specs.Prelude.{List, [], ◌∷◌, ◌++◌, map, ℕ, zero, suc, ◌+◌, ◌*◌, get_or, set, take, drop}
use Rattle.board.specs.declared.numbers.Size.{Size}
use Rattle.board.specs.declared.records.Task.{Task}
use Rattle.board.specs.declared.records.Message.{Message}
use Rattle.board.specs.declared.places.Place.{Place}
use Rattle.board.specs.declared.places.Place.TheVariants.{Free}
use Rattle.board.specs.Records.{task_of, task_bytes, no_task, message_of, message_bytes, no_message}
use Rattle.board.specs.Places.{place_in, place_bytes}

-- ---- where the records lie
-- records of one length that lie one behind the other, numbered from 1
pub record Area : Type 0 where
  pub base : ℕ  -- the first byte
  pub stride : ℕ  -- the bytes of one record
  pub count : ℕ  -- how many records

abbrev pub task_area : Size → Area
task_area z = record { base = 4; stride = 10; count = z.tasks }

abbrev pub message_area : Size → Area
message_area z = record { base = 4 + 10 * z.tasks; stride = 8; count = z.messages }

abbrev pub place_area : Size → Area
place_area z = record { base = 4 + 10 * z.tasks + 8 * z.messages; stride = 1; count = z.messages }

abbrev pub total : Size → ℕ
total z = 4 + 10 * z.tasks + 9 * z.messages

-- n pieces of w bytes each, and pieces put together
abbrev pub cut : ℕ → ℕ → List ℕ → List (List ℕ)
cut zero w l = []
cut (suc n) w l = take w l ∷ cut n w (drop w l)

abbrev pub join : List (List ℕ) → List ℕ
join [] = []
join (p ∷ l) = p ++ join l

abbrev pub pieces : Area → List ℕ → List (List ℕ)
pieces a l = cut a.count a.stride (drop a.base l)

-- ---- the board as records
pub record Board : Type 0 where
  pub first : ℕ  -- byte 0: first task of the task queue, 0 if none
  pub running : ℕ  -- byte 1: the running task, 0 if none
  pub zeros : List ℕ  -- bytes 2 and 3
  pub tasks : List Task
  pub messages : List Message
  pub places : List Place

-- the one place where a board is put together
abbrev pub board : ℕ → ℕ → List ℕ → List Task → List Message → List Place → Board
board first running zeros tasks messages places = record {
  first = first;
  running = running;
  zeros = zeros;
  tasks = tasks;
  messages = messages;
  places = places;
}

abbrev pub board_of : Size → List ℕ → Board
board_of z l =
    board (get_or l 0 0) (get_or l 1 0) (take 2 (drop 2 l)) (map task_of (pieces (task_area z) l))
    (map message_of (pieces (message_area z) l)) (map (place_in z) (pieces (place_area z) l))

abbrev pub bytes_of : Board → List ℕ
bytes_of b =
    b.first ∷ b.running ∷ b.zeros
    ++ (join (map task_bytes b.tasks) ++ (join (map message_bytes b.messages) ++ join (map place_bytes b.places)))

-- ---- a record by its number; 0 is none
abbrev pub nth : {A : Type 0} → A → List A → ℕ → A
nth none l zero = none
nth none l (suc i) = get_or l i none

abbrev pub put : {A : Type 0} → List A → ℕ → A → List A
put l zero x = l
put l (suc i) x = set l i x

abbrev pub task : Board → ℕ → Task
task b k = nth no_task b.tasks k

abbrev pub message : Board → ℕ → Message
message b m = nth no_message b.messages m

abbrev pub place : Board → ℕ → Place
place b m = nth Free b.places m

-- ---- a board with one field changed
abbrev pub with_first : Board → ℕ → Board
with_first b k = board k b.running b.zeros b.tasks b.messages b.places

abbrev pub with_running : Board → ℕ → Board
with_running b c = board b.first c b.zeros b.tasks b.messages b.places

abbrev pub with_tasks : Board → List Task → Board
with_tasks b l = board b.first b.running b.zeros l b.messages b.places

abbrev pub with_messages : Board → List Message → Board
with_messages b l = board b.first b.running b.zeros b.tasks l b.places

abbrev pub with_places : Board → List Place → Board
with_places b l = board b.first b.running b.zeros b.tasks b.messages l

-- ---- and with one record changed
abbrev pub with_task : Board → ℕ → Task → Board
with_task b k t = with_tasks b (put b.tasks k t)

abbrev pub with_message : Board → ℕ → Message → Board
with_message b m u = with_messages b (put b.messages m u)

abbrev pub with_place : Board → ℕ → Place → Board
with_place b m p = with_places b (put b.places m p)
