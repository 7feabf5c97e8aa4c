-- Document 01, 'When a board can exist', and document 02, Asks 3 and 5: the rules R1 to R7, at a record where the rule speaks of records,
-- and who runs. A reader must believe this file.
--   present b k        task k is there
--   order z b          the task queue, queue z b k the queue of task k: what the links visit
--   empty_queue b k    no message is queued at task k: MPTR is the first queued message, 0 for none
--   may_run z b c      the task c is ready, and no ready task has a smaller priority number
--   first_ready z b    the first ready task in queue order, 0 if none
--   runs_next z b      who runs once a call has had its effect: the task that ran stays if it may run, else it is the first ready one
--   rule1 .. rule7     the rules, R1 and R7 as document 02, Ask 3, has them; ruleN_at at one record
--   rules2to6 z b r4   those between, R4 being r4 at each message; passes z b all of them
-- Assumes nothing.
use Rattle.std.specs.Prelude.{Bool, true, false, cond, not, ◌&&◌, ◌||◌, List, [], ◌∷◌, ℕ, eqb, leb, ltb}
use Rattle.links.specs.Queue.{walk, which, lists, first_with, each}
use Rattle.board.specs.declared.numbers.Size.{Size}
use Rattle.board.specs.declared.status.Status.{Status}
use Rattle.board.specs.declared.records.Task.{Task}
use Rattle.board.specs.declared.records.Message.{Message}
use Rattle.board.specs.declared.places.Place.{Place}
use Rattle.board.specs.declared.places.Place.TheVariants.{Free, HeldBy, QueuedAt, OnTimer, Nowhere}
use Rattle.board.specs.Status.{WAIT, IWAT, BIT5, INTQ, MHBS, TCBB, has, is_present, is_ready, number, fifo}
use Rattle.board.specs.Places.{is_queued_at}
use Rattle.board.specs.Board.{Board, task, message, place}

-- ---- what the rules speak of
abbrev pub is_there : Task → Bool
is_there t = is_present t.stat

abbrev pub present : Board → ℕ → Bool
present b k = is_there (task b k)

-- LINK is the next task, the next message
abbrev pub next_task : Board → ℕ → ℕ
next_task b k = (task b k).link

abbrev pub next_message : Board → ℕ → ℕ
next_message b m = (message b m).link

-- a walk follows at most as many links as the board has messages, 128 on the small board, in either kind of queue
abbrev pub order : Size → Board → List ℕ
order z b = walk (next_task b) z.messages b.first

abbrev pub queue : Size → Board → ℕ → List ℕ
queue z b k = walk (next_message b) z.messages (task b k).mptr

abbrev pub empty_queue : Board → ℕ → Bool
empty_queue b k = eqb (task b k).mptr 0

abbrev pub task_number : Board → ℕ → ℕ
task_number b k = number (task b k).prio

abbrev pub message_number : Board → ℕ → ℕ
message_number b m = number (message b m).prio

-- ---- who runs: byte 1 holds it, b.running
abbrev pub ready : Board → ℕ → Bool
ready b k = is_ready (task b k).stat

abbrev pub nobody_ready : Size → Board → Bool
nobody_ready z b = each (λ k. not (ready b k)) z.tasks

-- a ready task k of a smaller priority number than c
abbrev pub outranks : Board → ℕ → ℕ → Bool
outranks b c k = ready b k && ltb (task_number b k) (task_number b c)

abbrev pub may_run : Size → Board → ℕ → Bool
may_run z b c = ready b c && each (λ k. not (outranks b c k)) z.tasks

abbrev pub first_ready : Size → Board → ℕ
first_ready z b = first_with (ready b) (order z b)

-- after an accepted call's effect
abbrev pub runs_next : Size → Board → ℕ
runs_next z b = cond (may_run z b b.running) b.running (first_ready z b)

-- ---- R1: bytes 2 and 3
abbrev pub all_zero : List ℕ → Bool
all_zero [] = true
all_zero (x ∷ l) = eqb x 0 && all_zero l

abbrev pub rule1 : Board → Bool
rule1 b = all_zero b.zeros

-- ---- R2: a task record is absent, or one that a task can have
abbrev pub zero_task : Task → Bool
zero_task t =
    eqb t.stat.0 0 && eqb t.prio 0 && eqb t.link 0 && eqb t.mptr 0 && eqb t.sptr 0 && eqb t.name 0

abbrev pub task_prio : ℕ → Bool
task_prio p = fifo p && leb 0x03 p && leb p 0xFD

abbrev pub good_head : Status → ℕ → Bool
good_head s p = has s TCBB && not (has s BIT5) && task_prio p

abbrev pub good_task : Task → Bool
good_task t = zero_task t || good_head t.stat t.prio

abbrev pub rule2_at : Board → ℕ → Bool
rule2_at b k = good_task (task b k)

-- ---- R3: from byte 0 the links visit every present task once and no absent one, in the order of priorities
abbrev pub rule3 : Size → Board → Bool
rule3 z b = lists (next_task b) (task_number b) z.messages b.first (which is_there 1 b.tasks)

-- ---- R4: a message and its place; on the timer (document 02, Ask 5) LINK is 0, SPTR is present and PRIO below FEH
abbrev pub zero_message : Message → Bool
zero_message u = eqb u.stat 0 && eqb u.prio 0 && eqb u.link 0 && eqb u.rptr 0 && eqb u.sptr 0

-- RPTR and SPTR are task numbers or 0, of tasks that may be absent
abbrev pub good_pointers : Size → Message → Bool
good_pointers z u = leb u.rptr z.tasks && leb u.sptr z.tasks

abbrev pub good_message : Size → (ℕ → Bool) → Message → Place → Bool
good_message z there u Free = zero_message u
good_message z there u (HeldBy k) = good_pointers z u && eqb u.link 0 && there k.0
good_message z there u (QueuedAt k) = good_pointers z u && fifo u.prio && ltb u.prio 0xFF && there k.0
good_message z there u OnTimer = good_pointers z u && eqb u.link 0 && there u.sptr && ltb u.prio 0xFE
good_message z there u (Nowhere p) = false

abbrev pub rule4_at : Size → Board → ℕ → Bool
rule4_at z b m = good_message z (present b) (message b m) (place b m)

-- ---- R5: from MPTR of task k the links visit exactly the messages queued at k, once each, in the order of priorities
abbrev pub rule5_at : Size → Board → ℕ → Bool
rule5_at z b k =
    lists (next_message b) (message_number b) z.messages (task b k).mptr (which (is_queued_at k) 1 b.places)

-- ---- R6: which flags go together, and with an empty queue
abbrev pub good_flags : Status → Bool → Bool
good_flags s empty =
    not (has s WAIT && has s IWAT)
    && (not (has s WAIT) || (empty && not (has s MHBS)))
    && (not (has s IWAT) || (not (has s INTQ) && not (has s MHBS)))
    && (not (has s MHBS) || not empty)

abbrev pub rule6_at : Board → ℕ → Bool
rule6_at b k = good_flags (task b k).stat (empty_queue b k)

-- ---- R7: byte 1 is 0 exactly if no task is ready, and else names a ready task of the smallest ready priority number, with MHBS 0
abbrev pub rule7 : Size → Board → Bool
rule7 z b = let c = b.running in cond (nobody_ready z b) (eqb c 0) (may_run z b c && not (has (task b c).stat MHBS))

-- ---- all of them
abbrev pub rules2to6 : Size → Board → (ℕ → Bool) → Bool
rules2to6 z b r4 =
    each (rule2_at b) z.tasks && rule3 z b && each r4 z.messages && each (rule5_at z b) z.tasks
    && each (rule6_at b) z.tasks

abbrev pub passes : Size → Board → Bool
passes z b = rule1 b && rules2to6 z b (rule4_at z b) && rule7 z b
