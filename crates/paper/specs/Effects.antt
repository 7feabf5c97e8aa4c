-- Document 01, 'The nineteen calls': what each does to the board, in the paper's order. A reader must believe this file.
-- c is the running task. Each effect is made of the changes of Changes, so every other byte stays.
-- Assumes nothing.
use Rattle.std.specs.Prelude.{true, cond, ◌&&◌, List, ℕ, ◌+◌, ◌*◌, ◌%◌, eqb}
use Rattle.links.specs.Queue.{first_of, goes_before, insert, without, which, first_with}
use Rattle.board.specs.declared.numbers.Size.{Size}
use Rattle.board.specs.declared.places.Place.TheVariants.{Free, HeldBy, QueuedAt}
use Rattle.board.specs.Numbers.{task_no}
use Rattle.board.specs.Status.{WAIT, IWAT, INTQ, MHBS, stored, has, number, fifo, with_fifo}
use Rattle.board.specs.Records.{no_task, no_message, with_stat, with_prio, with_rptr, with_sptr}
use Rattle.board.specs.Places.{is_free}
use Rattle.board.specs.Board.{Board, task, message, with_task, with_message, with_place}
use Rattle.paper.specs.Rules.{order, queue, empty_queue, task_number, message_number}
use Rattle.paper.specs.Changes.{sets, clears, with_queue, with_order, hold}

-- ---- Place m at r: where its priority and queue type put it; then bit 0 is set, and r wakes if it waited for a message
abbrev pub queue_with : Size → Board → ℕ → ℕ → List ℕ
queue_with z b m r = let p = (message b m).prio in
    insert (λ x. goes_before (fifo p) (number p) (message_number b x)) m (queue z b r)

abbrev pub woken : Board → ℕ → Board
woken b r = cond (has (task b r).stat WAIT) (sets (clears b r WAIT) r MHBS) b

abbrev pub place_at : Size → Board → ℕ → ℕ → Board
place_at z b m r =
    let queued = with_place (with_queue b r (queue_with z b m r)) m (QueuedAt (task_no r)) in
    woken (with_message queued m (with_prio (message queued m) (with_fifo (message b m).prio))) r

-- ---- Send: priority 127 becomes c's, its queue type stays; RPTR is r; SPTR is c if it was 0
abbrev pub own_prio : ℕ → ℕ → ℕ
own_prio p own = cond (eqb (number p) 127) (2 * number own + p % 2) p

abbrev pub addressed : Board → ℕ → ℕ → ℕ → Board
addressed b c m r = let u = message b m in
    with_message b m (with_sptr (with_rptr (with_prio u (own_prio u.prio (task b c).prio)) r) (cond (eqb u.sptr 0) c u.sptr))

abbrev pub send : Size → Board → ℕ → ℕ → ℕ → Board
send z b c m r = place_at z (addressed b c m r) m r

-- ---- Resend, forward, return: the message is placed as it is
abbrev pub resend : Size → Board → ℕ → Board
resend z b m = place_at z b m (message b m).rptr

abbrev pub forward : Size → Board → ℕ → ℕ → Board
forward z b m r = place_at z b m r

abbrev pub give_back : Size → Board → ℕ → Board
give_back z b m = place_at z b m (message b m).sptr

-- ---- Wait forms, and receive and wait: c is due a message if one is queued, else waits for one
abbrev pub waits : ℕ → Board → Board
waits c b = sets b c (cond (empty_queue b c) WAIT MHBS)

-- ---- Cancel message: c holds it; a task that was due a message and has none left waits again
abbrev pub emptied : Board → ℕ → Board
emptied b r = cond (has (task b r).stat MHBS && empty_queue b r) (sets (clears b r MHBS) r WAIT) b

abbrev pub cancel_message : Size → Board → ℕ → ℕ → ℕ → Board
cancel_message z b c m r = emptied (hold (with_queue b r (without m (queue z b r))) c m) r

-- ---- Install: behind all tasks of equal priority. Cancel task
abbrev pub install : Size → Board → ℕ → ℕ → ℕ → ℕ → ℕ → Board
install z b k s p sptr name =
    with_order (with_task b k (record { stat = stored s; prio = p; link = 0; mptr = 0; sptr = sptr; name = name }))
    (insert (λ x. goes_before true (number p) (task_number b x)) k (order z b))

abbrev pub cancel_task : Size → Board → ℕ → Board
cancel_task z b k = with_task (with_order b (without k (order z b))) k no_task

-- ---- Post interrupt, wait for interrupt
abbrev pub post : Board → ℕ → Board
post b k = cond (has (task b k).stat IWAT) (clears b k IWAT) (sets b k INTQ)

abbrev pub wait_interrupt : Board → ℕ → Board
wait_interrupt b c = cond (has (task b c).stat INTQ) (clears b c INTQ) (sets b c IWAT)

-- ---- Claim, release, prepare
abbrev pub lowest_free : Board → ℕ
lowest_free b = first_of (which is_free 1 b.places)

abbrev pub claim : Board → ℕ → Board
claim b c = with_place b (lowest_free b) (HeldBy (task_no c))

abbrev pub release : Board → ℕ → Board
release b m = with_place (with_message b m no_message) m Free

abbrev pub prepare : Board → ℕ → ℕ → ℕ → ℕ → Board
prepare b m s p sptr = with_message b m (with_sptr (with_prio (with_stat (message b m) s) p) sptr)

-- ---- Find: the first in queue order of that name
abbrev pub find : Size → Board → ℕ → ℕ
find z b name = first_with (λ k. eqb (task b k).name name) (order z b)
