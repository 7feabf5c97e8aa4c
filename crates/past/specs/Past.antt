-- Document 02, Ask 4: a past of a board that passes and has no message on the timer. A board has many; this one is found by going back. A
-- line says what the board has, the earlier board that had it not, and the calls that lead from that one to this one, until there is no
-- message and no task left. That the calls do make the board again need not be believed: it is proved (PastRebuilds in Rattle.reached,
-- specs/Claims).
--   Back               an earlier board, and the calls that lead from it
--   here b             b itself; further y f: from the earlier board of y back by f; through lines b: back by each of the lines
--   sweep line n b     back over the numbers n to 1, each by the line; unlist line q b: back over the list q, from its last to its first
--   posted .. installed   the lines, the latest first. A task is parked where it waits for an interrupt (IWAT)
--   past z b           the calls that lead from the fresh board to b
-- Assumes nothing.
use Rattle.std.specs.Prelude.{Bool, cond, not, ◌&&◌, ◌||◌, List, [], ◌∷◌, ◌++◌, ℕ, zero, suc, eqb}
use Rattle.links.specs.Queue.{each, smallest_failing}
use Rattle.board.specs.declared.numbers.Size.{Size}
use Rattle.board.specs.declared.places.Place.{Place}
use Rattle.board.specs.declared.places.Place.TheVariants.{Free, HeldBy, QueuedAt, OnTimer, Nowhere}
use Rattle.board.specs.Status.{WAIT, IWAT, INTQ, has, without_bit}
use Rattle.board.specs.Places.{is_free}
use Rattle.board.specs.Board.{Board, task, message, place, with_running, with_place}
use Rattle.paper.specs.declared.call.Call.{Call}
use Rattle.paper.specs.declared.call.Call.TheVariants.{Install, PostInterrupt, CancelTask, Claim, Prepare, Release, Send, Forward}
use Rattle.paper.specs.declared.call.Call.TheVariants.{ReceiveAndWait, CancelMessage, WaitForInterrupt}
use Rattle.paper.specs.Rules.{present, order, queue, empty_queue, ready}
use Rattle.paper.specs.Changes.{sets, clears}
use Rattle.paper.specs.Effects.{cancel_message, install, cancel_task, release}

-- ---- going back
pub record Back : Type 0 where
  pub board : Board
  pub calls : List Call

abbrev pub back : Board → List Call → Back
back b calls = record { board = b; calls = calls }

abbrev pub here : Board → Back
here b = back b []

abbrev pub further : Back → (Board → Back) → Back
further y f = let x = f y.board in back x.board (x.calls ++ y.calls)

abbrev pub sweep : (Board → ℕ → Back) → ℕ → Board → Back
sweep line zero b = here b
sweep line (suc n) b = further (line b (suc n)) (sweep line n)

abbrev pub unlist : (Board → ℕ → Back) → List ℕ → Board → Back
unlist line [] b = here b
unlist line (x ∷ q) b = further (unlist line q b) (λ y. line y x)

-- ---- interrupts: k had none queued, and one was posted
abbrev pub posted : Board → ℕ → Back
posted b k = cond (has (task b k).stat INTQ) (back (clears b k INTQ) (PostInterrupt k ∷ [])) (here b)

-- ---- messages in queues: the running task held and forwarded them. Where nobody runs, the first task with a queue ran, and then parked
abbrev pub stopped : Size → Board → Back
stopped z b = let k = smallest_failing (empty_queue b) z.tasks in
    cond (eqb b.running 0 && not (eqb k 0)) (back (with_running (clears b k IWAT) k) (WaitForInterrupt ∷ [])) (here b)

-- m is the last in the queue of k
abbrev pub forwarded : Size → ℕ → Board → ℕ → Back
forwarded z k b m = back (cancel_message z b b.running m k) (Forward m k ∷ [])

abbrev pub queued : Size → Board → ℕ → Back
queued z b k = unlist (forwarded z k) (queue z b k) b

-- ---- tasks that are ready: each was parked, and was posted an interrupt; the running one first
abbrev pub readied : Board → ℕ → Back
readied b k = cond (ready b k && not (eqb k b.running)) (back (sets b k IWAT) (PostInterrupt k ∷ [])) (here b)

abbrev pub started : Board → Back
started b = let c = b.running in cond (eqb c 0) (here b) (back (with_running (sets b c IWAT) 0) (PostInterrupt c ∷ []))

-- ---- tasks that wait for a message: parked, woken, and then waiting
abbrev pub waited : Board → ℕ → Back
waited b k =
    cond (has (task b k).stat WAIT) (back (sets (clears b k WAIT) k IWAT) (PostInterrupt k ∷ ReceiveAndWait ∷ [])) (here b)

-- ---- absent tasks that an RPTR names: each was there for a while, parked, and cancelled itself
abbrev pub unnamed : Size → Board → ℕ → Bool
unnamed z b k = each (λ m. not (eqb (message b m).rptr k)) z.messages

-- what such a task is: its priority is the last that a task can have
abbrev pub guest_stat : ℕ
guest_stat = 0x01

abbrev pub guest_prio : ℕ
guest_prio = 0xFD

abbrev pub left : Size → Board → ℕ → Back
left z b k =
    cond (present b k || unnamed z b k) (here b)
    (back (sets (install z b k guest_stat guest_prio 0 0) k IWAT) (PostInterrupt k ∷ CancelTask k ∷ []))

-- ---- free messages before others that aren't: the holder of the next one held it too, and released it
abbrev pub holder : Place → ℕ
holder Free = 0
holder (HeldBy k) = k.0
holder (QueuedAt k) = 0
holder OnTimer = 0
holder (Nowhere p) = 0

abbrev pub released : Board → ℕ → Back
released b m = let p = place b (suc m) in
    cond (is_free (place b m) && not (is_free p))
    (back (with_place b m p) (PostInterrupt (holder p) ∷ Release m ∷ WaitForInterrupt ∷ [])) (here b)

-- ---- messages: the holder woke, claimed m, sent it to its RPTR and took it back, prepared it, and parked
abbrev pub addressed : ℕ → ℕ → List Call
addressed m r = cond (eqb r 0) [] (Send m r ∷ CancelMessage m r ∷ [])

abbrev pub claimed : Board → ℕ → Back
claimed b m = let u = message b m in
    cond (is_free (place b m)) (here b)
    (back (release b m) (PostInterrupt (holder (place b m)) ∷ Claim ∷ addressed m u.rptr
    ++ (Prepare m u.stat u.prio u.sptr ∷ WaitForInterrupt ∷ [])))

-- ---- tasks: k is the last in the task queue; it was installed, and parked
abbrev pub installed : Size → Board → ℕ → Back
installed z b k = let t = task b k in
    back (cancel_task z b k) (Install k (without_bit t.stat IWAT).0 t.prio t.sptr t.name ∷ WaitForInterrupt ∷ [])

-- ---- all of it
abbrev pub through : List (Board → Back) → Board → Back
through [] b = here b
through (f ∷ lines) b = further (f b) (through lines)

abbrev pub way_back : Size → Board → Back
way_back z = let n = z.tasks in
    through (sweep posted n ∷ stopped z ∷ sweep (queued z) n ∷ sweep readied n ∷ started ∷ sweep waited n ∷ sweep (left z) n
    ∷ sweep released z.messages ∷ sweep claimed z.messages ∷ (λ b. unlist (installed z) (order z b) b) ∷ [])

abbrev pub past : Size → Board → List Call
past z b = (way_back z b).calls
