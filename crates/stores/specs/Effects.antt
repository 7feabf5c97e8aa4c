-- The effects of document 01's calls as stores on the bytes l, in the paper's order and by its names. Contracts of code cite this file; that
-- they come to the effects of paper on a board that passes is proved (stored), so no reader needs to believe it.
-- Assumes nothing.
use Rattle.std.specs.Prelude.{cond, ◌&&◌, List, ℕ, eqb}
use Rattle.links.specs.Queue.{walk, first_with}
use Rattle.board.specs.declared.numbers.Size.{Size}
use Rattle.board.specs.declared.records.Message.{Message}
use Rattle.board.specs.declared.places.Place.TheVariants.{Free, HeldBy, QueuedAt}
use Rattle.board.specs.Numbers.{outside, task_no, on_board}
use Rattle.board.specs.Status.{WAIT, IWAT, INTQ, MHBS, stored, has}
use Rattle.board.specs.Records.{no_task, no_message, with_stat, with_prio, with_rptr, with_sptr}
use Rattle.board.specs.Board.{Board, board_of, task, message}
use Rattle.board.specs.Writes.{put_task, put_message, put_place}
use Rattle.paper.specs.Rules.{empty_queue}
use Rattle.paper.specs.Effects.{own_prio, lowest_free}
use Rattle.stores.specs.Changes.{sets, clears, with_mptr, hold}
use Rattle.stores.specs.Moves.{message_behind, task_behind, queue_into, queue_out, order_into, order_out}

-- ---- Place m at r, as the record u
abbrev pub woken : Size → List ℕ → ℕ → List ℕ
woken z l r = cond (has (task (board_of z l) r).stat WAIT) (sets z (clears z l r WAIT) r MHBS) l

abbrev pub place_at : Size → List ℕ → ℕ → Message → ℕ → List ℕ
place_at z l m u r = woken z (put_place z (queue_into z l m u r) m (QueuedAt (task_no r))) r

-- ---- Send: the message as it is addressed. Resend, forward, return: the message as it is
-- c, of PRIO own, addresses the record u to r
abbrev pub addressed_as : Message → ℕ → ℕ → ℕ → Message
addressed_as u own c r = with_sptr (with_rptr (with_prio u (own_prio u.prio own)) r) (cond (eqb u.sptr 0) c u.sptr)

abbrev pub addressed : Board → ℕ → ℕ → ℕ → Message
addressed b c m r = addressed_as (message b m) (task b c).prio c r

abbrev pub send : Size → List ℕ → ℕ → ℕ → ℕ → List ℕ
send z l c m r = place_at z l m (addressed (board_of z l) c m r) r

abbrev pub pass_on : Size → List ℕ → ℕ → ℕ → List ℕ
pass_on z l m r = place_at z l m (message (board_of z l) m) r

-- ---- Wait forms
abbrev pub waits : Size → List ℕ → ℕ → List ℕ
waits z l c = sets z l c (cond (empty_queue (board_of z l) c) WAIT MHBS)

-- ---- Receive, cancel message
abbrev pub take_first : Size → List ℕ → ℕ → List ℕ
take_first z l c = let b = board_of z l in let m = (task b c).mptr in
    cond (outside z.messages m) l (hold z (with_mptr z l c (message_behind z b m)) c m)

abbrev pub emptied : Size → List ℕ → ℕ → List ℕ
emptied z l r = let b = board_of z l in
    cond (has (task b r).stat MHBS && empty_queue b r) (sets z (clears z l r MHBS) r WAIT) l

abbrev pub cancel_message : Size → List ℕ → ℕ → ℕ → ℕ → List ℕ
cancel_message z l c m r = emptied z (hold z (queue_out z l m r) c m) r

-- ---- Install, cancel task
abbrev pub install : Size → List ℕ → ℕ → ℕ → ℕ → ℕ → ℕ → List ℕ
install z l k s p sptr name =
    order_into z l k (record { stat = stored s; prio = p; link = 0; mptr = 0; sptr = sptr; name = name })

abbrev pub cancel_task : Size → List ℕ → ℕ → List ℕ
cancel_task z l k = put_task z (order_out z l k) k no_task

-- ---- Post interrupt, wait for interrupt
abbrev pub post : Size → List ℕ → ℕ → List ℕ
post z l k = cond (has (task (board_of z l) k).stat IWAT) (clears z l k IWAT) (sets z l k INTQ)

abbrev pub wait_interrupt : Size → List ℕ → ℕ → List ℕ
wait_interrupt z l c = cond (has (task (board_of z l) c).stat INTQ) (clears z l c INTQ) (sets z l c IWAT)

-- ---- Claim, release, prepare
abbrev pub claim : Size → List ℕ → ℕ → List ℕ
claim z l c = put_place z l (lowest_free (board_of z l)) (HeldBy (task_no c))

abbrev pub release : Size → List ℕ → ℕ → List ℕ
release z l m = put_place z (put_message z l m no_message) m Free

abbrev pub prepare : Size → List ℕ → ℕ → ℕ → ℕ → ℕ → List ℕ
prepare z l m s p sptr = put_message z l m (with_sptr (with_prio (with_stat (message (board_of z l) m) s) p) sptr)

-- ---- Find
abbrev pub find : Size → List ℕ → ℕ → ℕ
find z l name = let b = board_of z l in
    first_with (λ k. eqb (task b k).name name) (walk (task_behind z b) z.messages (on_board z.tasks b.first))
