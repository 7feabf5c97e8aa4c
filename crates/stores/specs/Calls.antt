-- What code stores for each call, from its refusals to dispatch. Contracts of code cite this file; that a call so made is document 01's
-- effect is proved (stored), so no reader needs to believe it.
--   body z l c call           the value and the bytes of a call's body, c running
--   stepping z l call         a call up to dispatch: its refusals by its row, else its body
--   passing z l m w           resend, forward and return on a held message: 6 and 7, else m is placed at the task w as it is
--   waiting z c d l           the wait of a wait form behind the body d
--   dispatch z v l c          dispatch of a call whose value is v on the bytes l, c running
--   runs_then z c k l         who runs after a body, c having run before it, and k being the one whose status it may have changed
--   finish z c d l            that one is written into byte 1, and dispatched, behind the body d
--   called z l call           the whole call
-- Assumes nothing.
use Rattle.std.specs.Prelude.{cond, List, [], ◌∷◌, ℕ, ◌%◌, Option, Err, Ok}
use Rattle.board.specs.declared.numbers.Size.{Size}
use Rattle.board.specs.declared.numbers.TaskNo.{TaskNo}
use Rattle.board.specs.Numbers.{outside, number_of_task, on_board}
use Rattle.board.specs.Status.{MHBS, has}
use Rattle.board.specs.Board.{board_of, task, message}
use Rattle.board.specs.Writes.{put_running}
use Rattle.paper.specs.declared.call.Call.{Call}
use Rattle.paper.specs.declared.call.Call.TheVariants.{Install, PostInterrupt, Find, CancelTask, Claim, Prepare, Release}
use Rattle.paper.specs.declared.call.Call.TheVariants.{Send, SendAndWait, Resend, ResendAndWait, Forward, ForwardAndWait, Return, ReturnAndWait}
use Rattle.paper.specs.declared.call.Call.TheVariants.{Receive, ReceiveAndWait, CancelMessage, WaitForInterrupt}
use Rattle.paper.specs.declared.answer.Refusal.TheVariants.{NothingToDeliver}
use Rattle.paper.specs.Rules.{ready, outranks, first_ready}
use Rattle.paper.specs.Effects.{lowest_free}
use Rattle.paper.specs.Refusals.{no6, no7, Verdict, own_row, given}
use Rattle.paper.specs.Outcomes.{Outcome}
use Rattle.paper.specs.Answers.{accepts}
use Rattle.stores.specs.Changes.{clears}
use Rattle.stores.specs.Effects.{send, pass_on, waits, take_first, cancel_message, install, cancel_task, post, wait_interrupt, claim, release, prepare, find}
use Rattle.stores.specs.Answers.{Stored, stirs, rests, Reply, reply_by, Body, done}

-- ---- a call's body
abbrev pub body : Size → List ℕ → ℕ → Call → Stored
body z l c (Install k s p sptr name) = stirs 0 k (install z l k s p sptr name)
body z l c (PostInterrupt k) = stirs 0 k (post z l k)
body z l c (Find name) = rests (find z l name) l
body z l c (CancelTask k) = stirs 0 k (cancel_task z l k)
body z l c Claim = rests (lowest_free (board_of z l)) (claim z l c)
body z l c (Prepare m s p sptr) = rests 0 (prepare z l m s p sptr)
body z l c (Release m) = rests 0 (release z l m)
body z l c (Send m r) = stirs 0 r (send z l c m r)
body z l c (SendAndWait m r) = stirs 0 r (waits z (send z l c m r) c)
body z l c (Resend m) = stirs 0 (message (board_of z l) m).rptr (pass_on z l m (message (board_of z l) m).rptr)
body z l c (ResendAndWait m) = stirs 0 (message (board_of z l) m).rptr (waits z (pass_on z l m (message (board_of z l) m).rptr) c)
body z l c (Forward m r) = stirs 0 r (pass_on z l m r)
body z l c (ForwardAndWait m r) = stirs 0 r (waits z (pass_on z l m r) c)
body z l c (Return m) = stirs 0 (message (board_of z l) m).sptr (pass_on z l m (message (board_of z l) m).sptr)
body z l c (ReturnAndWait m) = stirs 0 (message (board_of z l) m).sptr (waits z (pass_on z l m (message (board_of z l) m).sptr) c)
body z l c Receive = rests (on_board z.messages (task (board_of z l) c).mptr) (take_first z l c)
body z l c ReceiveAndWait = rests 0 (waits z l c)
body z l c (CancelMessage m r) = stirs 0 r (cancel_message z l c m r)
body z l c WaitForInterrupt = rests 0 (wait_interrupt z l c)

-- ---- a call up to dispatch; the verdict is that of the row below 1 and 2
abbrev pub verdict : Size → List ℕ → Call → Verdict
verdict z l call = let b = board_of z l in given (own_row z b b.running call)

abbrev pub stepping : Size → List ℕ → Call → Reply Body
stepping z l call = reply_by (verdict z l call) l (body z l (board_of z l).running call)

abbrev pub pass_verdict : Size → List ℕ → ℕ → ℕ → Verdict
pass_verdict z l m w = let b = board_of z l in given (no6 z b w ∷ no7 b m ∷ [])

abbrev pub passing : Size → List ℕ → ℕ → ℕ → Reply Body
passing z l m w = reply_by (pass_verdict z l m w) l (stirs 0 w (pass_on z l m w))

abbrev pub waiting : Size → ℕ → Body → List ℕ → Reply Body
waiting z c (Ok d) l = record { answer = done 0 d.stirred; after = waits z l c }
waiting z c (Err q) l = record { answer = Err q; after = l }

-- ---- dispatch
abbrev pub deliver : Size → ℕ → List ℕ → ℕ → Outcome
deliver z v l c = let m = (task (board_of z l) c).mptr in
    cond (outside z.messages m) (record { answer = Err NothingToDeliver; after = l })
    (record { answer = accepts v c m; after = clears z (take_first z l c) c MHBS })

abbrev pub dispatch : Size → ℕ → List ℕ → ℕ → Outcome
dispatch z v l c = cond (has (task (board_of z l) c).stat MHBS) (deliver z v l c) (record { answer = accepts v c 0; after = l })

-- who ran goes on where it is ready and the one stirred, who alone can have become ready, does not outrank it; else the task queue is looked
-- through
abbrev pub runs_then : Size → ℕ → Option TaskNo → List ℕ → ℕ
runs_then z c stirred l = let b = board_of z l in let k = number_of_task stirred in
    cond (ready b c) (cond (outranks b c k) k c) (first_ready z b)

abbrev pub finish : Size → ℕ → Body → List ℕ → Outcome
finish z c (Ok d) l = let k = runs_then z c d.stirred l in dispatch z d.value (put_running l (k % 256)) k
finish z c (Err q) l = record { answer = Err q; after = l }

abbrev pub called : Size → List ℕ → Call → Outcome
called z l call = finish z (board_of z l).running (stepping z l call).answer (stepping z l call).after
