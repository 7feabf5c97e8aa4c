-- Document 01, 'Dispatch' and 'Numbers handed back', and document 02, Ask 3: a call as one function of the bytes. A reader must believe
-- this file.
--   body z b c call     what the call does before dispatch, c running, and the value it hands back
--   dispatch z l d      what is done then: who runs is settled, and then handed a message if one is due; l are the bytes before the call
--   effect z l call     the answer and all bytes afterwards of a call on the bytes l, for boards of size z
--   fresh z l, check z l   making a fresh board, checking a board
--   Ends a l o          a contract's one clause: the answer a and the bytes l are those of the outcome o
-- Assumes nothing.
use Rattle.std.specs.Prelude.{◌≡◌, cond, List, [], ◌∷◌, ℕ, replicate, Err}
use Rattle.links.specs.Queue.{first_of}
use Rattle.board.specs.declared.numbers.Size.{Size}
use Rattle.board.specs.Status.{MHBS, has}
use Rattle.board.specs.Board.{Board, total, board_of, bytes_of, task, with_running}
use Rattle.paper.specs.declared.call.Call.{Call}
use Rattle.paper.specs.declared.call.Call.TheVariants.{Install, PostInterrupt, Find, CancelTask, Claim, Prepare, Release, Send}
use Rattle.paper.specs.declared.call.Call.TheVariants.{SendAndWait, Resend, ResendAndWait, Forward, ForwardAndWait, Return}
use Rattle.paper.specs.declared.call.Call.TheVariants.{ReturnAndWait, Receive, ReceiveAndWait, CancelMessage, WaitForInterrupt}
use Rattle.paper.specs.declared.answer.Refusal.{Refusal}
use Rattle.paper.specs.declared.answer.Refusal.TheVariants.{NothingToDeliver}
use Rattle.paper.specs.Rules.{queue, empty_queue, runs_next}
use Rattle.paper.specs.Changes.{clears, take_first}
use Rattle.paper.specs.Effects.{send, resend, forward, give_back, waits, cancel_message, install, cancel_task, post, wait_interrupt}
use Rattle.paper.specs.Effects.{lowest_free, claim, release, prepare, find}
use Rattle.paper.specs.Refusals.{no1, no2, row, Verdict, Go, Stop, given}
use Rattle.paper.specs.Answers.{Answer, accepts}

-- ---- the answer and all bytes afterwards
pub record Outcome : Type 0 where
  pub answer : Answer
  pub after : List ℕ

-- accepted carries value, running and delivered
abbrev pub accepted : ℕ → ℕ → ℕ → List ℕ → Outcome
accepted v c m l = record { answer = accepts v c m; after = l }

-- refused leaves the board unchanged
abbrev pub refused : List ℕ → Refusal → Outcome
refused l q = record { answer = Err q; after = l }

abbrev pub judge : List ℕ → Verdict → Outcome → Outcome
judge l Go o = o
judge l (Stop q) o = refused l q

-- ---- before dispatch: the board, and the value that find, claim and receive give
pub record Undispatched : Type 0 where
  pub value : ℕ
  pub board : Board

abbrev pub undispatched : ℕ → Board → Undispatched
undispatched v b = record { value = v; board = b }

abbrev pub body : Size → Board → ℕ → Call → Undispatched
body z b c (Install k s p sptr name) = undispatched 0 (install z b k s p sptr name)
body z b c (PostInterrupt k) = undispatched 0 (post b k)
body z b c (Find name) = undispatched (find z b name) b
body z b c (CancelTask k) = undispatched 0 (cancel_task z b k)
body z b c Claim = undispatched (lowest_free b) (claim b c)
body z b c (Prepare m s p sptr) = undispatched 0 (prepare b m s p sptr)
body z b c (Release m) = undispatched 0 (release b m)
body z b c (Send m r) = undispatched 0 (send z b c m r)
body z b c (SendAndWait m r) = undispatched 0 (waits c (send z b c m r))
body z b c (Resend m) = undispatched 0 (resend z b m)
body z b c (ResendAndWait m) = undispatched 0 (waits c (resend z b m))
body z b c (Forward m r) = undispatched 0 (forward z b m r)
body z b c (ForwardAndWait m r) = undispatched 0 (waits c (forward z b m r))
body z b c (Return m) = undispatched 0 (give_back z b m)
body z b c (ReturnAndWait m) = undispatched 0 (waits c (give_back z b m))
body z b c Receive = undispatched (first_of (queue z b c)) (take_first z b c)
body z b c ReceiveAndWait = undispatched 0 (waits c b)
body z b c (CancelMessage m r) = undispatched 0 (cancel_message z b c m r)
body z b c WaitForInterrupt = undispatched 0 (wait_interrupt b c)

-- ---- Dispatch: a running task that is due a message is handed its first one; with none queued it is 15, and all is as it was
abbrev pub deliver : Size → List ℕ → Undispatched → ℕ → Outcome
deliver z l d c = let b = d.board in
    cond (empty_queue b c) (refused l NothingToDeliver)
    (accepted d.value c (first_of (queue z b c)) (bytes_of (clears (take_first z b c) c MHBS)))

abbrev pub dispatch_to : Size → List ℕ → Undispatched → ℕ → Outcome
dispatch_to z l d c = cond (has (task d.board c).stat MHBS) (deliver z l d c) (accepted d.value c 0 (bytes_of d.board))

-- first who runs is settled, in byte 1
abbrev pub dispatch : Size → List ℕ → Undispatched → Outcome
dispatch z l d = let c = runs_next z d.board in dispatch_to z l (undispatched d.value (with_running d.board c)) c

-- ---- a call
abbrev pub called : Size → List ℕ → Board → ℕ → Call → Outcome
called z l b c call = judge l (given (row z l b c call)) (dispatch z l (body z b c call))

abbrev pub effect : Size → List ℕ → Call → Outcome
effect z l call = let b = board_of z l in called z l b b.running call

-- ---- making a fresh board, all zeros; checking a board
abbrev pub blank : Size → List ℕ
blank z = replicate (total z) 0

abbrev pub fresh : Size → List ℕ → Outcome
fresh z l = judge l (given (no1 z l ∷ [])) (accepted 0 0 0 (blank z))

abbrev pub check : Size → List ℕ → Outcome
check z l = let b = board_of z l in judge l (given (no1 z l ∷ no2 z b ∷ [])) (accepted 0 b.running 0 l)

-- ---- contracts
pub record Ends (a : Answer) (l : List ℕ) (o : Outcome) : Type 0 where
  pub answers : a ≡ o.answer
  pub leaves : l ≡ o.after
