-- Document 01, the two tables of refusals: when each number applies, and which numbers a call can give. A reader must believe this file.
-- 15 stands in no row here: it is found at dispatch, see Outcomes.
--   noN ..              refusal N, and whether it applies
--   row z l b c call    the refusals of that call, ascending, on the bytes l that are the board b, with c running; own_row those after 1
--                       and 2
--   given tests         the first that applies, or that the call may go on; of a row that ascends it is the lowest
-- Assumes nothing.
use Rattle.std.specs.Prelude.{Bool, true, false, not, ◌&&◌, ◌||◌, List, [], ◌∷◌, ℕ, length, eqb, ltb}
use Rattle.links.specs.Queue.{first_of, which, each}
use Rattle.board.specs.declared.numbers.Size.{Size}
use Rattle.board.specs.Numbers.{outside}
use Rattle.board.specs.Status.{WAIT, IWAT, BIT5, INTQ, MHBS, TCBB, stored, has, number}
use Rattle.board.specs.Places.{is_held_by, is_queued_at, is_on_timer}
use Rattle.board.specs.Board.{Board, total, task, message, place}
use Rattle.paper.specs.declared.call.Call.{Call}
use Rattle.paper.specs.declared.call.Call.TheVariants.{Install, PostInterrupt, Find, CancelTask, Claim, Prepare, Release, Send}
use Rattle.paper.specs.declared.call.Call.TheVariants.{SendAndWait, Resend, ResendAndWait, Forward, ForwardAndWait, Return}
use Rattle.paper.specs.declared.call.Call.TheVariants.{ReturnAndWait, Receive, ReceiveAndWait, CancelMessage, WaitForInterrupt}
use Rattle.paper.specs.declared.answer.Rule.{Rule}
use Rattle.paper.specs.declared.answer.Refusal.{Refusal}
use Rattle.paper.specs.declared.answer.Refusal.TheVariants.{WrongLength, RuleBroken, NobodyRuns, NoSuchMessage, NotHeld, NoSuchTask}
use Rattle.paper.specs.declared.answer.Refusal.TheVariants.{BadPriority, NotInstallable, BadStatus, TaskBusy, NoneFree, NotQueued}
use Rattle.paper.specs.declared.answer.Refusal.TheVariants.{NotItsSender, BadSender}
use Rattle.paper.specs.Rules.{present, empty_queue, task_prio, passes}
use Rattle.paper.specs.Named.{broken_rule}
use Rattle.paper.specs.Effects.{lowest_free}

pub record Test : Type 0 where
  pub refusal : Refusal
  pub applies : Bool

abbrev pub test : Refusal → Bool → Test
test q t = record { refusal = q; applies = t }

-- ---- given exactly when
abbrev pub no1 : Size → List ℕ → Test
no1 z l = test WrongLength (not (eqb (length l) (total z)))

-- the rule r is the one to name, unless the board passes
abbrev pub no2_by : Rule → Bool → Test
no2_by r passed = test (RuleBroken r) (not passed)

abbrev pub no2 : Size → Board → Test
no2 z b = no2_by (broken_rule z b) (passes z b)

abbrev pub no3 : ℕ → Test
no3 c = test NobodyRuns (eqb c 0)

abbrev pub no4 : Size → ℕ → Test
no4 z m = test NoSuchMessage (outside z.messages m)

abbrev pub no5 : Board → ℕ → ℕ → Test
no5 b c m = test NotHeld (not (is_held_by c (place b m)))

-- r is the task meant
abbrev pub no6 : Size → Board → ℕ → Test
no6 z b r = test NoSuchTask (outside z.tasks r || not (present b r))

-- the priority of a message; PRIO on install
abbrev pub no7 : Board → ℕ → Test
no7 b m = test BadPriority (eqb (number (message b m).prio) 127)

abbrev pub no7_install : ℕ → Test
no7_install p = test BadPriority (not (task_prio p))

abbrev pub no8 : Size → Board → ℕ → Test
no8 z b k = test NotInstallable (outside z.tasks k || present b k)

abbrev pub no9 : ℕ → Test
no9 s = let t = stored s in
    test BadStatus (not (has t TCBB) || has t WAIT || has t IWAT || has t BIT5 || has t INTQ || has t MHBS)

abbrev pub holds_one : Board → ℕ → Bool
holds_one b k = not (eqb (first_of (which (is_held_by k) 1 b.places)) 0)

-- document 02, Ask 5: the task is SPTR of a message on the timer
abbrev pub is_awaited : Size → Board → ℕ → Bool
is_awaited z b k = not (each (λ m. not (is_on_timer (place b m) && eqb (message b m).sptr k)) z.messages)

abbrev pub no10 : Size → Board → ℕ → Test
no10 z b k = test TaskBusy (not (empty_queue b k) || holds_one b k || has (task b k).stat IWAT || is_awaited z b k)

abbrev pub no11 : Board → Test
no11 b = test NoneFree (eqb (lowest_free b) 0)

abbrev pub no12 : Board → ℕ → ℕ → Test
no12 b m r = test NotQueued (not (is_queued_at r (place b m)))

abbrev pub no13 : Board → ℕ → ℕ → Test
no13 b c m = test NotItsSender (not (eqb (message b m).sptr c))

abbrev pub no14 : Size → ℕ → Test
no14 z sptr = test BadSender (ltb z.tasks sptr)

-- ---- refusals it can give, below 1 and 2; the task meant is k or r, RPTR of m on resend, SPTR of m on return
abbrev pub own_row : Size → Board → ℕ → Call → List Test
own_row z b c (Install k s p sptr name) = no7_install p ∷ no8 z b k ∷ no9 s ∷ []
own_row z b c (PostInterrupt k) = no6 z b k ∷ []
own_row z b c (Find name) = []
own_row z b c (CancelTask k) = no3 c ∷ no6 z b k ∷ no10 z b k ∷ []
own_row z b c Claim = no3 c ∷ no11 b ∷ []
own_row z b c (Prepare m s p sptr) = no3 c ∷ no4 z m ∷ no5 b c m ∷ no14 z sptr ∷ []
own_row z b c (Release m) = no3 c ∷ no4 z m ∷ no5 b c m ∷ []
own_row z b c (Send m r) = no3 c ∷ no4 z m ∷ no5 b c m ∷ no6 z b r ∷ []
own_row z b c (SendAndWait m r) = no3 c ∷ no4 z m ∷ no5 b c m ∷ no6 z b r ∷ []
own_row z b c (Resend m) = no3 c ∷ no4 z m ∷ no5 b c m ∷ no6 z b (message b m).rptr ∷ no7 b m ∷ []
own_row z b c (ResendAndWait m) = no3 c ∷ no4 z m ∷ no5 b c m ∷ no6 z b (message b m).rptr ∷ no7 b m ∷ []
own_row z b c (Forward m r) = no3 c ∷ no4 z m ∷ no5 b c m ∷ no6 z b r ∷ no7 b m ∷ []
own_row z b c (ForwardAndWait m r) = no3 c ∷ no4 z m ∷ no5 b c m ∷ no6 z b r ∷ no7 b m ∷ []
own_row z b c (Return m) = no3 c ∷ no4 z m ∷ no5 b c m ∷ no6 z b (message b m).sptr ∷ no7 b m ∷ []
own_row z b c (ReturnAndWait m) = no3 c ∷ no4 z m ∷ no5 b c m ∷ no6 z b (message b m).sptr ∷ no7 b m ∷ []
own_row z b c Receive = no3 c ∷ []
own_row z b c ReceiveAndWait = no3 c ∷ []
own_row z b c (CancelMessage m r) = no3 c ∷ no4 z m ∷ no6 z b r ∷ no12 b m r ∷ no13 b c m ∷ []
own_row z b c WaitForInterrupt = no3 c ∷ []

abbrev pub row : Size → List ℕ → Board → ℕ → Call → List Test
row z l b c call = no1 z l ∷ no2 z b ∷ own_row z b c call

-- ---- if several apply, the first of the row is given: the lowest, since it ascends
pub data Verdict : Type 0 where
  Go : Verdict
  Stop : Refusal → Verdict

abbrev pub given : List Test → Verdict
given [] = Go
given (t ∷ l) = elim t.applies [ true ↦ Stop t.refusal | false ↦ given l ]
