-- What a call touches, one row a call: its body changes nothing else, and the lists of the board afterwards follow from its one move. A
-- reader of the promises about calls must believe this file.
--   touched b c call     the records that the body may change, and its move; c is the running task
--     tasks              of these STAT may change, and MPTR where the move changes its queue; of the one installed or cancelled every field may
--     bits               of their STAT only these bits may change
--     messages           of these the fields and the place may change
--     move               a task or a message that goes into or out of a list of links, with its PRIO byte p
--   changed f k q        the function f with q at k
--   order_after, queues_after   the lists after a move, from the lists before it: what demand 3's plain machine is compared with
--   queue_of move        the task whose MPTR, and in whose queue LINKs, may change, 0 for none
--   relinks move         LINKs of tasks and byte 0 may change
--   SameBut bits s u     the statuses s and u have the same bits but for these
--   Frame b d ..         the board d is b but for those
-- Assumes nothing.
use Rattle.std.specs.Prelude.{◌≡◌, ◌≢◌, Bool, true, false, cond, List, [], ◌∷◌, ◌++◌, ℕ, eqb}
use Rattle.links.specs.Queue.{goes_before, insert, without}
use Rattle.links.specs.Chain.{In, Out}
use Rattle.board.specs.declared.status.Status.{Status}
use Rattle.board.specs.Status.{WAIT, IWAT, BIT5, INTQ, DEBUG, MROB, MHBS, TCBB, has, number, fifo}
use Rattle.board.specs.Records.{task_with_link, with_link}
use Rattle.board.specs.Board.{Board, task, message, place}
use Rattle.paper.specs.declared.call.Call.{Call}
use Rattle.paper.specs.declared.call.Call.TheVariants.{Install, PostInterrupt, Find, CancelTask, Claim, Prepare, Release, Send}
use Rattle.paper.specs.declared.call.Call.TheVariants.{SendAndWait, Resend, ResendAndWait, Forward, ForwardAndWait, Return, ReturnAndWait}
use Rattle.paper.specs.declared.call.Call.TheVariants.{Receive, ReceiveAndWait, CancelMessage, WaitForInterrupt}
use Rattle.paper.specs.Rules.{task_number, message_number}
use Rattle.paper.specs.Effects.{own_prio, lowest_free}

pub data Move : Type 0 where
  Stay : Move
  IntoOrder : (k p : ℕ) → Move
  OutOfOrder : (k : ℕ) → Move
  IntoQueue : (m p r : ℕ) → Move
  OutOfQueue : (m r : ℕ) → Move

pub record Touched : Type 0 where
  pub tasks : List ℕ
  pub bits : List ℕ
  pub messages : List ℕ
  pub move : Move

abbrev pub touches : List ℕ → List ℕ → List ℕ → Move → Touched
touches ts bits ms move = record { tasks = ts; bits = bits; messages = ms; move = move }

-- ---- the bits of STAT: all, those of waiting for a message, those of interrupts
abbrev pub every_bit : List ℕ
every_bit = WAIT ∷ IWAT ∷ BIT5 ∷ INTQ ∷ DEBUG ∷ MROB ∷ MHBS ∷ TCBB ∷ []

abbrev pub for_messages : List ℕ
for_messages = WAIT ∷ MHBS ∷ []

abbrev pub for_interrupts : List ℕ
for_interrupts = IWAT ∷ INTQ ∷ []

-- ---- the table
-- m goes with PRIO p into the queue of r
abbrev pub places : ℕ → ℕ → ℕ → Touched
places m p r = touches (r ∷ []) for_messages (m ∷ []) (IntoQueue m p r)

-- a message that is sent may take the caller's priority; others keep theirs
abbrev pub sends : Board → ℕ → ℕ → ℕ → Touched
sends b c m r = places m (own_prio (message b m).prio (task b c).prio) r

abbrev pub passes_on : Board → ℕ → ℕ → Touched
passes_on b m r = places m (message b m).prio r

-- and the caller waits
abbrev pub and_waits : ℕ → Touched → Touched
and_waits c t = touches (t.tasks ++ (c ∷ [])) t.bits t.messages t.move

abbrev pub touched : Board → ℕ → Call → Touched
touched b c (Install k s p sptr name) = touches (k ∷ []) every_bit [] (IntoOrder k p)
touched b c (PostInterrupt k) = touches (k ∷ []) for_interrupts [] Stay
touched b c (Find name) = touches [] [] [] Stay
touched b c (CancelTask k) = touches (k ∷ []) every_bit [] (OutOfOrder k)
touched b c Claim = touches [] [] (lowest_free b ∷ []) Stay
touched b c (Prepare m s p sptr) = touches [] [] (m ∷ []) Stay
touched b c (Release m) = touches [] [] (m ∷ []) Stay
touched b c (Send m r) = sends b c m r
touched b c (SendAndWait m r) = and_waits c (sends b c m r)
touched b c (Resend m) = passes_on b m (message b m).rptr
touched b c (ResendAndWait m) = and_waits c (passes_on b m (message b m).rptr)
touched b c (Forward m r) = passes_on b m r
touched b c (ForwardAndWait m r) = and_waits c (passes_on b m r)
touched b c (Return m) = passes_on b m (message b m).sptr
touched b c (ReturnAndWait m) = and_waits c (passes_on b m (message b m).sptr)
touched b c Receive = touches (c ∷ []) [] ((task b c).mptr ∷ []) (OutOfQueue (task b c).mptr c)
touched b c ReceiveAndWait = touches (c ∷ []) for_messages [] Stay
touched b c (CancelMessage m r) = touches (r ∷ []) for_messages (m ∷ []) (OutOfQueue m r)
touched b c WaitForInterrupt = touches (c ∷ []) for_interrupts [] Stay

-- ---- the lists after a move
abbrev pub changed : (ℕ → List ℕ) → ℕ → List ℕ → ℕ → List ℕ
changed f k q j = cond (eqb j k) q (f j)

-- a task goes behind its equals
abbrev pub order_after : Board → List ℕ → Move → List ℕ
order_after b q Stay = q
order_after b q (IntoOrder k p) = insert (λ x. goes_before true (number p) (task_number b x)) k q
order_after b q (OutOfOrder k) = without k q
order_after b q (IntoQueue m p r) = q
order_after b q (OutOfQueue m r) = q

abbrev pub queues_after : Board → (ℕ → List ℕ) → Move → ℕ → List ℕ
queues_after b queues Stay = queues
queues_after b queues (IntoOrder k p) = queues
queues_after b queues (OutOfOrder k) = queues
queues_after b queues (IntoQueue m p r) =
    changed queues r (insert (λ x. goes_before (fifo p) (number p) (message_number b x)) m (queues r))
queues_after b queues (OutOfQueue m r) = changed queues r (without m (queues r))

-- ---- the links that a move may change
abbrev pub queue_of : Move → ℕ
queue_of Stay = 0
queue_of (IntoOrder k p) = 0
queue_of (OutOfOrder k) = 0
queue_of (IntoQueue m p r) = r
queue_of (OutOfQueue m r) = r

abbrev pub relinks : Move → Bool
relinks Stay = false
relinks (IntoOrder k p) = true
relinks (OutOfOrder k) = true
relinks (IntoQueue m p r) = false
relinks (OutOfQueue m r) = false

-- ---- all else stays
abbrev pub SameBut : List ℕ → Status → Status → Type 0
SameBut bits s u = (bit : ℕ) → In bit every_bit → Out bit bits → has s bit ≡ has u bit

-- d is b but for the tasks ts, with those bits of STAT, the messages ms, MPTR of task r, LINKs in its queue q (a list of messages), and, where
-- order says so, LINKs of tasks
pub record Frame (b d : Board) (ts bits ms : List ℕ) (r : ℕ) (q : List ℕ) (order : Bool) : Type 0 where
  pub running : d.running ≡ b.running
  pub zeros : d.zeros ≡ b.zeros
  pub first : order ≡ false → d.first ≡ b.first
  pub tasks : (k : ℕ) → Out k ts → task d k ≡ task_with_link (task b k) (task d k).link
  pub links : order ≡ false → (k : ℕ) → (task d k).link ≡ (task b k).link
  pub fields : order ≡ false → (k : ℕ)
      → ((task d k).prio ≡ (task b k).prio) × ((task d k).sptr ≡ (task b k).sptr) × ((task d k).name ≡ (task b k).name)
  pub mptr : order ≡ false → (k : ℕ) → k ≢ r → (task d k).mptr ≡ (task b k).mptr
  pub stat : (k : ℕ) → SameBut bits (task d k).stat (task b k).stat
  pub messages : (m : ℕ) → Out m ms → message d m ≡ with_link (message b m) (message d m).link
  pub queue : (m : ℕ) → Out m ms → Out m q → message d m ≡ message b m
  pub places : (m : ℕ) → Out m ms → place d m ≡ place b m
