-- The plain machine of demand 3: the station without links. It keeps the other fields of tasks and messages, who holds what, the order of
-- installs and placements, each with its priority and queue type, and who runs (document 02, Ask 3); no link, no head of a queue, no
-- insertion, no walk. Its timer, now and the entries, stands beside it (Clockwork). A reader must believe this file, and can read it beside
-- document 01: STAT bits are named as there, number and fifo read a PRIO byte, with_fifo sets its bit 0. The refusals that look at arguments
-- alone are paper's (Refusals), as is given: of the tests of a row the first that applies is given.
--   play z p c call   the call's row, c running: its refusals, its value, and the machine before dispatch
--   step z p call     the answer of a call, and the machine afterwards; z has the numbers of tasks and messages
-- Assumes nothing.
use Rattle.std.specs.Prelude.{Bool, true, false, cond, not, ◌&&◌, ◌||◌, List, [], ◌∷◌, ◌++◌, ℕ, zero, suc, ◌+◌, ◌*◌, ◌%◌, eqb, ltb, Err}
use Rattle.links.specs.Queue.{each}
use Rattle.board.specs.declared.numbers.Size.{Size}
use Rattle.board.specs.declared.status.Status.{Status}
use Rattle.board.specs.Numbers.{outside}
use Rattle.board.specs.Status.{WAIT, IWAT, INTQ, MHBS, TCBB, stored, has, with_bit, without_bit, number, fifo, with_fifo}
use Rattle.paper.specs.declared.call.Call.{Call}
use Rattle.paper.specs.declared.call.Call.TheVariants.{Install, PostInterrupt, Find, CancelTask, Claim, Prepare, Release}
use Rattle.paper.specs.declared.call.Call.TheVariants.{Send, SendAndWait, Resend, ResendAndWait, Forward, ForwardAndWait, Return, ReturnAndWait}
use Rattle.paper.specs.declared.call.Call.TheVariants.{Receive, ReceiveAndWait, CancelMessage, WaitForInterrupt}
use Rattle.paper.specs.declared.answer.Refusal.{Refusal}
use Rattle.paper.specs.declared.answer.Refusal.TheVariants.{NotHeld, NoSuchTask, BadPriority, NotInstallable, TaskBusy, NoneFree, NotQueued, NotItsSender, NothingToDeliver}
use Rattle.paper.specs.Refusals.{Test, test, no3, no4, no7_install, no9, no14, Verdict, Go, Stop, given}
use Rattle.paper.specs.Answers.{Answer, accepts}
use Rattle.history.specs.Ranking.{Entry, foremost, keep}

-- ---- what it keeps
pub record Sheet : Type 0 where  -- a task
  pub stat : Status
  pub prio : ℕ
  pub sptr : ℕ
  pub name : ℕ

pub record Block : Type 0 where  -- a message
  pub stat : ℕ
  pub prio : ℕ
  pub rptr : ℕ
  pub sptr : ℕ

pub data Whose : Type 0 where
  Free : Whose
  Held : ℕ → Whose
  Queued : ℕ → Whose
  Timed : Whose

pub record Plain : Type 0 where
  pub sheets : ℕ → Sheet
  pub blocks : ℕ → Block
  pub whose : ℕ → Whose
  pub installs : List Entry
  pub placements : List Entry
  pub clock : ℕ  -- how many installs and placements there were
  pub running : ℕ  -- who runs, 0 if nobody

abbrev pub no_sheet : Sheet
no_sheet = record { stat = stored 0; prio = 0; sptr = 0; name = 0 }

abbrev pub no_block : Block
no_block = record { stat = 0; prio = 0; rptr = 0; sptr = 0 }

abbrev pub machine : (ℕ → Sheet) → (ℕ → Block) → (ℕ → Whose) → List Entry → List Entry → ℕ → ℕ → Plain
machine t u w i l n c = record { sheets = t; blocks = u; whose = w; installs = i; placements = l; clock = n; running = c }

abbrev pub start : Plain
start = machine (λ k. no_sheet) (λ m. no_block) (λ m. Free) [] [] 0 0

-- ---- one thing changed, in one field
abbrev pub upd : {A : Type 0} → (ℕ → A) → ℕ → A → ℕ → A
upd f k x j = cond (eqb j k) x (f j)

abbrev pub with_sheet : Plain → ℕ → Sheet → Plain
with_sheet p k t = machine (upd p.sheets k t) p.blocks p.whose p.installs p.placements p.clock p.running

abbrev pub with_block : Plain → ℕ → Block → Plain
with_block p m u = machine p.sheets (upd p.blocks m u) p.whose p.installs p.placements p.clock p.running

abbrev pub with_whose : Plain → ℕ → Whose → Plain
with_whose p m w = machine p.sheets p.blocks (upd p.whose m w) p.installs p.placements p.clock p.running

abbrev pub with_installs : Plain → List Entry → Plain
with_installs p l = machine p.sheets p.blocks p.whose l p.placements p.clock p.running

abbrev pub with_placements : Plain → List Entry → Plain
with_placements p l = machine p.sheets p.blocks p.whose p.installs l p.clock p.running

-- one install or placement more
abbrev pub later : Plain → Plain
later p = machine p.sheets p.blocks p.whose p.installs p.placements (suc p.clock) p.running

abbrev pub with_running : Plain → ℕ → Plain
with_running p c = machine p.sheets p.blocks p.whose p.installs p.placements p.clock c

abbrev pub flagged : Plain → ℕ → Status → Plain
flagged p k s = let t = p.sheets k in with_sheet p k (record { stat = s; prio = t.prio; sptr = t.sptr; name = t.name })

abbrev pub sets : Plain → ℕ → ℕ → Plain
sets p k bit = flagged p k (with_bit (p.sheets k).stat bit)

abbrev pub clears : Plain → ℕ → ℕ → Plain
clears p k bit = flagged p k (without_bit (p.sheets k).stat bit)

-- ---- what it is asked
abbrev pub present : Plain → ℕ → Bool
present p k = has (p.sheets k).stat TCBB

abbrev pub ready : Plain → ℕ → Bool
ready p k = present p k && not (has (p.sheets k).stat WAIT) && not (has (p.sheets k).stat IWAT)

-- a ready task of those installed has a smaller priority number than c
abbrev pub outranked : Plain → ℕ → Bool
outranked p c = not (eqb (foremost (λ e. ready p e.id && ltb e.number (number (p.sheets c).prio)) p.installs) 0)

-- who ran stays if it is ready and not outranked; else it is the foremost ready one of those installed, 0 if none
abbrev pub runs_next : Plain → ℕ
runs_next p = cond (ready p p.running && not (outranked p p.running)) p.running (foremost (λ e. ready p e.id) p.installs)

-- the first message of task k is the foremost of those placed there
abbrev pub first : Plain → ℕ → ℕ
first p k = foremost (λ e. eqb e.at k) p.placements

abbrev pub is_free : Whose → Bool
is_free Free = true
is_free (Held k) = false
is_free (Queued k) = false
is_free Timed = false

abbrev pub is_held : ℕ → Whose → Bool
is_held c Free = false
is_held c (Held k) = eqb k c
is_held c (Queued k) = false
is_held c Timed = false

abbrev pub is_queued : ℕ → Whose → Bool
is_queued r Free = false
is_queued r (Held k) = false
is_queued r (Queued k) = eqb k r
is_queued r Timed = false

abbrev pub is_timed : Whose → Bool
is_timed Free = false
is_timed (Held k) = false
is_timed (Queued k) = false
is_timed Timed = true

-- the lowest of the n numbers from m on that passes, 0 if none does
abbrev pub lowest_from : (ℕ → Bool) → ℕ → ℕ → ℕ
lowest_from f m zero = 0
lowest_from f m (suc n) = cond (f m) m (lowest_from f (suc m) n)

abbrev pub lowest_free : Size → Plain → ℕ
lowest_free z p = lowest_from (λ m. is_free (p.whose m)) 1 z.messages

abbrev pub holds_one : Size → Plain → ℕ → Bool
holds_one z p k = not (eqb (lowest_from (λ m. is_held k (p.whose m)) 1 z.messages) 0)

-- task k is SPTR of a message on the timer
abbrev pub is_awaited : Size → Plain → ℕ → Bool
is_awaited z p k = not (each (λ m. not (is_timed (p.whose m) && eqb (p.blocks m).sptr k)) z.messages)

-- ---- effects, as document 01 has them
-- Place m at r: recorded with the queue type it has; then bit 0 is set, and r wakes if it waited for a message
abbrev pub place : Plain → ℕ → ℕ → Plain
place p m r =
    let u = p.blocks m in
    let e : Entry = record { id = m; at = r; number = number u.prio; fifo = fifo u.prio; time = p.clock } in
    let q = with_whose (with_placements (later p) (p.placements ++ (e ∷ []))) m (Queued r) in
    let w = with_block q m (record { stat = u.stat; prio = with_fifo u.prio; rptr = u.rptr; sptr = u.sptr }) in
    cond (has (p.sheets r).stat WAIT) (sets (clears w r WAIT) r MHBS) w

-- Send: priority 127 becomes c's, its queue type stays; RPTR is r; SPTR is c if it was 0
abbrev pub addressed : Plain → ℕ → ℕ → ℕ → Plain
addressed p c m r = let u = p.blocks m in
    with_block p m (record {
      stat = u.stat;
      prio = cond (eqb (number u.prio) 127) (2 * number (p.sheets c).prio + u.prio % 2) u.prio;
      rptr = r;
      sptr = cond (eqb u.sptr 0) c u.sptr;
    })

-- Wait forms, and receive and wait: c is due a message if one is queued, else waits for one
abbrev pub waits : ℕ → Plain → Plain
waits c p = sets p c (cond (eqb (first p c) 0) WAIT MHBS)

-- Receive, and dispatch: c takes message m out of whatever queue it is in; nothing where m is 0
abbrev pub take : Plain → ℕ → ℕ → Plain
take p c zero = p
take p c (suc m) = with_whose (with_placements p (keep (λ e. not (eqb e.id (suc m))) p.placements)) (suc m) (Held c)

-- Cancel message: a task that was due a message and has none left waits again
abbrev pub cancel_message : Plain → ℕ → ℕ → ℕ → Plain
cancel_message p c m r = let q = take p c m in
    cond (has (q.sheets r).stat MHBS && eqb (first q r) 0) (sets (clears q r MHBS) r WAIT) q

-- Install, cancel task
abbrev pub install : Plain → ℕ → ℕ → ℕ → ℕ → ℕ → Plain
install p k s prio sptr name =
    let e : Entry = record { id = k; at = 0; number = number prio; fifo = true; time = p.clock } in
    with_sheet (with_installs (later p) (p.installs ++ (e ∷ []))) k (record { stat = stored s; prio = prio; sptr = sptr; name = name })

abbrev pub cancel_task : Plain → ℕ → Plain
cancel_task p k = with_sheet (with_installs p (keep (λ e. not (eqb e.id k)) p.installs)) k no_sheet

-- Post interrupt, wait for interrupt
abbrev pub post : Plain → ℕ → Plain
post p k = cond (has (p.sheets k).stat IWAT) (clears p k IWAT) (sets p k INTQ)

abbrev pub wait_interrupt : Plain → ℕ → Plain
wait_interrupt p c = cond (has (p.sheets c).stat INTQ) (clears p c INTQ) (sets p c IWAT)

-- Claim, release, prepare
abbrev pub claim : Size → Plain → ℕ → Plain
claim z p c = with_whose p (lowest_free z p) (Held c)

abbrev pub release : Plain → ℕ → Plain
release p m = with_whose (with_block p m no_block) m Free

abbrev pub prepare : Plain → ℕ → ℕ → ℕ → ℕ → Plain
prepare p m s prio sptr = with_block p m (record { stat = s; prio = prio; rptr = (p.blocks m).rptr; sptr = sptr })

-- Find
abbrev pub find : Plain → ℕ → ℕ
find p name = foremost (λ e. eqb (p.sheets e.id).name name) p.installs

-- ---- refusals that look at the machine, given exactly when; r is the task meant
abbrev pub no5 : Plain → ℕ → ℕ → Test
no5 p c m = test NotHeld (not (is_held c (p.whose m)))

abbrev pub no6 : Size → Plain → ℕ → Test
no6 z p r = test NoSuchTask (outside z.tasks r || not (present p r))

abbrev pub no7 : Plain → ℕ → Test
no7 p m = test BadPriority (eqb (number (p.blocks m).prio) 127)

abbrev pub no8 : Size → Plain → ℕ → Test
no8 z p k = test NotInstallable (outside z.tasks k || present p k)

abbrev pub no10 : Size → Plain → ℕ → Test
no10 z p k = test TaskBusy (not (eqb (first p k) 0) || holds_one z p k || has (p.sheets k).stat IWAT || is_awaited z p k)

abbrev pub no11 : Size → Plain → Test
no11 z p = test NoneFree (eqb (lowest_free z p) 0)

abbrev pub no12 : Plain → ℕ → ℕ → Test
no12 p m r = test NotQueued (not (is_queued r (p.whose m)))

abbrev pub no13 : Plain → ℕ → ℕ → Test
no13 p c m = test NotItsSender (not (eqb (p.blocks m).sptr c))

-- ---- the nineteen calls, a row each: its refusals from 3 to 14, ascending, and, where none applies, its value and the machine before dispatch
pub record Played : Type 0 where
  pub refusals : List Test
  pub value : ℕ
  pub plain : Plain

abbrev pub played : List Test → ℕ → Plain → Played
played tests v p = record { refusals = tests; value = v; plain = p }

-- send; resend, forward, return: the message is placed as it is; and wait: the same, and then c waits
abbrev pub sends : Size → Plain → ℕ → ℕ → ℕ → Played
sends z p c m r = played (no3 c ∷ no4 z m ∷ no5 p c m ∷ no6 z p r ∷ []) 0 (place (addressed p c m r) m r)

abbrev pub passes_on : Size → Plain → ℕ → ℕ → ℕ → Played
passes_on z p c m r = played (no3 c ∷ no4 z m ∷ no5 p c m ∷ no6 z p r ∷ no7 p m ∷ []) 0 (place p m r)

abbrev pub and_waits : ℕ → Played → Played
and_waits c d = played d.refusals d.value (waits c d.plain)

abbrev pub play : Size → Plain → ℕ → Call → Played
play z p c (Install k s prio sptr name) = played (no7_install prio ∷ no8 z p k ∷ no9 s ∷ []) 0 (install p k s prio sptr name)
play z p c (PostInterrupt k) = played (no6 z p k ∷ []) 0 (post p k)
play z p c (Find name) = played [] (find p name) p
play z p c (CancelTask k) = played (no3 c ∷ no6 z p k ∷ no10 z p k ∷ []) 0 (cancel_task p k)
play z p c Claim = played (no3 c ∷ no11 z p ∷ []) (lowest_free z p) (claim z p c)
play z p c (Prepare m s prio sptr) = played (no3 c ∷ no4 z m ∷ no5 p c m ∷ no14 z sptr ∷ []) 0 (prepare p m s prio sptr)
play z p c (Release m) = played (no3 c ∷ no4 z m ∷ no5 p c m ∷ []) 0 (release p m)
play z p c (Send m r) = sends z p c m r
play z p c (SendAndWait m r) = and_waits c (sends z p c m r)
play z p c (Resend m) = passes_on z p c m (p.blocks m).rptr
play z p c (ResendAndWait m) = and_waits c (passes_on z p c m (p.blocks m).rptr)
play z p c (Forward m r) = passes_on z p c m r
play z p c (ForwardAndWait m r) = and_waits c (passes_on z p c m r)
play z p c (Return m) = passes_on z p c m (p.blocks m).sptr
play z p c (ReturnAndWait m) = and_waits c (passes_on z p c m (p.blocks m).sptr)
play z p c Receive = played (no3 c ∷ []) (first p c) (take p c (first p c))
play z p c ReceiveAndWait = played (no3 c ∷ []) 0 (waits c p)
play z p c (CancelMessage m r) = played (no3 c ∷ no4 z m ∷ no6 z p r ∷ no12 p m r ∷ no13 p c m ∷ []) 0 (cancel_message p c m r)
play z p c WaitForInterrupt = played (no3 c ∷ []) 0 (wait_interrupt p c)

-- ---- dispatch: who runs is settled, and is handed its first message if it is due one
pub record Result : Type 0 where
  pub answer : Answer
  pub plain : Plain

abbrev pub accepted : ℕ → ℕ → ℕ → Plain → Result
accepted v c m p = record { answer = accepts v c m; plain = p }

abbrev pub refused : Plain → Refusal → Result
refused p q = record { answer = Err q; plain = p }

abbrev pub deliver : Plain → Played → ℕ → ℕ → Result
deliver p d c zero = refused p NothingToDeliver
deliver p d c (suc m) = accepted d.value c (suc m) (clears (take d.plain c (suc m)) c MHBS)

abbrev pub dispatch_to : Plain → Played → ℕ → Result
dispatch_to p d c = cond (has (d.plain.sheets c).stat MHBS) (deliver p d c (first d.plain c)) (accepted d.value c 0 d.plain)

abbrev pub dispatch : Plain → Played → Result
dispatch p d = let c = runs_next d.plain in dispatch_to p (played d.refusals d.value (with_running d.plain c)) c

-- ---- a call
abbrev pub judged : Plain → Verdict → Result → Result
judged p Go o = o
judged p (Stop q) o = refused p q

abbrev pub step : Size → Plain → Call → Result
step z p call = let d = play z p p.running call in judged p (given d.refusals) (dispatch p d)
