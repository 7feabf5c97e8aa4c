-- Messages on the timer: no call puts one there or takes one off, and of one that is there it changes nothing. A claim of
-- specs/Claims, proved; and the same of a call's body alone, and of dispatch alone.
-- Assumes nothing.
use mathlib.Core.Path.{◌≡◌, refl, sym, ap, ◌∙◌, subst}
use mathlib.Core.Logic.{◌⊎◌, inl, inr, ⊎_elim}
use mathlib.Core.Bool.{Bool, true, false, true≢false}
use mathlib.Core.List.{List, [], ◌∷◌}
use Prim.Native.Nat.{ℕ}
use lib.ListN.{get_or}
use Rattle.links.specs.Queue.{first_of, rest_of}
use Rattle.links.specs.Chain.{In, Out, All}
use Rattle.links.proofs.Members.{in_dec, not_in_out, all_at, all_of}
use Rattle.links.proofs.Chains.{chain_first, walk_end}
use Rattle.board.specs.declared.numbers.Size.{Size}
use Rattle.board.specs.declared.records.Task.{Task}
use Rattle.board.specs.declared.places.Place.{Place}
use Rattle.board.specs.declared.places.Place.TheVariants.{Free, HeldBy}
use Rattle.board.specs.Numbers.{outside, task_no}
use Rattle.board.specs.Status.{MHBS}
use Rattle.board.specs.Records.{Byte, no_task, no_message}
use Rattle.board.specs.Places.{is_on_timer}
use Rattle.board.specs.Board.{Board, board_of, task, message, place, with_message}
use Rattle.board.proofs.Pieces.{outside-within, nth-outside}
use Rattle.paper.specs.declared.call.Call.{Call}
use Rattle.paper.specs.declared.call.Call.TheVariants.{Install, PostInterrupt, Find, CancelTask, Claim, Prepare, Release, Send}
use Rattle.paper.specs.declared.call.Call.TheVariants.{SendAndWait, Resend, ResendAndWait, Forward, ForwardAndWait, Return}
use Rattle.paper.specs.declared.call.Call.TheVariants.{ReturnAndWait, Receive, ReceiveAndWait, CancelMessage, WaitForInterrupt}
use Rattle.paper.specs.Rules.{next_message, queue, runs_next}
use Rattle.paper.specs.Changes.{clears, link_message, with_queue, take_first, hold}
use Rattle.paper.specs.Effects.{place_at, addressed}
use Rattle.paper.specs.Refusals.{Test, no3, no4, no5, no6, no7, no14, own_row, row, Verdict, Go, Stop, given}
use Rattle.paper.specs.Outcomes.{Outcome, Undispatched, judge, body, dispatch}
use Rattle.linked.proofs.Running.{placed_numbered, lowest_free_lem}
use Rattle.kept.specs.Settled.{Settled, Fitting}
use Rattle.kept.specs.Touched.{touched, Frame}
use Rattle.kept.specs.Claims.{Sizes, CallsLeaveTheTimer}
use Rattle.kept.proofs.Reading.{nth_cases, place-put, held_placed, queued_placed, relink_keeps, first_holds}
use Rattle.kept.proofs.Reading.{queue-walked, held_row, claim-row}
use Rattle.kept.proofs.Fitting.{board-bytes}
use Rattle.kept.proofs.Taking.{cancel_message-row}
use Rattle.kept.proofs.Mail.{placed_place, back_place}
use Rattle.kept.proofs.Bodies.{body_frame}
use Rattle.kept.proofs.Dispatching.{dispatch_frame, dispatched, next_settled}
use Rattle.kept.proofs.Theorems.{sound_settled, starts, settles}

-- what is on the timer on b is so on d, with the same record, and nothing else is
abbrev pub LeavesTheTimer : Board → Board → Type 0
LeavesTheTimer b d =
    (m : ℕ) → (is_on_timer (place d m) ≡ is_on_timer (place b m)) × (is_on_timer (place b m) ≡ true → message d m ≡ message b m)

-- one change after another
pub leaves-then : (b d e : Board) → LeavesTheTimer b d → LeavesTheTimer d e → LeavesTheTimer b e
leaves-then b d e f g m = ((g m).0 ∙ (f m).0, λ t. (g m).1 ((f m).0 ∙ t) ∙ (f m).1 t)

-- ---- messages that a change may touch
-- it isn't on the timer
abbrev Off : Board → ℕ → Type 0
Off b m = is_on_timer (place b m) ≡ false

-- none of them is, before and after
abbrev Clear : Board → Board → List ℕ → Type 0
Clear b d ms = All (λ m. Off b m × Off d m) ms

-- one that the caller holds is placed
placed_clear : (z : Size) (b : Board) (c m r : ℕ) (tests : List Test) → given (no3 c ∷ no4 z m ∷ no5 b c m ∷ tests) ≡ Go
    → Clear b (place_at z b m r) (m ∷ [])
placed_clear z b c m r tests g =
    let e = (held_row z b c m tests g).1 in
    ((ap is_on_timer e, ap is_on_timer (placed_place z b m r (placed_numbered b m (held_placed b m c e)))), tt)

-- none comes there where a queue is linked anew and a message held
hold_off : (b : Board) (r : ℕ) (q : List ℕ) (c m y : ℕ) → Off b y → Off (hold (with_queue b r q) c m) y
hold_off b r q c m y o =
    nth_cases (λ (p : Place). is_on_timer p ≡ false) Free (with_queue b r q).places m y (HeldBy (task_no c)) (λ e. refl)
    (ap is_on_timer (relink_keeps (λ (d : Board). place d y) link_message (λ d x v. refl) b q) ∙ o)

module _ (z : Size) (b : Board) (order : List ℕ) (queues : ℕ → List ℕ) (settled : Settled z b order queues) where
  -- q begins with MPTR of task r, or MPTR is 0, and none of q is on the timer
  abbrev OffQueue : ℕ → List ℕ → Type 0
  OffQueue r q = ((task b r).mptr ≡ first_of q) × All (Off b) q

  -- so is the queue of each task, be it one of the board's or not
  queue_off : (r : ℕ) → OffQueue r (queue z b r)
  queue_off r = step (outside z.tasks r) refl
    where
      step : (t : Bool) → outside z.tasks r ≡ t → OffQueue r (queue z b r)
      step true o =
          let e = ap (λ (t : Task). t.mptr) (nth-outside no_task b.tasks r (rw settled.fits.tasks o)) in
          subst (OffQueue r) (sym (walk_end (next_message b) z.messages (task b r).mptr e)) (e, tt)
      step false o =
          let n = outside-within z.tasks r o in
          let l = settled.regular.linked.messages r n in
          subst (OffQueue r) (sym (queue-walked z b order queues settled r n)) (
            chain_first (next_message b) (task b r).mptr (queues r) l.chain,
            all_of (Off b) (queues r) (λ y i. ap is_on_timer ((l.exact y).0 i)),
          )

  -- the first of a queue is taken, or none
  take_clear : (c : ℕ) → Clear b (take_first z b c) ((task b c).mptr ∷ [])
  take_clear c =
      let q : List ℕ = queue z b c in
      let m : ℕ = (task b c).mptr in
      let off : Off b m = subst (Off b) (sym (queue_off c).0) (first_holds (Off b) q refl (queue_off c).1) in
      ((off, hold_off b c (rest_of q) c (first_of q) m off), tt)

  -- each call, where no refusal of its row applies
  body_clear : (c : ℕ) (call : Call) → given (own_row z b c call) ≡ Go
      → Clear b (body z b c call).board (touched b c call).messages
  body_clear c (Install k s p sptr name) g = tt
  body_clear c (PostInterrupt k) g = tt
  body_clear c (Find name) g = tt
  body_clear c (CancelTask k) g = tt
  body_clear c Claim g =
      let (n, e) = lowest_free_lem b (claim-row b c g).1 in
      ((ap is_on_timer e, ap is_on_timer (place-put b _ (HeldBy (task_no c)) n)), tt)
  body_clear c (Prepare m s p sptr) g =
      let e = ap is_on_timer (held_row z b c m (no14 z sptr ∷ []) g).1 in ((e, e), tt)
  body_clear c (Release m) g =
      let e = (held_row z b c m [] g).1 in
      let n = placed_numbered b m (held_placed b m c e) in
      ((ap is_on_timer e, ap is_on_timer (place-put (with_message b m no_message) m Free n)), tt)
  body_clear c (Send m r) g = placed_clear z (addressed b c m r) c m r (no6 z b r ∷ []) g
  body_clear c (SendAndWait m r) g = placed_clear z (addressed b c m r) c m r (no6 z b r ∷ []) g
  body_clear c (Resend m) g = let r = (message b m).rptr in placed_clear z b c m r (no6 z b r ∷ no7 b m ∷ []) g
  body_clear c (ResendAndWait m) g = let r = (message b m).rptr in placed_clear z b c m r (no6 z b r ∷ no7 b m ∷ []) g
  body_clear c (Forward m r) g = placed_clear z b c m r (no6 z b r ∷ no7 b m ∷ []) g
  body_clear c (ForwardAndWait m r) g = placed_clear z b c m r (no6 z b r ∷ no7 b m ∷ []) g
  body_clear c (Return m) g = let r = (message b m).sptr in placed_clear z b c m r (no6 z b r ∷ no7 b m ∷ []) g
  body_clear c (ReturnAndWait m) g = let r = (message b m).sptr in placed_clear z b c m r (no6 z b r ∷ no7 b m ∷ []) g
  body_clear c Receive g = take_clear c
  body_clear c ReceiveAndWait g = tt
  body_clear c (CancelMessage m r) g =
      let e = (cancel_message-row z b c m r g).2 in
      ((ap is_on_timer e, ap is_on_timer (back_place z b c m r (placed_numbered b m (queued_placed b m r e)))), tt)
  body_clear c WaitForInterrupt g = tt

  -- ---- a change that touches none on the timer leaves it: what stands there stands in no queue
  framed_leaves : (d : Board) (ts bits ms : List ℕ) (r : ℕ) (o : Bool) → Frame b d ts bits ms r (queue z b r) o → Clear b d ms
      → LeavesTheTimer b d
  framed_leaves d ts bits ms r o f k m = step (in_dec m ms)
    where
      step : In m ms ⊎ Out m ms
          → (is_on_timer (place d m) ≡ is_on_timer (place b m)) × (is_on_timer (place b m) ≡ true → message d m ≡ message b m)
      step (inl i) = let (x, y) = all_at (λ m. Off b m × Off d m) ms k m i in (y ∙ sym x, λ t. absurd (true≢false (sym t ∙ x)))
      step (inr u) =
          let q : List ℕ = queue z b r in
          let off = all_at (Off b) q (queue_off r).1 m in
          (ap is_on_timer (f.places m u), λ t. f.queue m u (not_in_out m q (λ i. true≢false (sym t ∙ off i))))

  -- a body leaves the timer, where no refusal of its row applies
  pub body-leaves_the_timer : (c : ℕ) (call : Call) → given (own_row z b c call) ≡ Go → LeavesTheTimer b (body z b c call).board
  body-leaves_the_timer c call g = framed_leaves _ _ _ _ _ _ (body_frame z b c call) (body_clear c call g)

  -- so does handing over
  pub handing_leaves_the_timer : (c : ℕ) → LeavesTheTimer b (clears (take_first z b c) c MHBS)
  handing_leaves_the_timer c = framed_leaves _ _ _ _ _ _ (dispatch_frame z b c) (take_clear c)

-- ---- dispatch, of any board that is settled
pub dispatch-leaves_the_timer : (z : Size) (l : List ℕ) (d : Undispatched) (order : List ℕ) (queues : ℕ → List ℕ) → Sizes z
    → Settled z d.board order queues → LeavesTheTimer d.board (board_of z (dispatch z l d).after)
dispatch-leaves_the_timer z l d order queues a s =
    let b : Board = d.board in
    let t = dispatched z order l queues d.value b a s in
    let e = ap (λ (o : Outcome). board_of z o.after) t.ends ∙ board-bytes z t.board t.settled.fits in
    subst (LeavesTheTimer b) (sym e)
    (⊎_elim (λ i. subst (LeavesTheTimer b) (sym i) (λ m. (refl, λ o. refl))) (λ i. subst (LeavesTheTimer b) (sym i)
    (handing_leaves_the_timer z _ order queues (next_settled z b order queues a s) (runs_next z b))) t.hands)

-- ---- a call, by the verdict of its row
module _ (z : Size) (l : List ℕ) (call : Call) (a : Sizes z) (h : (i : ℕ) → Byte (get_or l i 0)) (w : Fitting call) where
  abbrev b : Board
  b = board_of z l

  abbrev d : Undispatched
  d = body z b b.running call

  by_verdict : (v : Verdict) → given (row z l b b.running call) ≡ v
      → LeavesTheTimer b (board_of z (judge l v (dispatch z l d)).after)
  by_verdict Go e =
      let (f, s, own) = starts z l call a h w e in
      let (queues, t) = settles z l call a h w e in
      leaves-then b d.board (board_of z (dispatch z l d).after)
      (body-leaves_the_timer z b s.order s.queues (sound_settled z b a f s) b.running call own)
      (dispatch-leaves_the_timer z l d _ queues a t)
  by_verdict (Stop q) e = λ m. (refl, λ i. refl)

pub calls_leave_the_timer : CallsLeaveTheTimer
calls_leave_the_timer z l call a h w = by_verdict z l call a h w (given (row z l (board_of z l) (board_of z l).running call)) refl
