-- A message comes out of a queue into a task's hands, and the board is settled. Receive, the delivery of dispatch, cancel message.
-- Assumes nothing.
use mathlib.Core.Path.{◌≡◌, refl, sym, ap, ◌∙◌, subst, fun_ext}
use mathlib.Core.Logic.{◌≢◌, inl}
use mathlib.Core.Bool.{true, false, not, true≢false}
use mathlib.Core.List.{List, [], ◌∷◌}
use Prim.Native.Nat.{ℕ}
use native.Mathlib.Omega.{arith}
use native.Mathlib.Decide.{ℕ_discrete}
use lib.Dec.{eqb}
use borrow.Author.Tests.{eqb-true, not-false}
use Rattle.links.specs.Queue.{first_of, rest_of, without}
use Rattle.links.specs.Chain.{In, Once, Chain}
use Rattle.links.proofs.Bools.{cond_holds}
use Rattle.links.proofs.Members.{out_not_in}
use Rattle.links.proofs.Chains.{chain_first, chain_once, walk_end}
use Rattle.links.proofs.Removal.{rest_without, in_without, out_without, once_without, sorted_without}
use Rattle.board.specs.declared.numbers.Size.{Size}
use Rattle.board.specs.declared.status.Status.{Status}
use Rattle.board.specs.declared.records.Task.{Task}
use Rattle.board.specs.declared.records.Message.{Message}
use Rattle.board.specs.declared.places.Place.{Place}
use Rattle.board.specs.declared.places.Place.TheVariants.{HeldBy, QueuedAt}
use Rattle.board.specs.Numbers.{task_no, Numbered}
use Rattle.board.specs.Status.{MHBS, has, number}
use Rattle.board.specs.Records.{no_task, task_with_mptr, with_link}
use Rattle.board.specs.Places.{place_byte, is_queued_at, is_queued}
use Rattle.board.specs.Board.{Board, task, message, place, with_tasks, with_task}
use Rattle.board.proofs.Numbered.{put-nth}
use Rattle.board.proofs.Codec.{place-held}
use Rattle.paper.specs.declared.call.Call.TheVariants.{Receive, CancelMessage}
use Rattle.paper.specs.Rules.{present, next_message, message_number, queue}
use Rattle.paper.specs.Changes.{clears, with_queue, hold, take_first}
use Rattle.paper.specs.Effects.{emptied, cancel_message}
use Rattle.paper.specs.Refusals.{no3, no4, no6, no12, no13, own_row, Go, given}
use Rattle.linked.specs.Sound.{PlaceGood}
use Rattle.linked.proofs.Tests.{says_is_queued_at}
use Rattle.linked.proofs.Running.{placed_numbered, ready_says}
use Rattle.kept.specs.Settled.{Settled, Awake}
use Rattle.kept.specs.Touched.{OutOfQueue, changed, queues_after}
use Rattle.kept.specs.Claims.{Sizes}
use Rattle.kept.proofs.Reading.{message-put, queued_placed}
use Rattle.kept.proofs.Reading.{queue-walked, go_passed, runner_passed, task-passed}
use Rattle.kept.proofs.Relinked.{requeued, requeued_is, requeued_stat, requeued_alike}
use Rattle.kept.proofs.Waiting.{Pending, queue-awake, task_numbered, queued_starts, stays_settled, emptied_settled, delivered_settled}
use Rattle.kept.proofs.Moving.{Moved, moved_settled}

-- ---- m out of the queue of r, into the hands of c
module _ (z : Size) (b : Board) (order : List ℕ) (queues : ℕ → List ℕ) (sizes : Sizes z) (settled : Settled z b order queues)
    (m r c : ℕ) (queued : place b m ≡ QueuedAt (task_no r)) (there : present b c ≡ true) where
  abbrev q : List ℕ
  q = without m (queues r)

  abbrev w : Message
  w = with_link (message (requeued b r q) m) 0

  numbered : Numbered z.messages m
  numbered = rw settled.fits.places at (placed_numbered b m (queued_placed b m r queued))

  good : PlaceGood z b m (QueuedAt (task_no r))
  good = subst (PlaceGood z b m) queued (settled.regular.places m numbered)

  receiver : Numbered z.tasks r
  receiver = task_numbered z b order queues settled r good.3

  out_move : Moved z b r q m w (HeldBy (task_no c))
  out_move =
      let l = settled.regular.linked.messages r receiver in
      let d : Once (queues r) = chain_once (next_message b) (task b r).mptr (queues r) l.chain in
      let n = task_numbered z b order queues settled c there in record {
        there = good.3;
        once = once_without m (queues r) d;
        sorted = sorted_without (message_number b) m (queues r) l.sorted;
        others = λ y g. (
          (λ i. (l.exact y).0 ((in_without m y (queues r) d).0 i).0),
          λ e. (in_without m y (queues r) d).1 ((l.exact y).1 e, g),
        );
        itself = (
          (λ i. absurd (out_not_in m q (out_without m (queues r) d) i)),
          λ e. absurd (true≢false (sym (ap is_queued e))),
        );
        elsewhere = λ k g. ((λ e. g (omega (arith, ap place_byte (sym e ∙ queued)))), λ e. true≢false (sym (ap is_queued e)));
        numbered = numbered;
        pointers = good.0;
        link = λ i. absurd (out_not_in m q (out_without m (queues r) d) i);
        priority = ap (λ (x : Message). number x.prio) (requeued_alike b r q m);
        fits = λ f. record { stat = f.stat; prio = f.prio; link = omega arith; rptr = f.rptr; sptr = f.sptr };
        byte = (omega (arith, n.1, sizes.tasks), place-held z c n.0 n.1);
        good = λ g. rw (message-put b m w (rw (← settled.fits.messages) at numbered))
            (record { receiver = g.receiver; sender = g.sender }, refl, there);
      }

  -- the flags of r are to be settled
  pub out_settled : Pending z (hold (with_queue b r (without m (queues r))) c m) order (changed queues r (without m (queues r))) r
      ((task b r).mptr ≡ 0)
  out_settled =
      subst (λ (s : Board). Pending z (hold s c m) order (changed queues r q) r ((task b r).mptr ≡ 0)) (sym (requeued_is b r q))
      (moved_settled z b order queues sizes settled r q m w (HeldBy (task_no c)) out_move)

-- ---- the first of its own queue
-- MPTR names the first of the queue, so what is left without it is the rest
pub first_left : (z : Size) (b : Board) (order : List ℕ) (queues : ℕ → List ℕ) → Settled z b order queues → (c : ℕ)
    → Numbered z.tasks c → without (task b c).mptr (queues c) ≡ rest_of (queues c)
first_left z b order queues s c n =
    ap (λ (m : ℕ). without m (queues c))
    (chain_first (next_message b) (task b c).mptr (queues c) (s.regular.linked.messages c n).chain)
    ∙ rest_without (queues c)

-- no status changes
pub take-stat : (z : Size) (b : Board) (c k : ℕ) → (task (take_first z b c) k).stat ≡ (task b k).stat
take-stat z b c k = requeued_stat b c (rest_of (queue z b c)) k

module _ (z : Size) (b : Board) (order : List ℕ) (queues : ℕ → List ℕ) (sizes : Sizes z) (settled : Settled z b order queues)
    (c : ℕ) (there : present b c ≡ true) where
  taker : Numbered z.tasks c
  taker = task_numbered z b order queues settled c there

  walked : queue z b c ≡ queues c
  walked = queue-walked z b order queues settled c taker

  -- the queue is not empty
  module _ (n : (task b c).mptr ≢ 0) where
    first_in : (q : List ℕ) → Chain (next_message b) (task b c).mptr q → In (first_of q) q
    first_in [] e = absurd (n e)
    first_in (x ∷ q) e = inl refl

    -- the flags of c are to be settled
    take_pending : Pending z (take_first z b c) order (changed queues c (rest_of (queues c))) c ((task b c).mptr ≡ 0)
    take_pending =
        let m : ℕ = first_of (queues c) in
        let l = settled.regular.linked.messages c taker in
        let d = out_settled z b order queues sizes settled m c c ((l.exact m).0 (first_in (queues c) l.chain)) there in
        subst (λ (q : List ℕ). Pending z (hold (with_queue b c (rest_of q)) c (first_of q)) order
        (changed queues c (rest_of (queues c))) c ((task b c).mptr ≡ 0)) (sym walked)
        (subst (λ (q : List ℕ). Pending z (hold (with_queue b c q) c m) order (changed queues c q) c ((task b c).mptr ≡ 0))
        (rest_without (queues c)) d)

    first_settled : has (task b c).stat MHBS ≡ false → Settled z (take_first z b c) order (changed queues c (rest_of (queues c)))
    first_settled e =
        stays_settled z (take_first z b c) order _ c ((task b c).mptr ≡ 0) take_pending
        (queue-awake _ ((task b c).mptr ≡ 0) take_pending.flags n)
        (λ d. absurd (true≢false (sym d ∙ ap (λ (s : Status). has s MHBS) (take-stat z b c c) ∙ e)))

  -- the queue is empty: nothing is taken
  module _ (n : (task b c).mptr ≡ 0) where
    none : queue z b c ≡ []
    none = walk_end (next_message b) z.messages (task b c).mptr n

    pub take_none : take_first z b c ≡ b
    take_none =
        ap (λ (q : List ℕ). hold (with_queue b c (rest_of q)) c (first_of q)) none
        ∙ ap (λ (t : Task). with_task b c t) (ap (task_with_mptr (task b c)) (sym n))
        ∙ ap (with_tasks b) (put-nth no_task b.tasks c)

    rest_none : changed queues c (rest_of (queues c)) ≡ queues
    rest_none =
        let e : queues c ≡ [] = sym walked ∙ none in
        fun_ext (λ j. cond_holds (λ (q : List ℕ). q ≡ queues j) (eqb j c) (rest_of (queues c)) (queues j)
        (λ d. ap rest_of e ∙ sym e ∙ ap queues (sym (eqb-true j c d))) (λ d. refl))

    none_settled : Settled z (take_first z b c) order (changed queues c (rest_of (queues c)))
    none_settled = rw (take_none, rest_none) settled

  -- a task that isn't due a message takes the first of its queue, or none
  pub take_settled : has (task b c).stat MHBS ≡ false → Settled z (take_first z b c) order (changed queues c (rest_of (queues c)))
  take_settled e = step (ℕ_discrete (task b c).mptr 0)
    where
      step : Dec ((task b c).mptr ≡ 0) → Settled z (take_first z b c) order (changed queues c (rest_of (queues c)))
      step (yes n) = none_settled n
      step (no n) = first_settled n e

  -- one that is due a message has one
  pub due-queued : has (task b c).stat MHBS ≡ true → (task b c).mptr ≢ 0
  due-queued e = (settled.flags c taker).due e

  -- it gets the first of its queue and is due none
  pub deliver_settled : has (task b c).stat MHBS ≡ true
      → Settled z (clears (take_first z b c) c MHBS) order (changed queues c (rest_of (queues c)))
  deliver_settled e =
      delivered_settled z (take_first z b c) order _ c ((task b c).mptr ≡ 0) (take_pending (due-queued e))
      (ap (λ (s : Status). has s MHBS) (take-stat z b c c) ∙ e)

-- ---- the calls
-- 12: the message is queued at the task meant
pub queued-passed : (r : ℕ) (p : Place) → not (is_queued_at r p) ≡ false → p ≡ QueuedAt (task_no r)
queued-passed r p e = (says_is_queued_at r p).0 (not-false (is_queued_at r p) e)

-- 3, 4, 6, 12 and 13, the row of cancel message: the task meant is one of the board's, and the message is queued there
pub cancel_message-row : (z : Size) (b : Board) (c m r : ℕ) → given (own_row z b c (CancelMessage m r)) ≡ Go
    → (c ≢ 0) × Numbered z.tasks r × (place b m ≡ QueuedAt (task_no r))
cancel_message-row z b c m r g =
    let s = go_passed (no3 c) (no4 z m ∷ no6 z b r ∷ no12 b m r ∷ no13 b c m ∷ []) g in
    let t = go_passed (no4 z m) (no6 z b r ∷ no12 b m r ∷ no13 b c m ∷ []) s.1 in
    let u = go_passed (no6 z b r) (no12 b m r ∷ no13 b c m ∷ []) t.1 in
    let v = go_passed (no12 b m r) (no13 b c m ∷ []) u.1 in
    (runner_passed c s.0, (task-passed z b r u.0).0, queued-passed r (place b m) v.0)

module _ (z : Size) (b : Board) (order : List ℕ) (queues : ℕ → List ℕ) (sizes : Sizes z) (settled : Settled z b order queues)
    (c : ℕ) (awake : Awake b c) where
  -- receive: the first of its queue, or none
  pub receive_settled : has (task b c).stat MHBS ≡ false → given (own_row z b c Receive) ≡ Go
      → Settled z (take_first z b c) order (queues_after b queues (OutOfQueue (task b c).mptr c))
  receive_settled e g =
      let runs = (ready_says b c (awake (runner_passed c (go_passed (no3 c) [] g).0))).0 in
      subst (λ (q : List ℕ). Settled z (take_first z b c) order (changed queues c q))
      (sym (first_left z b order queues settled c (task_numbered z b order queues settled c runs)))
      (take_settled z b order queues sizes settled c runs e)

  -- cancel message: out of the queue of the task meant
  pub cancel_message_settled : (m r : ℕ) → given (own_row z b c (CancelMessage m r)) ≡ Go
      → Settled z (cancel_message z b c m r) order (queues_after b queues (OutOfQueue m r))
  cancel_message_settled m r g =
      let (runs, n, e) = cancel_message-row z b c m r g in
      let d = out_settled z b order queues sizes settled m r c e (ready_says b c (awake runs)).0 in
      subst (λ (q : List ℕ).
      Settled z (emptied (hold (with_queue b r (without m q)) c m) r) order (changed queues r (without m (queues r))))
      (sym (queue-walked z b order queues settled r n))
      (emptied_settled z _ order (changed queues r (without m (queues r))) r ((task b r).mptr ≡ 0) d
      (queue-awake _ ((task b r).mptr ≡ 0) d.flags (queued_starts z b order queues settled.regular.linked r m n e)))
