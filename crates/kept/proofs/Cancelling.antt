-- Cancel task: no message is held by the task or queued at it, so nothing is lost with its record.
-- Assumes nothing.
use mathlib.Core.Path.{◌≡◌, refl, sym, ap, ◌∙◌, subst}
use mathlib.Core.Logic.{◌≢◌, inl, ◌↔◌}
use mathlib.Core.Bool.{true, false, not, ◌&&◌, ◌||◌, true≢false}
use mathlib.Core.List.{List, [], ◌∷◌}
use Prim.Native.Nat.{ℕ}
use lib.Dec.{lit<, eqb}
use borrow.Author.Tests.{eqb-true, eq-eqb, not-true, not-false}
use Rattle.links.specs.Queue.{first_of, without, relink}
use Rattle.links.specs.Chain.{In, Out, Once, Sorted}
use Rattle.links.proofs.Bools.{and_true, each_at}
use Rattle.links.proofs.Chains.{chain_one, chain_once}
use Rattle.links.proofs.Removal.{in_without, out_without, once_without, sorted_without}
use Rattle.board.specs.declared.numbers.Size.{Size}
use Rattle.board.specs.declared.records.Task.{Task}
use Rattle.board.specs.declared.places.Place.TheVariants.{Free, HeldBy, QueuedAt, OnTimer}
use Rattle.board.specs.Numbers.{task_no, Numbered}
use Rattle.board.specs.Status.{IWAT, has, number, stored}
use Rattle.board.specs.Records.{no_task, task_with_link}
use Rattle.board.specs.Places.{is_held_by, is_on_timer}
use Rattle.board.specs.Board.{Board, task, message, place, put, with_first, with_tasks, with_task}
use Rattle.board.proofs.Numbered.{put_comm}
use Rattle.board.proofs.Pieces.{neither}
use Rattle.paper.specs.declared.call.Call.TheVariants.{CancelTask}
use Rattle.paper.specs.Rules.{is_there, present, next_task, next_message, empty_queue, task_number}
use Rattle.paper.specs.Changes.{link_task, with_order}
use Rattle.paper.specs.Effects.{cancel_task}
use Rattle.paper.specs.Refusals.{holds_one, is_awaited, own_row, Go, given}
use Rattle.linked.proofs.Running.{present_numbered, which_none}
use Rattle.kept.specs.Settled.{Settled}
use Rattle.kept.specs.Touched.{OutOfOrder, order_after}
use Rattle.kept.specs.Claims.{Sizes}
use Rattle.kept.proofs.Reading.{task-put, task_other, sorted_stays}
use Rattle.kept.proofs.Reading.{Needs, holder, receiver, sender, timed_numbered, good_stays, order-walked, cancel_row}
use Rattle.kept.proofs.Flagging.{flags-ready}
use Rattle.kept.proofs.Installing.{settled_order}

-- ---- a record written behind links or before them
link-task : (b : Board) (x v k : ℕ) (t : Task) → x ≢ k → with_task (link_task b x v) k t ≡ link_task (with_task b k t) x v
link-task b x v k t n =
    let p : put (put b.tasks x (task_with_link (task b x) v)) k t
    ≡ put (put b.tasks k t) x (task_with_link (task (with_task b k t) x) v) =
    put_comm b.tasks x k (task_with_link (task b x) v) t n
    ∙ ap (λ (e : Task). put (put b.tasks k t) x (task_with_link e v)) (sym (task_other b k x t n)) in
    λ i. with_tasks b (p i)

relink-task : (b : Board) (q : List ℕ) (k : ℕ) (t : Task) → Out k q
    → with_task (relink link_task b q) k t ≡ relink link_task (with_task b k t) q
relink-task b [] k t o = refl
relink-task b (x ∷ q) k t o =
    link-task (relink link_task b q) x (first_of q) k t (λ e. o.0 (sym e))
    ∙ ap (λ (c : Board). link_task c x (first_of q)) (relink-task b q k t o.1)

-- the same comes of it, for a task that is none of the queue
order-task : (b : Board) (q : List ℕ) (k : ℕ) (t : Task) → Out k q → with_task (with_order b q) k t ≡ with_order (with_task b k t) q
order-task b q k t o =
    λ i. with_first (relink-task b q k t o i) (first_of q)

-- ---- cancel task
module _ (z : Size) (b : Board) (q : List ℕ) (queues : ℕ → List ℕ) (a : Sizes z) (s : Settled z b q queues) (k : ℕ) where
  -- a task with an empty queue has no message queued
  none_queued : Numbered z.tasks k → (task b k).mptr ≡ 0 → (m : ℕ) → place b m ≢ QueuedAt (task_no k)
  none_queued n e m p =
      let l = s.regular.linked.messages k n in
      let c = chain_one (next_message b) (task b k).mptr [] (queues k) e l.chain in
      subst (In m) (sym c) ((l.exact m).1 p)

  -- a task that holds none holds no message
  none_held : holds_one b k ≡ false → (m : ℕ) → place b m ≢ HeldBy (task_no k)
  none_held e m p =
      which_none Free (is_held_by k) b.places refl (eqb-true _ 0 (not-false _ e)) m (ap (is_held_by k) p ∙ eq-eqb k k refl)

  -- a task that isn't awaited is SPTR of no message on the timer
  none_awaited : is_awaited z b k ≡ false → (m : ℕ) → place b m ≡ OnTimer → (message b m).sptr ≢ k
  none_awaited e m p h =
      let n = timed_numbered z b s.fits.places m p in
      let kept = each_at (λ m. not (is_on_timer (place b m) && eqb (message b m).sptr k)) z.messages (not-false _ e) m n.0 n.1 in
      true≢false (sym (and_true _ _ (ap is_on_timer p) (eq-eqb _ k h)) ∙ not-true _ kept)

  module _ (here : present b k ≡ true) (empty : (task b k).mptr ≡ 0) (free : (m : ℕ) → place b m ≢ HeldBy (task_no k))
      (alone : (m : ℕ) → place b m ≡ OnTimer → (message b m).sptr ≢ k) where
    abbrev gone : Board
    gone = with_task b k no_task

    once : Once q
    once = chain_once (next_task b) b.first q s.regular.linked.tasks.chain

    same_others : (y : ℕ) → y ≢ k → task gone y ≡ task b y
    same_others y n = task_other b k y no_task n

    none_there : (y : ℕ) → present gone y ≡ true → y ≢ k
    none_there y p e =
        true≢false (sym p ∙ ap (present gone) e ∙ ap is_there (task-put b k no_task (present_numbered b k here)))

    listed_exact : (y : ℕ) → In y (without k q) ↔ (present gone y ≡ true)
    listed_exact y = (
      (λ i. let r = (in_without k y q once).0 i in ap is_there (same_others y r.1) ∙ (s.regular.linked.tasks.exact y).0 r.0),
      λ p. (in_without k y q once).1
          ((s.regular.linked.tasks.exact y).1 (sym (ap is_there (same_others y (none_there y p))) ∙ p), none_there y p),
    )

    listed_sorted : Sorted (task_number gone) (without k q)
    listed_sorted =
        sorted_stays (task_number b) (task_number gone) (without k q)
        (λ y i. ap (λ (x : Task). number x.prio) (same_others y ((in_without k y q once).0 i).1))
        (sorted_without (task_number b) k q s.regular.linked.tasks.sorted)

    -- whom a message needs is another
    another : (m j : ℕ) → Needs (message b m) (place b m) j → j ≢ k
    another m j (holder p) e = free m (p ∙ ap (λ (x : ℕ). HeldBy (task_no x)) e)
    another m j (receiver p) e =
        none_queued (rw s.fits.tasks at (present_numbered b k here)) empty m (p ∙ ap (λ (x : ℕ). QueuedAt (task_no x)) e)
    another m j (sender p h) e = alone m p (h ∙ e)

    -- a task with an empty queue that holds no message and awaits none goes
    pub settled_cancel : Settled z (cancel_task z b k) (without k q) queues
    settled_cancel =
        subst (λ (l : List ℕ). Settled z (with_task (with_order b (without k l)) k no_task) (without k q) queues)
        (sym (order-walked z b q queues s a.limit))
        (subst (λ (c : Board). Settled z c (without k q) queues)
        (sym (order-task b (without k q) k no_task (out_without k q once)))
        (settled_order z b q queues a s k no_task (without k q)
        (record { stat = lit< tt; prio = lit< tt; link = lit< tt; mptr = lit< tt; sptr = lit< tt; name = lit< tt }) (inl refl)
        (flags-ready (stored 0) (0 ≡ 0) refl refl (λ e. absurd (true≢false (sym e)))) (sym empty)
        (λ m n. good_stays z b gone m (place b m) refl (λ j w p. ap is_there (same_others j (another m j w)) ∙ p) (s.regular.places m n))
        (once_without k q once) listed_exact listed_sorted))

  -- so its row has it
  pub cancel_settled : (c : ℕ) → given (own_row z b c (CancelTask k)) ≡ Go
      → Settled z (cancel_task z b k) (order_after b q (OutOfOrder k)) queues
  cancel_settled c g =
      let (n, there, idle) = cancel_row z b c k g in
      let timed = neither (not (empty_queue b k) || holds_one b k || has (task b k).stat IWAT) (is_awaited z b k) idle in
      let parked = neither (not (empty_queue b k) || holds_one b k) (has (task b k).stat IWAT) timed.0 in
      let none = neither (not (empty_queue b k)) (holds_one b k) parked.0 in
      settled_cancel there (eqb-true (task b k).mptr 0 (not-false (empty_queue b k) none.0))
      (none_held none.1) (none_awaited timed.1)
