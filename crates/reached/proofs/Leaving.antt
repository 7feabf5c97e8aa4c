-- All are parked, and k is absent though an RPTR names it: before that it was there, parked; it woke and cancelled itself.
-- Assumes nothing.
use mathlib.Core.Path.{◌≡◌, refl, sym, ap, ◌∙◌, subst}
use mathlib.Core.Logic.{◌≢◌, inr}
use mathlib.Core.Bool.{Bool, true, false, not, ◌&&◌, ◌||◌, true≢false}
use mathlib.Core.List.{List, [], ◌∷◌}
use Prim.Native.Nat.{ℕ, ◌<◌}
use native.Mathlib.Omega.{arith}
use native.Mathlib.Decide.{ℕ_discrete}
use lib.Dec.{eqb, lit<}
use borrow.Author.Tests.{eq-eqb, ne_eqb, eqb-false, not-true}
use Rattle.links.specs.Queue.{first_of, which, goes_before, insert, without}
use Rattle.links.specs.Chain.{Out}
use Rattle.links.proofs.Bools.{cond_holds, each_at, each_all}
use Rattle.links.proofs.Members.{not_in_out}
use Rattle.links.proofs.Removal.{without_insert}
use Rattle.board.specs.declared.numbers.Size.{Size}
use Rattle.board.specs.declared.status.Status.{Status}
use Rattle.board.specs.declared.records.Task.{Task}
use Rattle.board.specs.declared.records.Message.{Message}
use Rattle.board.specs.declared.places.Place.TheVariants.{Free, HeldBy}
use Rattle.board.specs.Numbers.{task_no, Numbered}
use Rattle.board.specs.Status.{IWAT, INTQ, TCBB, has, stored, with_bit, is_ready, number}
use Rattle.board.specs.Places.{is_held_by, is_on_timer}
use Rattle.board.specs.Records.{no_task, no_message, task_with_stat}
use Rattle.board.specs.Board.{Board, task, message, place, with_task, with_running}
use Rattle.board.proofs.Bits.{with_bit-has, with_bit_other}
use Rattle.board.proofs.Pieces.{neither}
use Rattle.paper.specs.declared.call.Call.TheVariants.{Install, PostInterrupt, CancelTask}
use Rattle.paper.specs.Rules.{is_there, present, task_number, order, ready}
use Rattle.paper.specs.Changes.{sets, with_order}
use Rattle.paper.specs.Effects.{install, cancel_task}
use Rattle.paper.specs.Refusals.{no6, no10, holds_one, is_awaited, own_row, Go, given}
use Rattle.paper.proofs.Which.{nth_numbered}
use Rattle.linked.proofs.Tests.{says_is_held_by}
use Rattle.linked.proofs.Running.{which_first}
use Rattle.linked.proofs.Chosen.{only_runs}
use Rattle.kept.specs.Settled.{Settled, Fitting}
use Rattle.kept.specs.Claims.{Sizes}
use Rattle.kept.proofs.Reading.{absent_none, nth_cases, task-put, task_other}
use Rattle.kept.proofs.Holding.{held-good}
use Rattle.kept.proofs.Installing.{install_settled}
use Rattle.kept.proofs.Cancelling.{cancel_settled}
use Rattle.kept.proofs.Dispatching.{settled_running, runs-byte}
use Rattle.past.specs.Past.{back, here, unnamed, guest_stat, guest_prio, left}
use Rattle.reached.specs.Claims.{NoneOnTimer}
use Rattle.reached.proofs.Making.{Passing, Makes, makes_then, makes_call}
use Rattle.reached.proofs.Sweeping.{Turned, turned_here}
use Rattle.reached.proofs.Stages.{Stage, Bare, Parked, parked_still}
use Rattle.kept.proofs.SameBoard.{sheet, block, same_board}
use Rattle.kept.proofs.Crew.{order_sheet, order-mptr, order-message, order-place, order-running, order-length}
use Rattle.kept.proofs.Going.{go_runs, go_there, go_install, go_from, task-word}
use Rattle.kept.proofs.Waiting.{none_due}
use Rattle.reached.proofs.Parking.{runs_same}
use Rattle.reached.proofs.Waking.{still_w, makes_start}

-- the record of a task that was there for a while
abbrev guest : Task
guest = record { stat = stored guest_stat; prio = guest_prio; link = 0; mptr = 0; sptr = 0; name = 0 }

-- whoever an RPTR names is there
abbrev pub Named : Board → ℕ → Type 0
Named b j = (m : ℕ) → (message b m).rptr ≡ j → present b j ≡ true

module _ (z : Size) (a : Sizes z) (k : ℕ) (b : Board) (n : Numbered z.tasks k) (v : Stage z Parked 0 b)
    (absent : present b k ≡ false) where
  abbrev p : Passing z b 0
  p = v.passing

  abbrev q : List ℕ
  q = p.order

  abbrev f : ℕ → List ℕ
  f = p.queues

  abbrev s : Settled z b q f
  s = p.settled

  still : (j : ℕ) → ready b j ≡ false
  still = parked_still z 0 b v

  -- ---- k there and awake
  abbrev goes : ℕ → Bool
  goes x = goes_before true (number guest_prio) (task_number b x)

  abbrev l : List ℕ
  l = insert goes k (order z b)

  abbrev d : Board
  d = install z b k guest_stat guest_prio 0 0

  fitting : Fitting (Install k guest_stat guest_prio 0 0)
  fitting = ((task-word z a k n, (lit< tt, (lit< tt, tt))), (lit< tt, (lit< tt, tt)))

  sd : Settled z d (insert goes k q) f
  sd = install_settled z b q f a s k guest_stat guest_prio 0 0 0 fitting
      (go_install z b k guest_stat guest_prio refl n absent refl)

  sheet_k : sheet (task d k) ≡ sheet guest
  sheet_k = order_sheet (with_task b k guest) l k ∙ ap sheet (task-put b k guest (rw s.fits.tasks n))

  sheet_j : (j : ℕ) → j ≢ k → sheet (task d j) ≡ sheet (task b j)
  sheet_j j h = order_sheet (with_task b k guest) l j ∙ ap sheet (task_other b k j guest h)

  mptr_d : (j : ℕ) → Numbered z.tasks j → (task d j).mptr ≡ 0
  mptr_d j h =
      order-mptr (with_task b k guest) l j
      ∙ nth_cases (λ (t : Task). t.mptr ≡ 0) no_task b.tasks k j guest (λ e. refl) (v.all j h).0

  runs_d : d.running ≡ 0
  runs_d = order-running (with_task b k guest) l ∙ p.runs

  -- the status at each number
  split : (P : Status → Type 0) → P (stored guest_stat) → (j : ℕ) → (j ≢ k → P (task b j).stat) → P (task d j).stat
  split P g j h = step (ℕ_discrete j k)
    where
      step : Dec (j ≡ k) → P (task d j).stat
      step (yes e) = subst (λ (w : ℕ). P (task d w).stat) (sym e) (subst (λ (t : Task). P t.stat) (sym sheet_k) g)
      step (no e) = subst (λ (t : Task). P t.stat) (sym (sheet_j j e)) (h e)

  quiet_b : (j : ℕ) → Numbered z.tasks j → has (task b j).stat INTQ ≡ false
  quiet_b j h = step (present b j) refl
    where
      step : (t : Bool) → present b j ≡ t → has (task b j).stat INTQ ≡ false
      step true e = ((s.flags j h).parked ((v.all j h).1 e)).0
      step false e = ap (λ (t : Task). has t.stat INTQ) (absent_none (task b j) (s.regular.records j h) e)

  ready_d : ready d k ≡ true
  ready_d = ap (λ (t : Task). is_ready t.stat) sheet_k

  only : (j : ℕ) → ready d j ≡ true → j ≡ k
  only j e = step (ℕ_discrete j k)
    where
      step : Dec (j ≡ k) → j ≡ k
      step (yes h) = h
      step (no h) = absurd (true≢false (sym e ∙ ap (λ (t : Task). is_ready t.stat) (sheet_j j h) ∙ still j))

  -- k runs
  abbrev e : Board
  e = with_running d k

  byte_k : k < 256
  byte_k = runs-byte z d (insert goes k q) f a sd k (only_runs z d sd.fits.tasks k ready_d only)

  se : Settled z e (insert goes k q) f
  se = settled_running z d (insert goes k q) f k byte_k sd

  untimed_d : NoneOnTimer d
  untimed_d m = ap is_on_timer (order-place (with_task b k guest) l m) ∙ p.untimed m

  bare_e : Stage z Bare k e
  bare_e = record {
    passing = record {
      order = insert goes k q;
      queues = f;
      settled = se;
      runs = refl;
      rightly = only_runs z e sd.fits.tasks k ready_d only;
      idle = none_due z d (insert goes k q) f sd mptr_d k;
      untimed = untimed_d;
    };
    all = λ j h. (split (λ t. has t INTQ ≡ false) refl j (λ g. quiet_b j h), mptr_d j h);
  }

  -- ---- it holds nothing, and cancels itself
  not_its : (m : ℕ) → place b m ≢ HeldBy (task_no k)
  not_its m h = true≢false (sym (held-good z b q f s m k h).2 ∙ absent)

  holds_none : holds_one e k ≡ false
  holds_none = step (ℕ_discrete (first_of (which (is_held_by k) 1 d.places)) 0)
    where
      step : Dec (first_of (which (is_held_by k) 1 d.places) ≡ 0) → holds_one e k ≡ false
      step (yes h) = ap not (eq-eqb (first_of (which (is_held_by k) 1 d.places)) 0 h)
      step (no h) =
          let r = which_first Free (is_held_by k) d.places h in
          let m = first_of (which (is_held_by k) 1 d.places) in
          absurd (not_its m (sym (order-place (with_task b k guest) l m) ∙ (says_is_held_by k (place d m)).0 r.1))

  -- nor is it SPTR of a message on the timer
  not_awaited : is_awaited z e k ≡ false
  not_awaited =
      ap not (each_all (λ m. not (is_on_timer (place d m) && eqb (message d m).sptr k)) z.messages
      (λ m h g. rw (untimed_d m) refl))

  go_cancel : given (own_row z e k (CancelTask k)) ≡ Go
  go_cancel =
      let busy : (no10 z e k).applies ≡ false =
      rw (eq-eqb (task d k).mptr 0 (mptr_d k n), holds_none, ap (λ (t : Task). has t.stat IWAT) sheet_k, not_awaited) refl in
      go_runs k (no6 z e k ∷ no10 z e k ∷ []) (λ (h : k ≡ 0). omega (arith, n.0))
      (go_there z e k (no10 z e k ∷ []) n (ap is_there sheet_k) (go_from (no10 z e k) [] busy refl))

  out : Out k q
  out = not_in_out k q (λ i. true≢false (sym ((s.regular.linked.tasks.exact k).0 i) ∙ absent))

  abbrev x : Board
  x = cancel_task z e k

  sx : Settled z x q f
  sx =
      subst (λ (r : List ℕ). Settled z x r f) (without_insert goes k q out)
      (cancel_settled z e (insert goes k q) f a se k k go_cancel)

  abbrev l2 : List ℕ
  l2 = without k (order z e)

  sheets : (j : ℕ) → Dec (j ≡ k) → sheet (task x j) ≡ sheet (task b j)
  sheets j (yes h) =
      subst (λ (w : ℕ). sheet (task x w) ≡ sheet (task b w)) (sym h)
      (ap sheet (task-put (with_order e l2) k no_task (rw (order-length e l2, sd.fits.tasks) n))
      ∙ sym (ap sheet (absent_none (task b k) (s.regular.records k n) absent)))
  sheets j (no h) = ap sheet (task_other (with_order e l2) k j no_task h) ∙ order_sheet e l2 j ∙ sheet_j j h

  cancelled : x ≡ with_running b k
  cancelled =
      same_board z x (with_running b k) q f f sx (settled_running z b q f k byte_k s) (order-running e l2) (λ j h. refl)
      (λ j h. sheets j (ℕ_discrete j k))
      (λ m h. ap block (order-message e l2 m ∙ order-message (with_task b k guest) l m))
      (λ m h. order-place e l2 m ∙ order-place (with_task b k guest) l m)

  makes_cancel : Makes z e (CancelTask k ∷ []) b
  makes_cancel =
      makes_call z a e k bare_e.passing (CancelTask k) b 0 p ((task-word z a k n, tt), tt) go_cancel cancelled
      (inr (λ j r. absurd (true≢false (sym r ∙ still j))))

  -- ---- k there and parked
  abbrev y : Board
  y = sets d k IWAT

  same : with_running y 0 ≡ y
  same = sym (runs_same y 0 runs_d)

  abbrev parked : Task
  parked = task_with_stat (task d k) (with_bit (task d k).stat IWAT)

  task_k : task y k ≡ parked
  task_k = task-put d k parked (rw sd.fits.tasks n)

  all_y : (j : ℕ) → Numbered z.tasks j → Dec (j ≡ k) → Parked (task y j)
  all_y j h (yes g) =
      subst (λ (t : Task). Parked t) (sym task_k ∙ ap (task y) (sym g))
      (mptr_d k n, λ t. with_bit-has IWAT refl (task d k).stat (sd.fits.task k).stat)
  all_y j h (no g) =
      subst (λ (t : Task). Parked t) (sym (task_other d k j parked g)) (
        mptr_d j h,
        λ t. ap (λ (w : Task). has w.stat IWAT) (sheet_j j g) ∙ (v.all j h).1 (sym (ap is_there (sheet_j j g)) ∙ t),
      )

  stage_y : Stage z Parked 0 y
  stage_y = record {
    passing = subst (λ (w : Board). Passing z w 0) same (still_w z a k k e n bare_e ready_d refl only).passing;
    all = λ j h. all_y j h (ℕ_discrete j k);
  }

  there_k : present y k ≡ true
  there_k = ap is_there task_k ∙ with_bit_other (task d k).stat IWAT TCBB refl ∙ ap is_there sheet_k

  there_j : (j : ℕ) → j ≢ k → present y j ≡ present b j
  there_j j g = ap is_there (task_other d k j parked g) ∙ ap is_there (sheet_j j g)

  turned : Turned z (Stage z Parked 0) Named b k
      (back (sets (install z b k guest_stat guest_prio 0 0) k IWAT) (PostInterrupt k ∷ CancelTask k ∷ []))
  turned = record {
    earlier = record {
      inv = stage_y;
      makes = makes_then z y e b (PostInterrupt k ∷ []) (CancelTask k ∷ [])
          (subst (λ (w : Board). Makes z w (PostInterrupt k ∷ []) e) same (makes_start z a k k e n bare_e ready_d refl only))
          makes_cancel;
    };
    simple = λ m h. there_k;
    keeps = λ j i g m h.
        there_j j (λ w. absurd (omega arith))
        ∙ g m (sym (ap (λ (u : Message). u.rptr) (order-message (with_task b k guest) l m)) ∙ h);
  }

-- back over k, if it is absent and an RPTR names it
pub turn_left : (z : Size) → Sizes z → (k : ℕ) (b : Board) → Numbered z.tasks k → Stage z Parked 0 b
    → Turned z (Stage z Parked 0) Named b k (left z b k)
turn_left z a k b n v =
    cond_holds (Turned z (Stage z Parked 0) Named b k) (present b k || unnamed z b k) (here b)
    (back (sets (install z b k guest_stat guest_prio 0 0) k IWAT) (PostInterrupt k ∷ CancelTask k ∷ []))
    (λ t. turned_here z (Stage z Parked 0) Named b k v (λ m e. named t m e (present b k) refl))
    (λ t. turned z a k b n v (neither (present b k) (unnamed z b k) t).0)
  where
    named : present b k || unnamed z b k ≡ true → (m : ℕ) → (message b m).rptr ≡ k → (u : Bool) → present b k ≡ u
        → present b k ≡ true
    named t m e true u = u
    named t m e false u =
        let i : Numbered z.messages m =
        rw v.passing.settled.fits.messages at (nth_numbered no_message (λ (w : Message). eqb w.rptr k) b.messages
        (ne_eqb 0 k (λ (h : 0 ≡ k). absurd (omega (arith, n.0, h)))) m (eq-eqb (message b m).rptr k e)) in
        let free : unnamed z b k ≡ true = sym (ap (λ (w : Bool). w || unnamed z b k) u) ∙ t in
        let o = each_at (λ j. not (eqb (message b j).rptr k)) z.messages free m i.0 i.1 in
        absurd (eqb-false (message b m).rptr k (not-true (eqb (message b m).rptr k) o) e)
