-- A task that waits for a message or is due one: the flags that placing, cancelling and waiting change. Receive and wait.
-- Assumes nothing.
use mathlib.Core.Path.{◌≡◌, refl, sym, ap, ◌∙◌, subst}
use mathlib.Core.Logic.{◌≢◌}
use mathlib.Core.Bool.{Bool, true, false, cond, ◌&&◌, true≢false}
use mathlib.Core.List.{List, [], ◌∷◌}
use Prim.Native.Nat.{ℕ}
use lib.Dec.{eqb}
use borrow.Author.Tests.{eqb-true, eqb-false, ne_eqb}
use Rattle.links.specs.Chain.{In, Chain}
use Rattle.links.proofs.Bools.{refuted, cond_holds}
use Rattle.board.specs.declared.numbers.Size.{Size}
use Rattle.board.specs.declared.status.Status.{Status}
use Rattle.board.specs.declared.records.Task.{Task}
use Rattle.board.specs.declared.places.Place.TheVariants.{QueuedAt}
use Rattle.board.specs.Numbers.{task_no, Numbered}
use Rattle.board.specs.Status.{WAIT, IWAT, MHBS, TCBB, has, with_bit, without_bit}
use Rattle.board.specs.Records.{no_task, task_with_stat}
use Rattle.board.specs.Board.{Board, task, place}
use Rattle.board.proofs.Bits.{with_bit_other, without_bit-has, without_bit_other}
use Rattle.paper.specs.declared.call.Call.TheVariants.{ReceiveAndWait}
use Rattle.paper.specs.Rules.{present, next_message, empty_queue}
use Rattle.paper.specs.Changes.{sets, clears}
use Rattle.paper.specs.Effects.{woken, waits, emptied}
use Rattle.paper.specs.Refusals.{no3, own_row, Go, given}
use Rattle.paper.proofs.Which.{nth_numbered}
use Rattle.linked.specs.Linked.{Linked}
use Rattle.linked.specs.Sound.{Flags}
use Rattle.linked.proofs.Running.{present_numbered, ready_says}
use Rattle.kept.specs.Settled.{Settled, Awake}
use Rattle.kept.proofs.Reading.{task-put, task_other, task_alike, go_passed, runner_passed}
use Rattle.kept.proofs.Flagging.{Flagged, flags-ready, flags-waiting, SettledBut, but_settled, but_clears, settled_sets}
use Rattle.kept.proofs.Flagging.{Apart, apart_WAIT, apart_MHBS}

-- ---- a task that waits for nothing and is due nothing
abbrev pub Idle : Status → Type 0
Idle s = (has s WAIT ≡ false) × (has s IWAT ≡ false) × (has s MHBS ≡ false)

module _ (s : Status) (Empty : Type 0) (f : Flags s Empty) where
  -- one that waited is idle when it waits no more
  waiting-idle : has s WAIT ≡ true → Idle (without_bit s WAIT)
  waiting-idle e = (
    without_bit-has s WAIT refl,
    without_bit_other s WAIT IWAT refl ∙ f.one e,
    without_bit_other s WAIT MHBS refl ∙ (f.waiting e).1,
  )

  -- one that was due a message is idle when it is due none
  due-idle : has s MHBS ≡ true → Idle (without_bit s MHBS)
  due-idle e = (
    without_bit_other s MHBS WAIT refl ∙ refuted (has s WAIT) (λ w. true≢false (sym e ∙ (f.waiting w).1)),
    without_bit_other s MHBS IWAT refl ∙ refuted (has s IWAT) (λ w. true≢false (sym e ∙ (f.parked w).1)),
    without_bit-has s MHBS refl,
  )

  -- the same flags with another queue
  flags_requeued : (Empty' : Type 0) → has s WAIT ≡ false → (has s MHBS ≡ true → Empty' → ⊥) → Flags s Empty'
  flags_requeued Empty' w d =
      record { one = f.one; waiting = λ e. absurd (true≢false (sym e ∙ w)); parked = f.parked; due = d }

  -- one with a queue doesn't wait
  pub queue-awake : (Empty → ⊥) → has s WAIT ≡ false
  queue-awake n = refuted (has s WAIT) (λ w. n (f.waiting w).0)

-- ---- the wait
module _ (z : Size) (b : Board) (order : List ℕ) (queues : ℕ → List ℕ) (c : ℕ) (there : present b c ≡ true) where
  -- an idle task comes to wait for a message, or to be due one that is queued
  pub waits_settled : Settled z b order queues → Idle (task b c).stat → Settled z (waits c b) order queues
  waits_settled h i =
      let s : Status = (task b c).stat in
      cond_holds (λ (bit : ℕ). Settled z (sets b c bit) order queues) (empty_queue b c) WAIT MHBS
      (λ e. settled_sets z b order queues c WAIT there apart_WAIT h (flags-waiting (with_bit s WAIT) _
      (with_bit_other s WAIT IWAT refl ∙ i.1) (with_bit_other s WAIT MHBS refl ∙ i.2) (eqb-true (task b c).mptr 0 e)))
      (λ e. settled_sets z b order queues c MHBS there apart_MHBS h (flags-ready (with_bit s MHBS) _
      (with_bit_other s MHBS WAIT refl ∙ i.0) (with_bit_other s MHBS IWAT refl ∙ i.1) (λ d. eqb-false (task b c).mptr 0 e)))

-- whom a message wakes doesn't matter to one that doesn't wait
pub woken-stat : (b : Board) (r k : ℕ) → has (task b k).stat WAIT ≡ false → (task (woken b r) k).stat ≡ (task b k).stat
woken-stat b r k w =
    cond_holds (λ (c : Board). (task c k).stat ≡ (task b k).stat) (has (task b r).stat WAIT) (sets (clears b r WAIT) r MHBS) b
    (λ e. let d : k ≢ r = λ i. true≢false (sym e ∙ ap (λ (x : ℕ). has (task b x).stat WAIT) (sym i) ∙ w) in
    ap (λ (t : Task). t.stat) (task_other (clears b r WAIT) r k _ d ∙ task_other b r k _ d)) (λ e. refl)

-- receive and wait
pub receive_and_wait_settled : (z : Size) (b : Board) (order : List ℕ) (queues : ℕ → List ℕ) → Settled z b order queues
    → (c : ℕ) → Awake b c → has (task b c).stat MHBS ≡ false → given (own_row z b c ReceiveAndWait) ≡ Go
    → Settled z (waits c b) order queues
receive_and_wait_settled z b order queues h c awake m g =
    let r = ready_says b c (awake (runner_passed c (go_passed (no3 c) [] g).0)) in
    waits_settled z b order queues c r.0 h (r.1, r.2, m)

-- ---- who is there, what is queued
-- a present task has a number
pub task_numbered : (z : Size) (b : Board) (order : List ℕ) (queues : ℕ → List ℕ) → Settled z b order queues
    → (k : ℕ) → present b k ≡ true → Numbered z.tasks k
task_numbered z b order queues s k h = rw s.fits.tasks at (present_numbered b k h)

-- where a message is queued MPTR is one
pub queued_starts : (z : Size) (b : Board) (order : List ℕ) (queues : ℕ → List ℕ) → Linked z b order queues
    → (r m : ℕ) → Numbered z.tasks r → place b m ≡ QueuedAt (task_no r) → (task b r).mptr ≢ 0
queued_starts z b order queues l r m n e = let g = l.messages r n in step (queues r) g.chain ((g.exact m).1 e)
  where
    step : (q : List ℕ) → Chain (next_message b) (task b r).mptr q → In m q → (task b r).mptr ≢ 0
    step [] c i = absurd i
    step (y ∷ q) c i = λ d. c.1 (sym c.0 ∙ d)

-- with no message queued nobody is due one
pub none_due : (z : Size) (b : Board) (order : List ℕ) (queues : ℕ → List ℕ) → Settled z b order queues
    → ((k : ℕ) → Numbered z.tasks k → (task b k).mptr ≡ 0) → (c : ℕ) → has (task b c).stat MHBS ≡ false
none_due z b order queues s h c = refuted (has (task b c).stat MHBS) (λ e. (s.flags c (numbered e)).due e (h c (numbered e)))
  where
    numbered : has (task b c).stat MHBS ≡ true → Numbered z.tasks c
    numbered e = rw s.fits.tasks at (nth_numbered no_task (λ (t : Task). has t.stat MHBS) b.tasks refl c e)

-- ---- the flags of r still to be settled
-- all but them is settled, and they went together with the queue before, of which Empty says that it was empty
pub record Pending (z : Size) (b : Board) (order : List ℕ) (queues : ℕ → List ℕ) (r : ℕ) (Empty : Type 0) : Type 0 where
  pub but : SettledBut z b order queues r
  pub there : present b r ≡ true
  pub flags : Flags (task b r).stat Empty

module _ (z : Size) (b : Board) (order : List ℕ) (queues : ℕ → List ℕ) (r : ℕ) (Empty : Type 0)
    (h : Pending z b order queues r Empty) where
  abbrev s : Status
  s = (task b r).stat

  -- they stay as they are
  pub stays_settled : has (task b r).stat WAIT ≡ false → (has (task b r).stat MHBS ≡ true → (task b r).mptr ≢ 0)
      → Settled z b order queues
  stays_settled w d = but_settled z b order queues r h.but (flags_requeued s Empty h.flags _ w d)

  -- a bit is cleared that leaves r idle
  module _ (bit : ℕ) (apart : Apart bit) (i : Idle (without_bit (task b r).stat bit)) where
    cleared : task (clears b r bit) r ≡ task_with_stat (task b r) (without_bit s bit)
    cleared = task-put b r _ (present_numbered b r h.there)

    clears_settled : Settled z (clears b r bit) order queues
    clears_settled =
        but_settled z (clears b r bit) order queues r (but_clears z b order queues r bit h.there apart h.but)
        (subst Flagged (sym cleared) (flags-ready _ _ i.0 i.1 (λ d. absurd (true≢false (sym d ∙ i.2)))))

    -- and r then waits
    clears-waits : (t : Bool) → empty_queue b r ≡ t → Settled z (sets (clears b r bit) r (cond t WAIT MHBS)) order queues
    clears-waits t e =
        subst (λ (v : Bool). Settled z (sets (clears b r bit) r (cond v WAIT MHBS)) order queues)
        (task_alike (λ (x : Task). eqb x.mptr 0) b r r _ refl ∙ e)
        (waits_settled z (clears b r bit) order queues r
        (ap (λ (x : Task). has x.stat TCBB) cleared ∙ without_bit_other s bit TCBB apart.3 ∙ h.there)
        clears_settled (subst (λ (x : Task). Idle x.stat) (sym cleared) i))

  -- now it has a message: it is woken
  pub woken_settled : (task b r).mptr ≢ 0 → Settled z (woken b r) order queues
  woken_settled n =
      cond_holds (λ (c : Board). Settled z c order queues) (has s WAIT) (sets (clears b r WAIT) r MHBS) b
      (λ e. clears-waits WAIT apart_WAIT (waiting-idle s Empty h.flags e) false (ne_eqb (task b r).mptr 0 n))
      (λ e. stays_settled e (λ d. n))

  -- it had a message and may have none left: it waits again
  pub emptied_settled : has (task b r).stat WAIT ≡ false → Settled z (emptied b r) order queues
  emptied_settled w = step (has s MHBS) refl (empty_queue b r) refl
    where
      step : (t : Bool) → has s MHBS ≡ t → (v : Bool) → empty_queue b r ≡ v
          → Settled z (cond (t && v) (sets (clears b r MHBS) r WAIT) b) order queues
      step true e true g = clears-waits MHBS apart_MHBS (due-idle s Empty h.flags e) true g
      step true e false g = stays_settled w (λ d. eqb-false (task b r).mptr 0 g)
      step false e v g = stays_settled w (λ d. absurd (true≢false (sym d ∙ e)))

  -- it was due a message that it has got
  pub delivered_settled : has (task b r).stat MHBS ≡ true → Settled z (clears b r MHBS) order queues
  delivered_settled e = clears_settled MHBS apart_MHBS (due-idle s Empty h.flags e)
