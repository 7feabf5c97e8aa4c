-- One status changed: links, numbers and presence of every task stay, so R1 to R5 do, and R6 is asked of the new status alone.
-- Post interrupt and wait for interrupt.
-- Assumes nothing.
use mathlib.Core.Path.{◌≡◌, refl, sym, ◌∙◌, subst}
use mathlib.Core.Logic.{◌≢◌, inr}
use mathlib.Core.Bool.{Bool, true, false, true≢false}
use mathlib.Core.List.{List, []}
use Prim.Native.Nat.{ℕ, ◌-◌, ◌<◌}
use native.Mathlib.Decide.{ℕ_discrete}
use lib.Bits.{bit_and}
use lib.Dec.{lit<}
use Rattle.links.proofs.Bools.{cond_holds}
use Rattle.board.specs.declared.numbers.Size.{Size}
use Rattle.board.specs.declared.status.Status.{Status}
use Rattle.board.specs.declared.records.Task.{Task}
use Rattle.board.specs.Numbers.{Numbered}
use Rattle.board.specs.Status.{WAIT, IWAT, BIT5, INTQ, MHBS, TCBB, has, with_bit, without_bit, number}
use Rattle.board.specs.Records.{Byte, no_task, task_with_stat}
use Rattle.board.specs.Board.{Board, task, place, with_task}
use Rattle.board.proofs.Bits.{with_bit_other, with_bit-small, without_bit-has, without_bit_other, without_bit-small}
use Rattle.paper.specs.declared.call.Call.TheVariants.{PostInterrupt, WaitForInterrupt}
use Rattle.paper.specs.Rules.{is_there, present, next_task, next_message, task_number, message_number}
use Rattle.paper.specs.Changes.{sets, clears}
use Rattle.paper.specs.Effects.{post, wait_interrupt}
use Rattle.paper.specs.Refusals.{no3, no6, own_row, Go, given}
use Rattle.linked.specs.Sound.{Proper, Regular, Flags}
use Rattle.linked.proofs.Running.{present_numbered, ready_says}
use Rattle.kept.specs.Settled.{FitsTask, Fits, Settled, Awake}
use Rattle.kept.proofs.Reading.{nth_cases, task-put, task_other, task_alike, fits_task}
use Rattle.kept.proofs.Reading.{listing_stays, listing_start, Lawful, present_proper, good_stays}
use Rattle.kept.proofs.Reading.{go_passed, runner_passed, task-passed}

-- ---- flags that go together
module _ (s : Status) (Empty : Type 0) where
  -- waiting for nothing
  pub flags-ready : has s WAIT ≡ false → has s IWAT ≡ false → (has s MHBS ≡ true → Empty → ⊥) → Flags s Empty
  flags-ready w i d = record {
    one = λ e. i;
    waiting = λ e. absurd (true≢false (sym e ∙ w));
    parked = λ e. absurd (true≢false (sym e ∙ i));
    due = d;
  }

  -- waiting for a message, or not, with none queued
  pub flags-waiting : has s IWAT ≡ false → has s MHBS ≡ false → Empty → Flags s Empty
  flags-waiting i m q = record {
    one = λ e. i;
    waiting = λ e. (q, m);
    parked = λ e. absurd (true≢false (sym e ∙ i));
    due = λ e. absurd (true≢false (sym e ∙ m));
  }

  -- waiting for an interrupt, or not, with none queued
  pub flags-parked : has s WAIT ≡ false → has s INTQ ≡ false → has s MHBS ≡ false → Flags s Empty
  flags-parked w i m = record {
    one = λ e. absurd (true≢false (sym e ∙ w));
    waiting = λ e. absurd (true≢false (sym e ∙ w));
    parked = λ e. (i, m);
    due = λ e. absurd (true≢false (sym e ∙ m));
  }

-- INTQ set or cleared, where the task isn't parked
pub flags_alike : (s t : Status) (Empty : Type 0) → has t WAIT ≡ has s WAIT → has t IWAT ≡ has s IWAT → has t MHBS ≡ has s MHBS
    → has s IWAT ≡ false → Flags s Empty → Flags t Empty
flags_alike s t Empty w i m p f = record {
  one = λ e. i ∙ p;
  waiting = λ e. let r = f.waiting (sym w ∙ e) in (r.0, m ∙ r.1);
  parked = λ e. absurd (true≢false (sym e ∙ i ∙ p));
  due = λ e. f.due (sym m ∙ e);
}

-- R6 at a task
abbrev pub Flagged : Task → Type 0
Flagged t = Flags t.stat (t.mptr ≡ 0)

-- ---- R1 to R6 but for the flags of task k
pub record SettledBut (z : Size) (b : Board) (order : List ℕ) (queues : ℕ → List ℕ) (k : ℕ) : Type 0 where
  pub fits : Fits z b
  pub regular : Regular z b order queues
  pub flags : (j : ℕ) → Numbered z.tasks j → j ≢ k → Flagged (task b j)

module _ (z : Size) (b : Board) (order : List ℕ) (queues : ℕ → List ℕ) (k : ℕ) where
  -- a board that is settled is so but for any task
  pub settled_but : Settled z b order queues → SettledBut z b order queues k
  settled_but s = record {
    fits = s.fits;
    regular = s.regular;
    flags = λ j h n. s.flags j h;
  }

  -- and where that task's flags go together it is settled
  pub but_settled : SettledBut z b order queues k → Flagged (task b k) → Settled z b order queues
  but_settled s f = record {
    fits = s.fits;
    regular = s.regular;
    flags = λ j h. step j h (ℕ_discrete j k);
  }
    where
      step : (j : ℕ) → Numbered z.tasks j → Dec (j ≡ k) → Flagged (task b j)
      step j h (yes e) = subst (λ (i : ℕ). Flagged (task b i)) (sym e) f
      step j h (no n) = s.flags j h n

-- ---- its status written
-- a status that R2 lets a present task have
abbrev pub Good : Status → Type 0
Good s = Byte s.0 × (has s TCBB ≡ true) × (has s BIT5 ≡ false)

module _ (z : Size) (b : Board) (order : List ℕ) (queues : ℕ → List ℕ) (k : ℕ) (p : present b k ≡ true) where
  -- the task has one that is proper
  proper_old : SettledBut z b order queues k → Proper (task b k)
  proper_old h = present_proper (task b k) (h.regular.records k (rw h.fits.tasks at (present_numbered b k p))) p

  module _ (s : Status) (g : Good s) where
    abbrev t : Task
    t = task_with_stat (task b k) s

    abbrev c : Board
    c = with_task b k t

    fits_new : FitsTask (task b k) → FitsTask t
    fits_new f = record { stat = g.0; prio = f.prio; link = f.link; mptr = f.mptr; sptr = f.sptr; name = f.name }

    proper_new : Proper (task b k) → Proper t
    proper_new r = record { there = g.1; bit5 = g.2; odd = r.odd; low = r.low; high = r.high }

    same_present : (j : ℕ) → present c j ≡ present b j
    same_present j = task_alike is_there b k j t (g.1 ∙ sym p)

    -- all but its flags stays
    pub but_stat : SettledBut z b order queues k → SettledBut z (with_task b k (task_with_stat (task b k) s)) order queues k
    but_stat h = record {
      fits = fits_task z b h.fits k t (fits_new (h.fits.task k));
      regular = record {
        zeros = h.regular.zeros;
        records = λ j n. nth_cases Lawful no_task b.tasks k j t (λ e. inr (proper_new (proper_old h))) (h.regular.records j n);
        linked = record {
          tasks = listing_stays (next_task b) (next_task c) (task_number b) (task_number c) b.first order _ _
              (λ y i. task_alike (λ (x : Task). x.link) b k y t refl)
              (λ y i. task_alike (λ (x : Task). number x.prio) b k y t refl)
              (λ y. ((λ e. same_present y ∙ e), λ e. sym (same_present y) ∙ e)) h.regular.linked.tasks;
          messages = λ j n.
              listing_start (next_message b) (message_number b) (task b j).mptr (task c j).mptr (queues j) _
              (task_alike (λ (x : Task). x.mptr) b k j t refl) (h.regular.linked.messages j n);
        };
        places = λ m n. good_stays z b c m (place b m) refl (λ j w e. same_present j ∙ e) (h.regular.places m n);
      };
      flags = λ j n d. subst Flagged (sym (task_other b k j t d)) (h.flags j n d);
    }

    -- the flags read are those written
    pub flags_read : Flags s ((task b k).mptr ≡ 0) → Flagged (task (with_task b k (task_with_stat (task b k) s)) k)
    flags_read f = subst Flagged (sym (task-put b k t (present_numbered b k p))) f

    -- where they go together the board is settled
    pub settled_stat : Settled z b order queues → Flags s ((task b k).mptr ≡ 0)
        → Settled z (with_task b k (task_with_stat (task b k) s)) order queues
    settled_stat h f = but_settled z c order queues k (but_stat (settled_but z b order queues k h)) (flags_read f)

-- ---- a bit set, a bit cleared
-- a bit of the byte, apart from the two that R2 speaks of
abbrev pub Apart : ℕ → Type 0
Apart bit = (bit < 256) × (bit_and bit TCBB ≡ 0) × (bit_and bit BIT5 ≡ 0) × (bit_and (255 - bit) TCBB ≡ TCBB)
    × (bit_and (255 - bit) BIT5 ≡ BIT5)

-- the four that R6 speaks of
pub apart_WAIT : Apart WAIT
apart_WAIT = (lit< tt, refl, refl, refl, refl)

pub apart_IWAT : Apart IWAT
apart_IWAT = (lit< tt, refl, refl, refl, refl)

pub apart_INTQ : Apart INTQ
apart_INTQ = (lit< tt, refl, refl, refl, refl)

pub apart_MHBS : Apart MHBS
apart_MHBS = (lit< tt, refl, refl, refl, refl)

module _ (z : Size) (b : Board) (order : List ℕ) (queues : ℕ → List ℕ) (k bit : ℕ) (p : present b k ≡ true) (a : Apart bit) where
  abbrev o : Status
  o = (task b k).stat

  good-set : SettledBut z b order queues k → Good (with_bit o bit)
  good-set h = (
    with_bit-small o bit (h.fits.task k).stat a.0,
    with_bit_other o bit TCBB a.1 ∙ p,
    with_bit_other o bit BIT5 a.2 ∙ (proper_old z b order queues k p h).bit5,
  )

  good_clear : SettledBut z b order queues k → Good (without_bit o bit)
  good_clear h = (
    without_bit-small o bit (h.fits.task k).stat,
    without_bit_other o bit TCBB a.3 ∙ p,
    without_bit_other o bit BIT5 a.4 ∙ (proper_old z b order queues k p h).bit5,
  )

  -- cleared, all but the flags stays
  pub but_clears : SettledBut z b order queues k → SettledBut z (clears b k bit) order queues k
  but_clears h = but_stat z b order queues k p (without_bit o bit) (good_clear h) h

  -- set, the board is settled where the flags then go together
  pub settled_sets : Settled z b order queues → Flags (with_bit (task b k).stat bit) ((task b k).mptr ≡ 0)
      → Settled z (sets b k bit) order queues
  settled_sets h f = settled_stat z b order queues k p (with_bit o bit) (good-set (settled_but z b order queues k h)) h f

  -- cleared, likewise
  pub settled_clears : Settled z b order queues → Flags (without_bit (task b k).stat bit) ((task b k).mptr ≡ 0)
      → Settled z (clears b k bit) order queues
  settled_clears h f = settled_stat z b order queues k p (without_bit o bit) (good_clear (settled_but z b order queues k h)) h f

-- ---- post interrupt
module _ (s : Status) (Empty : Type 0) (f : Flags s Empty) where
  -- a parked task is woken
  flags-woken : has s IWAT ≡ true → Flags (without_bit s IWAT) Empty
  flags-woken e =
      flags-ready (without_bit s IWAT) Empty (without_bit_other s IWAT WAIT refl ∙ awake (has s WAIT) refl)
      (without_bit-has s IWAT refl)
      (λ d. absurd (true≢false (sym d ∙ without_bit_other s IWAT MHBS refl ∙ (f.parked e).1)))
    where
      awake : (w : Bool) → has s WAIT ≡ w → w ≡ false
      awake true q = absurd (true≢false (sym e ∙ f.one q))
      awake false q = refl

  -- any other has the interrupt queued
  flags-posted : has s IWAT ≡ false → Flags (with_bit s INTQ) Empty
  flags-posted e =
      flags_alike s (with_bit s INTQ) Empty (with_bit_other s INTQ WAIT refl) (with_bit_other s INTQ IWAT refl)
      (with_bit_other s INTQ MHBS refl) e f

module _ (z : Size) (b : Board) (order : List ℕ) (queues : ℕ → List ℕ) (h : Settled z b order queues) where
  -- a present task is posted
  pub settled_post : (k : ℕ) → present b k ≡ true → Settled z (post b k) order queues
  settled_post k p =
      let f = h.flags k (rw h.fits.tasks at (present_numbered b k p)) in
      cond_holds (λ (c : Board). Settled z c order queues) (has (task b k).stat IWAT) (clears b k IWAT) (sets b k INTQ)
      (λ e. settled_clears z b order queues k IWAT p apart_IWAT h (flags-woken (task b k).stat _ f e))
      (λ e. settled_sets z b order queues k INTQ p apart_INTQ h (flags-posted (task b k).stat _ f e))

  -- so its row has it
  pub post_settled : (c k : ℕ) → given (own_row z b c (PostInterrupt k)) ≡ Go → Settled z (post b k) order queues
  post_settled c k g = settled_post k (task-passed z b k (go_passed (no6 z b k) [] g).0).1

  -- ---- wait for interrupt
  -- a ready task that isn't due a message goes on or is parked
  pub settled_wait : (c : ℕ) → present b c ≡ true → let s = (task b c).stat in has s WAIT ≡ false → has s IWAT ≡ false
      → has s MHBS ≡ false → Settled z (wait_interrupt b c) order queues
  settled_wait c p w i m =
      let s : Status = (task b c).stat in
      cond_holds (λ (c : Board). Settled z c order queues) (has s INTQ) (clears b c INTQ) (sets b c IWAT)
      (λ e. settled_clears z b order queues c INTQ p apart_INTQ h (flags-ready (without_bit s INTQ) _
      (without_bit_other s INTQ WAIT refl ∙ w) (without_bit_other s INTQ IWAT refl ∙ i)
      (λ d. absurd (true≢false (sym d ∙ without_bit_other s INTQ MHBS refl ∙ m)))))
      (λ e. settled_sets z b order queues c IWAT p apart_IWAT h (flags-parked (with_bit s IWAT) _
      (with_bit_other s IWAT WAIT refl ∙ w) (with_bit_other s IWAT INTQ refl ∙ e) (with_bit_other s IWAT MHBS refl ∙ m)))

  -- so its row and R7 have it
  pub wait_settled : (c : ℕ) → Awake b c → has (task b c).stat MHBS ≡ false → given (own_row z b c WaitForInterrupt) ≡ Go
      → Settled z (wait_interrupt b c) order queues
  wait_settled c awake m g =
      let r = ready_says b c (awake (runner_passed c (go_passed (no3 c) [] g).0)) in
      settled_wait c r.0 r.1 r.2 m
