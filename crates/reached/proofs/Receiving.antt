-- Nobody is ready, and a task waits for a message: before that it was parked, was woken, received nothing and waited.
-- Assumes nothing.
use mathlib.Core.Path.{◌≡◌, refl, sym, ap, ◌∙◌, subst}
use mathlib.Core.Logic.{◌≢◌, inr}
use mathlib.Core.Bool.{Bool, true, false, true≢false}
use mathlib.Core.List.{[], ◌∷◌}
use Prim.Native.Nat.{ℕ}
use native.Mathlib.Omega.{arith}
use lib.ListN.{length}
use borrow.Author.Tests.{eq-eqb}
use Rattle.links.proofs.Bools.{refuted, cond_holds}
use Rattle.board.specs.declared.numbers.Size.{Size}
use Rattle.board.specs.declared.status.Status.{Status}
use Rattle.board.specs.declared.records.Task.{Task}
use Rattle.board.specs.Numbers.{Numbered}
use Rattle.board.specs.Status.{WAIT, IWAT, INTQ, MHBS, TCBB, has, with_bit, without_bit, is_ready}
use Rattle.board.specs.Records.{no_task, task_with_stat}
use Rattle.board.specs.Board.{Board, task, with_running}
use Rattle.board.proofs.Bits.{without_bit-has, without_bit_other, set_cleared}
use Rattle.paper.specs.declared.call.Call.TheVariants.{PostInterrupt, ReceiveAndWait}
use Rattle.paper.specs.Rules.{present, ready, empty_queue}
use Rattle.paper.specs.Changes.{sets, clears}
use Rattle.paper.specs.Effects.{waits}
use Rattle.linked.proofs.Chosen.{ready_numbered, only_runs}
use Rattle.kept.specs.Settled.{Settled}
use Rattle.kept.specs.Claims.{Sizes}
use Rattle.kept.proofs.Reading.{nth_cases, task_other, task_alike}
use Rattle.kept.proofs.Flagging.{flags-ready, apart_WAIT, settled_clears}
use Rattle.kept.proofs.Dispatching.{settled_running, runs-byte}
use Rattle.past.specs.Past.{back, here, waited}
use Rattle.reached.proofs.Making.{Passing, Makes, makes_then, makes_call}
use Rattle.reached.proofs.Sweeping.{Turned, turned_here}
use Rattle.kept.proofs.Statuses.{is_ready_lem, ready_one, restat_stat, restat_undone, flag_there}
use Rattle.kept.proofs.Going.{go_runs}
use Rattle.reached.proofs.Stages.{Stage, Bare, Still, Parked}
use Rattle.reached.proofs.Parking.{runs_same}
use Rattle.reached.proofs.Waking.{still_w, makes_start, slept_parked}

module _ (z : Size) (a : Sizes z) (k : ℕ) (b : Board) (n : Numbered z.tasks k) (v : Stage z Still 0 b)
    (e : has (task b k).stat WAIT ≡ true) where
  abbrev s : Status
  s = (task b k).stat

  abbrev p : Passing z b 0
  p = v.passing

  abbrev st : Settled z b p.order p.queues
  st = p.settled

  numbered : Numbered (length b.tasks) k
  numbered = rw st.fits.tasks n

  there : present b k ≡ true
  there = flag_there (task b k) WAIT refl (st.regular.records k n) e

  still : (j : ℕ) → ready b j ≡ false
  still j = refuted (ready b j) (λ r. true≢false (sym r ∙ (v.all j (ready_numbered z b st.fits.tasks j r)).1))

  -- ---- it received, with nothing queued
  abbrev d : Board
  d = clears b k WAIT

  abbrev y : Board
  y = with_running (clears b k WAIT) k

  awake : has (without_bit s WAIT) IWAT ≡ false
  awake = without_bit_other s WAIT IWAT refl ∙ (st.flags k n).one e

  idle : has (without_bit s WAIT) MHBS ≡ false
  idle = without_bit_other s WAIT MHBS refl ∙ ((st.flags k n).waiting e).1

  settled_d : Settled z d p.order p.queues
  settled_d =
      settled_clears z b p.order p.queues k WAIT there apart_WAIT st
      (flags-ready (without_bit s WAIT) _ (without_bit-has s WAIT refl) awake (λ g. absurd (true≢false (sym g ∙ idle))))

  stat_d : (task d k).stat ≡ without_bit s WAIT
  stat_d = restat_stat b k (without_bit s WAIT) numbered

  ready_d : ready d k ≡ true
  ready_d =
      ap is_ready stat_d
      ∙ is_ready_lem (without_bit s WAIT) (without_bit_other s WAIT TCBB refl ∙ there) (without_bit-has s WAIT refl) awake

  only : (j : ℕ) → ready d j ≡ true → j ≡ k
  only = ready_one b k _ still

  bare_y : Stage z Bare k y
  bare_y = record {
    passing = record {
      order = p.order;
      queues = p.queues;
      settled = settled_running z d p.order p.queues k
          (runs-byte z d p.order p.queues a settled_d k (only_runs z d settled_d.fits.tasks k ready_d only)) settled_d;
      runs = refl;
      rightly = only_runs z y settled_d.fits.tasks k ready_d only;
      idle = ap (λ (x : Status). has x MHBS) stat_d ∙ idle;
      untimed = p.untimed;
    };
    all = λ j h. nth_cases Bare no_task b.tasks k j (task_with_stat (task b k) (without_bit s WAIT))
        (λ g. (without_bit_other s WAIT INTQ refl ∙ (v.all k n).0.0, (v.all k n).0.1)) (v.all j h).0;
  }

  waits_again : waits k y ≡ with_running b k
  waits_again =
      let i : empty_queue d k ≡ true =
      eq-eqb (task d k).mptr 0 (task_alike (λ (t : Task). t.mptr) b k k _ refl ∙ (v.all k n).0.1) in
      rw i (ap (λ (c : Board). with_running c k) (restat_undone b k (without_bit s WAIT) numbered (λ x. with_bit x WAIT)
      (set_cleared WAIT refl s (st.fits.task k).stat e)))

  makes_receive : Makes z y (ReceiveAndWait ∷ []) b
  makes_receive =
      makes_call z a y k bare_y.passing ReceiveAndWait b 0 p (tt, tt)
      (go_runs k [] (λ w. absurd (omega (arith, n.0, w))) refl) waits_again
      (inr (λ j r. absurd (true≢false (sym r ∙ still j))))

  -- ---- and before that it was parked
  abbrev w : Board
  w = sets (clears b k WAIT) k IWAT

  same : with_running w 0 ≡ w
  same = sym (runs_same w 0 p.runs)

  other : (j : ℕ) → j ≢ k → task w j ≡ task b j
  other j h = task_other d k j _ h ∙ task_other b k j _ h

  turned : Turned z (Stage z Still 0) (λ x j. Parked (task x j)) b k
      (back (sets (clears b k WAIT) k IWAT) (PostInterrupt k ∷ ReceiveAndWait ∷ []))
  turned =
      let u = subst (Stage z Still 0) same (still_w z a k k y n bare_y ready_d refl only) in record {
        earlier = record {
          inv = u;
          makes = makes_then z w y b (PostInterrupt k ∷ []) (ReceiveAndWait ∷ [])
              (subst (λ (x : Board). Makes z x (PostInterrupt k ∷ []) y) same (makes_start z a k k y n bare_y ready_d refl only))
              makes_receive;
        };
        simple = ((u.all k n).0.1, λ h. slept_parked z a k k y n bare_y ready_d);
        keeps = λ j h g. subst Parked (sym (other j (λ i. absurd (omega arith)))) g;
      }

-- back over k, if it waits for a message
pub turn-waited : (z : Size) → Sizes z → (k : ℕ) (b : Board) → Numbered z.tasks k → Stage z Still 0 b
    → Turned z (Stage z Still 0) (λ x j. Parked (task x j)) b k (waited b k)
turn-waited z a k b n v =
    cond_holds (Turned z (Stage z Still 0) (λ x j. Parked (task x j)) b k) (has (task b k).stat WAIT)
    (back (sets (clears b k WAIT) k IWAT) (PostInterrupt k ∷ ReceiveAndWait ∷ [])) (here b)
    (λ e. turned z a k b n v e) (λ e. turned_here z (Stage z Still 0) (λ x j. Parked (task x j)) b k v (parked e))
  where
    -- one that is there and isn't ready waits for an interrupt then
    parked : has (task b k).stat WAIT ≡ false → Parked (task b k)
    parked e = ((v.all k n).0.1, λ h. step h (has (task b k).stat IWAT) refl)
      where
        step : present b k ≡ true → (t : Bool) → has (task b k).stat IWAT ≡ t → has (task b k).stat IWAT ≡ true
        step h true i = i
        step h false i = absurd (true≢false (sym (is_ready_lem (task b k).stat h e i) ∙ (v.all k n).1))
