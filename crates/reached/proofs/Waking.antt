-- Tasks that are ready, with no message queued: before that each was parked, and was posted an interrupt. First those that don't run, then
-- the one that does.
-- Assumes nothing.
use mathlib.Core.Path.{◌≡◌, refl, sym, ap, ◌∙◌, subst}
use mathlib.Core.Logic.{◌≢◌, inl, inr}
use mathlib.Core.Bool.{Bool, true, false, cond, not, ◌&&◌, true≢false}
use mathlib.Core.List.{[], ◌∷◌}
use Prim.Native.Nat.{ℕ}
use native.Mathlib.Omega.{arith}
use lib.Dec.{eqb}
use borrow.Author.Tests.{eqb-true, eqb-false, not-true}
use Rattle.links.proofs.Bools.{refuted, both, cond_holds}
use Rattle.board.specs.declared.numbers.Size.{Size}
use Rattle.board.specs.declared.status.Status.{Status}
use Rattle.board.specs.declared.records.Task.{Task}
use Rattle.board.specs.Numbers.{Numbered}
use Rattle.board.specs.Status.{WAIT, IWAT, INTQ, MHBS, TCBB, has, with_bit, without_bit, is_ready, number}
use Rattle.board.specs.Records.{no_task, task_with_stat}
use Rattle.board.specs.Board.{Board, task, with_running}
use Rattle.board.proofs.Bits.{with_bit_other, clear_set, with_bit-has}
use Rattle.paper.specs.declared.call.Call.TheVariants.{PostInterrupt}
use Rattle.paper.specs.Rules.{is_there, present, ready}
use Rattle.paper.specs.Changes.{sets, clears}
use Rattle.linked.proofs.Running.{ready_says}
use Rattle.linked.proofs.Chosen.{fewer_runs, none_runs, ready_numbered}
use Rattle.kept.specs.Settled.{Settled}
use Rattle.kept.specs.Claims.{Sizes}
use Rattle.kept.proofs.Reading.{nth_cases, task_other, task_alike}
use Rattle.kept.proofs.Flagging.{flags-parked, apart_IWAT, settled_sets}
use Rattle.kept.proofs.Waiting.{none_due}
use Rattle.kept.proofs.Dispatching.{settled_running}
use Rattle.past.specs.Past.{back, here, readied, started}
use Rattle.reached.proofs.Making.{Passing, Makes, makes_call}
use Rattle.reached.proofs.Sweeping.{Earlier, is_here, Turned, turned_here}
use Rattle.kept.proofs.Statuses.{unready, restat_stat, restat_undone}
use Rattle.kept.proofs.Going.{go_there, task-word}
use Rattle.reached.proofs.Stages.{Stage, Bare, Still}
use Rattle.reached.proofs.Parking.{runs_same, makes_wake}

-- ---- k is ready and no message is queued: it is parked instead
module _ (z : Size) (a : Sizes z) (c k : ℕ) (b : Board) (n : Numbered z.tasks k) (v : Stage z Bare c b)
    (e : ready b k ≡ true) where
  abbrev s : Status
  s = (task b k).stat

  abbrev p : Passing z b c
  p = v.passing

  abbrev st : Settled z b p.order p.queues
  st = p.settled

  abbrev t : Task
  t = task_with_stat (task b k) (with_bit s IWAT)

  abbrev y : Board
  y = sets b k IWAT

  says : (present b k ≡ true) × (has (task b k).stat WAIT ≡ false) × (has (task b k).stat IWAT ≡ false)
  says = ready_says b k e

  idle_b : (j : ℕ) → has (task b j).stat MHBS ≡ false
  idle_b = none_due z b p.order p.queues st (λ j h. (v.all j h).1)

  settled_slept : Settled z (sets b k IWAT) p.order p.queues
  settled_slept =
      settled_sets z b p.order p.queues k IWAT says.0 apart_IWAT st
      (flags-parked (with_bit s IWAT) _ (with_bit_other s IWAT WAIT refl ∙ says.1) (with_bit_other s IWAT INTQ refl ∙ (v.all k n).0)
      (with_bit_other s IWAT MHBS refl ∙ idle_b k))

  bare_t : Bare t
  bare_t = (with_bit_other s IWAT INTQ refl ∙ (v.all k n).0, (v.all k n).1)

  slept_bare : (j : ℕ) → Numbered z.tasks j → Bare (task (sets b k IWAT) j)
  slept_bare j g = nth_cases Bare no_task b.tasks k j t (λ d. bare_t) (v.all j g)

  idle_y : (j : ℕ) → has (task y j).stat MHBS ≡ false
  idle_y = none_due z y p.order p.queues settled_slept (λ j h. (slept_bare j h).1)

  asleep : is_ready (with_bit s IWAT) ≡ false
  asleep = unready (with_bit s IWAT) (inr (with_bit-has IWAT refl s (st.fits.task k).stat))

  slept_unready : ready (sets b k IWAT) k ≡ false
  slept_unready = ap is_ready (restat_stat b k (with_bit s IWAT) (rw st.fits.tasks n)) ∙ asleep

  -- whoever is ready was
  slept_fewer : (j : ℕ) → ready (sets b k IWAT) j ≡ true → ready b j ≡ true
  slept_fewer j = nth_cases (λ (x : Task). is_ready x.stat ≡ true → ready b j ≡ true) no_task b.tasks k j t
      (λ d r. absurd (true≢false (sym r ∙ asleep))) (λ r. r)

  -- it waits for an interrupt
  pub slept_parked : has (task (sets b k IWAT) k).stat IWAT ≡ true
  slept_parked = ap (λ (x : Status). has x IWAT) (restat_stat b k (with_bit s IWAT) (rw st.fits.tasks n))
      ∙ with_bit-has IWAT refl s (st.fits.task k).stat

  -- a post wakes it again
  woken_again : clears (sets b k IWAT) k IWAT ≡ b
  woken_again =
      restat_undone b k (with_bit s IWAT) (rw st.fits.tasks n) (λ x. without_bit x IWAT)
      (clear_set IWAT refl s (st.fits.task k).stat says.2)

  -- ---- it doesn't run
  module _ (other : k ≢ c) (up : ready b c ≡ true) where
    passing_y : Passing z y c
    passing_y = record {
      order = p.order;
      queues = p.queues;
      settled = settled_slept;
      runs = p.runs;
      rightly = fewer_runs b y c slept_fewer (λ j. task_alike (λ (x : Task). number x.prio) b k j t refl)
          (ap (λ (x : Task). is_ready x.stat) (task_other b k c t (λ d. other (sym d))) ∙ up) p.rightly;
      idle = idle_y c;
      untimed = p.untimed;
    }

    makes_post : Makes z y (PostInterrupt k ∷ []) b
    makes_post =
        let there : present y k ≡ true = task_alike is_there b k k t (with_bit_other s IWAT TCBB refl) ∙ says.0 in
        makes_call z a y c passing_y (PostInterrupt k) b c p ((task-word z a k n, tt), tt) (go_there z y k [] n there refl)
        (rw slept_parked (woken_again ∙ runs_same b c p.runs)) (inl refl)

  -- ---- it runs, and no other is ready
  module _ (same : c ≡ k) (only : (j : ℕ) → ready b j ≡ true → j ≡ k) where
    abbrev w : Board
    w = with_running (sets b k IWAT) 0

    still : (j : ℕ) → ready w j ≡ false
    still j = refuted (ready y j) (λ r.
        true≢false (sym r ∙ ap (ready y) (only j (slept_fewer j r)) ∙ slept_unready))

    passing_w : Passing z w 0
    passing_w = record {
      order = p.order;
      queues = p.queues;
      settled = settled_running z y p.order p.queues 0 (omega arith) settled_slept;
      runs = refl;
      rightly = none_runs w still;
      idle = refl;
      untimed = p.untimed;
    }

    -- nobody is ready then
    pub still_w : Stage z Still 0 (with_running (sets b k IWAT) 0)
    still_w = record { passing = passing_w; all = λ j g. (slept_bare j g, still j) }

    -- and a post makes it run
    pub makes_start : Makes z (with_running (sets b k IWAT) 0) (PostInterrupt k ∷ []) b
    makes_start =
        subst (Makes z w (PostInterrupt k ∷ []))
        (ap (λ (x : Board). with_running x k) woken_again ∙ sym (runs_same b k (p.runs ∙ same)))
        (makes_wake z a w passing_w still k n slept_parked)

-- ---- as turns
-- no other than the one who runs is ready
abbrev pub Alone : ℕ → Board → ℕ → Type 0
Alone c b j = ready b j ≡ true → j ≡ c

-- back over k, if it is ready and doesn't run
pub turn-readied : (z : Size) → Sizes z → (c k : ℕ) (b : Board) → Numbered z.tasks k → Stage z Bare c b
    → Turned z (Stage z Bare c) (Alone c) b k (readied b k)
turn-readied z a c k b n v =
    cond_holds (Turned z (Stage z Bare c) (Alone c) b k) (ready b k && not (eqb k b.running))
    (back (sets b k IWAT) (PostInterrupt k ∷ [])) (here b)
    (λ t. let (e, o) = both (ready b k) (not (eqb k b.running)) t in
    went e (λ d. eqb-false k b.running (not-true (eqb k b.running) o) (d ∙ sym v.passing.runs)))
    (λ t. turned_here z (Stage z Bare c) (Alone c) b k v (alone t))
  where
    alone : ready b k && not (eqb k b.running) ≡ false → Alone c b k
    alone t e = step (eqb k b.running) refl
      where
        step : (o : Bool) → eqb k b.running ≡ o → k ≡ c
        step true o = eqb-true k b.running o ∙ v.passing.runs
        step false o = absurd (true≢false (sym (rw (e, o)) ∙ t))

    went : ready b k ≡ true → k ≢ c → Turned z (Stage z Bare c) (Alone c) b k (back (sets b k IWAT) (PostInterrupt k ∷ []))
    went e o =
        let some : c ≢ 0 = λ i. true≢false (sym e ∙ v.passing.rightly.nobody.0 i k) in
        let up = (v.passing.rightly.leads some).awake in record {
          earlier = record {
            inv = record { passing = passing_y z a c k b n v e o up; all = slept_bare z a c k b n v e };
            makes = makes_post z a c k b n v e o up;
          };
          simple = λ r. absurd (true≢false (sym r ∙ slept_unready z a c k b n v e));
          keeps = λ j h g r. g (slept_fewer z a c k b n v e j r);
        }

-- back over the one who runs, if any, where no other is ready
pub back_started : (z : Size) → Sizes z → (c : ℕ) (b : Board) → Stage z Bare c b → ((k : ℕ) → Numbered z.tasks k → Alone c b k)
    → Earlier z (Stage z Still 0) b (started b)
back_started z a c b v h =
    subst (λ (k : ℕ). Earlier z (Stage z Still 0) b
    (cond (eqb k 0) (here b) (back (with_running (sets b k IWAT) 0) (PostInterrupt k ∷ [])))) (sym v.passing.runs)
    (cond_holds (Earlier z (Stage z Still 0) b) (eqb c 0) (here b) (back (with_running (sets b c IWAT) 0) (PostInterrupt c ∷ []))
    (λ e. is_here z (Stage z Still 0) b (nobody (eqb-true c 0 e))) (λ e. went (eqb-false c 0 e)))
  where
    only : (j : ℕ) → ready b j ≡ true → j ≡ c
    only j r = h j (ready_numbered z b v.passing.settled.fits.tasks j r) r

    nobody : c ≡ 0 → Stage z Still 0 b
    nobody e = record {
      passing = subst (Passing z b) e v.passing;
      all = λ k n. (v.all k n, v.passing.rightly.nobody.0 e k);
    }

    went : c ≢ 0 → Earlier z (Stage z Still 0) b (back (with_running (sets b c IWAT) 0) (PostInterrupt c ∷ []))
    went o =
        let r = (v.passing.rightly.leads o).awake in
        let n = ready_numbered z b v.passing.settled.fits.tasks c r in
        record { inv = still_w z a c c b n v r refl only; makes = makes_start z a c c b n v r refl only }
