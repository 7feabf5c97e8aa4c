-- No interrupt is queued, nobody runs, and a message is queued: the task of that queue is parked, and before that it ran.
-- Assumes nothing.
use mathlib.Core.Path.{◌≡◌, refl, sym, ap, ◌∙◌, subst}
use mathlib.Core.Logic.{◌≢◌, ◌⊎◌, inl, inr}
use mathlib.Core.Bool.{Bool, true, false, not, ◌&&◌, true≢false}
use mathlib.Core.List.{[], ◌∷◌}
use Prim.Native.Nat.{ℕ}
use native.Mathlib.Omega.{arith}
use lib.Dec.{eqb}
use borrow.Author.Tests.{eqb-true, eqb-false, eq-eqb, not-true}
use Rattle.links.specs.Queue.{each, smallest_failing}
use Rattle.links.proofs.Bools.{refuted, both, cond_holds, each_at}
use Rattle.links.proofs.Smallest.{smallest_none, smallest_one, smallest_fails}
use Rattle.board.specs.declared.numbers.Size.{Size}
use Rattle.board.specs.declared.records.Task.{Task}
use Rattle.board.specs.Numbers.{Numbered}
use Rattle.board.specs.Status.{WAIT, IWAT, INTQ, has, without_bit}
use Rattle.board.specs.Records.{no_task, task_with_stat}
use Rattle.board.specs.Board.{Board, task, with_running}
use Rattle.board.proofs.Bits.{without_bit_other}
use Rattle.paper.specs.declared.call.Call.TheVariants.{WaitForInterrupt}
use Rattle.paper.specs.Rules.{ready, empty_queue}
use Rattle.paper.specs.Changes.{clears}
use Rattle.linked.specs.Sound.{Proper}
use Rattle.kept.specs.Claims.{Sizes}
use Rattle.kept.proofs.Reading.{nth_cases}
use Rattle.past.specs.Past.{back, here, stopped}
use Rattle.reached.proofs.Making.{Passing}
use Rattle.reached.proofs.Sweeping.{Earlier, is_here}
use Rattle.kept.proofs.Statuses.{is_ready_lem}
use Rattle.reached.proofs.Stages.{Stage, Quiet, Led}
use Rattle.reached.proofs.Parking.{passing_awoken, makes_wait}

-- somebody who runs, if a message is queued
abbrev pub SomeLed : Size → Board → Type 0
SomeLed z b = (c : ℕ) × Led z c b

module _ (z : Size) (a : Sizes z) (c : ℕ) (b : Board) (v : Stage z Quiet c b) where
  abbrev k : ℕ
  k = smallest_failing (empty_queue b) z.tasks

  -- where there is one whose queue isn't empty, it is of the board's
  some : k ≢ 0 → Numbered z.tasks k × ((task b k).mptr ≢ 0)
  some h = step (each (empty_queue b) z.tasks) refl
    where
      step : (t : Bool) → each (empty_queue b) z.tasks ≡ t → Numbered z.tasks k × ((task b k).mptr ≢ 0)
      step true e = absurd (h (smallest_none (empty_queue b) z.tasks e))
      step false e =
          (smallest_one (empty_queue b) z.tasks e, eqb-false (task b k).mptr 0 (smallest_fails (empty_queue b) z.tasks e))

  -- where there is none all are empty
  none : k ≡ 0 → (j : ℕ) → Numbered z.tasks j → (task b j).mptr ≡ 0
  none h j n = step (each (empty_queue b) z.tasks) refl
    where
      step : (t : Bool) → each (empty_queue b) z.tasks ≡ t → (task b j).mptr ≡ 0
      step true e = eqb-true (task b j).mptr 0 (each_at (empty_queue b) z.tasks e j n.0 n.1)
      step false e = absurd (omega (arith, h, (smallest_one (empty_queue b) z.tasks e).0))

  -- nobody is ready, so one with a message is parked
  parked : ((j : ℕ) → ready b j ≡ false) → (j : ℕ) → Numbered z.tasks j → (task b j).mptr ≢ 0 → has (task b j).stat IWAT ≡ true
  parked still j n e = split (v.passing.settled.regular.records j n) (has (task b j).stat IWAT) refl
    where
      split : (task b j ≡ no_task) ⊎ Proper (task b j) → (t : Bool) → has (task b j).stat IWAT ≡ t
          → has (task b j).stat IWAT ≡ true
      split r true i = i
      split (inl d) false i = absurd (e (ap (λ (t : Task). t.mptr) d))
      split (inr d) false i =
          let w = refuted (has (task b j).stat WAIT) (λ w. e ((v.passing.settled.flags j n).waiting w).0) in
          absurd (true≢false (sym (is_ready_lem (task b j).stat d.there w i) ∙ still j))

  -- it was awake before, and ran
  woken : c ≡ 0 → k ≢ 0 → Earlier z (SomeLed z) b (back (with_running (clears b k IWAT) k) (WaitForInterrupt ∷ []))
  woken e h =
      let (n, m) = some h in
      let p : Passing z b 0 = subst (Passing z b) e v.passing in
      let still = v.passing.rightly.nobody.0 e in
      let i = parked still k n m in
      let s = (task b k).stat in record {
        inv = (
          k,
          record {
            stage = record {
              passing = passing_awoken z a b p still k n i;
              all = λ j g. nth_cases Quiet no_task b.tasks k j (task_with_stat (task b k) (without_bit s IWAT))
                  (λ d. without_bit_other s IWAT INTQ refl ∙ v.all k n) (v.all j g);
            };
            runs = λ j g d. h;
          },
        );
        makes = makes_wait z a b p still k n i;
      }

  -- somebody runs, or nothing is queued
  led : eqb b.running 0 && not (eqb k 0) ≡ false → Led z c b
  led t = record { stage = v; runs = λ j n m e. m (none (idle e) j n) }
    where
      idle : c ≡ 0 → k ≡ 0
      idle e = step (eqb k 0) refl
        where
          step : (u : Bool) → eqb k 0 ≡ u → k ≡ 0
          step true i = eqb-true k 0 i
          step false i = absurd (true≢false (sym (rw (eq-eqb b.running 0 (v.passing.runs ∙ e), i)) ∙ t))

  -- back over the wait of the one that ran
  pub back_stopped : Earlier z (SomeLed z) b (stopped z b)
  back_stopped =
      cond_holds (Earlier z (SomeLed z) b) (eqb b.running 0 && not (eqb k 0))
      (back (with_running (clears b k IWAT) k) (WaitForInterrupt ∷ [])) (here b)
      (λ t. let (e, h) = both (eqb b.running 0) (not (eqb k 0)) t in
      woken (sym v.passing.runs ∙ eqb-true b.running 0 e) (eqb-false k 0 (not-true (eqb k 0) h)))
      (λ t. is_here z (SomeLed z) b (c, led t))
