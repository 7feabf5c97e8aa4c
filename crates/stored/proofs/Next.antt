-- Who runs after a body, as code finds it: the task that ran is compared with the one stirred, and that is who runs next.
-- Assumes nothing.
use mathlib.Core.Path.{◌≡◌, refl, sym, ap, ◌∙◌, subst}
use mathlib.Core.Logic.{◌≢◌}
use mathlib.Core.Bool.{Bool, true, false, cond, ◌&&◌, true≢false}
use Prim.Native.Nat.{ℕ, ◌≤◌}
use native.Mathlib.Omega.{arith}
use native.Mathlib.Decide.{ℕ_discrete}
use lib.Dec.{ltb}
use lib.ListN.{length}
use borrow.Author.Tests.{ltb-true, ltb-false}
use Rattle.links.specs.Chain.{Out}
use Rattle.links.proofs.Bools.{refuted, both}
use Rattle.board.specs.declared.numbers.Size.{Size}
use Rattle.board.specs.declared.records.Task.{Task}
use Rattle.board.specs.Status.{is_ready, number}
use Rattle.board.specs.Records.{no_task}
use Rattle.board.specs.Board.{Board}
use Rattle.board.proofs.Numbered.{nth-put_none}
use Rattle.paper.specs.declared.call.Call.{Call}
use Rattle.paper.specs.declared.call.Call.TheVariants.{Install, CancelTask}
use Rattle.paper.specs.Rules.{present, next_task, order, task_number, ready, outranks, may_run, first_ready, runs_next}
use Rattle.paper.specs.Effects.{install, cancel_task}
use Rattle.paper.specs.Outcomes.{body}
use Rattle.linked.specs.Linked.{Listing}
use Rattle.linked.specs.Sound.{RunsRightly, Leads}
use Rattle.linked.proofs.Running.{ready_says}
use Rattle.linked.proofs.Chosen.{leads_may, says_may_run, first_only, first_runs}
use Rattle.kept.specs.Settled.{Awake}
use Rattle.kept.specs.Touched.{touched, relinks}
use Rattle.kept.proofs.Bodies.{body_frame}

-- ---- what a body may make of who is ready
-- on d at most w and c are ready who were not on b, and nobody else's number is another
pub record Stirs (b d : Board) (c w : ℕ) : Type 0 where
  pub others : (j : ℕ) → j ≢ w → j ≢ c → (ready d j ≡ ready b j) × (task_number d j ≡ task_number b j)
  pub own : ready d c ≡ true → task_number d c ≡ task_number b c

module _ (z : Size) (b : Board) (c : ℕ) (call : Call) where
  abbrev d : Board
  d = (body z b c call).board

  -- a task that is not touched is ready if it was, with the same number
  untouched : (j : ℕ) → Out j (touched b c call).tasks → (ready d j ≡ ready b j) × (task_number d j ≡ task_number b j)
  untouched j o = let e = (body_frame z b c call).tasks j o in
      (ap (λ (t : Task). is_ready t.stat) e, ap (λ (t : Task). number t.prio) e)

  -- where no task is linked anew every PRIO stays
  pub stirs_by : (w : ℕ) → relinks (touched b c call).move ≡ false → ((j : ℕ) → j ≢ w → j ≢ c → Out j (touched b c call).tasks) → Stirs b d c w
  stirs_by w e o = record { others = λ j n m. untouched j (o j n m); own = λ r. ap number ((body_frame z b c call).fields e c).0 }

  -- where only w is touched, and that is not the caller if the caller is still ready
  touches_other : (w : ℕ) → ((j : ℕ) → j ≢ w → Out j (touched b c call).tasks) → (ready d c ≡ true → c ≢ w) → Stirs b d c w
  touches_other w o h = record { others = λ j n m. untouched j (o j n); own = λ r. (untouched c (o c (h r))).1 }

-- install: the caller is there, and the task installed was not
pub install-stirs : (z : Size) (b : Board) (c : ℕ) → Awake b c → (k s p sptr name : ℕ) → present b k ≡ false
    → Stirs b (install z b k s p sptr name) c k
install-stirs z b c awake k s p sptr name absent = touches_other z b c (Install k s p sptr name) k (λ j n. (n, tt)) (λ r e. other r (ℕ_discrete c 0) e)
  where
    other : ready (install z b k s p sptr name) c ≡ true → Dec (c ≡ 0) → c ≢ k
    other r (yes i) e = true≢false (sym r ∙ ap (ready (install z b k s p sptr name)) i)
    other r (no n) e = true≢false (sym (ready_says b c (awake n)).0 ∙ ap (present b) e ∙ absent)

-- cancel task: who is cancelled is not ready
pub cancel_stirs : (z : Size) (b : Board) (c k : ℕ) → Stirs b (cancel_task z b k) c k
cancel_stirs z b c k = touches_other z b c (CancelTask k) k (λ j n. (n, tt))
    (λ r e. true≢false (sym r ∙ ap (ready (cancel_task z b k)) e ∙ ap (λ (t : Task). is_ready t.stat) (nth-put_none no_task _ k)))

-- ---- what code asks, on the board d
abbrev pub then_on : Size → Board → ℕ → ℕ → ℕ
then_on z d c w = cond (ready d c) (cond (outranks d c w) w c) (first_ready z d)

-- ---- c ran rightly on b
module _ (z : Size) (b d : Board) (c w : ℕ) (right : RunsRightly b c) (tasks : length d.tasks ≡ z.tasks)
    (listed : Listing (next_task d) (task_number d) d.first (order z d) (λ k. present d k ≡ true)) (ran : d.running ≡ c)
    (stirs : Stirs b d c w) where
  -- where c is ready, nobody but w has a smaller number
  behind : ready d c ≡ true → (j : ℕ) → ready d j ≡ true → j ≢ w → task_number d c ≤ task_number d j
  behind r j e n = step (ℕ_discrete j c)
    where
      some : c ≢ 0
      some i = true≢false (sym r ∙ ap (ready d) i)

      step : Dec (j ≡ c) → task_number d c ≤ task_number d j
      step (yes i) = subst (λ (x : ℕ). task_number d c ≤ task_number d x) (sym i) (omega arith)
      step (no m) =
          let o = stirs.others j n m in
          let k = (right.leads some).smallest j (sym o.0 ∙ e) in
          let x = stirs.own r in
          let y = o.1 in
          omega (arith, k, x, y)

  -- w outranks c: it is the first ready one
  overtaken : ready d c ≡ true → outranks d c w ≡ true → w ≡ cond (may_run z d c) c (first_ready z d)
  overtaken r e =
      let (awake, less) = both (ready d w) (ltb (task_number d w) (task_number d c)) e in
      let below = ltb-true (task_number d w) (task_number d c) less in
      let first = first_only z d tasks listed w awake (λ k f n. let x = behind r k f n in omega (arith, below, x)) in
      let not-c = refuted (may_run z d c) (λ m. let x = ((says_may_run z d tasks c).0 m).smallest w awake in absurd (omega (arith, below, x))) in
      sym first ∙ ap (λ (t : Bool). cond t c (first_ready z d)) (sym not-c)

  -- it does not: c goes on
  goes_on : ready d c ≡ true → outranks d c w ≡ false → c ≡ cond (may_run z d c) c (first_ready z d)
  goes_on r e = ap (λ (t : Bool). cond t c (first_ready z d)) (sym (leads_may z d c (record { awake = r; smallest = smallest })))
    where
      smallest : (j : ℕ) → ready d j ≡ true → task_number d c ≤ task_number d j
      smallest j f = step (ℕ_discrete j w)
        where
          step : Dec (j ≡ w) → task_number d c ≤ task_number d j
          step (yes i) = ltb-false (task_number d j) (task_number d c)
              (ap (λ (t : Bool). t && ltb (task_number d j) (task_number d c)) (sym f) ∙ ap (outranks d c) i ∙ e)
          step (no n) = behind r j f n

  pub then_next : then_on z d c w ≡ runs_next z d
  then_next = step (ready d c) refl (outranks d c w) refl ∙ ap (λ (k : ℕ). cond (may_run z d k) k (first_ready z d)) (sym ran)
    where
      step : (t : Bool) → ready d c ≡ t → (u : Bool) → outranks d c w ≡ u → cond t (cond u w c) (first_ready z d) ≡ cond (may_run z d c) c (first_ready z d)
      step true r true e = overtaken r e
      step true r false e = goes_on r e
      step false r u e = rw r

-- ---- where it is the first ready task that is compared with c, nothing need be known of what was before
pub first_next : (z : Size) (d : Board) (c : ℕ) → length d.tasks ≡ z.tasks
    → Listing (next_task d) (task_number d) d.first (order z d) (λ k. present d k ≡ true) → d.running ≡ c
    → then_on z d c (first_ready z d) ≡ runs_next z d
first_next z d c tasks listed ran =
    step (ready d c) refl (outranks d c f) refl ∙ ap (λ (k : ℕ). cond (may_run z d k) k (first_ready z d)) (sym ran)
  where
    f : ℕ
    f = first_ready z d

    -- f is ready and has the smallest number
    first : ready d c ≡ true → Leads d f
    first r = (first_runs z d tasks listed).leads (λ e. true≢false (sym r ∙ (first_runs z d tasks listed).nobody.0 e c))

    step : (t : Bool) → ready d c ≡ t → (u : Bool) → outranks d c f ≡ u → cond t (cond u f c) (first_ready z d) ≡ cond (may_run z d c) c (first_ready z d)
    step true r true e =
        let (awake, less) = both (ready d f) (ltb (task_number d f) (task_number d c)) e in
        let below = ltb-true (task_number d f) (task_number d c) less in
        let not-c = refuted (may_run z d c) (λ m. let x = ((says_may_run z d tasks c).0 m).smallest f awake in absurd (omega (arith, below, x))) in
        rw not-c
    step true r false e =
        let least = first r in
        let above = ltb-false (task_number d f) (task_number d c) (ap (λ (t : Bool). t && ltb (task_number d f) (task_number d c)) (sym least.awake) ∙ e) in
        rw (leads_may z d c (record { awake = r; smallest = λ j g. omega (arith, above, least.smallest j g) }))
    step false r u e = rw r
