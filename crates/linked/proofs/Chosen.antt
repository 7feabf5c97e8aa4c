-- Who runs: what R7's tests say, and that whoever is chosen after a call's effect runs rightly.
-- Assumes nothing.
use mathlib.Core.Path.{◌≡◌, refl, sym, ap, ◌∙◌, subst}
use mathlib.Core.Logic.Iff
use mathlib.Core.Logic.{◌≢◌}
use mathlib.Core.Bool.{Bool, true, false, cond, not, ◌&&◌, true≢false}
use Prim.Native.Nat.{ℕ, ◌≤◌, ◌<◌}
use native.Mathlib.Omega.{arith}
use native.Mathlib.Decide.{ℕ_discrete}
use lib.ListN.{length}
use lib.Dec.{eqb, ltb}
use borrow.Author.Tests.{eqb-true, eq-eqb, ne_eqb, ltb-false, le-ltb}
use Rattle.std.specs.Prelude.{Some, None}
use Rattle.links.specs.Queue.{each}
use Rattle.links.specs.Chain.{In}
use Rattle.links.proofs.Bools.{refuted, both, and_true, cond_holds, each_all}
use Rattle.links.proofs.Members.{not_in_out}
use Rattle.board.specs.declared.numbers.Size.{Size}
use Rattle.board.specs.Numbers.{Numbered, task_no, task_meant, number_of_task}
use Rattle.board.specs.Status.{MHBS, has}
use Rattle.board.specs.Records.{no_task}
use Rattle.board.specs.Board.{Board, task}
use Rattle.board.proofs.Pieces.{within-outside}
use Rattle.paper.specs.Rules.{is_there, present, next_task, order, task_number, ready, nobody_ready, may_run, first_ready, runs_next, rule2_at, rule3, rule5_at, rule6_at, rules2to6, rule7}
use Rattle.linked.specs.Linked.{Listing}
use Rattle.linked.specs.Sound.{Leads, RunsRightly}
use Rattle.linked.proofs.Says.{Says, ◌&◌, says_not, says_apart, says_each, says_same}
use Rattle.linked.proofs.Listings.{lists_listing}
use Rattle.linked.proofs.Running.{present_numbered, ready_says, first_with_lem, first_none, first_least}

-- one who leads may run
pub leads_may : (z : Size) (b : Board) (c : ℕ) → Leads b c → may_run z b c ≡ true
leads_may z b c l =
    and_true (ready b c) _ l.awake
    (each_all _ z.tasks (λ k i j. says_apart.1 (λ e. le-ltb (task_number b k) (task_number b c) (l.smallest k e))))

-- where as many are ready, with the same numbers, the same run rightly
pub runs_alike : (b d : Board) (c : ℕ) → ((k : ℕ) → ready d k ≡ ready b k) → ((k : ℕ) → task_number d k ≡ task_number b k)
    → RunsRightly b c → RunsRightly d c
runs_alike b d c r n h = record {
  nobody = ((λ e k. r k ∙ h.nobody.0 e k), λ f. h.nobody.1 (λ k. sym (r k) ∙ f k));
  leads = λ e. let l = h.leads e in record {
    awake = r c ∙ l.awake;
    smallest = λ k f. subst (λ (x : ℕ). x ≤ task_number d k) (sym (n c))
        (subst (λ (x : ℕ). task_number b c ≤ x) (sym (n k)) (l.smallest k (sym (r k) ∙ f)));
  };
}

-- where fewer are ready, and c still is, c still runs rightly
pub fewer_runs : (b d : Board) (c : ℕ) → ((j : ℕ) → ready d j ≡ true → ready b j ≡ true)
    → ((j : ℕ) → task_number d j ≡ task_number b j) → ready d c ≡ true → RunsRightly b c → RunsRightly d c
fewer_runs b d c h n e r = record {
  nobody = ((λ i. absurd (true≢false (sym (h c e) ∙ r.nobody.0 i c))), λ f. absurd (true≢false (sym e ∙ f c)));
  leads = λ i. record { awake = e; smallest = λ j f. omega (arith, n c, n j, (r.leads i).smallest j (h j f)) };
}

-- where nobody is ready nobody runs
pub none_runs : (b : Board) → ((j : ℕ) → ready b j ≡ false) → RunsRightly b 0
none_runs b h = record { nobody = ((λ e. h), λ g. refl); leads = λ n. absurd (n refl) }

-- R3 is one of R2 to R6, whichever R4 is
pub rules3 : (z : Size) (b : Board) (r4 : ℕ → Bool) → rules2to6 z b r4 ≡ true → rule3 z b ≡ true
rules3 z b r4 =
    third (each (rule2_at b) z.tasks) (rule3 z b) (each r4 z.messages) (each (rule5_at z b) z.tasks) (each (rule6_at b) z.tasks)
  where
    third : (r s t u v : Bool) → r && s && t && u && v ≡ true → s ≡ true
    third r s t u v h = (both r s (both (r && s) t (both (r && s && t) u (both (r && s && t && u) v h).0).0).0).1

-- the board has as many tasks as its size says
module _ (z : Size) (b : Board) (tasks : length b.tasks ≡ z.tasks) where
  -- ---- what the tests say
  -- a ready task is one of the board's
  pub ready_numbered : (k : ℕ) → ready b k ≡ true → Numbered z.tasks k
  ready_numbered k e = rw (← tasks) (present_numbered b k (ready_says b k e).0)

  -- so is the first ready one
  pub first_numbered : first_ready z b ≢ 0 → Numbered z.tasks (first_ready z b)
  first_numbered n = ready_numbered (first_ready z b) (first_with_lem (ready b) (order z b) n).1

  -- a task that is ready, if there is one, as the task meant
  pub awake-meant : (c : ℕ) → (c ≢ 0 → ready b c ≡ true) → number_of_task (task_meant z c) ≡ c
  awake-meant c h = step (ℕ_discrete c 0)
    where
      step : Dec (c ≡ 0) → number_of_task (task_meant z c) ≡ c
      step (yes e) = ap (λ (k : ℕ). number_of_task (task_meant z k)) e ∙ sym e
      step (no n) =
          let i = ready_numbered c (h n) in
          ap (λ (t : Bool). number_of_task (cond t None (Some (task_no c)))) (within-outside z.tasks c i.0 i.1)

  -- so the first ready one
  pub first_meant : number_of_task (task_meant z (first_ready z b)) ≡ first_ready z b
  first_meant = awake-meant (first_ready z b) (λ n. (first_with_lem (ready b) (order z b) n).1)

  -- nobody is ready
  pub says_nobody_ready : Says (nobody_ready z b) ((k : ℕ) → ready b k ≡ false)
  says_nobody_ready =
      Iff.trans (says_each (λ k. says_not))
      ((λ h k. refuted (ready b k) (λ e. true≢false (sym e ∙ h k (ready_numbered k e)))), λ h k i. h k)

  -- c is ready and nobody ready has a smaller number
  pub says_may_run : (c : ℕ) → Says (may_run z b c) (Leads b c)
  says_may_run c = (
    (λ e. let (r, h) = (Iff.rfl & says_each (λ k. says_apart)).0 e in
        record { awake = r; smallest = λ k i. ltb-false (task_number b k) (task_number b c) (h k (ready_numbered k i) i) }),
    leads_may z b c,
  )

  -- one who leads is somebody
  pub leads_somebody : (c : ℕ) → Leads b c → c ≢ 0
  leads_somebody c l e = true≢false (sym l.awake ∙ ap (ready b) e)

  pub leads-runs : (c : ℕ) → Leads b c → RunsRightly b c
  leads-runs c l = record {
    nobody = ((λ e. absurd (leads_somebody c l e)), λ h. absurd (true≢false (sym l.awake ∙ h c)));
    leads = λ n. l;
  }

  -- so does the only one that is ready
  pub only_runs : (c : ℕ) → ready b c ≡ true → ((j : ℕ) → ready b j ≡ true → j ≡ c) → RunsRightly b c
  only_runs c e h =
      leads-runs c (record {
        awake = e;
        smallest = λ j r. subst (λ (k : ℕ). task_number b c ≤ task_number b k) (sym (h j r)) (omega arith);
      })

  pub says_rule7 : let c = b.running in Says (rule7 z b) (RunsRightly b c × (has (task b c).stat MHBS ≡ false))
  says_rule7 = step (nobody_ready z b) refl says_nobody_ready
    where
      c : ℕ
      c = b.running

      step : (t : Bool) → nobody_ready z b ≡ t → Says (nobody_ready z b) ((k : ℕ) → ready b k ≡ false)
          → Says (cond t (eqb c 0) (may_run z b c && not (has (task b c).stat MHBS))) (RunsRightly b c × (has (task b c).stat MHBS ≡ false))
      step true e s = (
        (λ d. let i = eqb-true c 0 d in
            (record { nobody = ((λ j. s.0 e), λ j. i); leads = λ n. absurd (n i) }, ap (λ (k : ℕ). has (task b k).stat MHBS) i)),
        λ h. eq-eqb c 0 (h.0.nobody.1 (s.0 e)),
      )
      step false e s =
          Iff.trans (says_may_run c & says_not)
          ((λ (l, i). (leads-runs c l, i)), λ (h, i). (h.leads (λ j. true≢false (sym (s.1 (h.nobody.0 j)) ∙ e)), i))

  -- R3: the links list the tasks in order
  pub tasks_listed : rule3 z b ≡ true → Listing (next_task b) (task_number b) b.first (order z b) (λ k. present b k ≡ true)
  tasks_listed = lists_listing no_task is_there b.tasks refl (λ k. Iff.rfl) (next_task b) (task_number b) z.messages b.first

  -- ---- who is chosen, on a board whose links list its tasks in order
  module _ (listed : Listing (next_task b) (task_number b) b.first (order z b) (λ k. present b k ≡ true)) where
    in_order : (k : ℕ) → ready b k ≡ true → In k (order z b)
    in_order k e = (listed.exact k).1 (ready_says b k e).0

    -- the first ready one
    pub first_runs : RunsRightly b (first_ready z b)
    first_runs = record {
      nobody = (
        (λ e k. refuted (ready b k) (λ h. true≢false (sym h
            ∙ first_none (ready b) (order z b) (not_in_out 0 (order z b) (λ i. true≢false (sym ((listed.exact 0).0 i)))) e k (in_order k h)))),
        λ h. none (ℕ_discrete (first_ready z b) 0) h,
      );
      leads = λ n. record {
        awake = (first_with_lem (ready b) (order z b) n).1;
        smallest = λ k e. first_least (ready b) (task_number b) (order z b) listed.sorted k (in_order k e) e;
      };
    }
      where
        none : Dec (first_ready z b ≡ 0) → ((k : ℕ) → ready b k ≡ false) → first_ready z b ≡ 0
        none (yes e) h = e
        none (no n) h = absurd (true≢false (sym (first_with_lem (ready b) (order z b) n).1 ∙ h (first_ready z b)))

    -- R7 where the first ready one is known: the task that runs is compared with it alone
    pub rule7_first : let c = b.running in let f = first_ready z b in
        rule7 z b ≡ cond (eqb f 0) (eqb c 0) (ready b c && not (ltb (task_number b f) (task_number b c)) && not (has (task b c).stat MHBS))
    rule7_first = says_same says_rule7 (step (ℕ_discrete f 0))
      where
        c : ℕ
        c = b.running

        f : ℕ
        f = first_ready z b

        step : Dec (f ≡ 0)
            → Says (cond (eqb f 0) (eqb c 0) (ready b c && not (ltb (task_number b f) (task_number b c)) && not (has (task b c).stat MHBS)))
            (RunsRightly b c × (has (task b c).stat MHBS ≡ false))
        step (yes e) = let none = first_runs.nobody.0 e in rw (eq-eqb f 0 e) (
          (λ d. let i = eqb-true c 0 d in
              (record { nobody = ((λ j. none), λ j. i); leads = λ n. absurd (n i) }, ap (λ (k : ℕ). has (task b k).stat MHBS) i)),
          λ h. eq-eqb c 0 (h.0.nobody.1 none),
        )
        step (no n) = let l = first_runs.leads n in rw (ne_eqb f 0 n) (Iff.trans (Iff.rfl & says_not & says_not) (
          (λ ((r, h), i). (
            leads-runs c (record {
              awake = r;
              smallest = λ k e. let x = ltb-false (task_number b f) (task_number b c) h in let y = l.smallest k e in omega (arith, x, y);
            }),
            i,
          )),
          λ (h, i). let some : c ≢ 0 = λ e. true≢false (sym l.awake ∙ h.nobody.0 e f) in
              (((h.leads some).awake, le-ltb (task_number b f) (task_number b c) ((h.leads some).smallest f l.awake)), i),
        ))

    -- one that is ready, all others that are being behind it
    pub first_only : (w : ℕ) → ready b w ≡ true → ((k : ℕ) → ready b k ≡ true → k ≢ w → task_number b w < task_number b k) → first_ready z b ≡ w
    first_only w e h = step (ℕ_discrete (first_ready z b) w) (ℕ_discrete (first_ready z b) 0)
      where
        step : Dec (first_ready z b ≡ w) → Dec (first_ready z b ≡ 0) → first_ready z b ≡ w
        step (yes i) d = i
        step (no i) (yes j) = absurd (true≢false (sym e ∙ first_runs.nobody.0 j w))
        step (no i) (no j) =
            let l = first_runs.leads j in
            let g = l.smallest w e in
            let k = h (first_ready z b) l.awake i in
            absurd (omega arith)

    -- the task that ran, or the first ready one
    pub next-runs : RunsRightly b (runs_next z b)
    next-runs =
        cond_holds (RunsRightly b) (may_run z b b.running) b.running (first_ready z b) (λ e. leads-runs b.running ((says_may_run b.running).0 e))
        (λ e. first_runs)
