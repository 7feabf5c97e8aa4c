-- R7, where R3's walk met the first ready task, and the check as a whole by the rules of either edition.
-- Assumes nothing.
use mathlib.Core.Path.{◌≡◌, refl, sym, ap, ◌∙◌}
use mathlib.Core.Bool.{Bool, true, false, cond, not, ◌&&◌}
use mathlib.Core.List.{List}
use Prim.Native.Nat.{ℕ, ◌%◌, ◌<◌}
use native.Mathlib.Nat.{mod-eq_of_lt}
use native.Mathlib.Omega.{arith}
use native.Mathlib.Decide.{ℕ_discrete}
use lib.Dec.{eqb, ltb}
use borrow.Author.Tests.{eq-eqb, ne_eqb}
use Rattle.std.specs.Prelude.{Option, Some, None, Err, Ok}
use Rattle.board.specs.declared.numbers.Size.{Size}
use Rattle.board.specs.declared.numbers.TaskNo.{TaskNo}
use Rattle.board.specs.declared.records.Task as records
use Rattle.board.specs.Numbers.{outside, task_no, task_meant, number_of_task}
use Rattle.board.specs.Status.{MHBS, has, is_ready, number}
use Rattle.board.specs.Records.{no_task}
use Rattle.board.specs.Board.{Board, board_of, task}
use Rattle.board.proofs.Pieces.{nth-outside, within-outside}
use Rattle.board.proofs.Codec.{length-tasks}
use Rattle.paper.specs.declared.answer.Rule.{Rule}
use Rattle.paper.specs.declared.answer.Rule.TheVariants.{R7}
use Rattle.paper.specs.Rules.{task_number, first_ready, rules2to6, rule7}
use Rattle.paper.specs.Named.{broken2to6}
use Rattle.linked.proofs.Chosen.{rules3, first_numbered, first_meant, tasks_listed, rule7_first}
use Rattle.rules.specs.declared.Edition.{Edition}
use Rattle.rules.specs.declared.Edition.TheVariants.{Today, Old}
use Rattle.rules.specs.Checked.{rule4_of, between_of, leads_with, runs_with, ran_of, ran_by, rule1_of, checked_of, Checked}

turned : (t : Bool) (x y : Checked) → cond t x y ≡ cond (not t) y x
turned true x y = refl
turned false x y = refl

-- ---- the task that byte 1 names
module _ (z : Size) (l : List ℕ) where
  abbrev b : Board
  b = board_of z l

  -- a number beyond the board names a record of zeros, as 0 does
  task-meant : (w : ℕ) → task b (number_of_task (task_meant z w)) ≡ task b w
  task-meant w = go (outside z.tasks w) refl
    where
      go : (t : Bool) → outside z.tasks w ≡ t → task b (number_of_task (cond t None (Some (task_no w)))) ≡ task b w
      go true o = sym (nth-outside no_task b.tasks w (ap (λ (n : ℕ). outside n w) (length-tasks z l) ∙ o))
      go false o = refl

  -- ---- R7 of today: c is byte 1 and x the task that it names
  module _ (first : Option TaskNo) {c : ℕ} (ec : c ≡ b.running) {x : Option TaskNo} (ex : x ≡ task_meant z c) where
    named : x ≡ task_meant z b.running
    named = ex ∙ ap (task_meant z) ec

    ran_by_lem : (t : Bool) → runs_with b b.running first ≡ t → cond t (Ok x) (Err (R7 c)) ≡ ran_of z b first
    ran_by_lem t e = λ i. cond (sym e i) (Ok (named i)) (Err (R7 (ec i)))

    -- t is the test that nobody runs, where nobody is ready
    pub nobody_ran : {t : Bool} → first ≡ None → t ≡ eqb c 0 → cond t (Ok x) (Err (R7 c)) ≡ ran_of z b first
    nobody_ran {t = t} n e = ran_by_lem t (ap (runs_with b b.running) n ∙ sym (e ∙ ap (λ (m : ℕ). eqb m 0) ec))

    -- where f is the first ready one, that the task that runs leads
    pub leads_ran : {f : TaskNo} {t : Bool} → first ≡ Some f → t ≡ leads_with b (number_of_task x) f.0
        → cond t (Ok x) (Err (R7 c)) ≡ ran_of z b first
    leads_ran {f = f} {t = t} ef et =
        ran_by_lem t
        (ap (runs_with b b.running) ef
        ∙ ap (λ (u : records.Task). is_ready u.stat && not (ltb (task_number b f.0) (number u.prio)) && not (has u.stat MHBS))
        (sym (ap (λ (y : Option TaskNo). task b (number_of_task y)) named ∙ task-meant b.running))
        ∙ sym et)

  -- ---- the first ready task
  first_number : number_of_task (task_meant z (first_ready z b)) ≡ first_ready z b
  first_number = first_meant z b (length-tasks z l)

  -- its number is a byte
  first_small : z.tasks < 256 → first_ready z b % 256 ≡ first_ready z b
  first_small h = go (ℕ_discrete (first_ready z b) 0)
    where
      go : Dec (first_ready z b ≡ 0) → first_ready z b % 256 ≡ first_ready z b
      go (yes e) = ap (λ (x : ℕ). x % 256) e ∙ sym e
      go (no n) = let k = first_numbered z b (length-tasks z l) n in mod-eq_of_lt (omega (arith, h, k.1))

  -- where R2 to R6 hold, R7 is what is tested of it
  runs_first : (r4 : ℕ → Bool) → rules2to6 z b r4 ≡ true → runs_with b b.running (task_meant z (first_ready z b)) ≡ rule7 z b
  runs_first r4 e = go (ℕ_discrete (first_ready z b) 0)
    where
      f : ℕ
      f = first_ready z b

      is : rule7 z b ≡ cond (eqb f 0) (eqb b.running 0) (leads_with b b.running f)
      is = rule7_first z b (length-tasks z l) (tasks_listed z b (length-tasks z l) (rules3 z b r4 e))

      go : Dec (f ≡ 0) → runs_with b b.running (task_meant z f) ≡ rule7 z b
      go (yes i) = ap (λ (k : ℕ). runs_with b b.running (task_meant z k)) i ∙ sym (is ∙ ap (λ (t : Bool). cond t (eqb b.running 0) (leads_with b b.running f)) (eq-eqb f 0 i))
      go (no n) =
          let k = first_numbered z b (length-tasks z l) n in
          ap (λ (t : Bool). runs_with b b.running (cond t None (Some (task_no f)))) (within-outside z.tasks f k.0 k.1)
          ∙ sym (is ∙ ap (λ (t : Bool). cond t (eqb b.running 0) (leads_with b b.running f)) (ne_eqb f 0 n))

  -- ---- the check as a whole
  -- R1 holds
  module _ (edition : Edition) (h1 : rule1_of edition b.running b.zeros ≡ true) where
    -- one of R2 to R6 is broken
    middle_fails : let r4 = rule4_of edition z b in rules2to6 z b r4 ≡ false → Err (broken2to6 z b r4) ≡ checked_of edition z b
    middle_fails = by edition h1
      where
        by : (edition : Edition) → rule1_of edition b.running b.zeros ≡ true → let r4 = rule4_of edition z b in
            rules2to6 z b r4 ≡ false → Err (broken2to6 z b r4) ≡ checked_of edition z b
        by Today h e = rw (h, e)
        by Old h e = rw (h, e)

    -- they hold: the first ready task decides
    middle_holds : z.tasks < 256 → rules2to6 z b (rule4_of edition z b) ≡ true → ran_by edition z b (task_meant z (first_ready z b)) ≡ checked_of edition z b
    middle_holds small = by edition h1
      where
        by : (edition : Edition) → rule1_of edition b.running b.zeros ≡ true → rules2to6 z b (rule4_of edition z b) ≡ true
            → ran_by edition z b (task_meant z (first_ready z b)) ≡ checked_of edition z b
        by Today h e = rw (runs_first (rule4_of Today z b) e, h, e)
        by Old h e = rw (first_number, first_small small, h, e) (turned (has (task b (first_ready z b)).stat MHBS) _ _)

    -- y is what they come to
    module _ {y : Checked} (ey : y ≡ between_of edition z b) where
      pub between_fails : {r : Rule} → y ≡ Err r → y ≡ checked_of edition z b
      between_fails {r = r} e = go (rules2to6 z b (rule4_of edition z b)) refl (sym e ∙ ey)
        where
          go : (t : Bool) → let r4 = rule4_of edition z b in rules2to6 z b r4 ≡ t
              → Err r ≡ cond t (Ok (task_meant z (first_ready z b))) (Err (broken2to6 z b r4))
              → y ≡ checked_of edition z b
          go true d i = let f : ◌≡◌ {A = ℕ} 0 1 = cc in absurd (omega arith)
          go false d i = e ∙ i ∙ middle_fails d

      -- first is the first ready task, and x what R7 comes to
      pub between_holds : {first : Option TaskNo} {x : Checked} → z.tasks < 256 → y ≡ Ok first → x ≡ ran_by edition z b first
          → x ≡ checked_of edition z b
      between_holds {first = first} {x = x} small e ex = go (rules2to6 z b (rule4_of edition z b)) refl (sym e ∙ ey)
        where
          go : (t : Bool) → let r4 = rule4_of edition z b in rules2to6 z b r4 ≡ t
              → Ok first ≡ cond t (Ok (task_meant z (first_ready z b))) (Err (broken2to6 z b r4))
              → x ≡ checked_of edition z b
          go true d i = let j : first ≡ task_meant z (first_ready z b) = cc in ex ∙ ap (ran_by edition z b) j ∙ middle_holds small d
          go false d i = let f : ◌≡◌ {A = ℕ} 0 1 = cc in absurd (omega arith)
