-- What fresh and check answer, by the tests that code makes. Assumes nothing.
use mathlib.Core.Path.{◌≡◌, refl, sym, ap, ◌∙◌}
use mathlib.Core.Bool.{Bool, true, false, not, cond}
use mathlib.Core.List.{List, [], ◌∷◌}
use Prim.Native.Nat.{ℕ, ◌+◌, ◌%◌, ◌≤◌, ◌<◌}
use native.Mathlib.Nat.{mod-eq_of_lt}
use native.Mathlib.Omega.{arith}
use native.Mathlib.Decide.{ℕ_discrete}
use lib.ListN.{length, get_or, set, replicate, length-replicate, get_or-replicate}
use lib.Seq.{ext_get_or, get_or-set_same, get_or-set_other}
use lib.Dec.{eqb}
use borrow.Author.Tests.{eqb-true, not-true, not-false}
use Rattle.std.specs.Prelude.{Option, Err, Ok}
use Rattle.board.specs.declared.numbers.TaskNo.{TaskNo}
use Rattle.board.specs.Numbers.{small, task_meant, number_of_task}
use Rattle.board.specs.Board.{Board, total, board_of}
use Rattle.board.specs.Writes.{put_running}
use Rattle.board.proofs.Codec.{length-tasks}
use Rattle.paper.specs.declared.answer.Rule.{Rule}
use Rattle.paper.specs.declared.answer.Refusal.TheVariants.{WrongLength, RuleBroken}
use Rattle.paper.specs.Rules.{first_ready, passes}
use Rattle.paper.specs.Named.{broken_rule}
use Rattle.paper.specs.Refusals.{test, no2_by, given}
use Rattle.paper.specs.Outcomes.{Outcome, Ends, accepted, refused, judge, blank, fresh, check}
use Rattle.paper.specs.Conversion.{old_passes, old_broken, converted, convert}
use Rattle.paper.specs.Answers.{accepts}
use Rattle.linked.proofs.Chosen.{awake-meant, first_numbered, first_meant}
use Rattle.linked.proofs.Theorems.{passes_exactly}
use Rattle.kept.proofs.Theorems.{small-sizes}
use Rattle.rules.specs.declared.Edition.TheVariants.{Today, Old}
use Rattle.rules.specs.Checked.{checked_of, Checked}
use Rattle.inner.proofs.Steps.{ends}

-- ---- the length: s is the test of it
module _ (l : List ℕ) {s : Bool} (es : s ≡ eqb (length l) (total small)) where
  pub sized_not : s ≡ false → eqb (length l) 1476 ≡ false
  sized_not h = sym es ∙ h

  pub sized_so : s ≡ true → eqb (length l) 1476 ≡ true
  sized_so h = sym es ∙ h

  -- bytes of the right length hold a whole board
  pub sized-long : s ≡ true → length l ≡ 1476
  sized-long h = eqb-true (length l) 1476 (sized_so h)

  pub sized_whole : s ≡ true → total small ≤ length l
  sized_whole h = let e : length l ≡ 1476 = sized-long h in omega arith

-- ---- fresh
module _ (l : List ℕ) {s : Bool} (es : s ≡ eqb (length l) (total small)) where
  pub fresh-accepted : {m : List ℕ} → s ≡ true → m ≡ replicate (length l) 0 → Ends (accepts 0 0 0) m (fresh small l)
  fresh-accepted h e =
      ends
      (ap (λ (t : Bool). judge l (given (test WrongLength (not t) ∷ [])) (accepted 0 0 0 (blank small))) (sized_so l es h)
      ∙ ap (accepted 0 0 0) (sym (e ∙ ap (λ (n : ℕ). replicate n 0) (sized-long l es h))))

-- ---- the check of the rules: x is what it says, where they hold as t says
module _ (t : Bool) (c : Option TaskNo) (q : Rule) {x : Checked} (ex : x ≡ cond t (Ok c) (Err q)) where
  -- one is broken, and r is told
  rules_broken : {r : Rule} → x ≡ Err r → (t ≡ false) × (r ≡ q)
  rules_broken {r = r} e = go t (sym ex ∙ e)
    where
      go : (t : Bool) → cond t (Ok c) (Err q) ≡ Err r → (t ≡ false) × (r ≡ q)
      go true p = absurd (let y : ◌≡◌ {A = ℕ} 0 1 = cc in omega arith)
      go false p = (refl, cc)

  -- none is, and w runs
  rules_kept : {w : Option TaskNo} → x ≡ Ok w → (t ≡ true) × (w ≡ c)
  rules_kept {w = w} e = go t (sym ex ∙ e)
    where
      go : (t : Bool) → cond t (Ok c) (Err q) ≡ Ok w → (t ≡ true) × (w ≡ c)
      go true p = (refl, cc)
      go false p = absurd (let y : ◌≡◌ {A = ℕ} 0 1 = cc in omega arith)

-- by the rules of today
module _ (l : List ℕ) {x : Checked} (ex : x ≡ checked_of Today small (board_of small l)) where
  pub today_broken : {r : Rule} → x ≡ Err r → (passes small (board_of small l) ≡ false) × (r ≡ broken_rule small (board_of small l))
  today_broken = let b = board_of small l in rules_broken (passes small b) (task_meant small b.running) (broken_rule small b) ex

  pub today_kept : {w : Option TaskNo} → x ≡ Ok w → (passes small (board_of small l) ≡ true) × (w ≡ task_meant small (board_of small l).running)
  today_kept = let b = board_of small l in rules_kept (passes small b) (task_meant small b.running) (broken_rule small b) ex

-- on a board that passes byte 1 is the number of the task that it names
pub runs-named : (l : List ℕ) → passes small (board_of small l) ≡ true
    → number_of_task (task_meant small (board_of small l).running) ≡ (board_of small l).running
runs-named l e =
    awake-meant small (board_of small l) (length-tasks small l) (board_of small l).running
    (λ n. (((passes_exactly small l small-sizes.limit).0 e).runs.leads n).awake)

-- ---- check and conversion: by the length and the rules, of which r is to be named, or else accepted with o
abbrev judged : List ℕ → Rule → Outcome → Bool → Bool → Outcome
judged l r o t u = judge l (given (test WrongLength (not t) ∷ no2_by r u ∷ [])) o

module _ (l : List ℕ) (q : Rule) (o : Outcome) (t : Bool) {s : Bool} (es : s ≡ eqb (length l) (total small)) where
  -- 1
  wrong_length : s ≡ false → Ends (Err WrongLength) l (judged l q o (eqb (length l) (total small)) t)
  wrong_length h = ends (ap (λ (u : Bool). judged l q o u t) (sized_not l es h))

  -- 2
  rule_told : {r : Rule} → s ≡ true → (t ≡ false) × (r ≡ q) → Ends (Err (RuleBroken r)) l (judged l q o (eqb (length l) (total small)) t)
  rule_told h n = ends ((λ i. judged l q o (sized_so l es h i) (n.0 i)) ∙ ap (λ (r : Rule). refused l (RuleBroken r)) (sym n.1))

  -- neither
  passed : s ≡ true → t ≡ true → judged l q o (eqb (length l) (total small)) t ≡ o
  passed h e = λ i. judged l q o (sized_so l es h i) (e i)

-- ---- check
module _ (l : List ℕ) {s : Bool} (es : s ≡ eqb (length l) (total small)) where
  abbrev b : Board
  b = board_of small l

  abbrev told : Rule
  told = broken_rule small b

  abbrev done : Outcome
  done = accepted 0 b.running 0 l

  pub check-length : s ≡ false → Ends (Err WrongLength) l (check small l)
  check-length h = wrong_length l told done (passes small b) es h

  module _ (h : s ≡ true) {x : Checked} (ex : x ≡ checked_of Today small b) where
    pub check_broken : {r : Rule} → x ≡ Err r → Ends (Err (RuleBroken r)) l (check small l)
    check_broken e = rule_told l told done (passes small b) es h (today_broken l ex e)

    pub check-passed : {w : Option TaskNo} {n : ℕ} → x ≡ Ok w → n ≡ number_of_task w → Ends (accepts 0 n 0) l (check small l)
    check-passed e en =
        let r = today_kept l ex e in
        let n = en ∙ ap number_of_task r.1 ∙ runs-named l r.0 in
        ends (passed l told done (passes small b) es h r.0 ∙ ap (λ (k : ℕ). accepted 0 k 0 l) (sym n))

-- ---- conversion
module _ (l : List ℕ) {s : Bool} (es : s ≡ eqb (length l) (total small)) where
  abbrev saved : Board
  saved = board_of small l

  abbrev ran : ℕ
  ran = first_ready small saved

  abbrev named : Rule
  named = old_broken small saved

  pub convert-length : s ≡ false → Ends (Err WrongLength) l (convert small l)
  convert-length h = wrong_length l named (converted small l) (old_passes small saved) es h

  -- the number of the task that ran is a byte
  ran_small : ran % 256 ≡ ran
  ran_small = go (ℕ_discrete ran 0)
    where
      go : Dec (ran ≡ 0) → ran % 256 ≡ ran
      go (yes e) = ap (λ (k : ℕ). k % 256) e ∙ sym e
      go (no n) = let k = first_numbered small saved (length-tasks small l) n in mod-eq_of_lt (omega (arith, k.1))

  module _ (h : s ≡ true) {x : Checked} (ex : x ≡ checked_of Old small saved) where
    pub convert_broken : {r : Rule} → x ≡ Err r → Ends (Err (RuleBroken r)) l (convert small l)
    convert_broken e = rule_told l named (converted small l) (old_passes small saved) es h (rules_broken (old_passes small saved) (task_meant small ran) named ex e)

    -- m are the bytes with the task that ran in byte 1, and n its number
    pub converts : {w : Option TaskNo} {m : List ℕ} {n : ℕ} → x ≡ Ok w → m ≡ put_running l (number_of_task w % 256) → n ≡ number_of_task w
        → Ends (accepts 0 n 0) m (convert small l)
    converts {w = w} e em en =
        let r = rules_kept (old_passes small saved) (task_meant small ran) named ex e in
        let k : number_of_task w ≡ ran = ap number_of_task r.1 ∙ first_meant small saved (length-tasks small l) in
        let bytes = em ∙ ap (λ (j : ℕ). put_running l (j % 256)) k ∙ ap (put_running l) ran_small in
        ends (passed l named (converted small l) (old_passes small saved) es h r.0 ∙ (λ i. accepted 0 (sym (en ∙ k) i) 0 (sym bytes i)))
