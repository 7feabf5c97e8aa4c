-- A row of refusals, test by test: what the answers of inner steps say of the verdict. Assumes nothing.
use mathlib.Core.Path.{◌≡◌, refl, sym, ap, ◌∙◌}
use mathlib.Core.Bool.{Bool, true, false, cond, not, ◌||◌}
use mathlib.Core.List.{List, [], ◌∷◌, ◌++◌}
use Prim.Native.Nat.{ℕ}
use native.Mathlib.Omega.{arith}
use borrow.Author.Tests.{eq-eqb, ne_eqb}
use Rattle.std.specs.Prelude.{Option, Some, None, Err}
use Rattle.board.specs.declared.numbers.Size.{Size}
use Rattle.board.specs.declared.numbers.TaskNo.{TaskNo}
use Rattle.board.specs.declared.numbers.MsgNo.{MsgNo}
use Rattle.board.specs.Numbers.{outside, task_no, number_of_task}
use Rattle.board.specs.Board.{Board, board_of}
use Rattle.board.proofs.Pieces.{outside-within}
use Rattle.board.proofs.Meant.{task_meant-task}
use Rattle.paper.specs.declared.answer.Refusal.{Refusal}
use Rattle.paper.specs.Rules.{present}
use Rattle.paper.specs.Refusals.{Test, no3, no4, no5, no6, Verdict, Go, Stop, given}
use Rattle.stores.specs.declared.Held.{Held}
use Rattle.stores.specs.Answers.{Runner, held_by, held_of, present_meant, holds}

-- ---- several
abbrev or_else : Verdict → Verdict → Verdict
or_else Go v = v
or_else (Stop q) v = Stop q

given_append : (a b : List Test) → given (a ++ b) ≡ or_else (given a) (given b)
given_append [] b = refl
given_append (t ∷ a) b = go t.applies (given_append a b)
  where
    go : (s : Bool) → given (a ++ b) ≡ or_else (given a) (given b)
        → elim s [ true ↦ Stop t.refusal | false ↦ given (a ++ b) ] ≡ or_else (elim s [ true ↦ Stop t.refusal | false ↦ given a ]) (given b)
    go true e = refl
    go false e = e

-- ---- who runs
-- nobody runs: 3 applies
pub nobody-runs : (z : Size) (l : List ℕ) {x : Option TaskNo} → Runner z l x → x ≡ None → (no3 (board_of z l).running).applies ≡ true
nobody-runs z l r e = eq-eqb (board_of z l).running 0 (sym r.1 ∙ ap number_of_task e)

-- one does: 3 does not apply, and it is that one
pub one_runs : (z : Size) (l : List ℕ) {x : Option TaskNo} → Runner z l x → {c : TaskNo} → x ≡ Some c
    → ((no3 (board_of z l).running).applies ≡ false) × (c ≡ task_no (board_of z l).running)
one_runs z l r {c = c} e =
    let k : ℕ = (board_of z l).running in
    let m = task_meant-task z k c (sym r.0 ∙ e) in
    (ne_eqb k 0 (λ q. let h = outside-within z.tasks k m.0 in omega (arith, h.0)), m.1)

-- ---- the message that is held
-- it is: 3, 4 and 5 are passed
pub held_row : (z : Size) (b : Board) (c w : ℕ) (k : TaskNo) (m : MsgNo) (tests : List Test) → held_of z b c w ≡ holds k m
    → (given (no3 c ∷ no4 z w ∷ no5 b c w ∷ tests) ≡ given tests) × (k ≡ task_no c) × (m ≡ record { 0 = w })
held_row z b c w k m tests e = go (given (no3 c ∷ no4 z w ∷ no5 b c w ∷ [])) refl e
  where
    go : (v : Verdict) → given (no3 c ∷ no4 z w ∷ no5 b c w ∷ []) ≡ v → held_by v c w ≡ holds k m
        → (given (no3 c ∷ no4 z w ∷ no5 b c w ∷ tests) ≡ given tests) × (k ≡ task_no c) × (m ≡ record { 0 = w })
    go Go p q =
        let h : ◌≡◌ {A = Held} (record { c = k; m = m }) (record { c = task_no c; m = record { 0 = w } }) = cc in (
          given_append (no3 c ∷ no4 z w ∷ no5 b c w ∷ []) tests ∙ ap (λ (v : Verdict). or_else v (given tests)) p,
          ap (λ (x : Held). x.c) h,
          ap (λ (x : Held). x.m) h,
        )
    go (Stop r) p q = absurd (let y : ◌≡◌ {A = ℕ} 0 1 = cc in omega arith)

-- it is not: one of them stops
pub not_held_row : (z : Size) (b : Board) (c w : ℕ) (q : Refusal) (tests : List Test) → held_of z b c w ≡ Err q
    → given (no3 c ∷ no4 z w ∷ no5 b c w ∷ tests) ≡ Stop q
not_held_row z b c w q tests e = go (given (no3 c ∷ no4 z w ∷ no5 b c w ∷ [])) refl e
  where
    go : (v : Verdict) → given (no3 c ∷ no4 z w ∷ no5 b c w ∷ []) ≡ v → held_by v c w ≡ Err q
        → given (no3 c ∷ no4 z w ∷ no5 b c w ∷ tests) ≡ Stop q
    go Go p r = absurd (let y : ◌≡◌ {A = ℕ} 0 1 = cc in omega arith)
    go (Stop s) p r =
        given_append (no3 c ∷ no4 z w ∷ no5 b c w ∷ []) tests ∙ ap (λ (v : Verdict). or_else v (given tests)) p
        ∙ ap Stop (let x : s ≡ q = cc in x)

-- ---- the task that is meant
pub task_row : (z : Size) (b : Board) (w : ℕ) (k : TaskNo) → present_meant z b w ≡ Some k
    → ((no6 z b w).applies ≡ false) × (k ≡ task_no w)
task_row z b w k e = go (outside z.tasks w || not (present b w)) refl e
  where
    go : (t : Bool) → outside z.tasks w || not (present b w) ≡ t → cond t None (Some (task_no w)) ≡ Some k
        → ((no6 z b w).applies ≡ false) × (k ≡ task_no w)
    go true p q = absurd (let y : ◌≡◌ {A = ℕ} 0 1 = cc in omega arith)
    go false p q = (p, cc)

pub no_task_row : (z : Size) (b : Board) (w : ℕ) → present_meant z b w ≡ None → (no6 z b w).applies ≡ true
no_task_row z b w e = go (outside z.tasks w || not (present b w)) refl e
  where
    go : (t : Bool) → outside z.tasks w || not (present b w) ≡ t → cond t None (Some (task_no w)) ≡ None → (no6 z b w).applies ≡ true
    go true p q = p
    go false p q = absurd (let y : ◌≡◌ {A = ℕ} 0 1 = cc in omega arith)
