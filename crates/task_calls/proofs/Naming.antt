-- The walk for a name: what each turn of `named` and each way out of it makes of the definition.
-- Assumes nothing.
use mathlib.Core.Path.{◌≡◌, refl, sym, ap, ◌∙◌}
use mathlib.Core.Bool.{Bool, true, false, cond}
use mathlib.Core.List.{◌∷◌}
use Prim.Native.Nat.{ℕ, ◌-◌, ◌<◌}
use native.Mathlib.Omega.{arith}
use lib.Dec.{eqb}
use borrow.Author.Tests.{eq-eqb, ne_eqb}
use Rattle.std.specs.Prelude.{Option, Some, None}
use Rattle.links.specs.Queue.{walk, first_with}
use Rattle.links.proofs.Chains.{walk_step, walk_end}
use Rattle.board.specs.declared.numbers.Size.{Size}
use Rattle.board.specs.declared.numbers.TaskNo.{TaskNo}
use Rattle.board.specs.declared.records.Task.{Task}
use Rattle.board.specs.Numbers.{outside, task_no, task_meant, number_of_task, on_board}
use Rattle.board.specs.Board.{Board, task}
use Rattle.board.proofs.Pieces.{outside-within}
use Rattle.board.proofs.Meant.{task_meant-task, number_of_task_lem}
use Rattle.stores.specs.Moves.{task_behind}

-- the first of that name that n links from x visit
abbrev pub named_from : Size → Board → ℕ → ℕ → ℕ → ℕ
named_from z b name n x = first_with (λ k. eqb (task b k).name name) (walk (task_behind z b) n x)

-- what a word means is meant by its number
meant_again : (z : Size) (w : ℕ) {x : Option TaskNo} → x ≡ task_meant z w → x ≡ task_meant z (number_of_task x)
meant_again z w e = e ∙ go (outside z.tasks w) refl ∙ ap (λ (y : Option TaskNo). task_meant z (number_of_task y)) (sym e)
  where
    by : Bool → Option TaskNo
    by t = cond t None (Some (task_no w))

    go : (t : Bool) → outside z.tasks w ≡ t → by t ≡ task_meant z (number_of_task (by t))
    go true p = refl
    go false p = ap by (sym p)

-- n links are left to follow, from x, and they find r
module _ (z : Size) (b : Board) (name n : ℕ) {x : Option TaskNo} (is : x ≡ task_meant z (number_of_task x)) {r : ℕ}
    (inv : named_from z b name n (number_of_task x) ≡ r) where
  -- the links end: none is found
  pub named_none : x ≡ None → 0 ≡ r
  named_none e =
      ap (first_with (λ k. eqb (task b k).name name)) (sym (walk_end (task_behind z b) n 0 refl))
      ∙ ap (λ (y : Option TaskNo). named_from z b name n (number_of_task y)) (sym e) ∙ inv

  -- at k, of record t
  module _ (h : 0 < n) {k : TaskNo} (at : x ≡ Some k) {t : Task} (s : t ≡ task b k.0) where
    some : 0 < k.0
    some =
        let p = (task_meant-task z k.0 k (ap (λ (y : Option TaskNo). task_meant z (number_of_task y)) (sym at) ∙ sym is ∙ at)).0 in
        let q = outside-within z.tasks k.0 p in
        omega (arith, q.0)

    on : walk (task_behind z b) n k.0 ≡ k.0 ∷ walk (task_behind z b) (n - 1) (on_board z.tasks t.link)
    on =
        walk_step (task_behind z b) n k.0 h some
        ∙ ap (λ (u : Task). k.0 ∷ walk (task_behind z b) (n - 1) (on_board z.tasks u.link)) (sym s)

    from : named_from z b name n k.0 ≡ r
    from = ap (λ (y : Option TaskNo). named_from z b name n (number_of_task y)) (sym at) ∙ inv

    turn : (u : Bool) → eqb t.name name ≡ u
        → elim u [ true ↦ k.0 | false ↦ named_from z b name (n - 1) (on_board z.tasks t.link) ] ≡ r
    turn u e = rw (← from, on, first_with, ← s, e)

    -- it has the name
    pub named_here : t.name ≡ name → number_of_task x ≡ r
    named_here e = ap number_of_task at ∙ turn true (eq-eqb t.name name e)

    -- it has another: y is the next, from which m links are left
    pub named_behind : (m : ℕ) → m ≡ n - 1 → {y : Option TaskNo} → (t.name ≡ name → ⊥) → y ≡ task_meant z t.link
        → (y ≡ task_meant z (number_of_task y)) × (named_from z b name m (number_of_task y) ≡ r)
    named_behind m f e ey = (
      meant_again z t.link ey,
      ap (named_from z b name m) (ap number_of_task ey ∙ number_of_task_lem z t.link)
          ∙ ap (λ (j : ℕ). named_from z b name j (on_board z.tasks t.link)) f ∙ turn false (ne_eqb t.name name e),
    )
