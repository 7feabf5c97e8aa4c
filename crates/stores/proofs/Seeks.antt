-- The turns of a loop that seeks a spot, in plain variables, for tasks and messages alike. A kind of numbers is five functions: meant w is
-- what a word means, number y the number of what is meant, bound w the word, or 0 where the board has no such number, one k that k is
-- meant, and no k the number of k.
--   Kind number meant bound one no     what is asked of a kind
--   Seeks number meant goes next ..    the walk from where the loop stands is the walk from the start, with n turns from x
--   Found meant prev cur s             the loop stands at the spot s
-- Assumes nothing.
use mathlib.Core.Path.{◌≡◌, refl, sym, ap, ◌∙◌, subst}
use mathlib.Core.Logic.{◌≢◌}
use mathlib.Core.Bool.{Bool, true, false, cond, true≢false}
use Prim.Native.Nat.{ℕ, zero, suc, ◌-◌, ◌≤◌, ◌<◌}
use native.Mathlib.Omega.{arith}
use lib.Dec.{eqb}
use borrow.Author.Tests.{eq-eqb, ne_eqb, lt-ltb, le-ltb}
use Rattle.std.specs.Prelude.{Some, None}
use Rattle.links.specs.Queue.{goes_before}
use Rattle.links.specs.Seek.{Spot, seek}
use Rattle.links.proofs.Seeking.{seek-turn, seek_found, seek_end, seek_out}
use Rattle.board.specs.declared.numbers.Size.{Size}
use Rattle.board.specs.Numbers.{outside, task_meant, message_meant, number_of_task, number_of_message, on_board}
use Rattle.board.specs.Status.{number}
use Rattle.board.proofs.Pieces.{outside-zero}
use Rattle.board.proofs.Meant.{task_meant-task, message_meant-message, number_of_task_lem, number_of_message_lem}

-- ---- kinds of numbers
pub record Kind {M K : Type 0} (number : M → ℕ) (meant : ℕ → M) (bound : ℕ → ℕ) (one : K → M) (no : K → ℕ) : Type 0 where
  pub known : (w : ℕ) → number (meant w) ≡ bound w
  pub again : (w : ℕ) → meant (bound w) ≡ meant w
  pub named : (k : K) → number (one k) ≡ no k
  pub some : (w : ℕ) (k : K) → meant w ≡ one k → w ≢ 0

-- where the board has no such number it means what 0 means
on_board_lem : {A : Type 0} (f : ℕ → A) (last w : ℕ) → (outside last w ≡ true → f w ≡ f 0) → f (on_board last w) ≡ f w
on_board_lem f last w h = go (outside last w) refl
  where
    go : (t : Bool) → outside last w ≡ t → f (cond t 0 w) ≡ f w
    go true e = sym (h e)
    go false e = refl

within_some : (last w : ℕ) → outside last w ≡ false → w ≢ 0
within_some last w e d = true≢false (sym (outside-zero last w d) ∙ e)

pub message-kind : (z : Size) → Kind number_of_message (message_meant z) (on_board z.messages) Some (λ m. m.0)
message-kind z = record {
  known = number_of_message_lem z;
  again = λ w. on_board_lem (message_meant z) z.messages w (ap (λ (t : Bool). cond t None (Some (record { 0 = w }))));
  named = λ m. refl;
  some = λ w m e. within_some z.messages w (message_meant-message z w m e).0;
}

pub task-kind : (z : Size) → Kind number_of_task (task_meant z) (on_board z.tasks) Some (λ k. k.0)
task-kind z = record {
  known = number_of_task_lem z;
  again = λ w. on_board_lem (task_meant z) z.tasks w (ap (λ (t : Bool). cond t None (Some (record { 0 = w }))));
  named = λ k. refl;
  some = λ w k e. within_some z.tasks w (task_meant-task z w k e).0;
}

-- ---- the walk
pub record Seeks {M : Type 0} (number : M → ℕ) (meant : ℕ → M) (goes : ℕ → Bool) (next : ℕ → ℕ) (n x left : ℕ) (prev cur : M)
    : Type 0 where
  pub same : seek goes next left (number prev) (number cur) ≡ seek goes next n 0 x
  pub last : prev ≡ meant (number prev)
  pub here : cur ≡ meant (number cur)

abbrev pub Found : {M : Type 0} → (ℕ → M) → M → M → Spot → Type 0
Found meant prev cur s = (prev ≡ meant s.prev) × (cur ≡ meant s.cur)

module _ {M : Type 0} {number : M → ℕ} {meant : ℕ → M} {goes : ℕ → Bool} {next : ℕ → ℕ} {n x left : ℕ} {prev cur : M}
    (inv : Seeks number meant goes next n x left prev cur) where
  found : seek goes next left (number prev) (number cur) ≡ record { prev = number prev; cur = number cur }
      → Found meant prev cur (seek goes next n 0 x)
  found e =
      let s = sym e ∙ inv.same in (inv.last ∙ ap (λ (t : Spot). meant t.prev) s, inv.here ∙ ap (λ (t : Spot). meant t.cur) s)

  -- at the end of the links
  pub ended : number cur ≡ 0 → Found meant prev cur (seek goes next n 0 x)
  ended e = found (seek_end goes next left (number prev) (number cur) e)

  -- after the last turn
  pub spent : left ≤ 0 → Found meant prev cur (seek goes next n 0 x)
  spent h = found (seek_out goes next left (number prev) (number cur) (omega arith))

module _ {M K : Type 0} {number : M → ℕ} {meant : ℕ → M} {bound : ℕ → ℕ} {one : K → M} {no : K → ℕ} (kind : Kind number meant bound one no)
  where
    -- what a word means has the word's number, and means it
    pub real : (y : M) (w : ℕ) → y ≡ meant w → (number y ≡ bound w) × (y ≡ meant (number y))
    real y w e = let n = ap number e ∙ kind.known w in (n, e ∙ sym (kind.again w) ∙ ap meant (sym n))

    module _ {goes : ℕ → Bool} {next : ℕ → ℕ} {n x left : ℕ} {prev cur : M} (inv : Seeks number meant goes next n x left prev cur)
        (k : K) (e : cur ≡ one k) where
      number_is : number cur ≡ no k
      number_is = ap number e ∙ kind.named k

      -- at one that is looked for
      pub stopped : goes (no k) ≡ true → Found meant prev (one k) (seek goes next n 0 x)
      stopped g =
          subst (λ (w : M). Found meant prev w (seek goes next n 0 x)) e
          (found inv (seek_found goes next left (number prev) (number cur) (ap goes number_is ∙ g)))

      -- past one that isn't: its link is w, which means y
      pub passed : (y : M) (w : ℕ) → 0 < left → goes (no k) ≡ false → y ≡ meant w → bound w ≡ next (no k)
          → Seeks number meant goes next n x (left - 1) (one k) y
      passed y w h g d same =
          let z : number cur ≢ 0 = kind.some (number cur) k (sym inv.here ∙ e) in
          let r = real y w d in
          let t = seek-turn goes next left (number prev) (number cur) h (omega arith) (ap goes number_is ∙ g) in
          subst (λ (v : M). Seeks number meant goes next n x (left - 1) v y) e (record {
            same = ap (seek goes next (left - 1) (number cur)) (r.0 ∙ same ∙ ap next (sym number_is)) ∙ sym t ∙ inv.same;
            last = inv.here;
            here = r.1;
          })

-- ---- where it stops
-- a walk whose links stay within a bound stops within it
seek-within : (bound : ℕ → ℕ) (goes : ℕ → Bool) (link : ℕ → ℕ) (n prev x : ℕ) → bound 0 ≡ 0
    → ((w : ℕ) → bound (bound w) ≡ bound w) → bound x ≡ x → let s = seek goes (λ y. bound (link y)) n prev x in bound s.cur ≡ s.cur
seek-within bound goes link zero prev x e h g = g
seek-within bound goes link (suc n) prev zero e h g = e
seek-within bound goes link (suc n) prev (suc x) e h g =
    go (goes (suc x)) refl (seek-within bound goes link n (suc x) (bound (link (suc x))) e h (h (link (suc x))))
  where
    go : (t : Bool) → goes (suc x) ≡ t
        → let s = seek goes (λ y. bound (link y)) n (suc x) (bound (link (suc x))) in bound s.cur ≡ s.cur
        → let s = seek goes (λ y. bound (link y)) (suc n) prev (suc x) in bound s.cur ≡ s.cur
    go true t ih = rw (t, seek) g
    go false t ih = rw (t, seek) ih

-- so what it stops at has its number
pub cur-number : {M K : Type 0} {number : M → ℕ} {meant : ℕ → M} {one : K → M} {no : K → ℕ} (last : ℕ)
    → Kind number meant (on_board last) one no → (goes : ℕ → Bool) (link : ℕ → ℕ) (n w : ℕ)
    → let s = seek goes (λ y. on_board last (link y)) n 0 (on_board last w) in number (meant s.cur) ≡ s.cur
cur-number last kind goes link n w =
    kind.known _ ∙ seek-within (on_board last) goes link n 0 (on_board last w) refl twice (twice w)
  where
    twice : (w : ℕ) → on_board last (on_board last w) ≡ on_board last w
    twice w = on_board_lem (on_board last) last w (λ e. ap (λ (t : Bool). cond t 0 w) e)

-- ---- the test of a record, whose PRIO was read as x and its priority number as n
pub tested : {x y n : ℕ} {t u : Bool} (f : Bool) (p : ℕ) → x ≡ y → n ≡ number x → t ≡ goes_before f p n → t ≡ u
    → goes_before f p (number y) ≡ u
tested f p ex en et eu = ap (λ (v : ℕ). goes_before f p (number v)) (sym ex) ∙ ap (goes_before f p) (sym en) ∙ sym et ∙ eu

-- where it is FIFO the test is whether p is less
pub goes_first : {x y n : ℕ} (p : ℕ) → x ≡ y → n ≡ number x → p < n → goes_before true p (number y) ≡ true
goes_first p ex en h = lt-ltb p _ (subst (λ (v : ℕ). p < v) (en ∙ ap number ex) h)

pub goes_behind : {x y n : ℕ} (p : ℕ) → x ≡ y → n ≡ number x → n ≤ p → goes_before true p (number y) ≡ false
goes_behind p ex en h = le-ltb p _ (subst (λ (v : ℕ). v ≤ p) (en ∙ ap number ex) h)

-- the number i of the record is the number j of the one looked for, or isn't
pub is_it : {x y i j : ℕ} → i ≡ y → j ≡ x → i ≡ j → eqb y x ≡ true
is_it ei ej e = eq-eqb _ _ (sym ei ∙ e ∙ ej)

pub not_it : {x y i j : ℕ} → i ≡ y → j ≡ x → i ≢ j → eqb y x ≡ false
not_it ei ej n = ne_eqb _ _ (λ e. n (ei ∙ e ∙ sym ej))
