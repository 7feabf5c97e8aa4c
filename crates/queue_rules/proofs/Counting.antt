-- Counting: how many pass a test, how many each of several tests let pass, and sums that are as large as they can be.
-- Assumes nothing.
use mathlib.Core.Path.{◌≡◌, refl, sym, ap, ap₂, ◌∙◌}
use mathlib.Core.Bool.{Bool, true, false, cond}
use mathlib.Core.List.{List, [], ◌∷◌}
use Prim.Native.Nat.{ℕ, zero, suc, ◌+◌, ◌≤◌, ◌<◌}
use native.Mathlib.Omega.{arith}
use lib.ListN.{length, get_or}
use lib.Dec.{eqb}
use borrow.Author.Tests.{eqb-true, eqb-false, ne_eqb}
use Rattle.links.specs.Queue.{cons_if, which}
use Rattle.links.proofs.Exactly.{one}
use Rattle.board.specs.Board.{nth}
use Rattle.queue_rules.specs.Walks.{counted}

-- ---- a count by number and a count along the list
length-cons_if : (t : Bool) (n : ℕ) (q : List ℕ) → length (cons_if t n q) ≡ one t + length q
length-cons_if true n q = omega arith
length-cons_if false n q = omega arith

one_cond : (t : Bool) (n : ℕ) → cond t (suc n) n ≡ one t + n
one_cond true n = omega arith
one_cond false n = omega arith

-- the turn of a counting loop
pub counted-turn : (f : ℕ → Bool) (n : ℕ) (t : Bool) → f (n + 1) ≡ t → counted f (n + 1) ≡ one t + counted f n
unfolding counted
counted-turn f n t e =
    let s : n + 1 ≡ suc n = omega arith in
    ap (counted f) s ∙ one_cond (f (suc n)) (counted f n) ∙ ap (λ (u : Bool). one u + counted f n) (ap f (sym s) ∙ e)

-- no more pass than there are
pub counted_bound : (f : ℕ → Bool) (n : ℕ) → counted f n ≤ n
unfolding counted
counted_bound f zero = omega arith
counted_bound f (suc n) = go (f (suc n)) (counted_bound f n)
  where
    go : (t : Bool) → counted f n ≤ n → cond t (suc (counted f n)) (counted f n) ≤ suc n
    go true h = omega arith
    go false h = omega arith

-- ---- sums over the numbers from 1 to n
-- f 1 + .. + f n
abbrev pub sum_to : (ℕ → ℕ) → ℕ → ℕ
sum_to f zero = 0
sum_to f (suc n) = sum_to f n + f (suc n)

-- equal terms
pub sum_same : (f g : ℕ → ℕ) (n : ℕ) → ((k : ℕ) → f k ≡ g k) → sum_to f n ≡ sum_to g n
sum_same f g zero h = refl
sum_same f g (suc n) h = ap₂ (λ (a b : ℕ). a + b) (sum_same f g n h) (h (suc n))

-- zeros
pub sum-zero : (n : ℕ) → sum_to (λ k. 0) n ≡ 0
sum-zero zero = refl
sum-zero (suc n) = let e = sum-zero n in omega arith

-- terms that are sums
pub sum_add : (f g : ℕ → ℕ) (n : ℕ) → sum_to (λ k. f k + g k) n ≡ sum_to f n + sum_to g n
sum_add f g zero = refl
sum_add f g (suc n) = let e = sum_add f g n in omega arith

sum_past : (j n : ℕ) → n < j → sum_to (λ k. one (eqb j k)) n ≡ 0
sum_past j zero h = refl
sum_past j (suc n) h =
    let e = sum_past j n (omega arith) in
    let d = ap one (ne_eqb j (suc n) (λ q. omega arith)) in
    omega arith

-- one number among them is counted once
pub sum_once : (j n : ℕ) → 1 ≤ j → j ≤ n → sum_to (λ k. one (eqb j k)) n ≡ 1
sum_once j zero h i = absurd (omega arith)
sum_once j (suc n) h i = go (eqb j (suc n)) refl (λ m. sum_once j n h m)
  where
    go : (t : Bool) → eqb j (suc n) ≡ t → (j ≤ n → sum_to (λ k. one (eqb j k)) n ≡ 1)
        → sum_to (λ k. one (eqb j k)) n + one (eqb j (suc n)) ≡ 1
    go true e ih = let p = sum_past j n (let q = eqb-true j (suc n) e in omega arith) in let d = ap one e in omega arith
    go false e ih =
        let q = eqb-false j (suc n) e in
        let p = ih (omega (arith, q)) in
        let d = ap one e in
        omega arith

sum_below : (f g : ℕ → ℕ) (n : ℕ) → ((k : ℕ) → 1 ≤ k → k ≤ n → f k ≤ g k) → sum_to f n ≤ sum_to g n
sum_below f g zero h = omega arith
sum_below f g (suc n) h =
    let a = sum_below f g n (λ k i j. h k i (omega arith)) in
    let b = h (suc n) (omega arith) (omega arith) in
    omega arith

-- terms that are no greater, and the sums are equal: the terms are
pub sum_tight : (f g : ℕ → ℕ) (n : ℕ) → ((k : ℕ) → 1 ≤ k → k ≤ n → f k ≤ g k) → sum_to f n ≡ sum_to g n
    → (k : ℕ) → 1 ≤ k → k ≤ n → f k ≡ g k
sum_tight f g zero h e k i j = absurd (omega arith)
sum_tight f g (suc n) h e k i j = go (eqb k (suc n)) refl (λ a b. sum_tight f g n (λ m p s. h m p (omega arith)) a k i b)
  where
    lower : sum_to f n ≤ sum_to g n
    lower = sum_below f g n (λ m p q. h m p (omega arith))

    last : f (suc n) ≤ g (suc n)
    last = h (suc n) (omega arith) (omega arith)

    go : (t : Bool) → eqb k (suc n) ≡ t → (sum_to f n ≡ sum_to g n → k ≤ n → f k ≡ g k) → f k ≡ g k
    go true q ih =
        let r = eqb-true k (suc n) q in
        let d : f (suc n) ≡ g (suc n) = omega (arith, lower, last) in
        ap f r ∙ d ∙ ap g (sym r)
    go false q ih = let r = eqb-false k (suc n) q in ih (omega (arith, lower, last)) (omega (arith, r))

-- ---- as many as the list of them is long
counted-past : {A : Type 0} (none : A) (f : A → Bool) (x : A) (l : List A) (n : ℕ)
    → counted (λ k. f (nth none (x ∷ l) k)) (suc n) ≡ one (f x) + counted (λ k. f (nth none l k)) n
unfolding counted
counted-past none f x l zero = one_cond (f x) 0
counted-past none f x l (suc n) = go (f (get_or l n none)) (counted-past none f x l n)
  where
    go : (t : Bool) → counted (λ k. f (nth none (x ∷ l) k)) (suc n) ≡ one (f x) + counted (λ k. f (nth none l k)) n
        → cond t (suc (counted (λ k. f (nth none (x ∷ l) k)) (suc n))) (counted (λ k. f (nth none (x ∷ l) k)) (suc n))
        ≡ one (f x) + cond t (suc (counted (λ k. f (nth none l k)) n)) (counted (λ k. f (nth none l k)) n)
    go true e = omega arith
    go false e = omega arith

-- a test by number passes as many as the list of their numbers has
pub counted-which : {A : Type 0} (none : A) (f : A → Bool) (s : ℕ) (l : List A)
    → counted (λ k. f (nth none l k)) (length l) ≡ length (which f s l)
unfolding counted
counted-which none f s [] = refl
counted-which none f s (x ∷ l) =
    counted-past none f x l (length l) ∙ ap (λ (m : ℕ). one (f x) + m) (counted-which none f (suc s) l)
    ∙ sym (length-cons_if (f x) s (which f (suc s) l))

-- several tests of which each element passes as many as g says: their counts add up to g's
pub counts_add : {A : Type 0} (f : ℕ → A → Bool) (g : A → Bool) (Fine : A → Type 0) (n s : ℕ)
    → ((x : A) → Fine x → sum_to (λ k. one (f k x)) n ≡ one (g x)) → (l : List A)
    → ((i : ℕ) → i < length l → (none : A) → Fine (get_or l i none))
    → sum_to (λ k. length (which (f k) s l)) n ≡ length (which g s l)
counts_add f g Fine n s h [] all = sum-zero n
counts_add f g Fine n s h (x ∷ l) all =
    sum_same (λ k. length (which (f k) s (x ∷ l))) (λ k. one (f k x) + length (which (f k) (suc s) l)) n
    (λ k. length-cons_if (f k x) s (which (f k) (suc s) l))
    ∙ sum_add (λ k. one (f k x)) (λ k. length (which (f k) (suc s) l)) n
    ∙ ap₂ (λ (a b : ℕ). a + b) (h x (all 0 (omega arith) x))
    (counts_add f g Fine n (suc s) h l (λ i j none. all (suc i) (omega arith) none))
    ∙ sym (length-cons_if (g x) s (which g (suc s) l))
