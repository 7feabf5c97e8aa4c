-- One less in a queue: what taking out m leaves, and what is left behind the first.
-- Assumes nothing.
use mathlib.Core.Path.{◌≡◌, refl, sym, ap, ap₂, ◌∙◌, subst}
use mathlib.Core.Logic.{◌≢◌, ◌⊎◌, inl, inr, ◌↔◌}
use mathlib.Core.Bool.{Bool, true, false}
use mathlib.Core.List.{List, [], ◌∷◌, ◌++◌}
use Prim.Native.Nat.{ℕ, suc, ◌≤◌}
use native.Mathlib.Omega.{arith}
use lib.Dec.{eqb}
use lib.ListN.{length, length-append}
use borrow.Author.Tests.{eqb-true, eqb-false, eq-eqb, ne_eqb}
use Rattle.links.specs.Queue.{first_of, rest_of, insert, without}
use Rattle.links.specs.Chain.{In, Out, Once, All, Sorted, Chain}
use Rattle.links.proofs.Members.{out_not_in, in_dec, out_left, in_split, in_middle, in_but, all_at, all_of}
use Rattle.links.proofs.Members.{once_remove_middle, once_middle_out}
use Rattle.links.proofs.Chains.{chain_first, chain_out_zero, chain_from}
use Rattle.links.proofs.Insertion.{before, after, last0, before_after, insert_cases, before_none}

-- ---- what is left
-- the first m goes
pub without_split : (m : ℕ) (a b : List ℕ) → Out m a → without m (a ++ m ∷ b) ≡ a ++ b
without_split m [] b o = rw (eq-eqb m m refl, without)
without_split m (x ∷ a) b o =
    rw (ne_eqb x m (λ e. o.0 (sym e)), without) (ap (λ (l : List ℕ). x ∷ l) (without_split m a b o.1))

-- without the first: the rest
pub rest_without : (q : List ℕ) → without (first_of q) q ≡ rest_of q
rest_without [] = refl
rest_without (x ∷ q) = rw (eq-eqb x x refl, without)

-- where m stands nowhere nothing goes
pub without_out : (m : ℕ) (q : List ℕ) → Out m q → without m q ≡ q
without_out m [] o = refl
without_out m (x ∷ q) o = rw (ne_eqb x m (λ e. o.0 (sym e)), without) (ap (λ (l : List ℕ). x ∷ l) (without_out m q o.1))

-- one that is put in and taken out again leaves the queue as it was
pub without_insert : (goes : ℕ → Bool) (m : ℕ) (q : List ℕ) → Out m q → without m (insert goes m q) ≡ q
without_insert goes m q =
    insert_cases (λ l r. Out m l → without m r ≡ l) goes m q (λ a b o. without_split m a b (out_left m a b o))

-- what holds where m stands nowhere, and where the first m is taken out of any list, holds of q and what is left
pub without_cases : (P : List ℕ → List ℕ → Type 0) (m : ℕ) (q : List ℕ)
    → (Out m q → P q q) → ((a b : List ℕ) → Out m a → P (a ++ m ∷ b) (a ++ b)) → P q (without m q)
without_cases P m q h g = step (in_dec m q)
  where
    step : In m q ⊎ Out m q → P q (without m q)
    step (inl i) =
        let r = in_split m q i in
        subst (λ (l : List ℕ). P l (without m l)) (sym r.whole)
        (rw (without_split m r.front r.back r.fresh) (g r.front r.back r.fresh))
    step (inr o) = rw (without_out m q o) (h o)

-- ---- its members
-- what is left was there
in_without_old : (m y : ℕ) (q : List ℕ) → In y (without m q) → In y q
in_without_old m y q =
    without_cases (λ l r. In y r → In y l) m q (λ o i. i) (λ a b o i. (in_middle y m a b).1 (inr i))

-- all others are left
pub in_without_other : (m y : ℕ) (q : List ℕ) → In y q → y ≢ m → In y (without m q)
in_without_other m y q = without_cases (λ l r. In y l → y ≢ m → In y r) m q (λ o i h. i) (λ a b o i h. in_but y m a b i h)

-- m itself is gone
pub out_without : (m : ℕ) (q : List ℕ) → Once q → Out m (without m q)
out_without m q = without_cases (λ l r. Once l → Out m r) m q (λ o d. o) (λ a b o d. once_middle_out m a b d)

-- exactly the others are left
pub in_without : (m y : ℕ) (q : List ℕ) → Once q → In y (without m q) ↔ (In y q × (y ≢ m))
in_without m y q d = (
  (λ i. (in_without_old m y q i, λ e. out_not_in m (without m q) (out_without m q d) (rw e at i))),
  λ h. in_without_other m y q h.0 h.1,
)

-- where there were no repeats there are none
pub once_without : (m : ℕ) (q : List ℕ) → Once q → Once (without m q)
once_without m q = without_cases (λ l r. Once l → Once r) m q (λ o d. d) (λ a b o d. once_remove_middle m a b d)

-- there is one less
pub length_without : (m : ℕ) (q : List ℕ) → In m q → length q ≡ suc (length (without m q))
length_without m q =
    without_cases (λ l r. In m l → length l ≡ suc (length r)) m q (λ o i. absurd (out_not_in m q o i))
    (λ a b o i. omega (arith, length-append a b, length-append a (m ∷ b)))

-- what held of each still does
pub all_without : (P : ℕ → Type 0) (m : ℕ) (q : List ℕ) → All P q → All P (without m q)
all_without P m q h = all_of P (without m q) (λ y i. all_at P q h y (in_without_old m y q i))

-- sorted stays sorted
pub sorted_without : (number : ℕ → ℕ) (m : ℕ) (q : List ℕ) → Sorted number q → Sorted number (without m q)
sorted_without number m [] h = tt
sorted_without number m (x ∷ q) h = step (eqb x m) refl (sorted_without number m q h.1)
  where
    step : (t : Bool) → eqb x m ≡ t → Sorted number (without m q) → Sorted number (without m (x ∷ q))
    step true e ih = rw (e, without) h.1
    step false e ih = rw (e, without) (all_without (λ y. number x ≤ number y) m q h.0, ih)

-- ---- first, or behind another
-- m stands first behind those before it, and what is left are they and the others
abbrev pub Found : ℕ → List ℕ → Type 0
Found m q = (after (λ y. eqb y m) q ≡ m ∷ rest_of (after (λ y. eqb y m) q))
    × (without m q ≡ before (λ y. eqb y m) q ++ rest_of (after (λ y. eqb y m) q))

-- so it is for each member
pub without_found : (m : ℕ) (q : List ℕ) → In m q → Found m q
without_found m [] i = absurd i
without_found m (x ∷ q) i = step (eqb x m) refl i (without_found m q)
  where
    step : (t : Bool) → eqb x m ≡ t → In m (x ∷ q) → (In m q → Found m q) → Found m (x ∷ q)
    step true e i ih = rw (e, after, before, without) (ap (λ (y : ℕ). y ∷ q) (eqb-true x m e), refl)
    step false e (inl d) ih = absurd (eqb-false x m e (sym d))
    step false e (inr j) ih = rw (e, after, before, without) ((ih j).0, ap (λ (l : List ℕ). x ∷ l) (ih j).1)

-- none before m: it is the first
pub without_first : (m : ℕ) (q : List ℕ) → Out 0 q → In m q → last0 (before (λ y. eqb y m) q) ≡ 0 → q ≡ m ∷ without m q
without_first m q o i e =
    let r = without_found m q i in
    let n = before_none (λ y. eqb y m) q o e in
    sym (before_after (λ y. eqb y m) q) ∙ ap₂ ◌++◌ n r.0
    ∙ ap (λ (l : List ℕ). m ∷ l) (sym (r.1 ∙ ap (λ (l : List ℕ). l ++ rest_of (after (λ y. eqb y m) q)) n))

-- then the links from it on list what is left
pub chain_without_first : (next : ℕ → ℕ) (x m : ℕ) (q : List ℕ) → Chain next x q → In m q → last0 (before (λ y. eqb y m) q) ≡ 0
    → Chain next (next m) (without m q)
chain_without_first next x m q c i e =
    let d : Chain next x (m ∷ without m q) = subst (Chain next x) (without_first m q (chain_out_zero next x q c) i e) c in d.2

-- and the one behind it is first
pub first_without_first : (next : ℕ → ℕ) (x m : ℕ) (q : List ℕ) → Chain next x q → In m q → last0 (before (λ y. eqb y m) q) ≡ 0
    → first_of (without m q) ≡ next m
first_without_first next x m q c i e =
    sym (chain_first next (next m) (without m q) (chain_without_first next x m q c i e))

-- one before m: the first stays first
pub first_without_behind : (m : ℕ) (q : List ℕ) → last0 (before (λ y. eqb y m) q) ≢ 0 → first_of (without m q) ≡ first_of q
first_without_behind m [] h = refl
first_without_behind m (x ∷ q) h = step (eqb x m) refl
  where
    step : (t : Bool) → eqb x m ≡ t → first_of (without m (x ∷ q)) ≡ x
    step true e = absurd (h (rw (e, before)))
    step false e = rw (e, without)

-- ---- behind the first
-- what held of each holds of these
pub all_rest : (P : ℕ → Type 0) (q : List ℕ) → All P q → All P (rest_of q)
all_rest P [] h = tt
all_rest P (x ∷ q) h = h.1

-- it is a chain of its own
pub chain-rest : (next : ℕ → ℕ) (x : ℕ) (q : List ℕ) → Chain next x q → Chain next (first_of (rest_of q)) (rest_of q)
chain-rest next x [] c = refl
chain-rest next x (y ∷ q) c = chain_from next x (y ∷ []) q c
