-- R3's and R5's 'exactly .. once each': `rearranged q l` says that each number stands as often in q as in l, and `which` lists
-- each that passes, once, the least first.
-- Assumes nothing.
use mathlib.Core.Path.{◌≡◌, refl, sym, ap, ◌∙◌}
use mathlib.Core.Logic.{◌≢◌, ◌⊎◌, inl, inr, ⊎_elim, ◌↔◌}
use mathlib.Core.Bool.{Bool, true, false, true≢false}
use mathlib.Core.List.{List, [], ◌∷◌, ◌++◌}
use Prim.Native.Nat.{ℕ, suc, ◌+◌, ◌-◌, ◌≤◌, ◌<◌}
use native.Mathlib.Omega.{arith}
use native.Mathlib.Decide.{ℕ_discrete}
use lib.Dec.{eqb}
use lib.ListN.{length, get_or}
use borrow.Author.Tests.{eq-eqb, ne_eqb}
use Rattle.links.specs.Queue.{first_of, is_in, without, cons_if, which, rearranged}
use Rattle.links.specs.Chain.{In, Out, Once, All}
use Rattle.links.proofs.Bools.{both, and_true}
use Rattle.links.proofs.Members.{out_not_in, not_in_out, in_dec, all_in, is_in_in, in_is_in, all_at, all_of}
use Rattle.links.proofs.Removal.{without_cases, in_without_other, length_without}

-- ---- how often one stands in a list
-- one for true
abbrev pub one : Bool → ℕ
one true = 1
one false = 0

-- how often y stands in a list
abbrev pub times : ℕ → List ℕ → ℕ
times y [] = 0
times y (x ∷ q) = one (eqb x y) + times y q

-- one in the middle counts as one
times_middle : (y m : ℕ) (a b : List ℕ) → times y (a ++ m ∷ b) ≡ one (eqb m y) + times y (a ++ b)
times_middle y m [] b = refl
times_middle y m (x ∷ a) b = omega (arith, times_middle y m a b)

-- once less, where it is taken out
pub times_without : (m y : ℕ) (q : List ℕ) → In m q → times y q ≡ one (eqb m y) + times y (without m q)
times_without m y q =
    without_cases (λ l r. In m l → times y l ≡ one (eqb m y) + times y r) m q (λ o i. absurd (out_not_in m q o i))
    (λ a b o i. times_middle y m a b)

-- x counts once for itself
same_one : (x y : ℕ) → x ≡ y → one (eqb x y) ≡ 1
same_one x y e = ap one (eq-eqb x y e)

-- and not for another
other_one : (x y : ℕ) → x ≢ y → one (eqb x y) ≡ 0
other_one x y h = ap one (ne_eqb x y h)

-- a member stands there at least once
in_times : (y : ℕ) (q : List ℕ) → In y q → 1 ≤ times y q
in_times y [] i = absurd i
in_times y (x ∷ q) (inl e) = omega (arith, same_one x y (sym e))
in_times y (x ∷ q) (inr i) = omega (arith, in_times y q i)

-- what is out stands there no times
out_times : (y : ℕ) (q : List ℕ) → Out y q → times y q ≡ 0
out_times y [] o = refl
out_times y (x ∷ q) o = omega (arith, other_one x y (λ e. o.0 (sym e)), out_times y q o.1)

-- what stands there at least once is a member
times_in : (y : ℕ) (q : List ℕ) → 1 ≤ times y q → In y q
times_in y q h = ⊎_elim (λ i. i) (λ o. absurd (omega (arith, out_times y q o))) (in_dec y q)

-- no repeats: at most once each
once_times : (q : List ℕ) → Once q → (y : ℕ) → times y q ≤ 1
once_times [] d y = omega arith
once_times (x ∷ q) d y = step (ℕ_discrete x y) (once_times q d.1 y)
  where
    step : Dec (x ≡ y) → times y q ≤ 1 → one (eqb x y) + times y q ≤ 1
    step (yes e) ih = omega (arith, same_one x y e, out_times y q (rw e at d.0))
    step (no h) ih = omega (arith, other_one x y h)

-- at most once each: no repeats
times_once : (q : List ℕ) → ((y : ℕ) → times y q ≤ 1) → Once q
times_once [] h = tt
times_once (x ∷ q) h =
    (not_in_out x q (λ i. omega (arith, h x, in_times x q i, same_one x x refl)), times_once q (λ y. omega (arith, h y)))

-- ---- `rearranged` says: each as often
-- its first is in l, and the others are what is left of l
rearranged_first : (x : ℕ) (q l : List ℕ) → rearranged (x ∷ q) l ≡ true → In x l × (rearranged q (without x l) ≡ true)
rearranged_first x q l h = let r = both (is_in x l) (rearranged q (without x l)) h in (is_in_in x l r.0, r.1)

-- where it holds, each stands as often
pub rearranged-times : (q l : List ℕ) → rearranged q l ≡ true → (y : ℕ) → times y q ≡ times y l
rearranged-times [] [] h y = refl
rearranged-times [] (x ∷ l) h y = absurd (true≢false (sym h))
rearranged-times (x ∷ q) l h y =
    let r = rearranged_first x q l h in
    omega (arith, rearranged-times q (without x l) r.1 y, times_without x y l r.0)

-- where each stands as often, it holds
pub times-rearranged : (q l : List ℕ) → ((y : ℕ) → times y q ≡ times y l) → rearranged q l ≡ true
times-rearranged [] [] h = refl
times-rearranged [] (x ∷ l) h = absurd (omega (arith, h x, same_one x x refl))
times-rearranged (x ∷ q) l h =
    let i : In x l = times_in x l (omega (arith, h x, same_one x x refl)) in
    and_true (is_in x l) (rearranged q (without x l)) (in_is_in x l i)
    (times-rearranged q (without x l) (λ y. omega (arith, h y, times_without x y l i)))

-- ---- what follows of the members
-- they are the same
pub rearranged_in : (q l : List ℕ) → rearranged q l ≡ true → (y : ℕ) → (In y q ↔ In y l)
rearranged_in q l h y =
    let e = rearranged-times q l h y in (
      (λ i. times_in y l (omega (arith, in_times y q i))),
      λ i. times_in y q (omega (arith, in_times y l i)),
    )

-- where none stands twice in the one, none does in the other
pub rearranged_once : (q l : List ℕ) → rearranged q l ≡ true → Once l → Once q
rearranged_once q l h d = times_once q (λ y. omega (arith, rearranged-times q l h y, once_times l d y))

-- they are as many
pub rearranged-length : (q l : List ℕ) → rearranged q l ≡ true → length q ≡ length l
rearranged-length [] [] h = refl
rearranged-length [] (x ∷ l) h = absurd (true≢false (sym h))
rearranged-length (x ∷ q) l h =
    let r = rearranged_first x q l h in
    omega (arith, rearranged-length q (without x l) r.1, length_without x l r.0)

-- ---- when it holds
-- of two lists with no repeats and the same members
pub once_rearranged : (q l : List ℕ) → Once q → Once l → ((y : ℕ) → In y q ↔ In y l) → rearranged q l ≡ true
once_rearranged q l d g h = times-rearranged q l (λ y. step y (in_dec y q) (in_dec y l))
  where
    step : (y : ℕ) → In y q ⊎ Out y q → In y l ⊎ Out y l → times y q ≡ times y l
    step y (inl i) (inl j) = omega (arith, in_times y q i, in_times y l j, once_times q d y, once_times l g y)
    step y (inl i) (inr o) = absurd (out_not_in y l o ((h y).0 i))
    step y (inr o) (inl j) = absurd (out_not_in y q o ((h y).1 j))
    step y (inr o) (inr u) = omega (arith, out_times y q o, out_times y l u)

-- so of two such lists of which it does not hold one has a member that the other has not
pub not_rearranged : (q l : List ℕ) → Once q → Once l → rearranged q l ≡ false
    → ((y : ℕ) × In y q × Out y l) ⊎ ((y : ℕ) × In y l × Out y q)
not_rearranged q l d g h = step (all_in q l) (all_in l q)
  where
    step : All (λ y. In y l) q ⊎ ((y : ℕ) × In y q × Out y l) → All (λ y. In y q) l ⊎ ((y : ℕ) × In y l × Out y q)
        → ((y : ℕ) × In y q × Out y l) ⊎ ((y : ℕ) × In y l × Out y q)
    step (inr m) r = inl m
    step (inl a) (inr m) = inr m
    step (inl a) (inl c) =
        let e = once_rearranged q l d g (λ y. (all_at (λ x. In x l) q a y, all_at (λ x. In x q) l c y)) in
        absurd (true≢false (sym e ∙ h))

-- of a list with no repeats, of members of l only, as many as there are: so it has them all
pub counted-rearranged : (q l : List ℕ) → Once q → All (λ y. In y l) q → length q ≡ length l → rearranged q l ≡ true
counted-rearranged [] [] d h e = refl
counted-rearranged [] (x ∷ l) d h e = absurd (omega arith)
counted-rearranged (x ∷ q) l d h e =
    and_true (is_in x l) (rearranged q (without x l)) (in_is_in x l h.0)
    (counted-rearranged q (without x l) d.1 (all_of _ q others) (omega (arith, length_without x l h.0)))
  where
    others : (y : ℕ) → In y q → In y (without x l)
    others y i = in_without_other x y l (all_at (λ y. In y l) q h.1 y i) (λ z. out_not_in x q d.0 (rw z at i))

-- ---- the numbers of those that pass
-- a number that is listed is one of those counted, and what it counts passes
pub in_which : {A : Type 0} (none : A) (f : A → Bool) (n x : ℕ) (l : List A) → In x (which f n l)
    → (n ≤ x) × (x < n + length l) × (f (get_or l (x - n) none) ≡ true)
in_which none f n x [] i = absurd i
in_which none f n x (y ∷ l) i = step (f y) refl i (in_which none f (suc n) x l)
  where
    later : (suc n ≤ x) × (x < suc n + length l) × (f (get_or l (x - suc n) none) ≡ true)
        → (n ≤ x) × (x < n + length (y ∷ l)) × (f (get_or (y ∷ l) (x - n) none) ≡ true)
    later r = let e : x - n ≡ suc (x - suc n) = omega (arith, r.0) in (omega (arith, r.0), omega (arith, r.1), rw e r.2)

    step : (t : Bool) → f y ≡ t → In x (cons_if t n (which f (suc n) l))
        → (In x (which f (suc n) l) → (suc n ≤ x) × (x < suc n + length l) × (f (get_or l (x - suc n) none) ≡ true))
        → (n ≤ x) × (x < n + length (y ∷ l)) × (f (get_or (y ∷ l) (x - n) none) ≡ true)
    step true e (inl d) ih = let z : x - n ≡ 0 = omega arith in (omega arith, omega arith, rw z e)
    step true e (inr j) ih = later (ih j)
    step false e j ih = later (ih j)

-- each that is counted and passes is listed
pub which_in : {A : Type 0} (none : A) (f : A → Bool) (n x : ℕ) (l : List A)
    → n ≤ x → x < n + length l → f (get_or l (x - n) none) ≡ true → In x (which f n l)
which_in none f n x [] h g e = absurd (omega arith)
which_in none f n x (y ∷ l) h g e = step (ℕ_discrete x n) (which_in none f (suc n) x l)
  where
    put : (t : Bool) → In x (which f (suc n) l) → In x (cons_if t n (which f (suc n) l))
    put true i = inr i
    put false i = i

    step : Dec (x ≡ n) → (suc n ≤ x → x < suc n + length l → f (get_or l (x - suc n) none) ≡ true → In x (which f (suc n) l))
        → In x (cons_if (f y) n (which f (suc n) l))
    step (yes d) ih =
        let z : x - n ≡ 0 = omega arith in
        let k : f y ≡ true = rw z at e in
        rw k (inl d)
    step (no d) ih =
        let z : x - n ≡ suc (x - suc n) = omega arith in
        put (f y) (ih (omega arith) (omega arith) (rw z at e))

-- none is listed twice
pub which_once : {A : Type 0} (f : A → Bool) (n : ℕ) (l : List A) → Once (which f n l)
which_once f n [] = tt
which_once f n (y ∷ l) = step (f y) (which_once f (suc n) l)
  where
    step : (t : Bool) → Once (which f (suc n) l) → Once (cons_if t n (which f (suc n) l))
    step true d = (not_in_out n (which f (suc n) l) (λ i. omega (arith, (in_which y f (suc n) n l i).0)), d)
    step false d = d

-- the first that is listed is the least
pub which_least : {A : Type 0} (none : A) (f : A → Bool) (n x : ℕ) (l : List A) → In x (which f n l) → first_of (which f n l) ≤ x
which_least none f n x [] i = absurd i
which_least none f n x (y ∷ l) i = step (f y) refl i (which_least none f (suc n) x l)
  where
    step : (t : Bool) → f y ≡ t → In x (which f n (y ∷ l)) → (In x (which f (suc n) l) → first_of (which f (suc n) l) ≤ x)
        → first_of (cons_if (f y) n (which f (suc n) l)) ≤ x
    step true e i ih = rw e (in_which none f n x (y ∷ l) i).0
    step false e i ih = rw e (ih (rw e at i))
