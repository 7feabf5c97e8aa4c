-- One more in a queue: where it goes, what then stands in the queue, and that priority numbers still never fall.
-- Assumes nothing.
use mathlib.Core.Path.{◌≡◌, refl, sym, ap, ◌∙◌, subst}
use mathlib.Core.Logic.{◌≢◌, inl, inr, ◌↔◌}
use mathlib.Core.Bool.{Bool, true, false}
use mathlib.Core.List.{List, [], ◌∷◌, ◌++◌}
use Prim.Native.Nat.{ℕ, ◌≤◌}
use native.Mathlib.Omega.{arith}
use lib.Dec.{leb}
use borrow.Author.Tests.{leb-true, leb-false, ltb-true, ltb-false, le-leb}
use Rattle.links.specs.Queue.{first_of, goes_before, insert, rising}
use Rattle.links.specs.Chain.{In, Out, Once, All, Sorted}
use Rattle.links.proofs.Bools.{both, and_true}
use Rattle.links.proofs.Members.{out_not_in, in_right, out_left, in_middle, once_insert_middle, all_at, all_of, all_map}

-- ---- parts of a queue
-- those up to the first that goes is true of
abbrev pub before : (ℕ → Bool) → List ℕ → List ℕ
before goes [] = []
before goes (x ∷ q) = elim (goes x) [ true ↦ [] | false ↦ x ∷ before goes q ]

-- that one and the rest
abbrev pub after : (ℕ → Bool) → List ℕ → List ℕ
after goes [] = []
after goes (x ∷ q) = elim (goes x) [ true ↦ x ∷ q | false ↦ after goes q ]

-- the last of a list, x for none
abbrev pub last_or : ℕ → List ℕ → ℕ
last_or x [] = x
last_or x (y ∷ q) = last_or y q

-- the last of a list, 0 for none
abbrev pub last0 : List ℕ → ℕ
last0 q = last_or 0 q

-- both parts together are the queue
pub before_after : (goes : ℕ → Bool) (q : List ℕ) → before goes q ++ after goes q ≡ q
before_after goes [] = refl
before_after goes (x ∷ q) = step (goes x) refl (before_after goes q)
  where
    step : (t : Bool) → goes x ≡ t → before goes q ++ after goes q ≡ q → before goes (x ∷ q) ++ after goes (x ∷ q) ≡ x ∷ q
    step true e ih = rw (e, before, after)
    step false e ih = rw (e, before, after) (ap (λ (l : List ℕ). x ∷ l) ih)

-- ---- where the new one stands
-- between both parts
pub insert_split : (goes : ℕ → Bool) (m : ℕ) (q : List ℕ) → insert goes m q ≡ before goes q ++ m ∷ after goes q
insert_split goes m [] = refl
insert_split goes m (x ∷ q) = step (goes x) refl (insert_split goes m q)
  where
    step : (t : Bool) → goes x ≡ t → insert goes m q ≡ before goes q ++ m ∷ after goes q
        → insert goes m (x ∷ q) ≡ before goes (x ∷ q) ++ m ∷ after goes (x ∷ q)
    step true e ih = rw (e, insert, before, after)
    step false e ih = rw (e, insert, before, after) (ap (λ (l : List ℕ). x ∷ l) ih)

-- only the tests of members matter
pub insert_stays : (goes stays : ℕ → Bool) (m : ℕ) (q : List ℕ) → ((y : ℕ) → In y q → goes y ≡ stays y)
    → insert goes m q ≡ insert stays m q
insert_stays goes stays m [] h = refl
insert_stays goes stays m (x ∷ q) h = step (goes x) refl (sym (h x (inl refl))) (insert_stays goes stays m q (λ y i. h y (inr i)))
  where
    step : (t : Bool) → goes x ≡ t → stays x ≡ goes x → insert goes m q ≡ insert stays m q
        → insert goes m (x ∷ q) ≡ insert stays m (x ∷ q)
    step true e d ih = rw (d, e, insert)
    step false e d ih = rw (d, e, insert) (ap (λ (l : List ℕ). x ∷ l) ih)

-- where it goes before none of them, at the end
pub insert_end : (goes : ℕ → Bool) (m : ℕ) (q : List ℕ) → ((y : ℕ) → In y q → goes y ≡ false) → insert goes m q ≡ q ++ m ∷ []
insert_end goes m [] h = refl
insert_end goes m (x ∷ q) h =
    rw (h x (inl refl), insert) (ap (λ (l : List ℕ). x ∷ l) (insert_end goes m q (λ y i. h y (inr i))))

-- what holds of any list and the same with m somewhere in it holds of a queue and its insertion
pub insert_cases : (P : List ℕ → List ℕ → Type 0) (goes : ℕ → Bool) (m : ℕ) (q : List ℕ)
    → ((a b : List ℕ) → P (a ++ b) (a ++ m ∷ b)) → P q (insert goes m q)
insert_cases P goes m q h =
    subst (λ (l : List ℕ). P l (insert goes m q)) (before_after goes q)
    (rw (insert_split goes m q) (h (before goes q) (after goes q)))

-- ---- what then stands in the queue
-- the new one and the old ones
pub in_insert : (goes : ℕ → Bool) (m y : ℕ) (q : List ℕ) → In y (insert goes m q) ↔ In y (m ∷ q)
in_insert goes m y q = insert_cases (λ l r. In y r ↔ In y (m ∷ l)) goes m q (in_middle y m)

-- what holds of the new one and of the old ones holds of each
pub all_insert : (P : ℕ → Type 0) (goes : ℕ → Bool) (m : ℕ) (q : List ℕ) → P m → All P q → All P (insert goes m q)
all_insert P goes m q g h = all_of P (insert goes m q) (λ y i. all_at P (m ∷ q) (g, h) y ((in_insert goes m y q).0 i))

-- where there were no repeats there are none
pub once_insert : (goes : ℕ → Bool) (m : ℕ) (q : List ℕ) → Out m q → Once q → Once (insert goes m q)
once_insert goes m q = insert_cases (λ l r. Out m l → Once l → Once r) goes m q (once_insert_middle m)

-- ---- first, or behind another
-- the last is a member
last_in : (x : ℕ) (q : List ℕ) → In (last_or x q) (x ∷ q)
last_in x [] = inl refl
last_in x (y ∷ q) = inr (last_in y q)

-- the last before the new one is 0: none stands before it
pub before_none : (goes : ℕ → Bool) (q : List ℕ) → Out 0 q → last0 (before goes q) ≡ 0 → before goes q ≡ []
before_none goes q o e = step (before goes q) (out_left 0 (before goes q) (after goes q) (rw (← before_after goes q) at o)) e
  where
    step : (l : List ℕ) → Out 0 l → last0 l ≡ 0 → l ≡ []
    step [] o e = refl
    step (x ∷ l) o e = absurd (out_not_in 0 (x ∷ l) o (subst (λ (y : ℕ). In y (x ∷ l)) e (last_in x l)))

-- then the new one is the first
pub insert_first : (goes : ℕ → Bool) (m : ℕ) (q : List ℕ) → Out 0 q → last0 (before goes q) ≡ 0 → insert goes m q ≡ m ∷ q
insert_first goes m q o e =
    let n = before_none goes q o e in
    insert_split goes m q ∙ ap (λ (l : List ℕ). l ++ m ∷ after goes q) n
    ∙ ap (λ (l : List ℕ). m ∷ l) (sym (ap (λ (l : List ℕ). l ++ after goes q) n) ∙ before_after goes q)

-- one stands before the new one: the first stays first
pub first_insert_behind : (goes : ℕ → Bool) (m : ℕ) (q : List ℕ) → last0 (before goes q) ≢ 0
    → first_of (insert goes m q) ≡ first_of q
first_insert_behind goes m [] h = absurd (h refl)
first_insert_behind goes m (x ∷ q) h = step (goes x) refl
  where
    step : (t : Bool) → goes x ≡ t → first_of (insert goes m (x ∷ q)) ≡ x
    step true e = absurd (h (rw (e, before)))
    step false e = rw (e, insert)

-- ---- priority numbers never fall
-- one that the new one goes before has no lower number, LIFO and FIFO alike
pub goes_after : (f : Bool) (p x : ℕ) → goes_before f p x ≡ true → p ≤ x
goes_after true p x e = omega (arith, ltb-true, leb-true)
goes_after false p x e = omega (arith, ltb-true, leb-true)

-- one that it is put behind has no higher number
pub goes_before_lem : (f : Bool) (p x : ℕ) → goes_before f p x ≡ false → x ≤ p
goes_before_lem true p x e = omega (arith, ltb-false, leb-false)
goes_before_lem false p x e = omega (arith, ltb-false, leb-false)

-- so a sorted queue stays sorted
pub sorted_insert : (number : ℕ → ℕ) (f : Bool) (p m : ℕ) (q : List ℕ) → number m ≡ p → Sorted number q
    → Sorted number (insert (λ x. goes_before f p (number x)) m q)
sorted_insert number f p m [] d h = (tt, tt)
sorted_insert number f p m (x ∷ q) d h = step (goes_before f p (number x)) refl (sorted_insert number f p m q d h.1)
  where
    step : (t : Bool) → goes_before f p (number x) ≡ t → Sorted number (insert (λ x. goes_before f p (number x)) m q)
        → Sorted number (insert (λ x. goes_before f p (number x)) m (x ∷ q))
    step true e ih =
        let g : number m ≤ number x = omega (arith, goes_after f p (number x) e) in
        rw (e, insert) ((g, all_map (λ y k. omega arith) q h.0), h)
    step false e ih =
        let g : number x ≤ number m = omega (arith, goes_before_lem f p (number x) e) in
        rw (e, insert) (all_insert (λ y. number x ≤ number y) (λ x. goes_before f p (number x)) m q g h.0, ih)

-- none before the last of a sorted queue has a greater number than it
pub sorted_last : (number : ℕ → ℕ) (q : List ℕ) (k : ℕ) → Sorted number (q ++ k ∷ []) → (y : ℕ) → In y q → number y ≤ number k
sorted_last number [] k s y i = absurd i
sorted_last number (x ∷ q) k s y (inl e) =
    subst (λ (w : ℕ). number w ≤ number k) (sym e)
    (all_at (λ w. number x ≤ number w) (q ++ k ∷ []) s.0 k (in_right k q (k ∷ []) (inl refl)))
sorted_last number (x ∷ q) k s y (inr i) = sorted_last number q k s.1 y i

-- the test says sorted, and none below its bound
pub rising-sorted : (number : ℕ → ℕ) (low : ℕ) (q : List ℕ) → rising number low q ≡ true
    → All (λ y. low ≤ number y) q × Sorted number q
rising-sorted number low [] e = (tt, tt)
rising-sorted number low (x ∷ q) e =
    let r = both (leb low (number x)) (rising number (number x) q) e in
    let s : All (λ y. number x ≤ number y) q × Sorted number q = rising-sorted number (number x) q r.1 in
    let h : low ≤ number x = leb-true low (number x) r.0 in
    ((h, all_map (λ y k. omega arith) q s.0), s)

-- and it says so of each such queue
pub sorted-rising : (number : ℕ → ℕ) (low : ℕ) (q : List ℕ) → All (λ y. low ≤ number y) q → Sorted number q
    → rising number low q ≡ true
sorted-rising number low [] h s = refl
sorted-rising number low (x ∷ q) h s =
    and_true (leb low (number x)) (rising number (number x) q) (le-leb low (number x) h.0)
    (sorted-rising number (number x) q s.0 s.1)
