-- What stands in lists, numbers above all: where one stands, what holds of each, and how long a list with no repeats can be.
-- Assumes nothing.
use mathlib.Core.Path.{◌≡◌, refl, sym, ap, ◌∙◌, subst}
use mathlib.Core.Logic.{◌≢◌, ◌⊎◌, inl, inr, ⊎_elim, ◌↔◌}
use mathlib.Core.Bool.{Bool, true, false, true≢false}
use mathlib.Core.List.{List, [], ◌∷◌, ◌++◌, map}
use Prim.Native.Nat.{ℕ, zero, suc, ◌≤◌}
use native.Mathlib.Omega.{arith}
use native.Mathlib.Decide.{ℕ_discrete}
use lib.Dec.{eqb}
use lib.ListN.{length, length-append}
use borrow.Author.Tests.{eqb-true, eq-eqb}
use Rattle.links.specs.Queue.{is_in}
use Rattle.links.specs.Chain.{In, Out, Once, All}

-- ---- in and out
-- nothing is both in and out
pub out_not_in : (x : ℕ) (q : List ℕ) → Out x q → In x q → ⊥
out_not_in x [] o i = i
out_not_in x (y ∷ q) o (inl e) = o.0 e
out_not_in x (y ∷ q) o (inr i) = out_not_in x q o.1 i

-- what is not in is out
pub not_in_out : (x : ℕ) (q : List ℕ) → (In x q → ⊥) → Out x q
not_in_out x [] h = tt
not_in_out x (y ∷ q) h = ((λ e. h (inl e)), not_in_out x q (λ i. h (inr i)))

-- either in or out
pub in_dec : (x : ℕ) (q : List ℕ) → In x q ⊎ Out x q
in_dec x [] = inr tt
in_dec x (y ∷ q) = step (ℕ_discrete x y) (in_dec x q)
  where
    step : Dec (x ≡ y) → In x q ⊎ Out x q → In x (y ∷ q) ⊎ Out x (y ∷ q)
    step (yes e) d = inl (inl e)
    step (no h) (inl i) = inl (inr i)
    step (no h) (inr o) = inr (h, o)

-- all of q are in l, or one is out
pub all_in : (q l : List ℕ) → All (λ y. In y l) q ⊎ ((y : ℕ) × In y q × Out y l)
all_in [] l = inl tt
all_in (x ∷ q) l = step (in_dec x l) (all_in q l)
  where
    step : In x l ⊎ Out x l → All (λ y. In y l) q ⊎ ((y : ℕ) × In y q × Out y l)
        → All (λ y. In y l) (x ∷ q) ⊎ ((y : ℕ) × In y (x ∷ q) × Out y l)
    step (inl i) (inl a) = inl (i, a)
    step (inl i) (inr (y, j, o)) = inr (y, inr j, o)
    step (inr o) r = inr (x, inl refl, o)

-- the test says in
pub is_in_in : (x : ℕ) (q : List ℕ) → is_in x q ≡ true → In x q
is_in_in x [] h = absurd (true≢false (sym h))
is_in_in x (y ∷ q) h = step (eqb y x) refl (is_in_in x q)
  where
    step : (t : Bool) → eqb y x ≡ t → (is_in x q ≡ true → In x q) → In x (y ∷ q)
    step true e ih = inl (sym (eqb-true y x e))
    step false e ih = inr (ih (rw (e, is_in) at h))

-- and it says so of each that is in
pub in_is_in : (x : ℕ) (q : List ℕ) → In x q → is_in x q ≡ true
in_is_in x [] i = absurd i
in_is_in x (y ∷ q) i = step (eqb y x) refl i (in_is_in x q)
  where
    step : (t : Bool) → eqb y x ≡ t → In x (y ∷ q) → (In x q → is_in x q ≡ true) → is_in x (y ∷ q) ≡ true
    step true e i ih = rw (e, is_in)
    step false e (inl d) ih = absurd (true≢false (sym (eq-eqb y x (sym d)) ∙ e))
    step false e (inr i) ih = rw (e, is_in) (ih i)

-- ---- in one list after another
-- in the front
pub in_left : {A : Type 0} (x : A) (a b : List A) → In x a → In x (a ++ b)
in_left x [] b i = absurd i
in_left x (y ∷ a) b (inl e) = inl e
in_left x (y ∷ a) b (inr i) = inr (in_left x a b i)

-- in the back
pub in_right : {A : Type 0} (x : A) (a b : List A) → In x b → In x (a ++ b)
in_right x [] b i = i
in_right x (y ∷ a) b i = inr (in_right x a b i)

-- in the front or in the back
pub in_cases : {A : Type 0} (x : A) (a b : List A) → In x (a ++ b) → In x a ⊎ In x b
in_cases x [] b i = inr i
in_cases x (y ∷ a) b (inl e) = inl (inl e)
in_cases x (y ∷ a) b (inr i) = ⊎_elim (λ l. inl (inr l)) (λ r. inr r) (in_cases x a b i)

-- with one more at the end: the old ones and the new one
pub in_add : {A : Type 0} (x e : A) (a : List A) → In x (a ++ (e ∷ [])) ↔ (In x a ⊎ (x ≡ e))
in_add x e a = (
  (λ i. ⊎_elim (λ l. inl l) (λ r. ⊎_elim (λ d. inr d) (λ n. absurd n) r) (in_cases x a (e ∷ []) i)),
  ⊎_elim (in_left x a (e ∷ [])) (λ d. in_right x a (e ∷ []) (inl d)),
)

-- in a list that is mapped: what one of the list is mapped to
pub in_map : {A B : Type 0} (f : A → B) (y : B) (l : List A) → In y (map f l) → (x : A) × In x l × (y ≡ f x)
in_map f y [] i = absurd i
in_map f y (x ∷ l) (inl e) = (x, inl refl, e)
in_map f y (x ∷ l) (inr i) = let (w, j, e) = in_map f y l i in (w, inr j, e)

-- and each of the list is mapped to one in it
pub map_in : {A B : Type 0} (f : A → B) (x : A) (l : List A) → In x l → In (f x) (map f l)
map_in f x [] i = absurd i
map_in f x (y ∷ l) (inl e) = inl (ap f e)
map_in f x (y ∷ l) (inr i) = inr (map_in f x l i)

-- out of both, so out of the front
pub out_left : (x : ℕ) (a b : List ℕ) → Out x (a ++ b) → Out x a
out_left x [] b o = tt
out_left x (y ∷ a) b o = (o.0, out_left x a b o.1)

-- and out of the back
pub out_right : (x : ℕ) (a b : List ℕ) → Out x (a ++ b) → Out x b
out_right x [] b o = o
out_right x (y ∷ a) b o = out_right x a b o.1

-- out of the front and out of the back
pub out_append : (x : ℕ) (a b : List ℕ) → Out x a → Out x b → Out x (a ++ b)
out_append x [] b o u = u
out_append x (y ∷ a) b o u = (o.0, out_append x a b o.1 u)

-- ---- one in the middle
-- where x stands in q for the first time
pub record Split (x : ℕ) (q : List ℕ) : Type 0 where
  pub front : List ℕ
  pub back : List ℕ
  pub whole : q ≡ front ++ x ∷ back
  pub fresh : Out x front

-- a member stands somewhere for the first time
pub in_split : (x : ℕ) (q : List ℕ) → In x q → Split x q
in_split x [] i = absurd i
in_split x (y ∷ q) i = step (ℕ_discrete x y) i (in_split x q)
  where
    step : Dec (x ≡ y) → In x (y ∷ q) → (In x q → Split x q) → Split x (y ∷ q)
    step (yes e) i ih = record { front = []; back = q; whole = ap (λ (z : ℕ). z ∷ q) (sym e); fresh = tt }
    step (no h) (inl e) ih = absurd (h e)
    step (no h) (inr i) ih =
        let r = ih i in
        record { front = y ∷ r.front; back = r.back; whole = ap (λ (l : List ℕ). y ∷ l) r.whole; fresh = (h, r.fresh) }

-- the same members, whether it stands in the middle or first
pub in_middle : {A : Type 0} (y m : A) (a b : List A) → In y (a ++ m ∷ b) ↔ In y (m ∷ (a ++ b))
in_middle {A} y m a b = (there a, back)
  where
    there : (a : List A) → In y (a ++ m ∷ b) → In y (m ∷ (a ++ b))
    there [] i = i
    there (x ∷ a) (inl e) = inr (inl e)
    there (x ∷ a) (inr i) = ⊎_elim (λ e. inl e) (λ r. inr (inr r)) (there a i)

    back : In y (m ∷ (a ++ b)) → In y (a ++ m ∷ b)
    back (inl e) = in_right y a (m ∷ b) (inl e)
    back (inr i) = ⊎_elim (λ l. in_left y a (m ∷ b) l) (λ r. in_right y a (m ∷ b) (inr r)) (in_cases y a b i)

-- a member other than the one in the middle stays when that one goes
pub in_but : {A : Type 0} (y m : A) (a b : List A) → In y (a ++ m ∷ b) → y ≢ m → In y (a ++ b)
in_but y m a b i h = ⊎_elim (λ e. absurd (h e)) (λ r. r) ((in_middle y m a b).0 i)

-- no repeats, with one more in the middle
pub once_insert_middle : (m : ℕ) (a b : List ℕ) → Out m (a ++ b) → Once (a ++ b) → Once (a ++ m ∷ b)
once_insert_middle m [] b o d = (o, d)
once_insert_middle m (x ∷ a) b o d =
    let l : Out x (a ++ m ∷ b) = out_append x a (m ∷ b) (out_left x a b d.0) ((λ e. o.0 (sym e)), out_right x a b d.0) in
    (l, once_insert_middle m a b o.1 d.1)

-- no repeats, with the middle one taken out
pub once_remove_middle : (m : ℕ) (a b : List ℕ) → Once (a ++ m ∷ b) → Once (a ++ b)
once_remove_middle m [] b d = d.1
once_remove_middle m (x ∷ a) b d =
    let l : Out x (a ++ b) = out_append x a b (out_left x a (m ∷ b) d.0) (out_right x a (m ∷ b) d.0).1 in
    (l, once_remove_middle m a b d.1)

-- no repeats, so the middle one is none of the others
pub once_middle_out : (m : ℕ) (a b : List ℕ) → Once (a ++ m ∷ b) → Out m (a ++ b)
once_middle_out m [] b d = d.0
once_middle_out m (x ∷ a) b d = ((λ e. (out_right x a (m ∷ b) d.0).0 (sym e)), once_middle_out m a b d.1)

-- ---- what holds of each
-- it holds of any one
pub all_at : {A : Type 0} (P : A → Type 0) (q : List A) → All P q → (x : A) → In x q → P x
all_at P [] h x i = absurd i
all_at P (y ∷ q) h x (inl e) = subst P (sym e) h.0
all_at P (y ∷ q) h x (inr i) = all_at P q h.1 x i

-- what holds of any one holds of each
pub all_of : {A : Type 0} (P : A → Type 0) (q : List A) → ((x : A) → In x q → P x) → All P q
all_of P [] h = tt
all_of P (x ∷ q) h = (h x (inl refl), all_of P q (λ y i. h y (inr i)))

-- and so does what follows from it
pub all_map : {A : Type 0} {P Q : A → Type 0} → ((x : A) → P x → Q x) → (q : List A) → All P q → All Q q
all_map f [] h = tt
all_map f (x ∷ q) h = (f x h.0, all_map f q h.1)

-- what holds of two lists holds of both together
pub all_append : {A : Type 0} (P : A → Type 0) (l m : List A) → All P l → All P m → All P (l ++ m)
all_append P [] m h g = g
all_append P (x ∷ l) m h g = (h.0, all_append P l m h.1 g)

-- ---- how many there can be
-- a list with no repeats is no longer than one that has all its members
pub once_length : (q l : List ℕ) → Once q → All (λ y. In y l) q → length q ≤ length l
once_length [] l d h = omega arith
once_length (x ∷ q) l d h =
    let r = in_split x l h.0 in
    let g : All (λ y. In y (r.front ++ r.back)) q = all_of _ q (λ y i. in_but y x r.front r.back
    (rw r.whole at (all_at (λ y. In y l) q h.1 y i)) (λ e. out_not_in x q d.0 (rw e at i))) in
    let k = once_length q (r.front ++ r.back) d.1 g in
    omega (arith, ap length r.whole, length-append r.front (x ∷ r.back), length-append r.front r.back)

-- n, .., 2, 1
abbrev upto : ℕ → List ℕ
upto zero = []
upto (suc n) = suc n ∷ upto n

-- each from 1 to n is one of them
in_upto : (n x : ℕ) → 1 ≤ x → x ≤ n → In x (upto n)
in_upto zero x h g = absurd (omega arith)
in_upto (suc n) x h g = step (ℕ_discrete x (suc n)) (in_upto n x h)
  where
    step : Dec (x ≡ suc n) → (x ≤ n → In x (upto n)) → In x (suc n ∷ upto n)
    step (yes e) ih = inl e
    step (no i) ih = inr (ih (omega arith))

-- they are n
length_upto : (n : ℕ) → length (upto n) ≡ n
length_upto zero = refl
length_upto (suc n) = ap suc (length_upto n)

-- different numbers from 1 to n are at most n
pub pigeon : (n : ℕ) (q : List ℕ) → Once q → All (λ x. (1 ≤ x) × (x ≤ n)) q → length q ≤ n
pigeon n q d h = omega (arith, once_length q (upto n) d (all_map (λ x g. in_upto n x g.0 g.1) q h), length_upto n)
