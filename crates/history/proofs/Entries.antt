-- Lists of entries: who stands in them, what a test keeps of them, and that no two were made at one time.
-- Assumes nothing.
use mathlib.Core.Path.{◌≡◌, refl, sym, ap, ◌∙◌}
use mathlib.Core.Logic.{◌≢◌, inl, inr, ⊎_elim, ◌↔◌}
use mathlib.Core.Bool.{Bool, true, false, cond, true≢false}
use mathlib.Core.List.{List, [], ◌∷◌, ◌++◌}
use Prim.Native.Nat.{◌<◌}
use native.Mathlib.Omega.{arith}
use Rattle.links.specs.Chain.{In}
use Rattle.links.proofs.Members.{in_add}
use Rattle.history.specs.Ranking.{Entry, keep, DifferentTimes}

-- ---- who stands where
-- of what is kept: those that stood there and pass
pub in_keep : (test : Entry → Bool) (x : Entry) (l : List Entry) → In x (keep test l) ↔ (In x l × (test x ≡ true))
in_keep test x l = (there l, λ h. back l h.0 h.1)
  where
    there : (l : List Entry) → In x (keep test l) → In x l × (test x ≡ true)
    there [] i = absurd i
    there (y ∷ l) i = step (test y) refl i (there l)
      where
        step : (b : Bool) → test y ≡ b → In x (cond b (y ∷ keep test l) (keep test l))
            → (In x (keep test l) → In x l × (test x ≡ true)) → In x (y ∷ l) × (test x ≡ true)
        step true e (inl d) ih = (inl d, ap test d ∙ e)
        step true e (inr i) ih = (inr (ih i).0, (ih i).1)
        step false e i ih = (inr (ih i).0, (ih i).1)

    back : (l : List Entry) → In x l → test x ≡ true → In x (keep test l)
    back [] i t = absurd i
    back (y ∷ l) i t = step (test y) refl i (λ s. back l s t)
      where
        step : (b : Bool) → test y ≡ b → In x (y ∷ l) → (In x l → In x (keep test l))
            → In x (cond b (y ∷ keep test l) (keep test l))
        step true e (inl d) ih = inl d
        step true e (inr s) ih = inr (ih s)
        step false e (inl d) ih = absurd (true≢false (sym t ∙ ap test d ∙ e))
        step false e (inr s) ih = ih s

-- ---- what is kept
-- with one more at the end
pub keep_add : (test : Entry → Bool) (l : List Entry) (e : Entry)
    → keep test (l ++ (e ∷ [])) ≡ keep test l ++ cond (test e) (e ∷ []) []
keep_add test [] e = refl
keep_add test (x ∷ l) e = step (test x) (keep_add test l e)
  where
    step : (b : Bool) → keep test (l ++ (e ∷ [])) ≡ keep test l ++ cond (test e) (e ∷ []) []
        → cond b (x ∷ keep test (l ++ (e ∷ []))) (keep test (l ++ (e ∷ [])))
        ≡ cond b (x ∷ keep test l) (keep test l) ++ cond (test e) (e ∷ []) []
    step true ih = ap (λ (q : List Entry). x ∷ q) ih
    step false ih = ih

-- two tests that agree on the entries keep the same ones
pub keep_alike : (test other : Entry → Bool) (l : List Entry) → ((x : Entry) → In x l → test x ≡ other x)
    → keep test l ≡ keep other l
keep_alike test other [] h = refl
keep_alike test other (x ∷ l) h = step (test x) refl (keep_alike test other l (λ y i. h y (inr i)))
  where
    step : (b : Bool) → test x ≡ b → keep test l ≡ keep other l → keep test (x ∷ l) ≡ keep other (x ∷ l)
    step true e ih = rw (← h x (inl refl), e) (ap (λ (q : List Entry). x ∷ q) ih)
    step false e ih = rw (← h x (inl refl), e) ih

-- a test that all pass keeps all
pub keep_all : (test : Entry → Bool) (l : List Entry) → ((x : Entry) → In x l → test x ≡ true) → keep test l ≡ l
keep_all test [] h = refl
keep_all test (x ∷ l) h = rw (h x (inl refl)) (ap (λ (q : List Entry). x ∷ q) (keep_all test l (λ y i. h y (inr i))))

-- two tests may come in either order
pub keep-keep : (test other : Entry → Bool) (l : List Entry) → keep test (keep other l) ≡ keep other (keep test l)
keep-keep test other [] = refl
keep-keep test other (x ∷ l) = step (test x) refl (other x) refl (keep-keep test other l)
  where
    step : (b : Bool) → test x ≡ b → (c : Bool) → other x ≡ c → keep test (keep other l) ≡ keep other (keep test l)
        → keep test (cond c (x ∷ keep other l) (keep other l)) ≡ keep other (cond b (x ∷ keep test l) (keep test l))
    step true p true q ih = rw (p, q) (ap (λ (r : List Entry). x ∷ r) ih)
    step true p false q ih = rw q ih
    step false p true q ih = rw p ih
    step false p false q ih = ih

-- ---- no two made at one time
-- with one more at the end, made later
pub times_add : (l : List Entry) (e : Entry) → DifferentTimes l → ((x : Entry) → In x l → x.time < e.time) → DifferentTimes (l ++ (e ∷ []))
times_add [] e o h = ((λ y i. absurd i), tt)
times_add (x ∷ l) e o h = (apart, times_add l e o.1 (λ y i. h y (inr i)))
  where
    apart : (y : Entry) → In y (l ++ (e ∷ [])) → y.time ≢ x.time
    apart y i =
        let new : y ≡ e → y.time ≢ x.time = λ d t. absurd (omega (arith, h x (inl refl), ap (λ (z : Entry). z.time) d)) in
        ⊎_elim (o.0 y) new ((in_add y e l).0 i)

-- of what is kept
pub times-keep : (test : Entry → Bool) (l : List Entry) → DifferentTimes l → DifferentTimes (keep test l)
times-keep test [] o = tt
times-keep test (x ∷ l) o = step (test x) (times-keep test l o.1)
  where
    step : (b : Bool) → DifferentTimes (keep test l) → DifferentTimes (cond b (x ∷ keep test l) (keep test l))
    step true ih = ((λ y i. o.0 y ((in_keep test y l).0 i).0), ih)
    step false ih = ih
