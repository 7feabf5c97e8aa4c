-- The ranking: that it is one, and what becomes of it with one entry more, with some entries less, and at its front.
-- Assumes nothing.
use mathlib.Core.Path.{◌≡◌, refl, sym, ap, ap₂, ◌∙◌, subst}
use mathlib.Core.Logic.{◌≢◌, ◌⊎◌, inl, inr, ⊎_elim, ◌↔◌}
use mathlib.Core.Bool.{Bool, true, false, cond, not, true≢false}
use mathlib.Core.List.{List, [], ◌∷◌}
use Rattle.links.specs.Chain.{In}
use Rattle.links.proofs.Members.{all_at, all_of}
use Rattle.history.specs.Ranking.{Entry, ahead, keep, leader, AheadOf, InOrder, Ranking, DifferentTimes}
use Rattle.history.specs.Claims.{Ranked, OneRanking}
use Rattle.history.proofs.Ahead.{ahead_irreflexive, ahead_asymmetric, ahead_transitive, ahead-total}
use Rattle.history.proofs.Entries.{in_keep}

-- ---- ahead of each
-- of any one of them
pub ahead_at : (x : Entry) (q : List Entry) → AheadOf x q → (y : Entry) → In y q → ahead x y ≡ true
ahead_at x q = all_at (λ y. ahead x y ≡ true) q

-- of any one, so of each
ahead_all : (x : Entry) (q : List Entry) → ((y : Entry) → In y q → ahead x y ≡ true) → AheadOf x q
ahead_all x q = all_of (λ y. ahead x y ≡ true) q

-- one ahead of the list doesn't stand in it
pub ahead_out : (x y : Entry) (q : List Entry) → AheadOf x q → In y q → x ≡ y → ⊥
ahead_out x y q h i e =
    true≢false (sym (ahead_at x q h y i) ∙ ap (λ (w : Entry). ahead x w) (sym e) ∙ ahead_irreflexive x)

-- two not each ahead of the other
ahead_not_both : (x y : Entry) → ahead x y ≡ true → ahead y x ≡ true → ⊥
ahead_not_both x y h k = true≢false (sym k ∙ ahead_asymmetric x y h)

-- ---- at most one ranking
-- two lists in order with the same entries are one list
order_one : (q r : List Entry) → ((x : Entry) → In x q ↔ In x r) → InOrder q → InOrder r → q ≡ r
order_one [] [] s a b = refl
order_one [] (y ∷ r) s a b = absurd ((s y).1 (inl refl))
order_one (x ∷ q) [] s a b = absurd ((s x).0 (inl refl))
order_one (x ∷ q) (y ∷ r) s a b = ap₂ ◌∷◌ same (order_one q r (λ z. (there z, back z)) a.1 b.1)
  where
    pick : In x (y ∷ r) → In y (x ∷ q) → x ≡ y
    pick (inl e) j = e
    pick (inr i) (inl e) = sym e
    pick (inr i) (inr j) = absurd (ahead_not_both x y (ahead_at x q a.0 y j) (ahead_at y r b.0 x i))

    same : x ≡ y
    same = pick ((s x).0 (inl refl)) ((s y).1 (inl refl))

    there : (z : Entry) → In z q → In z r
    there z i = ⊎_elim (λ (e : z ≡ y). absurd (ahead_out x z q a.0 i (same ∙ sym e))) (λ j. j) ((s z).0 (inr i))

    back : (z : Entry) → In z r → In z q
    back z i = ⊎_elim (λ (e : z ≡ x). absurd (ahead_out y z r b.0 i (sym same ∙ sym e))) (λ j. j) ((s z).1 (inr i))

-- any two rankings of a list are one list
pub ranking_one : (l q r : List Entry) → DifferentTimes l → Ranking l q → Ranking l r → q ≡ r
ranking_one l q r o a b =
    order_one q r (λ x. ((λ i. (b.same x).1 ((a.same x).0 i)), λ i. (a.same x).1 ((b.same x).0 i))) a.order b.order

-- ---- one entry more
-- before the first that it goes ahead of
abbrev pub place : Entry → List Entry → List Entry
place e [] = e ∷ []
place e (x ∷ q) = cond (ahead e x) (e ∷ x ∷ q) (x ∷ place e q)

-- then the new one and the old ones stand there
in_place : (e y : Entry) (q : List Entry) → In y (place e q) ↔ In y (e ∷ q)
in_place e y [] = ((λ i. i), λ i. i)
in_place e y (x ∷ q) = step (ahead e x) (in_place e y q)
  where
    step : (b : Bool) → In y (place e q) ↔ In y (e ∷ q)
        → In y (cond b (e ∷ x ∷ q) (x ∷ place e q)) ↔ In y (e ∷ x ∷ q)
    step true ih = ((λ i. i), λ i. i)
    step false ih = (there, back)
      where
        there : In y (x ∷ place e q) → In y (e ∷ x ∷ q)
        there (inl d) = inr (inl d)
        there (inr i) = ⊎_elim (λ d. inl d) (λ j. inr (inr j)) (ih.0 i)

        back : In y (e ∷ x ∷ q) → In y (x ∷ place e q)
        back (inl d) = inr (ih.1 (inl d))
        back (inr (inl d)) = inl d
        back (inr (inr j)) = inr (ih.1 (inr j))

-- and they are in order
order-place : (e : Entry) (q : List Entry) → ((x : Entry) → In x q → x.time ≢ e.time) → InOrder q → InOrder (place e q)
order-place e [] n h = (tt, tt)
order-place e (x ∷ q) n h = step (ahead e x) refl (order-place e q (λ y i. n y (inr i)) h.1)
  where
    step : (b : Bool) → ahead e x ≡ b → InOrder (place e q) → InOrder (cond b (e ∷ x ∷ q) (x ∷ place e q))
    step true a ih = ((a, ahead_all e q behind), h)
      where
        behind : (y : Entry) → In y q → ahead e y ≡ true
        behind y i = ahead_transitive e x y (λ t. n y (inr i) (sym t)) a (ahead_at x q h.0 y i)
    step false a ih = (ahead_all x (place e q) (λ y i. behind y ((in_place e y q).0 i)), ih)
      where
        behind : (y : Entry) → In y (e ∷ q) → ahead x y ≡ true
        behind y (inl d) =
            subst (λ (w : Entry). ahead x w ≡ true) (sym d) (ahead-total e x (λ t. n x (inl refl) (sym t)) ∙ ap not a)
        behind y (inr i) = ahead_at x q h.0 y i

-- so it is the ranking with the new one
pub ranking-place : (e : Entry) (l q : List Entry) → ((x : Entry) → In x l → x.time ≢ e.time) → Ranking l q
    → Ranking (e ∷ l) (place e q)
ranking-place e l q n r = record {
  same = λ y. ((λ i. there y ((in_place e y q).0 i)), λ i. (in_place e y q).1 (back y i));
  order = order-place e q (λ x i. n x ((r.same x).0 i)) r.order;
}
  where
    there : (y : Entry) → In y (e ∷ q) → In y (e ∷ l)
    there y (inl d) = inl d
    there y (inr i) = inr ((r.same y).0 i)

    back : (y : Entry) → In y (e ∷ l) → In y (e ∷ q)
    back y (inl d) = inl d
    back y (inr i) = inr ((r.same y).1 i)

-- a ranking that there is, and no other
ranked : (l q : List Entry) → DifferentTimes l → Ranking l q → Ranked l
ranked l q o r = record { list = q; ranking = r; only = λ p s. ranking_one l p q o s r }

-- of entries made at different times exactly one list is the ranking
pub one_ranking : OneRanking
one_ranking [] o = ranked [] [] tt (record { same = λ x. ((λ i. i), λ i. i); order = tt })
one_ranking (x ∷ l) o =
    let r = one_ranking l o.1 in
    ranked (x ∷ l) (place x r.list) o (ranking-place x l r.list o.0 r.ranking)

-- ---- some entries less
-- those that are left stay in order
order-keep : (test : Entry → Bool) (q : List Entry) → InOrder q → InOrder (keep test q)
order-keep test [] h = tt
order-keep test (x ∷ q) h = step (test x) (order-keep test q h.1)
  where
    step : (b : Bool) → InOrder (keep test q) → InOrder (cond b (x ∷ keep test q) (keep test q))
    step true ih = (ahead_all x (keep test q) (λ y i. ahead_at x q h.0 y ((in_keep test y q).0 i).0), ih)
    step false ih = ih

-- what a test keeps of the ranking is the ranking of what it keeps
pub ranking-keep : (test : Entry → Bool) (l q : List Entry) → Ranking l q → Ranking (keep test l) (keep test q)
ranking-keep test l q r = record { same = λ x. (there x, back x); order = order-keep test q r.order }
  where
    there : (x : Entry) → In x (keep test q) → In x (keep test l)
    there x i = let k = (in_keep test x q).0 i in (in_keep test x l).1 ((r.same x).0 k.0, k.1)

    back : (x : Entry) → In x (keep test l) → In x (keep test q)
    back x i = let k = (in_keep test x l).0 i in (in_keep test x q).1 ((r.same x).1 k.0, k.1)

-- ---- the foremost
-- h is in q, ahead of all others
abbrev pub First : Entry → List Entry → Type 0
First h q = In h q × ((y : Entry) → In y q → (y ≡ h) ⊎ (ahead h y ≡ true))

-- it is the leader
pub first_leader : (h x : Entry) (l : List Entry) → First h (x ∷ l) → leader x l ≡ h
first_leader h x [] f = ⊎_elim (λ e. sym e) (λ i. absurd i) f.0
first_leader h x (y ∷ l) f = step (ahead y x) refl (λ w. first_leader h w l)
  where
    behind : ahead y x ≡ true → h ≡ x → (y ≡ h) ⊎ (ahead h y ≡ true) → h ≡ y
    behind a e (inl d) = sym d
    behind a e (inr g) = absurd (ahead_not_both h y g (ap (λ (w : Entry). ahead y w) e ∙ a))

    before : ahead y x ≡ false → h ≡ y → (x ≡ h) ⊎ (ahead h x ≡ true) → h ≡ x
    before a e (inl d) = sym d
    before a e (inr g) = absurd (true≢false (sym g ∙ ap (λ (w : Entry). ahead w x) e ∙ a))

    with_x : ahead y x ≡ false → In h (x ∷ y ∷ l) → In h (x ∷ l)
    with_x a (inl e) = inl e
    with_x a (inr (inl e)) = inl (before a e (f.1 x (inl refl)))
    with_x a (inr (inr i)) = inr i

    with_y : ahead y x ≡ true → In h (x ∷ y ∷ l) → In h (y ∷ l)
    with_y a (inl e) = inl (behind a e (f.1 y (inr (inl refl))))
    with_y a (inr i) = i

    step : (b : Bool) → ahead y x ≡ b → ((w : Entry) → First h (w ∷ l) → leader w l ≡ h) → leader (cond b y x) l ≡ h
    step true a ih = ih y (with_y a f.0, λ z i. f.1 z (inr i))
    step false a ih = ih x (with_x a f.0, λ z i. ⊎_elim (λ e. f.1 z (inl e)) (λ j. f.1 z (inr (inr j))) i)
