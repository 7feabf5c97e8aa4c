-- The numbers that name a ranking: with one more, with one less, the first of them, which there are, and a worked case.
-- Assumes nothing.
use mathlib.Core.Path.{◌≡◌, refl, sym, ap, ◌∙◌}
use mathlib.Core.Logic.{◌⊎◌, inl, inr, ⊎_elim, ◌↔◌}
use mathlib.Core.Bool.{Bool, true, false, cond, not}
use mathlib.Core.List.{List, [], ◌∷◌, ◌++◌, map}
use Prim.Native.Nat.{ℕ, ◌<◌}
use native.Mathlib.Omega.{arith}
use lib.Dec.{eqb}
use borrow.Author.Tests.{eqb-true, ne_eqb}
use Rattle.links.specs.Queue.{goes_before, insert, without, first_of, first_with}
use Rattle.links.specs.Chain.{In}
use Rattle.links.proofs.Members.{in_add}
use Rattle.board.specs.Status.{number, fifo}
use Rattle.history.specs.Ranking.{Entry, ahead, keep, leads, foremost, InOrder, Ranking, DifferentTimes, Names}
use Rattle.history.proofs.Ahead.{ahead_newest}
use Rattle.history.proofs.Entries.{keep_all, times-keep}
use Rattle.history.proofs.Ranks.{ahead_at, ahead_out, place, ranking-place, ranking-keep, first_leader}

-- the numbers of a list
abbrev pub names : List Entry → List ℕ
names q = map (λ e. e.id) q

-- ---- one entry more
-- insertion by a test that tells whom it goes ahead of
names-place : (e : Entry) (goes : ℕ → Bool) (q : List Entry) → ((x : Entry) → In x q → goes x.id ≡ ahead e x)
    → insert goes e.id (names q) ≡ names (place e q)
names-place e goes [] h = refl
names-place e goes (x ∷ q) h = step (ahead e x) (h x (inl refl)) (names-place e goes q (λ y i. h y (inr i)))
  where
    step : (b : Bool) → goes x.id ≡ b → insert goes e.id (names q) ≡ names (place e q)
        → insert goes e.id (names (x ∷ q)) ≡ names (cond b (e ∷ x ∷ q) (x ∷ place e q))
    step true g ih = rw (g, insert)
    step false g ih = rw (g, insert) (ap (λ (r : List ℕ). x.id ∷ r) ih)

-- one made later than all goes where insertion by number and queue type puts it
pub names_add : (l : List Entry) (n : List ℕ) (e : Entry) (num : ℕ → ℕ) → DifferentTimes l
    → ((x : Entry) → In x l → x.time < e.time) → ((x : Entry) → In x l → num x.id ≡ x.number) → Names l n
    → Names (l ++ (e ∷ [])) (insert (λ y. goes_before e.fifo e.number (num y)) e.id n)
names_add l n e num o t k m = record {
  list = place e m.list;
  ranking = record { same = λ y. ((λ i. there y ((r.same y).0 i)), λ i. (r.same y).1 (back y i)); order = r.order };
  names = ap (insert (λ y. goes_before e.fifo e.number (num y)) e.id) m.names ∙ names-place e _ m.list tests;
}
  where
    r : Ranking (e ∷ l) (place e m.list)
    r = ranking-place e l m.list (λ x i d. absurd (omega (arith, t x i))) m.ranking

    there : (y : Entry) → In y (e ∷ l) → In y (l ++ (e ∷ []))
    there y (inl d) = (in_add y e l).1 (inr d)
    there y (inr i) = (in_add y e l).1 (inl i)

    back : (y : Entry) → In y (l ++ (e ∷ [])) → In y (e ∷ l)
    back y i = ⊎_elim (λ j. inr j) (λ d. inl d) ((in_add y e l).0 i)

    tests : (x : Entry) → In x m.list → goes_before e.fifo e.number (num x.id) ≡ ahead e x
    tests x i =
        let s = (m.ranking.same x).0 i in
        ap (goes_before e.fifo e.number) (k x s) ∙ sym (ahead_newest e x (t x s))

-- ---- one entry less
-- one number taken out, where no two entries have one number
pub names_without : (l : List Entry) (n : List ℕ) (m : ℕ) → Names l n
    → ((x y : Entry) → In x l → In y l → x.id ≡ y.id → x ≡ y)
    → Names (keep (λ e. not (eqb e.id m)) l) (without m n)
names_without l n m k one = record {
  list = keep (λ e. not (eqb e.id m)) k.list;
  ranking = ranking-keep (λ e. not (eqb e.id m)) l k.list k.ranking;
  names = ap (without m) k.names ∙ left k.list k.ranking.order (λ x i. (k.ranking.same x).0 i);
}
  where
    left : (q : List Entry) → InOrder q → ((x : Entry) → In x q → In x l)
        → without m (names q) ≡ names (keep (λ e. not (eqb e.id m)) q)
    left [] h s = refl
    left (x ∷ q) h s = step (eqb x.id m) refl (left q h.1 (λ y i. s y (inr i)))
      where
        others : x.id ≡ m → (y : Entry) → In y q → not (eqb y.id m) ≡ true
        others e y i =
            let same : y.id ≡ m → x ≡ y = λ d. one x y (s x (inl refl)) (s y (inr i)) (e ∙ sym d) in
            ap not (ne_eqb y.id m (λ d. ahead_out x y q h.0 i (same d)))

        step : (b : Bool) → eqb x.id m ≡ b → without m (names q) ≡ names (keep (λ e. not (eqb e.id m)) q)
            → without m (names (x ∷ q)) ≡ names (keep (λ e. not (eqb e.id m)) (x ∷ q))
        step true e ih = rw (e, without) (sym (ap names (keep_all (λ e. not (eqb e.id m)) q (others (eqb-true x.id m e)))))
        step false e ih = rw (e, without) (ap (λ (r : List ℕ). x.id ∷ r) ih)

-- ---- the first
-- the leader is the first of the ranking
pub names-leads : (l : List Entry) (n : List ℕ) → DifferentTimes l → Names l n → leads l ≡ first_of n
names-leads l n o m = step l m.list m.ranking ∙ ap first_of (sym m.names)
  where
    step : (l q : List Entry) → Ranking l q → leads l ≡ first_of (names q)
    step [] [] r = refl
    step [] (h ∷ q) r = absurd ((r.same h).0 (inl refl))
    step (x ∷ l) [] r = absurd ((r.same x).1 (inl refl))
    step (x ∷ l) (h ∷ q) r =
        ap (λ (e : Entry). e.id) (first_leader h x l ((r.same h).0 (inl refl), λ y i. others y ((r.same y).1 i)))
      where
        others : (y : Entry) → In y (h ∷ q) → (y ≡ h) ⊎ (ahead h y ≡ true)
        others y (inl e) = inl e
        others y (inr i) = inr (ahead_at h q r.order.0 y i)

-- the foremost of those that pass is the first of the ranking that passes
pub names-foremost : (l : List Entry) (n : List ℕ) (test : Entry → Bool) (f : ℕ → Bool) → DifferentTimes l
    → ((x : Entry) → In x l → test x ≡ f x.id) → Names l n → foremost test l ≡ first_with f n
names-foremost l n test f o h m =
    names-leads (keep test l) (names (keep test m.list)) (times-keep test l o)
    (record { list = keep test m.list; ranking = ranking-keep test l m.list m.ranking; names = refl })
    ∙ step m.list (λ x i. h x ((m.ranking.same x).0 i)) ∙ ap (first_with f) (sym m.names)
  where
    step : (q : List Entry) → ((x : Entry) → In x q → test x ≡ f x.id)
        → first_of (names (keep test q)) ≡ first_with f (names q)
    step [] k = refl
    step (x ∷ q) k = go (test x) (sym (k x (inl refl))) (step q (λ y i. k y (inr i)))
      where
        go : (b : Bool) → f x.id ≡ b → first_of (names (keep test q)) ≡ first_with f (names q)
            → first_of (names (cond b (x ∷ keep test q) (keep test q))) ≡ first_with f (names (x ∷ q))
        go true e ih = rw (e, first_with)
        go false e ih = rw (e, first_with) ih

-- ---- the names and the entries
-- a number stands among the names just where an entry has it
pub in_names : (l : List Entry) (n : List ℕ) (y : ℕ) → Names l n → In y n ↔ ((x : Entry) × In x l × (x.id ≡ y))
in_names l n y m = (
  (λ i. let r = there m.list (rw m.names at i) in (r.0, (m.ranking.same r.0).0 r.1, r.2)),
  λ r. rw m.names (back m.list r.0 ((m.ranking.same r.0).1 r.1) r.2),
)
  where
    there : (q : List Entry) → In y (names q) → (x : Entry) × In x q × (x.id ≡ y)
    there [] i = absurd i
    there (x ∷ q) (inl e) = (x, inl refl, sym e)
    there (x ∷ q) (inr i) = let r = there q i in (r.0, inr r.1, r.2)

    back : (q : List Entry) (x : Entry) → In x q → x.id ≡ y → In y (names q)
    back [] x i d = absurd i
    back (z ∷ q) x (inl e) d = inl (sym d ∙ ap (λ (w : Entry). w.id) e)
    back (z ∷ q) x (inr i) d = inr (back q x i d)

-- ---- a worked case
-- message m placed at task 1 with this PRIO byte, at time m
abbrev placed : ℕ → ℕ → Entry
placed m prio = record { id = m; at = 1; number = number prio; fifo = fifo prio; time = m }

-- PRIO 14H, 15H, 14H, 0BH in this order
abbrev four : List Entry
four = placed 1 20 ∷ placed 2 21 ∷ placed 3 20 ∷ placed 4 11 ∷ []

abbrev four_ranked : List Entry
four_ranked = placed 4 11 ∷ placed 3 20 ∷ placed 1 20 ∷ placed 2 21 ∷ []

-- number 5 goes first, then the two LIFO of number 10, the later ahead, then the FIFO one
pub case_four_placed : Names four (4 ∷ 3 ∷ 1 ∷ 2 ∷ [])
case_four_placed = record {
  list = four_ranked;
  ranking = record { same = λ x. (there x, back x); order = order };
  names = refl;
}
  where
    order : InOrder four_ranked
    order = ((refl, (refl, (refl, tt))), ((refl, (refl, tt)), ((refl, tt), (tt, tt))))

    there : (x : Entry) → In x four_ranked → In x four
    there x (inl e) = inr (inr (inr (inl e)))
    there x (inr (inl e)) = inr (inr (inl e))
    there x (inr (inr (inl e))) = inl e
    there x (inr (inr (inr (inl e)))) = inr (inl e)
    there x (inr (inr (inr (inr i)))) = absurd i

    back : (x : Entry) → In x four → In x four_ranked
    back x (inl e) = inr (inr (inl e))
    back x (inr (inl e)) = inr (inr (inr (inl e)))
    back x (inr (inr (inl e))) = inr (inl e)
    back x (inr (inr (inr (inl e)))) = inl e
    back x (inr (inr (inr (inr i)))) = absurd i
