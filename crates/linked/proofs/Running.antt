-- The records that pass a test, by their numbers: which tasks are present or ready, which messages are placed, the lowest free message.
-- Assumes nothing.
use mathlib.Core.Path.{◌≡◌, refl, sym, ap, ◌∙◌, subst}
use mathlib.Core.Logic.{◌≢◌, inl, inr}
use mathlib.Core.Bool.{Bool, true, false, not, ◌&&◌, true≢false}
use mathlib.Core.List.{List, [], ◌∷◌}
use Prim.Native.Nat.{ℕ, zero, suc, ◌+◌, ◌-◌, ◌≤◌, ◌<◌}
use native.Mathlib.Omega.{arith}
use lib.ListN.{length, get_or}
use borrow.Author.Tests.{not-true}
use Rattle.links.specs.Queue.{first_of, first_with, which}
use Rattle.links.specs.Chain.{In, Out, Sorted}
use Rattle.links.proofs.Bools.{both}
use Rattle.links.proofs.Members.{all_at}
use Rattle.links.proofs.Exactly.{in_which}
use Rattle.board.specs.declared.status.Status.{Status}
use Rattle.board.specs.declared.places.Place.TheVariants.{Free}
use Rattle.board.specs.Numbers.{Numbered}
use Rattle.board.specs.Status.{WAIT, IWAT, has, is_present}
use Rattle.board.specs.Records.{no_task}
use Rattle.board.specs.Places.{is_free}
use Rattle.board.specs.Board.{Board, nth, task, place}
use Rattle.paper.specs.Rules.{is_there, present, ready}
use Rattle.paper.specs.Effects.{lowest_free}
use Rattle.linked.proofs.Says.{says_never}
use Rattle.linked.proofs.Tests.{says_is_free}
use Rattle.paper.proofs.Which.{nth_numbered, which-nth}

-- ---- numbers of the board
-- a present task is numbered
pub present_numbered : (b : Board) (k : ℕ) → present b k ≡ true → Numbered (length b.tasks) k
present_numbered b k p = nth_numbered no_task is_there b.tasks refl k p

-- a message that isn't free is numbered
pub placed_numbered : (b : Board) (m : ℕ) → place b m ≢ Free → Numbered (length b.places) m
placed_numbered b m h =
    nth_numbered Free (λ p. not (is_free p)) b.places refl m ((says_never (says_is_free (place b m))).1 h)

-- ---- the first that passes a test
-- the first of a queue
pub first_with_lem : (f : ℕ → Bool) (q : List ℕ) → first_with f q ≢ 0 → In (first_with f q) q × (f (first_with f q) ≡ true)
first_with_lem f [] h = absurd (h refl)
first_with_lem f (x ∷ q) h = step (f x) refl (first_with_lem f q)
  where
    step : (t : Bool) → f x ≡ t → (first_with f q ≢ 0 → In (first_with f q) q × (f (first_with f q) ≡ true))
        → In (first_with f (x ∷ q)) (x ∷ q) × (f (first_with f (x ∷ q)) ≡ true)
    step true e ih = rw (e, first_with) (inl refl, e)
    step false e ih =
        let eq : first_with f (x ∷ q) ≡ first_with f q = rw (e, first_with) in
        let r = ih (rw eq at h) in
        subst (λ (n : ℕ). In n (x ∷ q) × (f n ≡ true)) (sym eq) (inr r.0, r.1)

-- where there is none, none passes
pub first_none : (f : ℕ → Bool) (q : List ℕ) → Out 0 q → first_with f q ≡ 0 → (x : ℕ) → In x q → f x ≡ false
first_none f [] o h x i = absurd i
first_none f (y ∷ q) o h x i = step (f y) refl i (first_none f q o.1)
  where
    step : (t : Bool) → f y ≡ t → In x (y ∷ q) → (first_with f q ≡ 0 → (x : ℕ) → In x q → f x ≡ false) → f x ≡ false
    step true e i ih = absurd (o.0 (sym (rw (e, first_with) at h)))
    step false e (inl j) ih = ap f j ∙ e
    step false e (inr j) ih = ih (rw (e, first_with) at h) x j

-- in a sorted queue none that passes has a smaller priority number
pub first_least : (f : ℕ → Bool) (number : ℕ → ℕ) (q : List ℕ) → Sorted number q → (x : ℕ) → In x q → f x ≡ true
    → number (first_with f q) ≤ number x
first_least f number [] s x i h = absurd i
first_least f number (y ∷ q) s x i h = step (f y) refl i (first_least f number q s.1)
  where
    step : (t : Bool) → f y ≡ t → In x (y ∷ q) → ((x : ℕ) → In x q → f x ≡ true → number (first_with f q) ≤ number x)
        → number (first_with f (y ∷ q)) ≤ number x
    step true e (inl j) ih = rw (e, first_with) (subst (λ (w : ℕ). number y ≤ number w) (sym j) (omega arith))
    step true e (inr j) ih = rw (e, first_with) (all_at (λ w. number y ≤ number w) q s.0 x j)
    step false e (inl j) ih = absurd (true≢false (sym h ∙ ap f j ∙ e))
    step false e (inr j) ih = rw (e, first_with) (ih x j h)

nth_behind : {A : Type 0} (none : A) (l : List A) (k : ℕ) → 1 ≤ k → get_or l (k - 1) none ≡ nth none l k
nth_behind none l zero h = absurd (omega arith)
nth_behind none l (suc i) h = let e : suc i - 1 ≡ i = omega arith in ap (λ (j : ℕ). get_or l j none) e

-- the first of a list, by its number
pub which_first : {A : Type 0} (none : A) (f : A → Bool) (l : List A) → first_of (which f 1 l) ≢ 0
    → Numbered (length l) (first_of (which f 1 l)) × (f (nth none l (first_of (which f 1 l))) ≡ true)
which_first none f l h = step (which f 1 l) (λ x. in_which none f 1 x l) h
  where
    step : (q : List ℕ) → ((x : ℕ) → In x q → (1 ≤ x) × (x < 1 + length l) × (f (get_or l (x - 1) none) ≡ true)) → first_of q ≢ 0
        → Numbered (length l) (first_of q) × (f (nth none l (first_of q)) ≡ true)
    step [] g h = absurd (h refl)
    step (x ∷ q) g h =
        let r = g x (inl refl) in
        ((r.0, omega (arith, r.1)), ap f (sym (nth_behind none l x r.0)) ∙ r.2)

-- where there is no first, none passes
pub which_none : {A : Type 0} (none : A) (f : A → Bool) (l : List A) → f none ≡ false → first_of (which f 1 l) ≡ 0
    → (k : ℕ) → f (nth none l k) ≢ true
which_none none f l d e k p = step (which f 1 l) (which-nth none f l d 0).0 ((which-nth none f l d k).1 p) e
  where
    step : (q : List ℕ) → (In 0 q → f none ≡ true) → In k q → first_of q ≡ 0 → ⊥
    step [] a i e = i
    step (x ∷ q) a i e = true≢false (sym (a (inl (sym e))) ∙ d)

-- the message that is claimed is one of the board's, and free
pub lowest_free_lem : (b : Board) → lowest_free b ≢ 0 → Numbered (length b.places) (lowest_free b) × (place b (lowest_free b) ≡ Free)
lowest_free_lem b h = let r = which_first Free is_free b.places h in (r.0, (says_is_free (place b (lowest_free b))).0 r.1)

-- ---- who is ready
-- a ready task is present and waits for nothing
pub ready_says : (b : Board) (k : ℕ) → ready b k ≡ true
    → (present b k ≡ true) × (has (task b k).stat WAIT ≡ false) × (has (task b k).stat IWAT ≡ false)
ready_says b k e =
    let s : Status = (task b k).stat in
    let r = both (is_present s && not (has s WAIT)) (not (has s IWAT)) e in
    let p = both (is_present s) (not (has s WAIT)) r.0 in
    (p.0, not-true (has s WAIT) p.1, not-true (has s IWAT) r.1)
