-- What is asked of a board and of its machine: who runs next, who is found, the first message of a task, the lowest free one, who
-- holds what; and where the machine's entries are on the board.
-- Assumes nothing.
use mathlib.Core.Path.{◌≡◌, refl, sym, ap, ap₂, ◌∙◌, subst}
use mathlib.Core.Bool.{Bool, true, false, cond, not, ◌&&◌, true≢false}
use mathlib.Core.List.{List, [], ◌∷◌}
use Prim.Native.Nat.{ℕ, suc, ◌+◌}
use native.Mathlib.Omega.{arith}
use native.Mathlib.Decide.{ℕ_discrete}
use lib.Dec.{eqb, ltb}
use lib.ListN.{length, get_or}
use borrow.Author.Tests.{eq-eqb, ne_eqb}
use Rattle.links.specs.Chain.{In, Out}
use Rattle.links.specs.Queue.{first_of, cons_if, which, first_with, each}
use Rattle.links.proofs.Bools.{refuted, both, each_all, each_fails}
use Rattle.links.proofs.Members.{not_in_out}
use Rattle.links.proofs.Chains.{chain_first}
use Rattle.board.specs.declared.numbers.Size.{Size}
use Rattle.board.specs.declared.places.Place.{Place}
use Rattle.board.specs.declared.places.Place.TheVariants.{Free, QueuedAt}
use Rattle.board.specs.Numbers.{task_no, Numbered}
use Rattle.board.specs.Places.{is_free, is_held_by}
use Rattle.board.specs.Board.{Board, task, message, place}
use Rattle.paper.specs.Rules.{present, next_message, queue, task_number, ready, outranks, first_ready, runs_next}
use Rattle.paper.specs.Effects.{lowest_free, find}
use Rattle.paper.specs.Refusals.{holds_one, is_awaited}
use Rattle.linked.specs.Sound.{PlaceGood}
use Rattle.linked.proofs.Running.{placed_numbered, first_with_lem, first_none, ready_says}
use Rattle.linked.proofs.Chosen.{ready_numbered}
use Rattle.kept.specs.Settled as kept
use Rattle.kept.specs.Claims.{Sizes}
use Rattle.kept.proofs.Reading.{order-walked, queue-walked}
use Rattle.history.specs.Ranking.{Entry, keep, foremost}
use Rattle.history.specs.Machine as plain
use Rattle.history.specs.Machine.{Whose, lowest_from}
use Rattle.history.specs.Claims.{IsWhere}
use Rattle.history.proofs.Entries.{times-keep, in_keep}
use Rattle.history.proofs.Names.{names-foremost, names-leads, in_names}
use Rattle.history.proofs.Listed.{is_at}
use Rattle.history.proofs.Named.{Named}
use Rattle.history.proofs.Places.{whose_of, somewhere, free_alike, held_alike, timed_alike}
use Rattle.history.proofs.Machines.{plain_of}

-- ---- the lowest number that passes
-- counted from m on it is the first of those that pass
which_lowest : {A : Type 0} (none : A) (f : A → Bool) (g : ℕ → Bool) (m : ℕ) (r : List A)
    → ((i j : ℕ) → j ≡ m + i → g j ≡ f (get_or r i none)) → lowest_from g m (length r) ≡ first_of (which f m r)
which_lowest none f g m [] h = refl
which_lowest none f g m (x ∷ r) h =
    ap (λ (t : Bool). cond t m (lowest_from g (suc m) (length r))) (h 0 m (omega arith))
    ∙ step (f x) (which_lowest none f g (suc m) r (λ i j e. h (suc i) j (omega arith)))
  where
    step : (t : Bool) → lowest_from g (suc m) (length r) ≡ first_of (which f (suc m) r)
        → cond t m (lowest_from g (suc m) (length r)) ≡ first_of (cons_if t m (which f (suc m) r))
    step true e = refl
    step false e = e

-- ---- the first of a list that passes
-- a test turned twice is the test
not_twice : (t : Bool) → not (not t) ≡ t
not_twice true = refl
not_twice false = refl

-- there is none just where each of n numbers fails, if all that pass are among these and in the list
first_each : (f : ℕ → Bool) (q : List ℕ) (n : ℕ) → Out 0 q → ((k : ℕ) → f k ≡ true → In k q × Numbered n k)
    → eqb (first_with f q) 0 ≡ each (λ k. not (f k)) n
first_each f q n out among = step (ℕ_discrete (first_with f q) 0)
  where
    step : Dec (first_with f q ≡ 0) → eqb (first_with f q) 0 ≡ each (λ k. not (f k)) n
    step (yes e) =
        eq-eqb (first_with f q) 0 e
        ∙ sym (each_all (λ k. not (f k)) n
        (λ k i j. ap not (refuted (f k) (λ t. true≢false (sym t ∙ first_none f q out e k (among k t).0)))))
    step (no d) =
        let t = (first_with_lem f q d).1 in
        let i = (among (first_with f q) t).1 in
        ne_eqb (first_with f q) 0 d ∙ sym (each_fails (λ k. not (f k)) n (first_with f q) i.0 i.1 (ap not t))

-- ---- places of a board that is settled
module _ (z : Size) (b : Board) (q : List ℕ) (f : ℕ → List ℕ) (h : kept.Settled z b q f) where
  -- no message is nowhere
  pub is_where : (m : ℕ) → IsWhere (place b m) (whose_of (place b m))
  is_where m = somewhere (place b m) (λ y e.
      let n = placed_numbered b m (λ d. true≢false (sym (ap is_free (sym e ∙ d)))) in
      subst (PlaceGood z b m) e (h.regular.places m (rw h.fits.places at n)))

  lowest_place : (g : Whose → Bool) (t : Place → Bool) → ((m : ℕ) → g (whose_of (place b m)) ≡ t (place b m))
      → lowest_from (λ m. g (whose_of (place b m))) 1 z.messages ≡ first_of (which t 1 b.places)
  lowest_place g t e =
      ap (lowest_from (λ m. g (whose_of (place b m))) 1) (sym h.fits.places)
      ∙ which_lowest Free t (λ m. g (whose_of (place b m))) 1 b.places
      (λ i j d. let u : j ≡ suc i = omega arith in ap (λ (m : ℕ). g (whose_of (place b m))) u ∙ e (suc i))

  -- which is free
  pub asked_free : (l s : List Entry) (n : ℕ) → plain.lowest_free z (plain_of b l s n) ≡ lowest_free b
  asked_free l s n = lowest_place plain.is_free is_free (λ m. free_alike (place b m) (is_where m))

  -- whether task k holds one
  pub asked_holds : (l s : List Entry) (n k : ℕ) → plain.holds_one z (plain_of b l s n) k ≡ holds_one b k
  asked_holds l s n k =
      ap (λ (m : ℕ). not (eqb m 0)) (lowest_place (plain.is_held k) (is_held_by k) (λ m. held_alike k (place b m)))

  -- whether task k is awaited
  pub asked_awaited : (l s : List Entry) (n k : ℕ) → plain.is_awaited z (plain_of b l s n) k ≡ is_awaited z b k
  asked_awaited l s n k =
      ap (λ (t : ℕ → Bool). not (each t z.messages)) (λ i m. not (timed_alike (place b m) i && eqb (message b m).sptr k))

-- ---- a board that is settled and its machine
module _ (z : Size) (b : Board) (q : List ℕ) (f : ℕ → List ℕ) (a : Sizes z) (h : kept.Settled z b q f)
    (l s : List Entry) (n : ℕ) (w : Named z (plain_of b l s n) q f) where
  -- ---- who runs next
  -- the foremost ready one is the first in queue order
  asked_ready : foremost (λ e. plain.ready (plain_of b l s n) e.id) l ≡ first_ready z b
  asked_ready =
      names-foremost l q _ (ready b) w.tasks.times (λ x i. refl) w.order
      ∙ ap (first_with (ready b)) (sym (order-walked z b q f h a.limit))

  -- whoever is ready is listed, and one of the board's
  ready_listed : (k : ℕ) → ready b k ≡ true → In k q × Numbered z.tasks k
  ready_listed k e = ((h.regular.linked.tasks.exact k).1 (ready_says b k e).0, ready_numbered z b h.fits.tasks k e)

  -- an install has the priority number of its task: the machine finds none that outranks c just where R7 finds none
  asked_outranked : (c : ℕ) → not (plain.outranked (plain_of b l s n) c) ≡ each (λ k. not (outranks b c k)) z.tasks
  asked_outranked c =
      not_twice _
      ∙ ap (λ (k : ℕ). eqb k 0) (names-foremost l q _ (outranks b c) w.tasks.times
      (λ x i. ap (λ (m : ℕ). ready b x.id && ltb m (task_number b c)) (sym (w.tasks.numbers x i))) w.order)
      ∙ first_each (outranks b c) q z.tasks (not_in_out 0 q (λ i. true≢false (sym ((h.regular.linked.tasks.exact 0).0 i))))
      (λ k e. ready_listed k (both (ready b k) _ e).0)

  -- the task that ran stays, or it is the first ready one
  pub asked_next : plain.runs_next (plain_of b l s n) ≡ runs_next z b
  asked_next =
      let c : ℕ = b.running in ap₂ (λ (t : Bool) (k : ℕ). cond (ready b c && t) c k) (asked_outranked c) asked_ready

  -- ---- who is found, and which message is first
  -- find
  pub asked_find : (name : ℕ) → plain.find (plain_of b l s n) name ≡ find z b name
  asked_find name =
      names-foremost l q _ (λ k. eqb (task b k).name name) w.tasks.times (λ x i. refl) w.order
      ∙ ap (first_with (λ k. eqb (task b k).name name)) (sym (order-walked z b q f h a.limit))

  module _ (k : ℕ) (d : Numbered z.tasks k) where
    -- the first message of task k
    pub asked_first : plain.first (plain_of b l s n) k ≡ first_of (f k)
    asked_first = names-leads (keep (is_at k) s) (f k) (times-keep (is_at k) s w.messages.times) (w.queues k d)

    -- which MPTR is
    pub first_mptr : plain.first (plain_of b l s n) k ≡ (task b k).mptr
    first_mptr = asked_first ∙ sym (chain_first (next_message b) (task b k).mptr (f k) (h.regular.linked.messages k d).chain)

    -- and the first that is walked
    pub first_walked : plain.first (plain_of b l s n) k ≡ first_of (queue z b k)
    first_walked = asked_first ∙ ap first_of (sym (queue-walked z b q f h k d))

  -- ---- where the entries stand
  -- one installed is present
  pub entry-present : (x : Entry) → In x l → present b x.id ≡ true
  entry-present x i = (h.regular.linked.tasks.exact x.id).0 ((in_names l q x.id w.order).1 (x, i, refl))

  -- one placed is queued there
  pub entry-queued : (x : Entry) → In x s → place b x.id ≡ QueuedAt (task_no x.at)
  entry-queued x i =
      let d = w.homes x i in
      ((h.regular.linked.messages x.at d).exact x.id).0
      ((in_names (keep (is_at x.at) s) (f x.at) x.id (w.queues x.at d)).1
      (x, (in_keep (is_at x.at) x s).1 (i, eq-eqb x.at x.at refl), refl))
