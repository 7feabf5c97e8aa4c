-- Messages taken, on a board and on its machine: the first of a queue, and one that is cancelled.
-- Assumes nothing.
use mathlib.Core.Path.{◌≡◌, refl, sym, ap, ◌∙◌, subst, fun_ext}
use mathlib.Core.Logic.{inl}
use mathlib.Core.Bool.{Bool, cond, ◌&&◌, true≢false}
use mathlib.Core.List.{List, [], ◌∷◌}
use Prim.Native.Nat.{ℕ, zero, suc}
use native.Mathlib.Omega.{arith}
use lib.Dec.{eqb}
use borrow.Author.Tests.{eqb-true, eq-eqb}
use Rattle.links.specs.Queue.{first_of, rest_of, without}
use Rattle.links.specs.Chain.{In}
use Rattle.links.proofs.Bools.{cond_holds}
use Rattle.links.proofs.Chains.{chain_one}
use Rattle.links.proofs.Removal.{rest_without}
use Rattle.board.specs.declared.numbers.Size.{Size}
use Rattle.board.specs.declared.records.Task.{Task}
use Rattle.board.specs.declared.places.Place.TheVariants.{QueuedAt}
use Rattle.board.specs.Numbers.{task_no, Numbered}
use Rattle.board.specs.Status.{WAIT, MHBS, has}
use Rattle.board.specs.Places.{place_byte, is_free}
use Rattle.board.specs.Board.{Board, task, place}
use Rattle.paper.specs.Rules.{next_message, queue}
use Rattle.paper.specs.Changes.{with_queue, hold, take_first}
use Rattle.paper.specs.Effects.{cancel_message}
use Rattle.linked.proofs.Running.{placed_numbered}
use Rattle.kept.specs.Settled.{Settled}
use Rattle.kept.specs.Touched.{changed}
use Rattle.kept.specs.Claims.{Sizes}
use Rattle.kept.proofs.Reading.{task-put, queued_placed, queue-walked}
use Rattle.kept.proofs.Relinked.{requeued_is}
use Rattle.history.specs.Ranking.{Entry, keep}
use Rattle.history.specs.Machine as plain
use Rattle.history.specs.Machine.{Plain}
use Rattle.history.proofs.Entries.{times-keep}
use Rattle.history.proofs.Names.{names-leads}
use Rattle.history.proofs.Listed.{is_at}
use Rattle.history.proofs.Named.{Named, named-take, named_cancel_message}
use Rattle.history.proofs.Machines.{plain_of, length-tasks, plain-queue, plain-hold, plain-emptied}
use Rattle.history.proofs.Asked.{asked_first, first_mptr, first_walked, entry-queued}
use Rattle.history.proofs.Same.{Same, same_at}

module _ (z : Size) (b : Board) (q : List ℕ) (f : ℕ → List ℕ) (a : Sizes z) (h : Settled z b q f)
    (l s : List Entry) (n : ℕ) (w : Named z (plain_of b l s n) q f) where
  abbrev p : Plain
  p = plain_of b l s n

  -- an entry of a message that is queued at r is placed there
  queued_home : (m r : ℕ) → place b m ≡ QueuedAt (task_no r) → (x : Entry) → In x s → x.id ≡ m → x.at ≡ r
  queued_home m r e x i g =
      let u = ap place_byte (sym (entry-queued z b q f a h l s n w x i) ∙ ap (place b) g ∙ e) in
      omega (arith, u)

  -- ---- the first of a queue
  module _ (c : ℕ) (d : Numbered z.tasks c) where
    abbrev rest : List ℕ
    rest = rest_of (queue z b c)

    first_queued : (m : ℕ) → first_of (f c) ≡ suc m → place b (suc m) ≡ QueuedAt (task_no c)
    first_queued m e = ((h.regular.linked.messages c d).exact (suc m)).0 (step (f c) e)
      where
        step : (g : List ℕ) → first_of g ≡ suc m → In (suc m) g
        step [] e = absurd (omega arith)
        step (y ∷ g) e = inl (sym e)

    -- none is queued
    none_same : plain.first p c ≡ 0 → Same z (take_first z b c) q (changed f c (rest_of (f c))) p
    none_same e =
        same_at l s n
        (sym (ap (λ (m : ℕ). plain_of (hold (with_queue b c rest) c m) l s n) (sym (first_walked z b q f a h l s n w c d) ∙ e)
        ∙ plain-queue l s n b c rest))
        (subst (Named z p q) (sym (fun_ext same)) w)
      where
        none : f c ≡ []
        none =
            sym (chain_one (next_message b) (task b c).mptr [] (f c) (sym (first_mptr z b q f a h l s n w c d) ∙ e)
            (h.regular.linked.messages c d).chain)

        same : (k : ℕ) → changed f c (rest_of (f c)) k ≡ f k
        same k =
            cond_holds (λ (g : List ℕ). g ≡ f k) (eqb k c) (rest_of (f c)) (f k)
            (λ i. ap rest_of none ∙ sym none ∙ ap f (sym (eqb-true k c i))) (λ i. refl)

    -- one is
    first_same : (m : ℕ) → plain.first p c ≡ suc m
        → Same z (take_first z b c) q (changed f c (rest_of (f c))) (plain.take p c (suc m))
    first_same m e =
        let u : first_of (f c) ≡ suc m = sym (asked_first z b q f a h l s n w c d) ∙ e in
        let v = first_queued m u in
        let now : List Entry = (plain.take p c (suc m)).placements in
        same_at l now n
        (plain-hold l now n b c c (suc m) rest (placed_numbered b (suc m) (queued_placed b (suc m) c v))
        ∙ ap (λ (x : ℕ). plain_of (hold (with_queue b c rest) c x) l now n) (sym e ∙ first_walked z b q f a h l s n w c d))
        (subst (λ (g : List ℕ). Named z (plain.take p c (suc m)) q (changed f c g))
        (ap (λ (x : ℕ). without x (f c)) (sym u) ∙ rest_without (f c)) (named-take z p q f w c m c (queued_home (suc m) c v)))

    -- c holds the first message m of its queue; there is none if m is 0
    pub take_same : (m : ℕ) → plain.first (plain_of b l s n) c ≡ m
        → Same z (take_first z b c) q (changed f c (rest_of (f c))) (plain.take (plain_of b l s n) c m)
    take_same zero e = none_same e
    take_same (suc m) e = first_same m e

  -- ---- a message cancelled
  module _ (c m r : ℕ) (e : place b (suc m) ≡ QueuedAt (task_no r)) (d : Numbered z.tasks r) where
    abbrev left : List ℕ
    left = without (suc m) (f r)

    abbrev now : List Entry
    now = (plain.take p c (suc m)).placements

    abbrev walked : List ℕ
    walked = without (suc m) (queue z b r)

    abbrev o : Board
    o = hold (with_queue b r walked) c (suc m)

    taken : plain.take p c (suc m) ≡ plain_of o l now n
    taken = plain-hold l now n b r c (suc m) walked (placed_numbered b (suc m) (queued_placed b (suc m) r e))

    taken_named : Named z (plain.take p c (suc m)) q (changed f r left)
    taken_named = named-take z p q f w c m r (queued_home (suc m) r e)

    -- what is left at r
    left_first : plain.first (plain_of o l now n) r ≡ (task o r).mptr
    left_first =
        names-leads (keep (is_at r) now) (changed f r left r) (times-keep (is_at r) now taken_named.messages.times)
        (taken_named.queues r d)
        ∙ ap (λ (t : Bool). first_of (cond t left (f r))) (eq-eqb r r refl)
        ∙ ap (λ (g : List ℕ). first_of (without (suc m) g)) (sym (queue-walked z b q f h r d))
        ∙ sym (ap (λ (x : Board). (task x r).mptr) (requeued_is b r walked)
        ∙ ap (λ (t : Task). t.mptr) (task-put b r _ (rw h.fits.tasks d)))

    -- the queue of r may then be empty
    cancelled_same : Same z (cancel_message z b c (suc m) r) q (changed f r left) (plain.cancel_message p c (suc m) r)
    cancelled_same =
        same_at l now n
        (ap (λ (x : Plain). cond (has (x.sheets r).stat MHBS && eqb (plain.first x r) 0)
        (plain.sets (plain.clears x r MHBS) r WAIT) x) taken
        ∙ plain-emptied l now n o r (rw (length-tasks b r walked, h.fits.tasks) d) (plain.first (plain_of o l now n) r)
        left_first)
        (named_cancel_message z p q f w c m r (queued_home (suc m) r e))

  -- a queued message goes to c, and r may wait again
  pub cancel_message_same : (c m r : ℕ) → place b m ≡ QueuedAt (task_no r) → Numbered z.tasks r
      → Same z (cancel_message z b c m r) q (changed f r (without m (f r))) (plain.cancel_message (plain_of b l s n) c m r)
  cancel_message_same c zero r e d = absurd (true≢false (ap is_free e))
  cancel_message_same c (suc m) r e d = cancelled_same c m r e d
