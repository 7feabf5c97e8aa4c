-- All are parked, m is free and the message behind it isn't: the holder of that one held m too, woke, released it, and parked.
-- Assumes nothing.
use mathlib.Core.Path.{◌≡◌, refl, sym, ap, ◌∙◌, subst}
use mathlib.Core.Logic.{◌≢◌, inl}
use mathlib.Core.Bool.{Bool, true, false, not, ◌&&◌, true≢false}
use mathlib.Core.List.{[], ◌∷◌}
use Prim.Native.Nat.{ℕ, suc}
use native.Mathlib.Omega.{arith}
use lib.ListN.{length}
use borrow.Author.Tests.{not-true}
use Rattle.links.proofs.Bools.{both, and_true, cond_holds}
use Rattle.board.specs.declared.numbers.Size.{Size}
use Rattle.board.specs.declared.places.Place.{Place}
use Rattle.board.specs.declared.places.Place.TheVariants.{Free, HeldBy}
use Rattle.board.specs.Numbers.{task_no, Numbered}
use Rattle.board.specs.Status.{IWAT, has}
use Rattle.board.specs.Places.{is_free, is_queued, is_on_timer}
use Rattle.board.specs.Records.{no_message}
use Rattle.board.specs.Board.{Board, board, put, task, message, place, with_place}
use Rattle.board.proofs.Numbered.{put-nth, put-put}
use Rattle.paper.specs.declared.call.Call.TheVariants.{PostInterrupt, Release, WaitForInterrupt}
use Rattle.paper.specs.Rules.{present, ready}
use Rattle.paper.specs.Changes.{clears}
use Rattle.paper.specs.Effects.{release}
use Rattle.linked.specs.Sound.{PlaceGood}
use Rattle.linked.proofs.Tests.{says_is_free}
use Rattle.linked.proofs.Chosen.{none_runs}
use Rattle.kept.specs.Settled.{Settled}
use Rattle.kept.specs.Claims.{Sizes}
use Rattle.kept.proofs.Reading.{nth_cases, place-put, place_other}
use Rattle.kept.proofs.Holding.{free-held, settled_place, held-good, held_fits}
use Rattle.kept.proofs.Waiting.{task_numbered}
use Rattle.kept.proofs.Going.{go_held, message-word}
use Rattle.past.specs.Past.{back, here, holder, released}
use Rattle.reached.proofs.Making.{Passing, Makes, makes_then, makes_call}
use Rattle.reached.proofs.Sweeping.{Turned, turned_here}
use Rattle.reached.proofs.Stages.{Hosted, parked_still, used-held}
use Rattle.reached.proofs.Parking.{awoken, passing_awoken, makes_wait, makes_wake}

module _ (z : Size) (a : Sizes z) (m : ℕ) (b : Board) (n : Numbered z.messages m) (v : Hosted z b) (e : place b m ≡ Free)
    (k : ℕ) (next : place b (suc m) ≡ HeldBy (task_no k)) where
  abbrev p : Passing z b 0
  p = v.stage.passing

  abbrev s : Settled z b p.order p.queues
  s = p.settled

  abbrev y : Board
  y = with_place b m (HeldBy (task_no k))

  numbered : Numbered (length b.places) m
  numbered = rw s.fits.places n

  there : present b k ≡ true
  there = (held-good z b p.order p.queues s (suc m) k next).2

  kn : Numbered z.tasks k
  kn = task_numbered z b p.order p.queues s k there

  blank-record : message b m ≡ no_message
  blank-record = subst (PlaceGood z b m) e (s.regular.places m n)

  settled_y : Settled z y p.order p.queues
  settled_y =
      settled_place z b p.order p.queues s m (HeldBy (task_no k)) (ap is_queued e) refl
      (held_fits z b p.order p.queues a s k there) (free-held z b m k there blank-record)

  still : (j : ℕ) → ready b j ≡ false
  still = parked_still z 0 b v.stage

  passing_y : Passing z y 0
  passing_y = record {
    order = p.order;
    queues = p.queues;
    settled = settled_y;
    runs = p.runs;
    rightly = none_runs y still;
    idle = refl;
    untimed = λ j.
        nth_cases (λ (x : Place). is_on_timer x ≡ false) Free b.places m j (HeldBy (task_no k)) (λ h. refl) (p.untimed j);
  }

  hosted_y : Hosted z y
  hosted_y = record { stage = record { passing = passing_y; all = v.stage.all }; hosts = v.hosts }

  parked : has (task b k).stat IWAT ≡ true
  parked = (v.stage.all k kn).1 there

  -- ---- the calls
  released_again : release (awoken y k) m ≡ awoken b k
  released_again =
      let r : put b.messages m no_message ≡ b.messages =
      ap (put b.messages m) (sym blank-record) ∙ put-nth no_message b.messages m in
      let q : put (put b.places m (HeldBy (task_no k))) m Free ≡ b.places =
      put-put b.places m (HeldBy (task_no k)) Free ∙ ap (put b.places m) (sym e) ∙ put-nth Free b.places m in
      let d : Board = clears b k IWAT in
      λ i. board d.first k d.zeros d.tasks (r i) (q i)

  makes_release : Makes z (awoken y k) (Release m ∷ []) (awoken b k)
  makes_release =
      makes_call z a (awoken y k) k (passing_awoken z a y passing_y still k kn parked) (Release m) (awoken b k) k
      (passing_awoken z a b p still k kn parked) ((message-word z a m n, tt), tt)
      (go_held z (awoken y k) k m [] (λ (h : k ≡ 0). absurd (omega (arith, kn.0))) n
      (place-put b m (HeldBy (task_no k)) numbered) refl)
      released_again (inl refl)

  makes_all : Makes z y (PostInterrupt k ∷ Release m ∷ WaitForInterrupt ∷ []) b
  makes_all =
      makes_then z y (awoken y k) b (PostInterrupt k ∷ []) (Release m ∷ WaitForInterrupt ∷ [])
      (makes_wake z a y passing_y still k kn parked)
      (makes_then z (awoken y k) (awoken b k) b (Release m ∷ []) (WaitForInterrupt ∷ []) makes_release
      (makes_wait z a b p still k kn parked))

  not_free : (HeldBy (task_no k)) ≢ Free
  not_free h = true≢false (sym (ap is_free h))

  turned : Turned z (Hosted z) (λ d j. place d j ≡ Free → place d (suc j) ≡ Free) b m
      (back (with_place b m (HeldBy (task_no k))) (PostInterrupt k ∷ Release m ∷ WaitForInterrupt ∷ []))
  turned = record {
    earlier = record { inv = hosted_y; makes = makes_all };
    simple = λ h. absurd (not_free (sym (place-put b m (HeldBy (task_no k)) numbered) ∙ h));
    keeps = λ j i g h.
        place_other b m (suc j) (HeldBy (task_no k)) (λ w. absurd (omega (arith, i, w)))
        ∙ g (sym (place_other b m j (HeldBy (task_no k)) (λ w. absurd (omega (arith, i, w)))) ∙ h);
  }

-- back over m, if it is free and the one behind it isn't
pub turn-released : (z : Size) → Sizes z → (m : ℕ) (b : Board) → Numbered z.messages m → Hosted z b
    → Turned z (Hosted z) (λ d j. place d j ≡ Free → place d (suc j) ≡ Free) b m (released b m)
turn-released z a m b n v =
    cond_holds (Turned z (Hosted z) (λ d j. place d j ≡ Free → place d (suc j) ≡ Free) b m)
    (is_free (place b m) && not (is_free (place b (suc m))))
    (back (with_place b m (place b (suc m))) (PostInterrupt (holder (place b (suc m))) ∷ Release m ∷ WaitForInterrupt ∷ []))
    (here b)
    (λ t. let (f, u) = both (is_free (place b m)) (not (is_free (place b (suc m)))) t in
    went ((says_is_free (place b m)).0 f)
    (λ h. true≢false (sym ((says_is_free (place b (suc m))).1 h) ∙ not-true (is_free (place b (suc m))) u)))
    (λ t. turned_here z (Hosted z) (λ d j. place d j ≡ Free → place d (suc j) ≡ Free) b m v (free t))
  where
    free : is_free (place b m) && not (is_free (place b (suc m))) ≡ false → place b m ≡ Free → place b (suc m) ≡ Free
    free t e = step (is_free (place b (suc m))) refl
      where
        step : (u : Bool) → is_free (place b (suc m)) ≡ u → place b (suc m) ≡ Free
        step true i = (says_is_free (place b (suc m))).0 i
        step false i =
            absurd (true≢false (sym (and_true (is_free (place b m)) (not (is_free (place b (suc m)))) (ap is_free e) (ap not i)) ∙ t))

    went : place b m ≡ Free → place b (suc m) ≢ Free → Turned z (Hosted z) (λ d j. place d j ≡ Free → place d (suc j) ≡ Free) b m
        (back (with_place b m (place b (suc m))) (PostInterrupt (holder (place b (suc m))) ∷ Release m ∷ WaitForInterrupt ∷ []))
    went e u =
        let (k, h) = used-held z b v.stage (suc m) u in
        subst (λ (x : Place). Turned z (Hosted z) (λ d j. place d j ≡ Free → place d (suc j) ≡ Free) b m
        (back (with_place b m x) (PostInterrupt (holder x) ∷ Release m ∷ WaitForInterrupt ∷ []))) (sym h)
        (turned z a m b n v e k h)
