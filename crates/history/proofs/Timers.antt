-- Start and tick on a board and on its machine, before dispatch: a message goes onto the timer, and those that are due go back, entry by
-- entry.
-- Assumes nothing.
use mathlib.Core.Path.{◌≡◌, refl, sym, ap, ◌∙◌, subst}
use mathlib.Core.Logic.{◌≢◌, inl}
use mathlib.Core.Bool.{Bool, true, false, true≢false}
use mathlib.Core.List.{List, [], ◌∷◌}
use Prim.Native.Nat.{ℕ}
use Rattle.links.specs.Chain.{In}
use Rattle.board.specs.declared.numbers.Size.{Size}
use Rattle.board.specs.declared.places.Place.TheVariants.{OnTimer}
use Rattle.board.specs.Numbers.{Numbered}
use Rattle.board.specs.Places.{is_queued}
use Rattle.board.specs.Board.{Board, message, place}
use Rattle.timer.specs.declared.entry.Entry as waiting
use Rattle.timer.specs.Timer.{Timer, is_due}
use Rattle.paper.specs.Effects.{give_back}
use Rattle.paper.specs.Refusals.{no7}
use Rattle.paper.specs.Outcomes.{undispatched}
use Rattle.linked.specs.Sound.{PlaceGood}
use Rattle.kept.specs.Settled.{Settled}
use Rattle.kept.specs.Touched.{IntoQueue, queues_after}
use Rattle.kept.specs.Claims.{Sizes}
use Rattle.kept.proofs.Reading.{timed_numbered}
use Rattle.kept.proofs.Holding.{held_numbered}
use Rattle.kept.proofs.Waiting.{task_numbered}
use Rattle.kept.proofs.Placing.{sender-passed}
use Rattle.timing.specs.Timing.{no16, no17, start_own, started, returned}
use Rattle.ticked.specs.Claims.{due_queues}
use Rattle.ticked.proofs.Entries.{due-used, used_in}
use Rattle.ticked.proofs.Returning.{Entered, turn, entered_rest}
use Rattle.history.specs.Ranking.{Entry}
use Rattle.history.specs.Machine as plain
use Rattle.history.specs.Machine.{Plain}
use Rattle.history.specs.Clockwork as clock
use Rattle.history.proofs.Places.{held_alike}
use Rattle.history.proofs.Named.{Named}
use Rattle.history.proofs.Machines.{plain_of, plain-place}
use Rattle.history.proofs.Asked.{entry-queued}
use Rattle.history.proofs.Same.{Same, same_at, same_holds}
use Rattle.history.proofs.Placed.{place_same}
use Rattle.history.proofs.Calls.{Alike}

module _ (z : Size) (b : Board) (q : List ℕ) (f : ℕ → List ℕ) (a : Sizes z) (h : Settled z b q f)
    (l s : List Entry) (n : ℕ) (w : Named z (plain_of b l s n) q f) where
  -- ---- start
  -- the same refusals, and the message is on the timer
  pub start_alike : (c : ℕ) (t : Timer) (m delay : ℕ) → let p = plain_of b l s n in
      Alike z (start_own z b c t m delay) (undispatched 0 (started b m)) q f (clock.play_start z p c t m delay)
  start_alike c t m delay = record {
    verdict = rw (held_alike c (place b m));
    value = λ g. refl;
    same = λ g.
        let held = (sender-passed z b c m (message b m).sptr (no7 b m ∷ no16 delay ∷ no17 t ∷ []) g).1 in
        same_at l s n (plain-place l s n b m OnTimer (rw h.fits.places (held_numbered z b q f h m c held))) w;
  }

  -- ---- one message on the timer goes back
  pub back_same : (m : ℕ) → place b m ≡ OnTimer → let r = (message b m).sptr in
      Same z (give_back z b m) q (queues_after b f (IntoQueue m (message b m).prio r)) (plain.place (plain_of b l s n) m r)
  back_same m on =
      let number : Numbered z.messages m = timed_numbered z b h.fits.places m on in
      let good : PlaceGood z b m OnTimer = subst (PlaceGood z b m) on (h.regular.places m number) in
      let there = task_numbered z b q f h (message b m).sptr good.2 in
      place_same z b q f l s n w m (message b m).sptr apart there (rw h.fits.tasks there) (rw h.fits.messages number)
      (rw h.fits.places number)
    where
      -- it stands in no queue
      apart : (x : Entry) → In x s → x.id ≢ m
      apart x i e = true≢false (ap is_queued (sym (entry-queued z b q f a h l s n w x i) ∙ ap (place b) e ∙ on))

-- ---- the entries, one by one
module _ (z : Size) (at : ℕ) (q : List ℕ) (a : Sizes z) where
  -- one of them
  one_same : (e : waiting.Entry) (es : List waiting.Entry) (b : Board) (f : ℕ → List ℕ) (p : Plain) → Settled z b q f
      → Entered b (e ∷ es) → Same z b q f p
      → Same z (returned z at (e ∷ []) b) q (due_queues z at (e ∷ []) b f) (clock.returned at (e ∷ []) p)
  one_same e es b f p h entered t = step (is_due at e) refl
    where
      step : (d : Bool) → is_due at e ≡ d
          → Same z (returned z at (e ∷ []) b) q (due_queues z at (e ∷ []) b f) (clock.returned at (e ∷ []) p)
      step true d =
          let m : ℕ = e.message in
          let on : place b m ≡ OnTimer = entered.1 m (used_in e (e ∷ es) (inl refl) (due-used at e d)) in
          rw d (same_holds z b q f p (λ (x : Plain). Same z (give_back z b m) q
          (queues_after b f (IntoQueue m (message b m).prio (message b m).sptr)) (plain.place x m (x.blocks m).sptr)) t
          (λ l s n w. back_same z b q f a h l s n w m on))
      step false d = rw d t

  -- all of them
  pub returned_same : (es : List waiting.Entry) (b : Board) (f : ℕ → List ℕ) (p : Plain) → Settled z b q f → Entered b es
      → Same z b q f p → Same z (returned z at es b) q (due_queues z at es b f) (clock.returned at es p)
  returned_same [] b f p h entered t = t
  returned_same (e ∷ es) b f p h entered t =
      let next = turn z at q a e es b f h entered in
      returned_same es (returned z at (e ∷ []) b) (due_queues z at (e ∷ []) b f) (clock.returned at (e ∷ []) p) next.settled
      (entered_rest z at q a e es b f next entered) (one_same e es b f p h entered t)
