-- The timer buffer against the board: when refusal 18 isn't given, and that a call, a start and a tick leave it so.
-- Assumes nothing.
use mathlib.Core.Path.{◌≡◌, refl, sym, ap, ◌∙◌, subst}
use mathlib.Core.Logic.Iff
use mathlib.Core.Logic.{◌⊎◌, inl, inr, ⊎_elim, ◌↔◌}
use mathlib.Core.Bool.{true, not, true≢false}
use mathlib.Core.List.{List, map}
use Prim.Native.Nat.{ℕ}
use native.Mathlib.Omega.{arith}
use native.Mathlib.Decide.{ℕ_discrete}
use lib.ListN.{length}
use lib.Dec.{eqb}
use borrow.Author.Tests.{eqb-true, eq-eqb, ne_eqb, not-true}
use Rattle.links.specs.Queue.{rearranged}
use Rattle.links.specs.Chain.{In, Out, Once}
use Rattle.links.proofs.Members.{not_in_out, in_middle, once_insert_middle}
use Rattle.links.proofs.Exactly.{rearranged_in, rearranged_once, once_rearranged, which_once}
use Rattle.board.specs.declared.numbers.Size.{Size}
use Rattle.board.specs.declared.places.Place.{Place}
use Rattle.board.specs.declared.places.Place.TheVariants.{Free, OnTimer}
use Rattle.board.specs.Numbers.{Numbered}
use Rattle.board.specs.Places.{is_on_timer}
use Rattle.board.specs.Board.{Board, place}
use Rattle.timer.specs.declared.entry.Entry.{Entry}
use Rattle.timer.specs.Timer.{Timer, timer_length, timer_of, timer_bytes, no_entry, is_used, is_due}
use Rattle.timer.specs.Claims.{TimerBytes}
use Rattle.paper.proofs.Which.{which-nth}
use Rattle.linked.proofs.Says.{Says, ◌&◌}
use Rattle.linked.proofs.Tests.{says_is_on_timer}
use Rattle.linked.proofs.Running.{which_first}
use Rattle.kept.specs.Settled.{Settled}
use Rattle.kept.specs.Claims.{Sizes}
use Rattle.kept.proofs.Reading.{nth_cases, place-put, place_other}
use Rattle.kept.proofs.Holding.{held_numbered}
use Rattle.kept.proofs.Timers.{LeavesTheTimer}
use Rattle.timing.specs.Timing.{used, free_are_zero, on_timer, good_timer, lowest_entry, started, started_timer, returned, freed}
use Rattle.ticked.proofs.Entries.{used_in, in_used, one_entry, Undue}
use Rattle.ticked.proofs.Returning.{Entered, Became, back, stays, became, returned_other}
use Rattle.ticked.proofs.Starting.{Startable}
use Rattle.ticked.proofs.Filled.{Between, filled_used, filled_zero}
use Rattle.ticked.proofs.Freed.{in_freed, freed_in, freed_once, freed-zero}
use Rattle.ticked.proofs.Fitting.{FitsTimer, fits-bytes, fits_back}

-- the entries are right for the board: free ones are zero, and the messages in the others are exactly those on the timer, once
-- each
pub record Matches (b : Board) (es : List Entry) : Type 0 where
  pub zero : free_are_zero es ≡ true
  pub once : Once (used es)
  pub exact : (m : ℕ) → In m (used es) ↔ (place b m ≡ OnTimer)

-- ---- refusal 18
-- the messages that the board has on the timer
on_timer_lem : (b : Board) (m : ℕ) → In m (on_timer b) ↔ (place b m ≡ OnTimer)
on_timer_lem b m = Iff.trans (which-nth Free is_on_timer b.places refl m) (says_is_on_timer (place b m))

says_exactly : (b : Board) (es : List Entry)
    → Says (rearranged (used es) (on_timer b)) (Once (used es) × ((m : ℕ) → In m (used es) ↔ (place b m ≡ OnTimer)))
says_exactly b es =
    let q : List ℕ = used es in
    let l : List ℕ = on_timer b in
    let d = which_once is_on_timer 1 b.places in (
      (λ h. (rearranged_once q l h d, λ m. Iff.trans (rearranged_in q l h m) (on_timer_lem b m))),
      λ (o, x). once_rearranged q l o d (λ m. Iff.trans (x m) ((on_timer_lem b m).1, (on_timer_lem b m).0)),
    )

-- it isn't given exactly if the buffer has its length and its entries are right for the board
pub says_good_timer : (b : Board) (s : List ℕ) → Says (good_timer b s) ((length s ≡ timer_length) × Matches b (timer_of s).entries)
says_good_timer b s =
    Iff.trans ((eqb-true (length s) timer_length, eq-eqb (length s) timer_length) & Iff.rfl & says_exactly b (timer_of s).entries) (
      (λ ((l, f), (o, x)). (l, record { zero = f; once = o; exact = x })),
      λ (l, h). ((l, h.zero), (h.once, h.exact)),
    )

-- so of the bytes of a timer that fits
pub matches_good : (b : Board) (t : Timer) → FitsTimer t → Matches b t.entries
    → TimerBytes (timer_bytes t) × (good_timer b (timer_bytes t) ≡ true)
matches_good b t f h =
    let k = fits-bytes t f in
    (k, (says_good_timer b (timer_bytes t)).1 (k.long, subst (λ (u : Timer). Matches b u.entries) (sym (fits_back t f)) h))

-- ---- the board changes and the timer doesn't
-- only which messages are on the timer counts
pub matches_stays : (b d : Board) (es : List Entry) → LeavesTheTimer b d → Matches b es → Matches d es
matches_stays b d es l h = record {
  zero = h.zero;
  once = h.once;
  exact = λ m. (
    (λ i. (says_is_on_timer (place d m)).0 ((l m).0 ∙ ap is_on_timer ((h.exact m).0 i))),
    λ p. (h.exact m).1 ((says_is_on_timer (place b m)).0 (sym (l m).0 ∙ ap is_on_timer p)),
  );
}

-- so the buffer stays good
pub good_stays : (b d : Board) (s : List ℕ) → LeavesTheTimer b d → good_timer b s ≡ true → good_timer d s ≡ true
good_stays b d s l g =
    let (n, h) = (says_good_timer b s).0 g in (says_good_timer d s).1 (n, matches_stays b d (timer_of s).entries l h)

-- ---- a start
module _ (z : Size) (b : Board) (order : List ℕ) (queues : ℕ → List ℕ) (settled : Settled z b order queues) (c : ℕ) (t : Timer)
    (m delay : ℕ) (goes : Startable b c t m delay) (right : Matches b t.entries) where
  abbrev es : List Entry
  es = t.entries

  abbrev more : List Entry
  more = (started_timer t m delay).entries

  numbered : Numbered z.messages m
  numbered = held_numbered z b order queues settled m c goes.held

  full : not (eqb m 0) ≡ true
  full = ap not (ne_eqb m 0 (λ e. omega (arith, numbered.0)))

  between : Between m (used es) (used more)
  between =
      let (n, f) = which_first no_entry (λ e. not (is_used e)) es goes.free in
      filled_used _ full es (lowest_entry t) n (not-true _ f)

  out : Out m (used es)
  out = not_in_out m (used es) (λ i. true≢false (sym (ap is_on_timer ((right.exact m).0 i)) ∙ ap is_on_timer goes.held))

  -- its message is in the entry that was free, and on the timer
  there : (y : ℕ) → (y ≡ m) ⊎ In y (used es) → place (started b m) y ≡ OnTimer
  there y (inl e) =
      let n = rw (← settled.fits.places) at numbered in
      subst (λ (k : ℕ). place (started b m) k ≡ OnTimer) (sym e) (place-put b m OnTimer n)
  there y (inr i) = nth_cases (λ (p : Place). p ≡ OnTimer) Free b.places m y OnTimer (λ e. refl) ((right.exact y).0 i)

  here : (y : ℕ) → place (started b m) y ≡ OnTimer → Dec (y ≡ m) → (y ≡ m) ⊎ In y (used es)
  here y o (yes e) = inl e
  here y o (no n) = inr ((right.exact y).1 (sym (place_other b m y OnTimer n) ∙ o))

  pub matches_started : Matches (started b m) (started_timer t m delay).entries
  matches_started =
      let a : List ℕ = between.front in
      let q : List ℕ = between.back in
      let was = between.was in
      let is = between.is in record {
        zero = filled_zero _ full es (lowest_entry t) right.zero;
        once = subst Once (sym is) (once_insert_middle m a q (subst (Out m) was out) (subst Once was right.once));
        exact = λ y. (
          (λ i. there y (⊎_elim (λ e. inl e) (λ j. inr (subst (In y) (sym was) j)) ((in_middle y m a q).0 (subst (In y) is i)))),
          λ o. subst (In y) (sym is) ((in_middle y m a q).1
              (⊎_elim (λ e. inl e) (λ j. inr (subst (In y) was j)) (here y o (ℕ_discrete y m)))),
        );
      }

-- ---- a tick
-- entries that are right for the board have messages on the timer
pub matches_entered : (b : Board) (es : List Entry) → Matches b es → Entered b es
matches_entered b es h = (h.once, λ m i. (h.exact m).0 i)

module _ (z : Size) (at : ℕ) (order : List ℕ) (sizes : Sizes z) (es : List Entry) (b : Board) (queues : ℕ → List ℕ)
    (settled : Settled z b order queues) (right : Matches b es) where
  entered : Entered b es
  entered = matches_entered b es right

  -- a message that is left in an entry stays on the timer: no other entry names it
  left : (m : ℕ) → In m (used (map (freed at) es)) → place (returned z at es b) m ≡ OnTimer
  left m i =
      let (e, j, u, p, d) = in_freed at m es i in
      let undue : Undue at es m = λ f k q. ap (is_due at) (sym (one_entry es right.once e f j k u (p ∙ sym q))) ∙ d in
      (returned_other z at order sizes es b queues settled entered m undue).0
      ∙ (right.exact m).0 (subst (λ (n : ℕ). In n (used es)) p (used_in e es j u))

  -- one that stays on the timer was due in no entry
  kept : (m : ℕ) → place (returned z at es b) m ≡ OnTimer → Became z at es b m → In m (used (map (freed at) es))
  kept m o (back e i p d q) = absurd (true≢false (sym (ap is_on_timer o) ∙ ap is_on_timer q))
  kept m o (stays n p u) =
      let (e, j, v, q) = in_used m es ((right.exact m).1 (sym p ∙ o)) in
      subst (λ (k : ℕ). In k (used (map (freed at) es))) q (freed_in at e es j v (n e j q))

  pub matches_ticked : Matches (returned z at es b) (map (freed at) es)
  matches_ticked = record {
    zero = freed-zero at es right.zero;
    once = freed_once at es right.once;
    exact = λ m. (left m, λ o. kept m o (became z at order sizes es b queues settled entered m));
  }
