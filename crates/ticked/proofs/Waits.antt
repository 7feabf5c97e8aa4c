-- A message waits on the timer: through dispatch, through a start of another, and through a tick that isn't its last. Its last
-- tick puts it back.
-- Assumes nothing.
use mathlib.Core.Path.{◌≡◌, refl, sym, ap, ◌∙◌, subst}
use mathlib.Core.Logic.{◌≢◌}
use mathlib.Core.Bool.{true, false, not, true≢false}
use mathlib.Core.List.{List, map}
use Prim.Native.Nat.{ℕ, suc, ◌+◌, ◌<◌}
use native.Mathlib.Omega.{arith}
use lib.Dec.{eqb}
use lib.ListN.{length}
use borrow.Author.Tests.{eqb-true, eq-eqb, ne_eqb, not-true}
use Rattle.links.specs.Chain.{In}
use Rattle.links.proofs.Bools.{refuted, both, and_true}
use Rattle.links.proofs.Members.{map_in}
use Rattle.board.specs.declared.numbers.Size.{Size}
use Rattle.board.specs.declared.records.Message.{Message}
use Rattle.board.specs.declared.places.Place.TheVariants.{QueuedAt, OnTimer}
use Rattle.board.specs.Numbers.{task_no, Numbered}
use Rattle.board.specs.Places.{is_on_timer}
use Rattle.board.specs.Board.{Board, board_of, message, place}
use Rattle.timer.specs.declared.entry.Entry.{Entry}
use Rattle.timer.specs.Timer.{Timer, timer_of, timer_bytes, no_entry, is_used, is_due, entry}
use Rattle.paper.specs.Outcomes.{Outcome, undispatched, dispatch}
use Rattle.linked.proofs.Running.{placed_numbered, which_first}
use Rattle.linked.proofs.Tests.{says_is_on_timer}
use Rattle.kept.specs.Claims.{Sizes}
use Rattle.kept.proofs.Reading.{place-put, place_other, held_placed}
use Rattle.kept.proofs.Timers.{LeavesTheTimer, dispatch-leaves_the_timer}
use Rattle.timing.specs.Timing.{lowest_entry, wrapped, started, started_timer, next_now, returned, freed, ticked, accepting, timed}
use Rattle.ticked.proofs.Entries.{one_entry}
use Rattle.ticked.proofs.Returning.{Entered, returned_other, returned-due, Stays}
use Rattle.ticked.proofs.Starting.{Startable}
use Rattle.ticked.proofs.Freed.{freed_same}
use Rattle.ticked.proofs.Fitting.{fits_back}
use Rattle.ticked.proofs.Buffers.{matches_entered}
use Rattle.ticked.proofs.Leaving.{Left, left_accepts}
use Rattle.ticked.proofs.Putting.{put_in, put_other}

-- ---- now runs on past 65,535 to 0
-- one tick later as many less are left
wrapped_on : (now n : ℕ) → wrapped (wrapped (now + 1) + n) ≡ wrapped (now + suc n)
wrapped_on now n = omega arith

-- a later tick, fewer than 65,536 later, has another word
wrapped_other : (now n : ℕ) → 0 < n → n < 65536 → wrapped (now + suc n) ≢ wrapped (now + 1)
wrapped_other now n h g e = absurd (omega arith)

-- ---- what it is to wait
-- an entry for it
abbrev pub awaiting : ℕ → ℕ → Entry
awaiting m due = record { message = m; due = due }

-- m is on the timer, r is its SPTR task, and an entry has it due in n ticks
pub record Waits (b : Board) (t : Timer) (m r n : ℕ) : Type 0 where
  pub on : place b m ≡ OnTimer
  pub sender : (message b m).sptr ≡ r
  pub entered : In (awaiting m (wrapped (t.ticks + n))) t.entries

-- such an entry is in use
waits-used : (b : Board) (m due : ℕ) → place b m ≡ OnTimer → is_used (awaiting m due) ≡ true
waits-used b m due o =
    ap not (ne_eqb m 0 (λ e. true≢false (sym (ap is_on_timer o) ∙ ap (λ (k : ℕ). is_on_timer (place b k)) e)))

-- what leaves the timer leaves it waiting
pub leaves-waits : (b d : Board) (t : Timer) (m r n : ℕ) → LeavesTheTimer b d → Waits b t m r n → Waits d t m r n
leaves-waits b d t m r n f w = let (on, same) = f m in let o = ap is_on_timer w.on in record {
  on = (says_is_on_timer (place d m)).0 (on ∙ o);
  sender = ap (λ (u : Message). u.sptr) (same o) ∙ w.sender;
  entered = w.entered;
}

-- so does dispatch, and the timer is written and read back
pub dispatch-waits : (z : Size) (l s : List ℕ) (d : Board) (t : Timer) (m r n : ℕ) → Sizes z → Left z d t → Waits d t m r n
    → let o = timed (dispatch z l (undispatched 0 d)) s t in Waits (board_of z o.board) (timer_of o.timer) m r n
dispatch-waits z l s d t m r n a h w =
    let e = ap (λ (o : Outcome). timer_of (accepting o.answer s (timer_bytes t))) (left_accepts z l s d t a h).ends in
    leaves-waits d _ _ m r n (dispatch-leaves_the_timer z l (undispatched 0 d) h.order h.queues a h.settled)
    (subst (λ (x : Timer). Waits d x m r n) (sym (e ∙ fits_back t h.fits)) w)

-- ---- a start that no refusal stops
module _ (b : Board) (c : ℕ) (t : Timer) (k delay : ℕ) (go : Startable b c t k delay) where
  -- the entry that it takes is one of the sixteen, and free
  taken : Numbered (length t.entries) (lowest_entry t) × (is_used (entry t (lowest_entry t)) ≡ false)
  taken = let (n, f) = which_first no_entry (λ e. not (is_used e)) t.entries go.free in (n, not-true _ f)

  -- the message that it takes is on no timer
  another : (m : ℕ) → place b m ≡ OnTimer → m ≢ k
  another m o e = true≢false (sym (ap is_on_timer o) ∙ ap (λ (x : ℕ). is_on_timer (place b x)) e ∙ ap is_on_timer go.held)

  -- that one waits for its delay
  pub start-waits : Waits (started b k) (started_timer t k delay) k (message b k).sptr delay
  start-waits = record {
    on = place-put b k OnTimer (placed_numbered b k (held_placed b k c go.held));
    sender = refl;
    entered = put_in _ t.entries (lowest_entry t) taken.0;
  }

  -- any other waits on
  pub start-waits_on : (m r n : ℕ) → Waits b t m r n → Waits (started b k) (started_timer t k delay) m r n
  start-waits_on m r n w = record {
    on = place_other b k m OnTimer (another m w.on) ∙ w.on;
    sender = w.sender;
    entered = put_other _ no_entry _ t.entries (lowest_entry t) w.entered
        (λ e. true≢false (sym (waits-used b m (wrapped (t.ticks + n)) w.on) ∙ ap is_used e ∙ taken.1));
  }

-- ---- a tick
module _ (z : Size) (b : Board) (t : Timer) (a : Sizes z) (left : Left z b t) (m r : ℕ) where
  abbrev at : ℕ
  at = next_now t

  abbrev back : Board
  back = returned z at t.entries b

  -- messages in entries are on the timer, and none is in two
  entered : Entered b t.entries
  entered = matches_entered b t.entries left.right

  -- ---- before its last one
  module _ (n : ℕ) (h : 0 < n) (g : n < 65536) (w : Waits b t m r (suc n)) where
    abbrev ours : Entry
    ours = awaiting m (wrapped (t.ticks + suc n))

    -- its entry isn't due
    later : is_due at ours ≡ false
    later = refuted (is_due at ours) (λ d.
        wrapped_other t.ticks n h g (eqb-true ours.due at (both (is_used ours) (eqb ours.due at) d).1))

    -- and no other names it, so it stays
    stays : Stays b back m
    stays =
        let u = waits-used b m ours.due w.on in
        returned_other z at left.order a t.entries b left.queues left.settled entered m (λ e i p.
        ap (is_due at) (sym (one_entry t.entries entered.0 ours e w.entered i u (sym p))) ∙ later)

    -- and waits on, for one tick less
    pub tick-waits_on : Waits back (ticked t) m r n
    tick-waits_on = record {
      on = stays.0 ∙ w.on;
      sender = ap (λ (u : Message). u.sptr) (stays.1 w.on) ∙ w.sender;
      entered = subst (λ (x : ℕ). In (awaiting m x) (map (freed at) t.entries)) (sym (wrapped_on t.ticks n))
          (subst (λ (x : Entry). In x (map (freed at) t.entries)) (freed_same at ours later)
          (map_in (freed at) ours t.entries w.entered));
    }

  -- ---- at its last one it goes back
  pub tick_goes_back : Waits b t m r 1 → place (returned z (next_now t) t.entries b) m ≡ QueuedAt (task_no r)
  tick_goes_back w =
      returned-due z at left.order a t.entries b left.queues left.settled entered (awaiting m at) w.entered
      (and_true (is_used (awaiting m at)) (eqb at at) (waits-used b m at w.on) (eq-eqb at at refl))
      ∙ ap (λ (k : ℕ). QueuedAt (task_no k)) w.sender
