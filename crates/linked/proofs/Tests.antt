-- What the small tests of the rules say, as document 01 words them.
-- Assumes nothing.
use mathlib.Core.Path.{◌≡◌, refl, sym, ap, ◌∙◌}
use mathlib.Core.Logic.Iff
use mathlib.Core.Logic.{◌⊎◌}
use mathlib.Core.Bool.{Bool, true, true≢false}
use mathlib.Core.List.{List, [], ◌∷◌}
use Prim.Native.Nat.{ℕ}
use borrow.Author.Tests.{eqb-true, eq-eqb}
use Rattle.links.specs.Chain.{All}
use Rattle.board.specs.declared.numbers.Size.{Size}
use Rattle.board.specs.declared.status.Status.{Status}
use Rattle.board.specs.declared.records.Task.{Task}
use Rattle.board.specs.declared.records.Message.{Message}
use Rattle.board.specs.declared.places.Place.{Place}
use Rattle.board.specs.declared.places.Place.TheVariants.{Free, HeldBy, QueuedAt, OnTimer, Nowhere}
use Rattle.board.specs.Numbers.{task_no}
use Rattle.board.specs.Status.{stored}
use Rattle.board.specs.Places.{is_free, is_held_by, is_queued_at, is_on_timer}
use Rattle.board.specs.Records.{no_task, no_message}
use Rattle.board.specs.Board.{Board, message}
use Rattle.paper.specs.Rules.{present, all_zero, zero_task, good_head, good_task, zero_message, good_pointers, good_message, good_flags}
use Rattle.linked.specs.Sound.{Proper, Pointers, PlaceGood, Flags}
use Rattle.linked.proofs.Says.{Says, says_zero, says_leb, says_ltb, ◌&◌, says_or, says_where}
use Rattle.linked.proofs.Says.{says_not, says_never, says_apart}

-- ---- R1: bytes 1 to 3
-- all are 0
pub says_all_zero : (l : List ℕ) → Says (all_zero l) (All (λ x. x ≡ 0) l)
says_all_zero [] = ((λ e. tt), λ h. refl)
says_all_zero (x ∷ l) = says_zero & says_all_zero l

-- ---- R2: a task record
-- ten zero bytes
pub says_zero_task : (t : Task) → Says (zero_task t) (t ≡ no_task)
says_zero_task t = (
  (λ e.
      let (((((s, p), l), m), r), n) = (says_zero & says_zero & says_zero & says_zero & says_zero & says_zero).0 e in
      λ i. record { stat = stored (s i); prio = p i; link = l i; mptr = m i; sptr = r i; name = n i }),
  ap zero_task,
)

-- STAT and PRIO of a present task
pub says_good_head : (t : Task) → Says (good_head t.stat t.prio) (Proper t)
says_good_head t =
    Iff.trans (Iff.rfl & says_not & (Iff.rfl & says_leb & says_leb)) (
      (λ ((t, b), ((o, l), h)). record { there = t; bit5 = b; odd = o; low = l; high = h }),
      λ p. ((p.there, p.bit5), ((p.odd, p.low), p.high)),
    )

-- absent, or such a task
pub says_good_task : (t : Task) → Says (good_task t) ((t ≡ no_task) ⊎ Proper t)
says_good_task t = says_or (says_zero_task t) (says_good_head t)

-- ---- R4: a message and its place
-- eight zero bytes
pub says_zero_message : (u : Message) → Says (zero_message u) (u ≡ no_message)
says_zero_message u = (
  (λ e.
      let ((((s, p), l), r), n) = (says_zero & says_zero & says_zero & says_zero & says_zero).0 e in
      λ i. record { stat = s i; prio = p i; link = l i; rptr = r i; sptr = n i }),
  ap zero_message,
)

-- RPTR and SPTR
says_good_pointers : (z : Size) (u : Message) → Says (good_pointers z u) (Pointers z u)
says_good_pointers z u =
    Iff.trans (says_leb & says_leb) ((λ (r, s). record { receiver = r; sender = s }), λ p. (p.receiver, p.sender))

-- a message, by its place
pub says_good_message : (z : Size) (b : Board) (m : ℕ) (p : Place)
    → Says (good_message z (present b) (message b m) p) (PlaceGood z b m p)
says_good_message z b m Free = says_zero_message (message b m)
says_good_message z b m (HeldBy k) =
    Iff.trans (says_good_pointers z (message b m) & says_zero & Iff.rfl) ((λ ((r, l), t). (r, l, t)), λ (r, l, t). ((r, l), t))
says_good_message z b m (QueuedAt k) =
    Iff.trans (says_good_pointers z (message b m) & Iff.rfl & says_ltb & Iff.rfl)
    ((λ (((r, o), h), t). (r, o, h, t)), λ (r, o, h, t). (((r, o), h), t))
says_good_message z b m OnTimer =
    Iff.trans (says_good_pointers z (message b m) & says_zero & Iff.rfl & says_ltb)
    ((λ (((r, l), t), h). (r, l, t, h)), λ (r, l, t, h). (((r, l), t), h))
says_good_message z b m (Nowhere p) = ((λ e. true≢false (sym e)), λ a. absurd a)

-- the place is that queue
pub says_is_queued_at : (k : ℕ) (p : Place) → Says (is_queued_at k p) (p ≡ QueuedAt (task_no k))
says_is_queued_at k p = (there p, λ e. ap (is_queued_at k) e ∙ eq-eqb k k refl)
  where
    there : (p : Place) → is_queued_at k p ≡ true → p ≡ QueuedAt (task_no k)
    there Free e = absurd (true≢false (sym e))
    there (HeldBy j) e = absurd (true≢false (sym e))
    there (QueuedAt j) e = ap (λ (x : ℕ). QueuedAt (task_no x)) (eqb-true j.0 k e)
    there OnTimer e = absurd (true≢false (sym e))
    there (Nowhere j) e = absurd (true≢false (sym e))

-- it is that task's hands
pub says_is_held_by : (k : ℕ) (p : Place) → Says (is_held_by k p) (p ≡ HeldBy (task_no k))
says_is_held_by k p = (there p, λ e. ap (is_held_by k) e ∙ eq-eqb k k refl)
  where
    there : (p : Place) → is_held_by k p ≡ true → p ≡ HeldBy (task_no k)
    there Free e = absurd (true≢false (sym e))
    there (HeldBy j) e = ap (λ (x : ℕ). HeldBy (task_no x)) (eqb-true j.0 k e)
    there (QueuedAt j) e = absurd (true≢false (sym e))
    there OnTimer e = absurd (true≢false (sym e))
    there (Nowhere j) e = absurd (true≢false (sym e))

-- it is free
pub says_is_free : (p : Place) → Says (is_free p) (p ≡ Free)
says_is_free Free = ((λ e. refl), λ e. refl)
says_is_free (HeldBy k) = ((λ e. absurd (true≢false (sym e))), ap is_free)
says_is_free (QueuedAt k) = ((λ e. absurd (true≢false (sym e))), ap is_free)
says_is_free OnTimer = ((λ e. absurd (true≢false (sym e))), ap is_free)
says_is_free (Nowhere p) = ((λ e. absurd (true≢false (sym e))), ap is_free)

-- it is the timer
pub says_is_on_timer : (p : Place) → Says (is_on_timer p) (p ≡ OnTimer)
says_is_on_timer Free = ((λ e. absurd (true≢false (sym e))), ap is_on_timer)
says_is_on_timer (HeldBy k) = ((λ e. absurd (true≢false (sym e))), ap is_on_timer)
says_is_on_timer (QueuedAt k) = ((λ e. absurd (true≢false (sym e))), ap is_on_timer)
says_is_on_timer OnTimer = ((λ e. refl), λ e. refl)
says_is_on_timer (Nowhere p) = ((λ e. absurd (true≢false (sym e))), ap is_on_timer)

-- ---- R6: flags
-- which go together, and with an empty queue
pub says_good_flags : (s : Status) (empty : Bool) (Empty : Type 0) → Says empty Empty → Says (good_flags s empty) (Flags s Empty)
says_good_flags s empty Empty h =
    Iff.trans
    (says_apart & says_where (h & says_not) & says_where (says_not & says_not) & says_where (says_never h)) (
      (λ (((o, w), p), d). record { one = o; waiting = w; parked = p; due = d }),
      λ f. (((f.one, f.waiting), f.parked), f.due),
    )
