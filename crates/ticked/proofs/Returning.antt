-- A tick's returns: the messages that are due go back to their SPTR tasks, entry by entry, and all else on the timer stays.
-- Assumes nothing.
use mathlib.Core.Path.{◌≡◌, refl, sym, ap, ◌∙◌, subst}
use mathlib.Core.Logic.{◌≢◌, ◌⊎◌, inl, inr}
use mathlib.Core.Bool.{Bool, true, false, true≢false}
use mathlib.Core.List.{List, [], ◌∷◌}
use Prim.Native.Nat.{ℕ}
use native.Mathlib.Omega.{arith}
use Rattle.links.specs.Chain.{In, Out, Once}
use Rattle.links.proofs.Members.{not_in_out}
use Rattle.board.specs.declared.numbers.Size.{Size}
use Rattle.board.specs.declared.records.Message.{Message}
use Rattle.board.specs.declared.places.Place.TheVariants.{QueuedAt, OnTimer}
use Rattle.board.specs.Numbers.{task_no, Numbered}
use Rattle.board.specs.Places.{is_queued}
use Rattle.board.specs.Board.{Board, message, place}
use Rattle.timer.specs.declared.entry.Entry.{Entry}
use Rattle.timer.specs.Timer.{is_due}
use Rattle.paper.specs.Rules.{queue}
use Rattle.paper.specs.Effects.{give_back}
use Rattle.linked.specs.Sound.{PlaceGood}
use Rattle.kept.specs.Settled.{Settled}
use Rattle.kept.specs.Touched.{IntoQueue, queues_after}
use Rattle.kept.specs.Claims.{Sizes}
use Rattle.kept.proofs.Reading.{timed_numbered, queue-walked}
use Rattle.kept.proofs.Holding.{unqueued_out}
use Rattle.kept.proofs.Waiting.{task_numbered}
use Rattle.kept.proofs.Placing.{place_settled}
use Rattle.kept.proofs.Framed.{framed_forward}
use Rattle.kept.proofs.Mail.{placed_place}
use Rattle.timing.specs.Timing.{used, returned}
use Rattle.ticked.specs.Claims.{due_queues}
use Rattle.ticked.proofs.Entries.{used-later, used_in, once_rest, due-used, Undue, rest_undue, first_undue, due_or_not}

-- of d the message m is where it is on b, and if that is on the timer its record is the same
abbrev pub Stays : Board → Board → ℕ → Type 0
Stays b d m = (place d m ≡ place b m) × (place b m ≡ OnTimer → message d m ≡ message b m)

-- ---- one message on the timer goes back
module _ (z : Size) (b : Board) (order : List ℕ) (queues : ℕ → List ℕ) (sizes : Sizes z) (settled : Settled z b order queues)
    (m : ℕ) (timed : place b m ≡ OnTimer) where
  abbrev r : ℕ
  r = (message b m).sptr

  numbered : Numbered z.messages m
  numbered = timed_numbered z b settled.fits.places m timed

  good : PlaceGood z b m OnTimer
  good = subst (PlaceGood z b m) timed (settled.regular.places m numbered)

  -- into the queue of its SPTR task, where its priority puts it
  back_settled : Settled z (give_back z b m) order (queues_after b queues (IntoQueue m (message b m).prio (message b m).sptr))
  back_settled =
      place_settled z b order queues sizes settled m r
      (record { unqueued = ap is_queued timed; numbered = numbered; pointers = good.0 }) good.2 (λ e. omega (arith, good.3))

  -- it is queued there
  back_place : place (give_back z b m) m ≡ QueuedAt (task_no (message b m).sptr)
  back_place = placed_place z b m r (rw (← settled.fits.places) at numbered)

  -- another stays: what is on the timer is in no queue
  back_other : (y : ℕ) → y ≢ m → Stays b (give_back z b m) y
  back_other y n =
      let f = framed_forward z b 0 m r in
      let there = task_numbered z b order queues settled r good.2 in
      let out : place b y ≡ OnTimer → Out y (queue z b r) = λ t. rw (queue-walked z b order queues settled r there)
      (not_in_out y (queues r) (λ i. unqueued_out z b order queues settled y (ap is_queued t) r there y i refl)) in
      (f.places y (n, tt), λ t. f.queue y (n, tt) (out t))

-- ---- one entry
-- the messages of these entries are on the timer, and none of them is in two
abbrev pub Entered : Board → List Entry → Type 0
Entered b es = Once (used es) × ((m : ℕ) → In m (used es) → place b m ≡ OnTimer)

-- what the entry e makes of the board b: its message goes back if it is due, and all others stay
pub record Turn (z : Size) (at : ℕ) (order : List ℕ) (e : Entry) (b : Board) (queues : ℕ → List ℕ) : Type 0 where
  pub settled : Settled z (returned z at (e ∷ []) b) order (due_queues z at (e ∷ []) b queues)
  pub back : is_due at e ≡ true → place (returned z at (e ∷ []) b) e.message ≡ QueuedAt (task_no (message b e.message).sptr)
  pub others : (m : ℕ) → (e.message ≡ m → is_due at e ≡ false) → Stays b (returned z at (e ∷ []) b) m

module _ (z : Size) (at : ℕ) (order : List ℕ) (sizes : Sizes z) where
  pub turn : (e : Entry) (es : List Entry) (b : Board) (queues : ℕ → List ℕ) → Settled z b order queues → Entered b (e ∷ es)
      → Turn z at order e b queues
  turn e es b queues s h = step (is_due at e) refl
    where
      step : (t : Bool) → is_due at e ≡ t → Turn z at order e b queues
      step true d =
          let o = h.1 e.message (used_in e (e ∷ es) (inl refl) (due-used at e d)) in record {
            settled = rw d (back_settled z b order queues sizes s e.message o);
            back = λ i. rw d (back_place z b order queues sizes s e.message o);
            others = λ m n. rw d (back_other z b order queues sizes s e.message o m (λ p. true≢false (sym d ∙ n (sym p))));
          }
      step false d = record {
        settled = rw d s;
        back = λ i. absurd (true≢false (sym i ∙ d));
        others = λ m n. rw d (refl, λ t. refl);
      }

  -- the messages of the entries behind it are still on the timer
  pub entered_rest : (e : Entry) (es : List Entry) (b : Board) (queues : ℕ → List ℕ) → Turn z at order e b queues → Entered b (e ∷ es)
      → Entered (returned z at (e ∷ []) b) es
  entered_rest e es b queues t (once, on) =
      (once_rest e es once, λ m i. (t.others m (rest_undue at e es once m i)).0 ∙ on m (used-later e es m i))

  -- ---- all entries
  -- the board is settled, with the due messages in their queues
  pub returned_settled : (es : List Entry) (b : Board) (queues : ℕ → List ℕ) → Settled z b order queues → Entered b es
      → Settled z (returned z at es b) order (due_queues z at es b queues)
  returned_settled [] b queues s h = s
  returned_settled (e ∷ es) b queues s h =
      let t = turn e es b queues s h in
      returned_settled es (returned z at (e ∷ []) b) (due_queues z at (e ∷ []) b queues) t.settled
      (entered_rest e es b queues t h)

  -- a message that no due entry names stays
  pub returned_other : (es : List Entry) (b : Board) (queues : ℕ → List ℕ) → Settled z b order queues → Entered b es
      → (m : ℕ) → Undue at es m → Stays b (returned z at es b) m
  returned_other [] b queues s h m n = (refl, λ t. refl)
  returned_other (e ∷ es) b queues s h m n =
      let t = turn e es b queues s h in
      let (p, u) = t.others m (n e (inl refl)) in
      let (q, v) = returned_other es (returned z at (e ∷ []) b) (due_queues z at (e ∷ []) b queues) t.settled
      (entered_rest e es b queues t h) m (λ f i. n f (inr i)) in
      (q ∙ p, λ o. v (p ∙ o) ∙ u o)

  -- one that a due entry names is queued at its SPTR task
  pub returned-due : (es : List Entry) (b : Board) (queues : ℕ → List ℕ) → Settled z b order queues → Entered b es
      → (e : Entry) → In e es → is_due at e ≡ true
      → place (returned z at es b) e.message ≡ QueuedAt (task_no (message b e.message).sptr)
  returned-due [] b queues s h e i d = absurd i
  returned-due (x ∷ es) b queues s h e (inl r) d =
      let t = turn x es b queues s h in
      let due : is_due at x ≡ true = ap (is_due at) (sym r) ∙ d in
      let o = returned_other es (returned z at (x ∷ []) b) (due_queues z at (x ∷ []) b queues) t.settled
      (entered_rest x es b queues t h) x.message (first_undue at x es h.0 due) in
      subst (λ (f : Entry). place (returned z at (x ∷ es) b) f.message ≡ QueuedAt (task_no (message b f.message).sptr))
      (sym r) (o.0 ∙ t.back due)
  returned-due (x ∷ es) b queues s h e (inr i) d =
      let t = turn x es b queues s h in
      let u = used_in e es i (due-used at e d) in
      let o = t.others e.message (rest_undue at x es h.0 e.message u) in
      returned-due es (returned z at (x ∷ []) b) (due_queues z at (x ∷ []) b queues) t.settled
      (entered_rest x es b queues t h) e i d
      ∙ ap (λ (v : Message). QueuedAt (task_no v.sptr)) (o.1 (h.1 e.message (used-later x es e.message u)))

-- ---- what became of a message: some due entry names it and it went back, or none does and it stays
pub data Became (z : Size) (at : ℕ) (es : List Entry) (b : Board) (m : ℕ) : Type 0 where
  back : (e : Entry) → In e es → e.message ≡ m → is_due at e ≡ true
      → place (returned z at es b) m ≡ QueuedAt (task_no (message b m).sptr) → Became z at es b m
  stays : Undue at es m → place (returned z at es b) m ≡ place b m
      → (place b m ≡ OnTimer → message (returned z at es b) m ≡ message b m) → Became z at es b m

pub became : (z : Size) (at : ℕ) (order : List ℕ) → Sizes z → (es : List Entry) (b : Board) (queues : ℕ → List ℕ)
    → Settled z b order queues → Entered b es → (m : ℕ) → Became z at es b m
became z at order sizes es b queues s h m = step (due_or_not at es m)
  where
    step : ((e : Entry) × In e es × (e.message ≡ m) × (is_due at e ≡ true)) ⊎ Undue at es m → Became z at es b m
    step (inl (e, i, p, d)) =
        back e i p d (subst (λ (n : ℕ). place (returned z at es b) n ≡ QueuedAt (task_no (message b n).sptr)) p
        (returned-due z at order sizes es b queues s h e i d))
    step (inr n) = let (p, u) = returned_other z at order sizes es b queues s h m n in stays n p u
