-- A message moved into a queue or out of it: the queue of a task is linked anew, and the message and its place are written. What
-- it takes for the board to be settled after that, but for the flags of the task; placing, taking and cancelling are such moves.
-- Assumes nothing.
use mathlib.Core.Path.{◌≡◌, refl, sym, ap, ◌∙◌, subst}
use mathlib.Core.Logic.{◌≢◌, ◌⊎◌, inl, inr, ◌↔◌}
use mathlib.Core.Bool.{true}
use mathlib.Core.List.{List}
use Prim.Native.Nat.{ℕ, ◌≤◌, ◌<◌}
use native.Mathlib.Omega.{arith}
use native.Mathlib.Decide.{ℕ_discrete}
use borrow.Author.Tests.{eq-eqb, ne_eqb}
use Rattle.links.specs.Queue.{first_of}
use Rattle.links.specs.Chain.{In, Out, Once, Sorted, Chain}
use Rattle.links.proofs.Members.{in_dec, not_in_out, all_of}
use Rattle.links.proofs.Chains.{chain_frame}
use Rattle.board.specs.declared.numbers.Size.{Size}
use Rattle.board.specs.declared.numbers.TaskNo.{TaskNo}
use Rattle.board.specs.declared.status.Status.{Status}
use Rattle.board.specs.declared.records.Task.{Task}
use Rattle.board.specs.declared.records.Message.{Message}
use Rattle.board.specs.declared.places.Place.{Place}
use Rattle.board.specs.declared.places.Place.TheVariants.{QueuedAt}
use Rattle.board.specs.Numbers.{task_no, Numbered}
use Rattle.board.specs.Status.{number, fifo}
use Rattle.board.specs.Records.{Word, no_task, no_message, task_with_mptr, with_link}
use Rattle.board.specs.Places.{place_byte}
use Rattle.board.specs.Board.{Board, task, message, place, with_message, with_place}
use Rattle.paper.specs.Rules.{present, is_there, next_task, next_message, task_number, message_number}
use Rattle.linked.specs.Linked.{Listing}
use Rattle.linked.specs.Sound.{Pointers, PlaceGood, Flags}
use Rattle.linked.proofs.Running.{present_numbered, placed_numbered}
use Rattle.kept.specs.Settled.{FitsMessage, Fits, Settled}
use Rattle.kept.specs.Touched.{changed}
use Rattle.kept.specs.Claims.{Sizes}
use Rattle.kept.proofs.Reading.{FitsPlace, Lawful, nth_cases, task-put, task_other, task_alike, message-put, place-put, place_other}
use Rattle.kept.proofs.Reading.{queued_placed, fits_message, fits_place}
use Rattle.kept.proofs.Reading.{listing_stays, sorted_stays, present_proper, good_stays}
use Rattle.kept.proofs.Flagging.{Flagged, SettledBut}
use Rattle.kept.proofs.Waiting.{task_numbered, Pending}
use Rattle.kept.proofs.Relinked.{requeued, requeued_out, requeued_alike, requeued_chain, requeued_fits}

-- ---- what a move is
-- r has the queue q, and the message m is w with the place p
abbrev pub moved : Board → ℕ → List ℕ → ℕ → Message → Place → Board
moved b r q m w p = with_place (with_message (requeued b r q) m w) m p

-- what is asked of it
pub record Moved (z : Size) (b : Board) (r : ℕ) (q : List ℕ) (m : ℕ) (w : Message) (p : Place) : Type 0 where
  pub there : present b r ≡ true
  pub once : Once q
  pub sorted : Sorted (message_number b) q
  pub others : (y : ℕ) → y ≢ m → (In y q ↔ (place b y ≡ QueuedAt (task_no r)))
  pub itself : In m q ↔ (p ≡ QueuedAt (task_no r))
  pub elsewhere : (k : ℕ) → k ≢ r → (place b m ≢ QueuedAt (task_no k)) × (p ≢ QueuedAt (task_no k))
  pub numbered : Numbered z.messages m
  pub pointers : Pointers z (message b m)
  pub link : In m q → w.link ≡ next_message (requeued b r q) m
  pub priority : number w.prio ≡ message_number b m
  pub fits : FitsMessage (message (requeued b r q) m) → FitsMessage w
  pub byte : FitsPlace z p
  pub good : Pointers z (message (requeued b r q) m) → PlaceGood z (with_message b m w) m p

-- pointers say nothing of a link
pointers_alike : (z : Size) (r t : Message) → with_link t 0 ≡ with_link r 0 → Pointers z r → Pointers z t
pointers_alike z r t e p = record {
  receiver = subst (λ (x : Message). x.rptr ≤ z.tasks) (sym e) p.receiver;
  sender = subst (λ (x : Message). x.sptr ≤ z.tasks) (sym e) p.sender;
}

-- nor does R4 of a queued message
good-queued : (z : Size) (b b' : Board) (y : ℕ) (t : TaskNo) → with_link (message b' y) 0 ≡ with_link (message b y) 0
    → ((k : ℕ) → present b' k ≡ present b k) → PlaceGood z b y (QueuedAt t) → PlaceGood z b' y (QueuedAt t)
good-queued z b b' y t e h (p, f, l, g) = (
  pointers_alike z (message b y) (message b' y) e p,
  ap (λ (u : Message). fifo u.prio) e ∙ f,
  subst (λ (u : Message). u.prio < 0xFF) (sym e) l,
  h t.0 ∙ g,
)

-- ---- the board after a move
module _ (z : Size) (b : Board) (order : List ℕ) (queues : ℕ → List ℕ) (sizes : Sizes z) (settled : Settled z b order queues)
    (r : ℕ) (q : List ℕ) (m : ℕ) (w : Message) (p : Place) (h : Moved z b r q m w p) where
  abbrev after : Board
  after = moved b r q m w p

  abbrev receiver : Task
  receiver = task_with_mptr (task b r) (first_of q)

  receiver_numbered : Numbered z.tasks r
  receiver_numbered = task_numbered z b order queues settled r h.there

  member_numbered : (y : ℕ) → In y q → Numbered z.messages y
  member_numbered y i = step (ℕ_discrete y m)
    where
      step : Dec (y ≡ m) → Numbered z.messages y
      step (yes e) = rw e h.numbered
      step (no d) = rw settled.fits.places at (placed_numbered b y (queued_placed b y r ((h.others y d).0 i)))

  -- ---- the fields fit
  fits_before : Fits z (requeued b r q)
  fits_before =
      requeued_fits z b r q settled.fits (all_of Word q (λ y i. omega (arith, (member_numbered y i).1, sizes.links)))

  fits_after : Fits z after
  fits_after =
      fits_place z (with_message (requeued b r q) m w)
      (fits_message z (requeued b r q) fits_before m w (h.fits (fits_before.message m))) m p h.byte

  -- ---- what is read
  present_after : (k : ℕ) → present after k ≡ present b k
  present_after k = task_alike is_there b r k receiver refl

  message_after : (P : Message → Type 0) (y : ℕ) → (y ≡ m → P w) → P (message (requeued b r q) y) → P (message after y)
  message_after P y = nth_cases P no_message (requeued b r q).messages m y w

  place_after : (P : Place → Type 0) (y : ℕ) → (y ≡ m → P p) → (y ≢ m → P (place b y)) → P (place after y)
  place_after P y f g = step (ℕ_discrete y m)
    where
      step : Dec (y ≡ m) → P (place after y)
      step (yes e) = rw (e, place-put b m p (rw settled.fits.places h.numbered)) (f e)
      step (no d) = rw (place_other b m y p d) (g d)

  number_after : (y : ℕ) → message_number after y ≡ message_number b y
  number_after y =
      message_after (λ v. number v.prio ≡ message_number b y) y (λ e. h.priority ∙ ap (message_number b) (sym e))
      (ap (λ (v : Message). number v.prio) (requeued_alike b r q y))

  -- ---- R2
  lawful : Lawful receiver
  lawful =
      let t = present_proper (task b r) (settled.regular.records r receiver_numbered) h.there in
      inr (record { there = t.there; bit5 = t.bit5; odd = t.odd; low = t.low; high = t.high })

  -- ---- R3
  tasks_after : Listing (next_task after) (task_number after) b.first order (λ k. present after k ≡ true)
  tasks_after =
      listing_stays (next_task b) (next_task after) (task_number b) (task_number after) b.first order _ _
      (λ k i. task_alike (λ (t : Task). t.link) b r k receiver refl)
      (λ k i. task_alike (λ (t : Task). number t.prio) b r k receiver refl)
      (λ k. ((λ e. present_after k ∙ e), λ e. sym (present_after k) ∙ e)) settled.regular.linked.tasks

  -- ---- R4
  written : message after m ≡ message (with_message b m w) m
  written =
      message-put (requeued b r q) m w (rw fits_before.messages h.numbered)
      ∙ sym (message-put b m w (rw settled.fits.messages h.numbered))

  good_it : PlaceGood z after m p
  good_it =
      good_stays z (with_message b m w) after m p written (λ k e t. present_after k ∙ t)
      (h.good (pointers_alike z (message b m) (message (requeued b r q) m) (requeued_alike b r q m) h.pointers))

  good_other : (y : ℕ) → Numbered z.messages y → y ≢ m → In y q ⊎ Out y q → PlaceGood z after y (place b y)
  good_other y n d (inl i) =
      let e = (h.others y d).0 i in
      let v : with_link (message after y) 0 ≡ with_link (message b y) 0 =
      message_after (λ v. with_link v 0 ≡ with_link (message b y) 0) y (λ g. absurd (d g)) (requeued_alike b r q y) in
      subst (PlaceGood z after y) (sym e)
      (good-queued z b after y (task_no r) v present_after (subst (PlaceGood z b y) e (settled.regular.places y n)))
  good_other y n d (inr o) =
      good_stays z b after y (place b y)
      (message_after (λ v. v ≡ message b y) y (λ g. absurd (d g)) (requeued_out b r q y o))
      (λ k e t. present_after k ∙ t) (settled.regular.places y n)

  good_after : (y : ℕ) → Numbered z.messages y → PlaceGood z after y (place after y)
  good_after y n = place_after (PlaceGood z after y) y (λ e. rw e good_it) (λ d. good_other y n d (in_dec y q))

  -- ---- R5
  -- the queue of r
  chain_after : Chain (next_message after) (first_of q) q
  chain_after =
      chain_frame (next_message (requeued b r q)) (next_message after) (first_of q) q
      (λ y i. message_after (λ v. v.link ≡ next_message (requeued b r q) y) y (λ e. rw e (h.link (rw e at i))) refl)
      (requeued_chain b r q h.once (not_in_out 0 q (λ i. omega (arith, (member_numbered 0 i).0)))
      (all_of _ q (λ y i. rw settled.fits.messages (member_numbered y i))))

  queue_after : Listing (next_message after) (message_number after) (first_of q) q (λ y. place after y ≡ QueuedAt (task_no r))
  queue_after = record {
    chain = chain_after;
    exact = λ y. place_after (λ x. In y q ↔ (x ≡ QueuedAt (task_no r))) y (λ e. rw e h.itself) (λ d. h.others y d);
    sorted = sorted_stays (message_number b) (message_number after) q (λ y i. number_after y) h.sorted;
  }

  -- the queue of another
  module _ (k : ℕ) (d : k ≢ r) where
    apart : (y : ℕ) → place b y ≡ QueuedAt (task_no k) → (y ≢ m) × Out y q
    apart y e = (not_it, not_in_out y q (λ i. d (one ((h.others y not_it).0 i))))
      where
        not_it : y ≢ m
        not_it g = (h.elsewhere k d).0 (ap (place b) (sym g) ∙ e)

        one : place b y ≡ QueuedAt (task_no r) → k ≡ r
        one g = omega (arith, ap place_byte (sym e ∙ g))

    link_stays : (y : ℕ) → place b y ≡ QueuedAt (task_no k) → next_message after y ≡ next_message b y
    link_stays y e =
        let a = apart y e in
        message_after (λ v. v.link ≡ next_message b y) y (λ g. absurd (a.0 g))
        (ap (λ (v : Message). v.link) (requeued_out b r q y a.1))

    place_stays : (y : ℕ) → (place b y ≡ QueuedAt (task_no k)) ↔ (place after y ≡ QueuedAt (task_no k))
    place_stays y =
        place_after (λ x. (place b y ≡ QueuedAt (task_no k)) ↔ (x ≡ QueuedAt (task_no k))) y
        (λ e. ((λ g. absurd ((apart y g).0 e)), λ g. absurd ((h.elsewhere k d).1 g))) (λ g. ((λ e. e), λ e. e))

    other_after : Numbered z.tasks k
        → Listing (next_message after) (message_number after) (task b k).mptr (queues k) (λ y. place after y ≡ QueuedAt (task_no k))
    other_after n =
        let l = settled.regular.linked.messages k n in
        listing_stays (next_message b) (next_message after) (message_number b) (message_number after) (task b k).mptr (queues k) _ _
        (λ y i. link_stays y ((l.exact y).0 i)) (λ y i. number_after y) place_stays l

  messages_after : (k : ℕ) → Numbered z.tasks k → Dec (k ≡ r) → Listing (next_message after) (message_number after)
      (task after k).mptr (changed queues r q k) (λ y. place after y ≡ QueuedAt (task_no k))
  messages_after k n (yes e) = rw (e, eq-eqb r r refl, task-put b r receiver (present_numbered b r h.there)) queue_after
  messages_after k n (no d) = rw (ne_eqb k r d, task_other b r k receiver d) (other_after k d n)

  -- ---- all of them but R6 at r
  but_after : SettledBut z after order (changed queues r q) r
  but_after = record {
    fits = fits_after;
    regular = record {
      zeros = settled.regular.zeros;
      records = λ k n. nth_cases Lawful no_task b.tasks r k receiver (λ e. lawful) (settled.regular.records k n);
      linked = record { tasks = tasks_after; messages = λ k n. messages_after k n (ℕ_discrete k r) };
      places = good_after;
    };
    flags = λ k n d. subst Flagged (sym (task_other b r k receiver d)) (settled.flags k n);
  }

  -- a move leaves the flags of r to be settled
  pub moved_settled : Pending z (moved b r q m w p) order (changed queues r q) r ((task b r).mptr ≡ 0)
  moved_settled = record {
    but = but_after;
    there = present_after r ∙ h.there;
    flags = subst (λ (s : Status). Flags s ((task b r).mptr ≡ 0)) (sym (task_alike (λ (t : Task). t.stat) b r r receiver refl))
        (settled.flags r receiver_numbered);
  }
