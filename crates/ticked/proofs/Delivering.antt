-- A message in a queue when dispatch begins: afterwards it is there, or its task runs and has been handed it.
-- Assumes nothing.
use mathlib.Core.Path.{◌≡◌, refl, sym, ap, ◌∙◌, subst}
use mathlib.Core.Logic.{◌≢◌, inl, inr, ◌⊎◌}
use mathlib.Core.Bool.{Bool, true, false}
use mathlib.Core.List.{List, [], ◌∷◌}
use Prim.Native.Nat.{ℕ, ◌+◌}
use native.Mathlib.Omega.{arith}
use native.Mathlib.Decide.{ℕ_discrete}
use lib.ListN.{length}
use Rattle.links.specs.Queue.{first_of, rest_of}
use Rattle.links.specs.Chain.{In}
use Rattle.links.proofs.Chains.{chain_first}
use Rattle.board.specs.declared.numbers.Size.{Size}
use Rattle.board.specs.declared.places.Place.{Place}
use Rattle.board.specs.declared.places.Place.TheVariants.{HeldBy, QueuedAt}
use Rattle.board.specs.Numbers.{task_no, Numbered}
use Rattle.board.specs.Status.{MHBS, has}
use Rattle.board.specs.Places.{place_byte}
use Rattle.board.specs.Board.{Board, bytes_of, task, place, with_running}
use Rattle.timer.specs.Timer.{Timer}
use Rattle.paper.specs.Rules.{present, next_message, message_number, queue, runs_next}
use Rattle.paper.specs.Changes.{link_message, with_queue, take_first, clears}
use Rattle.paper.specs.Outcomes.{Outcome, accepted, undispatched, dispatch}
use Rattle.linked.specs.Linked.{Listing}
use Rattle.linked.specs.Sound.{RunsRightly}
use Rattle.linked.proofs.Running.{placed_numbered}
use Rattle.linked.proofs.Chosen.{runs_alike}
use Rattle.kept.specs.Settled.{Settled, Fits}
use Rattle.kept.specs.Claims.{Sizes}
use Rattle.kept.proofs.Reading.{place-put, relink_keeps, queued_placed, queue-walked}
use Rattle.kept.proofs.Fitting.{board-bytes}
use Rattle.kept.proofs.Waiting.{task_numbered}
use Rattle.kept.proofs.Taking.{deliver_settled}
use Rattle.kept.proofs.Dispatching.{dispatch_frame, next_rightly, next_settled, due_there, dispatch_delivers}
use Rattle.timing.specs.Timing.{timed}
use Rattle.ticked.specs.Claims.{GoesBack}

-- one that c takes as the first of its queue is held by it
taken_place : (z : Size) (b : Board) (c : ℕ) → let m = first_of (queue z b c) in
    Numbered (length b.places) m → place (take_first z b c) m ≡ HeldBy (task_no c)
taken_place z b c n =
    let q : List ℕ = queue z b c in
    let e = relink_keeps (λ (d : Board). d.places) link_message (λ d x y. refl) b (rest_of q) in
    place-put (link_message (with_queue b c (rest_of q)) (first_of q) 0) (first_of q) (HeldBy (task_no c)) (rw e n)

-- the first of a queue is in it, if it isn't 0
first_in : (m : ℕ) (q : List ℕ) → m ≡ first_of q → m ≢ 0 → In m q
first_in m [] e h = absurd (h e)
first_in m (x ∷ q) e h = inl e

-- ---- the task c takes the first of its queue
module _ (z : Size) (b : Board) (order : List ℕ) (queues : ℕ → List ℕ) (settled : Settled z b order queues)
    (m r : ℕ) (queued : place b m ≡ QueuedAt (task_no r)) (c : ℕ) (there : present b c ≡ true) where
  -- its queue is listed by its links
  abbrev listed : Listing (next_message b) (message_number b) (task b c).mptr (queues c) (λ m. place b m ≡ QueuedAt (task_no c))
  listed = settled.regular.linked.messages c (task_numbered z b order queues settled c there)

  -- MPTR names it
  first_named : (task b c).mptr ≡ first_of (queue z b c)
  first_named =
      chain_first (next_message b) (task b c).mptr (queues c) listed.chain
      ∙ ap first_of (sym (queue-walked z b order queues settled c (task_numbered z b order queues settled c there)))

  -- if that is m, queued at r, then c is r
  taker_is : m ≡ (task b c).mptr → m ≢ 0 → c ≡ r
  taker_is e h =
      let i = first_in m (queues c) (e ∙ chain_first (next_message b) (task b c).mptr (queues c) listed.chain) h in
      let n : 64 + c ≡ 64 + r = ap place_byte (sym ((listed.exact m).0 i) ∙ queued) in
      omega arith

  -- m is now held by r, or queued as it was
  taken_or_not : m ≢ 0 → Dec (m ≡ (task b c).mptr)
      → (place (take_first z b c) m ≡ QueuedAt (task_no r))
      ⊎ ((first_of (queue z b c) ≡ m) × (c ≡ r) × (place (take_first z b c) m ≡ HeldBy (task_no r)))
  taken_or_not h (yes e) =
      let f : first_of (queue z b c) ≡ m = sym (e ∙ first_named) in
      let n = placed_numbered b m (queued_placed b m r queued) in
      let p = subst (λ (x : ℕ). Numbered (length b.places) x → place (take_first z b c) x ≡ HeldBy (task_no c)) f
      (taken_place z b c) n in
      inr (f, taker_is e h, p ∙ ap (λ (k : ℕ). HeldBy (task_no k)) (taker_is e h))
  taken_or_not h (no n) = inl ((dispatch_frame z b c).places m (n, tt) ∙ queued)

-- ---- dispatch, of any board that is settled
module _ (z : Size) (l s : List ℕ) (t : Timer) (b : Board) (order : List ℕ) (queues : ℕ → List ℕ) (sizes : Sizes z)
    (settled : Settled z b order queues) (m r : ℕ) (queued : place b m ≡ QueuedAt (task_no r)) where
  -- who runs next, and the board once byte 1 says so
  abbrev c : ℕ
  c = runs_next z b

  abbrev d : Board
  d = with_running b c

  ready : Settled z d order queues
  ready = next_settled z b order queues sizes settled

  right : RunsRightly d c
  right = runs_alike b d c (λ k. refl) (λ k. refl) (next_rightly z b order queues sizes settled)

  -- the message is at r, where k is the one handed over
  abbrev There : ℕ → Place → Type 0
  There k p = (p ≡ QueuedAt (task_no r)) ⊎ ((k ≡ m) × (c ≡ r) × (p ≡ HeldBy (task_no r)))

  -- whoever runs next is due none, or is handed the first of its queue
  pub queued_goes_back : GoesBack z (timed (dispatch z l (undispatched 0 b)) s t) r m
  queued_goes_back = step (has (task b c).stat MHBS) refl
    where
      ends : (k : ℕ) (a : Board) → dispatch z l (undispatched 0 b) ≡ accepted 0 c k (bytes_of a) → Fits z a → There k (place a m)
          → GoesBack z (timed (dispatch z l (undispatched 0 b)) s t) r m
      ends k a e f h =
          subst (λ (o : Outcome). GoesBack z (timed o s t) r m) (sym e)
          (c, k, refl, subst (λ (x : Board). There k (place x m)) (sym (board-bytes z a f)) h)

      step : (u : Bool) → has (task b c).stat MHBS ≡ u → GoesBack z (timed (dispatch z l (undispatched 0 b)) s t) r m
      step true u =
          let there = due_there z d order queues sizes ready c right u in
          let n = placed_numbered b m (queued_placed b m r queued) in
          ends (first_of (queue z d c)) (clears (take_first z d c) c MHBS)
          (rw (u, dispatch_delivers z d order queues sizes ready c right u))
          (deliver_settled z d order queues sizes ready c there u).fits
          (taken_or_not z d order queues ready m r queued c there (omega (arith, n.0)) (ℕ_discrete m (task d c).mptr))
      step false u = ends 0 d (rw u) ready.fits (inl queued)
