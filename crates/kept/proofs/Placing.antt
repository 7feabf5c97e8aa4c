-- Place m at r: a message that is in no queue goes into one, and the board is settled. Send, resend, forward, return, and their wait forms.
-- Assumes nothing.
use mathlib.Core.Path.{◌≡◌, refl, sym, ap, ◌∙◌, subst}
use mathlib.Core.Logic.{◌≢◌, inl, inr, ⊎_elim}
use mathlib.Core.Bool.{Bool, true, false, cond, true≢false}
use mathlib.Core.List.{List, [], ◌∷◌}
use Prim.Native.Nat.{ℕ, ◌≤◌}
use native.Mathlib.Omega.{arith}
use lib.Dec.{eqb}
use borrow.Author.Tests.{eqb-false}
use Rattle.links.specs.Queue.{goes_before, insert}
use Rattle.links.specs.Chain.{Out}
use Rattle.links.proofs.Bools.{cond_holds}
use Rattle.links.proofs.Members.{not_in_out}
use Rattle.links.proofs.Chains.{chain_once}
use Rattle.links.proofs.Insertion.{insert_stays, in_insert, once_insert, sorted_insert}
use Rattle.board.specs.declared.numbers.Size.{Size}
use Rattle.board.specs.declared.status.Status.{Status}
use Rattle.board.specs.declared.records.Task.{Task}
use Rattle.board.specs.declared.records.Message.{Message}
use Rattle.board.specs.declared.places.Place.TheVariants.{HeldBy, QueuedAt}
use Rattle.board.specs.Numbers.{task_no, Numbered}
use Rattle.board.specs.Status.{WAIT, IWAT, MHBS, TCBB, has, number, fifo, with_fifo}
use Rattle.board.specs.Records.{Byte, Word, with_prio, with_rptr, with_sptr}
use Rattle.board.specs.Places.{place_byte, is_queued}
use Rattle.board.specs.Board.{Board, task, message, place, with_message, with_place}
use Rattle.board.proofs.Bits.{number-with_fifo, fifo-with_fifo, with_fifo-small}
use Rattle.board.proofs.Codec.{place-queued}
use Rattle.paper.specs.declared.call.Call.TheVariants.{Send, Resend, Forward, Return}
use Rattle.paper.specs.Rules.{present, next_message, message_number}
use Rattle.paper.specs.Changes.{with_queue}
use Rattle.paper.specs.Effects.{woken, place_at, own_prio, addressed, send, resend, forward, give_back, waits}
use Rattle.paper.specs.Refusals.{Test, no3, no4, no5, no6, no7, own_row, Go, given}
use Rattle.linked.specs.Sound.{Pointers}
use Rattle.linked.proofs.Running.{ready_says}
use Rattle.kept.specs.Settled.{Settled, Awake}
use Rattle.kept.specs.Touched.{IntoQueue, changed, queues_after}
use Rattle.kept.specs.Claims.{Sizes}
use Rattle.kept.proofs.Reading.{task_alike, message-put, message_other, place-put, present_proper}
use Rattle.kept.proofs.Reading.{queue-walked, go_passed, runner_passed, held-passed, task-passed}
use Rattle.kept.proofs.Holding.{unqueued_out, held_numbered, held-good, settled_record}
use Rattle.kept.proofs.Relinked.{requeued, requeued_is}
use Rattle.kept.proofs.Moving.{moved, Moved, moved_settled}
use Rattle.kept.proofs.Waiting.{Idle, waits_settled, task_numbered, queued_starts, woken-stat, woken_settled}

-- the board a after a call and after its wait form, made by k on the board b
abbrev pub WithWait : Size → Board → List ℕ → ℕ → Board → (ℕ → List ℕ) → Type 0
WithWait z b order k a queues = Settled z a order queues × (has (task b k).stat MHBS ≡ false → Settled z (waits k a) order queues)

-- ---- a placement
-- a message of the board that is in no queue, whoever has it
pub record Loose (z : Size) (b : Board) (m : ℕ) : Type 0 where
  pub unqueued : is_queued (place b m) ≡ false
  pub numbered : Numbered z.messages m
  pub pointers : Pointers z (message b m)

-- a held one is
pub held_loose : (z : Size) (b : Board) (order : List ℕ) (queues : ℕ → List ℕ) → Settled z b order queues → (m c : ℕ)
    → place b m ≡ HeldBy (task_no c) → Loose z b m
held_loose z b order queues s m c e = record {
  unqueued = ap is_queued e;
  numbered = held_numbered z b order queues s m c e;
  pointers = (held-good z b order queues s m c e).0;
}

module _ (z : Size) (b : Board) (order : List ℕ) (queues : ℕ → List ℕ) (sizes : Sizes z) (settled : Settled z b order queues)
    (m r : ℕ) (loose : Loose z b m) (there : present b r ≡ true) (low : number (message b m).prio ≢ 127) where
  abbrev p : ℕ
  p = (message b m).prio

  abbrev goes : ℕ → Bool
  goes x = goes_before (fifo p) (number p) (message_number b x)

  abbrev q : List ℕ
  q = insert goes m (queues r)

  abbrev w : Message
  w = with_prio (message (requeued b r q) m) (with_fifo p)

  abbrev after : Board
  after = moved b r q m w (QueuedAt (task_no r))

  receiver : Numbered z.tasks r
  receiver = task_numbered z b order queues settled r there

  -- the board is a move
  place-board : place_at z b m r ≡ woken after r
  place-board =
      ap (λ (l : List ℕ). let s = with_place (with_queue b r (insert goes m l)) m (QueuedAt (task_no r)) in
      woken (with_message s m (with_prio (message s m) (with_fifo p))) r) (queue-walked z b order queues settled r receiver)
      ∙ ap (λ (s : Board). woken (with_message (with_place s m (QueuedAt (task_no r))) m (with_prio (message s m) (with_fifo p))) r)
      (requeued_is b r q)

  out : Out m (queues r)
  out = not_in_out m (queues r) (λ i. unqueued_out z b order queues settled m loose.unqueued r receiver m i refl)

  place-move : Moved z b r q m w (QueuedAt (task_no r))
  place-move =
      let l = settled.regular.linked.messages r receiver in
      let n : Numbered z.messages m = loose.numbered in
      let f = (settled.fits.message m).prio in record {
        there = there;
        once = once_insert goes m (queues r) out (chain_once (next_message b) (task b r).mptr (queues r) l.chain);
        sorted = sorted_insert (message_number b) (fifo p) (number p) m (queues r) refl l.sorted;
        others = λ y d. (
          (λ i. (l.exact y).0 (⊎_elim (λ e. absurd (d e)) (λ j. j) ((in_insert goes m y (queues r)).0 i))),
          λ e. (in_insert goes m y (queues r)).1 (inr ((l.exact y).1 e)),
        );
        itself = ((λ i. refl), λ e. (in_insert goes m m (queues r)).1 (inl refl));
        elsewhere = λ j d. ((λ e. true≢false (sym (ap is_queued e) ∙ loose.unqueued)), λ e. d (omega (arith, ap place_byte e)));
        numbered = n;
        pointers = loose.pointers;
        link = λ i. refl;
        priority = number-with_fifo p;
        fits = λ t. record { stat = t.stat; prio = with_fifo-small p f; link = t.link; rptr = t.rptr; sptr = t.sptr };
        byte = (omega (arith, receiver.1, sizes.tasks), place-queued z r receiver.0 receiver.1 sizes.tasks);
        good = λ g. rw (message-put b m w (rw (← settled.fits.messages) at n))
            (record { receiver = g.receiver; sender = g.sender }, fifo-with_fifo p, omega arith, there);
      }

  -- it goes into the queue of a present task, where its priority puts it
  pub place_settled : Settled z (place_at z b m r) order (queues_after b queues (IntoQueue m (message b m).prio r))
  place_settled =
      let d = moved_settled z b order queues sizes settled r q m w (QueuedAt (task_no r)) place-move in
      let n = rw (← settled.fits.places) at loose.numbered in
      rw place-board (woken_settled z after order (changed queues r q) r ((task b r).mptr ≡ 0) d
      (queued_starts z after order (changed queues r q) d.but.regular.linked r m receiver (place-put b m (QueuedAt (task_no r)) n)))

  -- one that doesn't wait keeps its status
  place-stat : (k : ℕ) → has (task b k).stat WAIT ≡ false → (task (place_at z b m r) k).stat ≡ (task b k).stat
  place-stat k e =
      let f : (task after k).stat ≡ (task b k).stat = task_alike (λ (t : Task). t.stat) b r k _ refl in
      ap (λ (a : Board). (task a k).stat) place-board ∙ woken-stat after r k (ap (λ (s : Status). has s WAIT) f ∙ e) ∙ f

  -- and may then wait
  pub place-waits : (k : ℕ) → (present b k ≡ true) × (has (task b k).stat WAIT ≡ false) × (has (task b k).stat IWAT ≡ false)
      → WithWait z b order k (place_at z b m r) (queues_after b queues (IntoQueue m (message b m).prio r))
  place-waits k (h, v, i) =
      let e = place-stat k v in (
        place_settled,
        λ d. waits_settled z (place_at z b m r) order _ k (ap (λ (s : Status). has s TCBB) e ∙ h) place_settled
            (subst Idle (sym e) (v, i, d)),
      )

-- ---- the message of a send
-- its record, addressed
abbrev pub new_record : Board → ℕ → ℕ → ℕ → Message
new_record b c m r = let u = message b m in
    with_sptr (with_rptr (with_prio u (own_prio u.prio (task b c).prio)) r) (cond (eqb u.sptr 0) c u.sptr)

module _ (z : Size) (b : Board) (order : List ℕ) (queues : ℕ → List ℕ) (settled : Settled z b order queues)
    (m r c : ℕ) (held : place b m ≡ HeldBy (task_no c)) where
  abbrev new : Message
  new = new_record b c m r

  pub addressed_reads : message (addressed b c m r) m ≡ new_record b c m r
  addressed_reads = message-put b m new (rw (← settled.fits.messages) at (held_numbered z b order queues settled m c held))

  -- it goes where its new priority puts it
  pub addressed-queue : Numbered z.tasks r
      → queues_after (addressed b c m r) queues (IntoQueue m (message (addressed b c m r) m).prio r)
      ≡ queues_after b queues (IntoQueue m (own_prio (message b m).prio (task b c).prio) r)
  addressed-queue n =
      let d : Board = addressed b c m r in
      let p : ℕ = new.prio in
      ap (λ (x : Message). queues_after d queues (IntoQueue m x.prio r)) addressed_reads
      ∙ ap (changed queues r) (insert_stays (λ x. goes_before (fifo p) (number p) (message_number d x))
      (λ x. goes_before (fifo p) (number p) (message_number b x)) m (queues r)
      (λ y i. ap (λ (x : Message). goes_before (fifo p) (number p) (number x.prio)) (message_other b m y new
      (unqueued_out z b order queues settled m (ap is_queued held) r n y i))))

module _ (z : Size) (b : Board) (order : List ℕ) (queues : ℕ → List ℕ) (sizes : Sizes z) (settled : Settled z b order queues)
    (m r c : ℕ) (held : place b m ≡ HeldBy (task_no c)) (there : present b r ≡ true) (runs : present b c ≡ true) where
  abbrev u : Message
  u = message b m

  numbered : (k : ℕ) → present b k ≡ true → Numbered z.tasks k
  numbered k h = task_numbered z b order queues settled k h

  -- its priority number isn't 127
  addressed_low : number (message (addressed b c m r) m).prio ≢ 127
  addressed_low =
      let h = present_proper (task b c) (settled.regular.records c (numbered c runs)) runs in
      rw (addressed_reads z b order queues settled m r c held) (cond_holds (λ (p : ℕ). number p ≢ 127) (eqb (number u.prio) 127) _ _
      (λ e d. omega (arith, h.high)) (λ e. eqb-false (number u.prio) 127 e))

  -- it stands in no queue, so all the queues stay
  pub addressed_settled : Settled z (addressed b c m r) order queues
  addressed_settled =
      let f = settled.fits.message m in
      let k = held-good z b order queues settled m c held in
      settled_record z b order queues settled m c held (new_record b c m r)
      (record {
        stat = f.stat;
        prio = cond_holds Byte (eqb (number u.prio) 127) _ _ (λ e. omega (arith, (settled.fits.task c).prio)) (λ e. f.prio);
        link = f.link;
        rptr = omega (arith, (numbered r there).1, sizes.tasks);
        sptr = cond_holds Word (eqb u.sptr 0) _ _ (λ e. omega (arith, (numbered c runs).1, sizes.tasks)) (λ e. f.sptr);
      })
      (record {
        receiver = (numbered r there).1;
        sender = cond_holds (λ (x : ℕ). x ≤ z.tasks) (eqb u.sptr 0) _ _ (λ e. (numbered c runs).1) (λ e. k.0.sender);
      }) k.1

-- ---- the calls, each with its wait form
-- refusals 3 to 6 of their rows
pub sender-passed : (z : Size) (b : Board) (c m r : ℕ) (tests : List Test) → given (no3 c ∷ no4 z m ∷ no5 b c m ∷ no6 z b r ∷ tests) ≡ Go
    → (c ≢ 0) × (place b m ≡ HeldBy (task_no c)) × (present b r ≡ true) × (given tests ≡ Go)
sender-passed z b c m r tests g =
    let s = go_passed (no3 c) (no4 z m ∷ no5 b c m ∷ no6 z b r ∷ tests) g in
    let t = go_passed (no4 z m) (no5 b c m ∷ no6 z b r ∷ tests) s.1 in
    let u = go_passed (no5 b c m) (no6 z b r ∷ tests) t.1 in
    let v = go_passed (no6 z b r) tests u.1 in
    (runner_passed c s.0, held-passed b c m u.0, (task-passed z b r v.0).1, v.1)

module _ (z : Size) (b : Board) (order : List ℕ) (queues : ℕ → List ℕ) (sizes : Sizes z) (settled : Settled z b order queues)
    (c : ℕ) (awake : Awake b c) where
  -- send: the message addressed, then placed
  pub send_settled : (m r : ℕ) → given (own_row z b c (Send m r)) ≡ Go
      → WithWait z b order c (send z b c m r) (queues_after b queues (IntoQueue m (own_prio (message b m).prio (task b c).prio) r))
  send_settled m r g =
      let (n, held, there, h) = sender-passed z b c m r [] g in
      let s = ready_says b c (awake n) in
      let to = addressed_settled z b order queues sizes settled m r c held there s.0 in
      subst (WithWait z b order c (send z b c m r))
      (addressed-queue z b order queues settled m r c held (task_numbered z b order queues settled r there))
      (place-waits z (addressed b c m r) order queues sizes to m r (held_loose z (addressed b c m r) order queues to m c held) there
      (addressed_low z b order queues sizes settled m r c held there s.0) c s)

  -- forward: placed as it is, for refusal 7 has passed
  pub forward_settled : (m r : ℕ) → given (own_row z b c (Forward m r)) ≡ Go
      → WithWait z b order c (forward z b m r) (queues_after b queues (IntoQueue m (message b m).prio r))
  forward_settled m r g =
      let (n, held, there, h) = sender-passed z b c m r (no7 b m ∷ []) g in
      place-waits z b order queues sizes settled m r (held_loose z b order queues settled m c held) there
      (eqb-false (number (message b m).prio) 127 (go_passed (no7 b m) [] h).0) c (ready_says b c (awake n))

  -- resend: at the task that RPTR names
  pub resend_settled : (m : ℕ) → given (own_row z b c (Resend m)) ≡ Go
      → WithWait z b order c (resend z b m) (queues_after b queues (IntoQueue m (message b m).prio (message b m).rptr))
  resend_settled m g = forward_settled m (message b m).rptr g

  -- return: at the task that SPTR names
  pub return_settled : (m : ℕ) → given (own_row z b c (Return m)) ≡ Go
      → WithWait z b order c (give_back z b m) (queues_after b queues (IntoQueue m (message b m).prio (message b m).sptr))
  return_settled m g = forward_settled m (message b m).sptr g
