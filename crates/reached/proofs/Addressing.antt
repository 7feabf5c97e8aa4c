-- Who runs holds a message of zeros, sends it to a task that waits for no message, and takes it back: RPTR then names that task.
-- Assumes nothing.
use mathlib.Core.Path.{◌≡◌, refl, sym, ap, ◌∙◌, subst}
use mathlib.Core.Logic.{◌≢◌, inl}
use mathlib.Core.Bool.{true, false, not, true≢false}
use mathlib.Core.List.{List, [], ◌∷◌}
use Prim.Native.Nat.{ℕ}
use native.Mathlib.Omega.{arith}
use native.Mathlib.Decide.{ℕ_discrete}
use lib.Dec.{eqb, lit<}
use lib.ListN.{length}
use borrow.Author.Tests.{eq-eqb, ne_eqb}
use Rattle.links.specs.Queue.{without}
use Rattle.links.specs.Chain.{Out}
use Rattle.links.proofs.Members.{not_in_out}
use Rattle.links.proofs.Removal.{without_insert}
use Rattle.board.specs.declared.numbers.Size.{Size}
use Rattle.board.specs.declared.status.Status.{Status}
use Rattle.board.specs.declared.records.Task.{Task}
use Rattle.board.specs.declared.records.Message.{Message}
use Rattle.board.specs.declared.places.Place.{Place}
use Rattle.board.specs.declared.places.Place.TheVariants.{HeldBy, QueuedAt}
use Rattle.board.specs.Numbers.{task_no, Numbered}
use Rattle.board.specs.Status.{WAIT, MHBS, has, is_present, is_ready, number, with_fifo}
use Rattle.board.specs.Places.{is_queued, is_queued_at, is_on_timer}
use Rattle.board.specs.Records.{no_message, with_prio}
use Rattle.board.specs.Board.{Board, task, message, place, with_message}
use Rattle.board.proofs.Numbered.{length-put}
use Rattle.board.proofs.Pieces.{within-outside}
use Rattle.paper.specs.declared.call.Call.TheVariants.{Send, CancelMessage}
use Rattle.paper.specs.Rules.{present, queue}
use Rattle.paper.specs.Changes.{with_queue, hold}
use Rattle.paper.specs.Effects.{own_prio, addressed, send, cancel_message}
use Rattle.paper.specs.Refusals.{no4, no6, no12, no13, own_row, Go, given}
use Rattle.linked.proofs.Chosen.{runs_alike}
use Rattle.kept.specs.Settled.{Settled, Fitting}
use Rattle.kept.specs.Touched.{IntoQueue, OutOfQueue, for_messages, queues_after, Frame}
use Rattle.kept.specs.Claims.{Sizes}
use Rattle.kept.proofs.Reading.{message-put, message_other}
use Rattle.kept.proofs.Holding.{unqueued_out, held_numbered, held-good, settled_record}
use Rattle.kept.proofs.Waiting.{task_numbered}
use Rattle.kept.proofs.Placing.{new_record, addressed_reads}
use Rattle.kept.proofs.Bodies.{body_settles, body_frame}
use Rattle.reached.proofs.Making.{Passing, still_untimed, Makes, makes_then, makes_call}
use Rattle.kept.proofs.SameBoard.{sheet, block, same_board}
use Rattle.kept.proofs.Mail.{Waits, again, unchanged, back_message, back_place, held-stat, back_waits}
use Rattle.kept.proofs.Mail.{Woke, wakes, stays, placed_message, placed_place, placed_stat, placing, placed_wakes}
use Rattle.kept.proofs.Going.{go_runs, go_there, go_from, go_held, message-word, task-word}
use Rattle.reached.proofs.Parking.{runs_same}

-- the record that comes of it
abbrev pub addressed_to : ℕ → ℕ → Message
addressed_to x k = record { stat = 0; prio = 1; link = 0; rptr = x; sptr = k }

-- a held message may be that
pub settled_addressed : (z : Size) (b : Board) (order : List ℕ) (queues : ℕ → List ℕ) → Sizes z → Settled z b order queues
    → (m k : ℕ) → place b m ≡ HeldBy (task_no k) → (x : ℕ) → Numbered z.tasks x
    → Settled z (with_message b m (addressed_to x k)) order queues
settled_addressed z b order queues a s m k held x n =
    let c = task_numbered z b order queues s k (held-good z b order queues s m k held).2 in
    settled_record z b order queues s m k held (addressed_to x k)
    (record { stat = lit< tt; prio = lit< tt; link = lit< tt; rptr = task-word z a x n; sptr = task-word z a k c })
    (record { receiver = n.1; sender = c.1 }) refl

-- ---- k sends m to x
module _ (z : Size) (a : Sizes z) (w : Board) (k : ℕ) (p : Passing z w k) (m : ℕ) (held : place w m ≡ HeldBy (task_no k))
    (zero : message w m ≡ no_message) (x : ℕ) (there : present w x ≡ true) (awake : has (task w x).stat WAIT ≡ false)
    (due : has (task w x).stat MHBS ≡ false) where
  abbrev o : List ℕ
  o = p.order

  abbrev f : ℕ → List ℕ
  f = p.queues

  abbrev s : Settled z w o f
  s = p.settled

  mn : Numbered z.messages m
  mn = held_numbered z w o f s m k held

  xn : Numbered z.tasks x
  xn = task_numbered z w o f s x there

  some : k ≢ 0
  some e = omega (arith, (task_numbered z w o f s k (held-good z w o f s m k held).2).0, e)

  fitting : Fitting (Send m x)
  fitting = ((message-word z a m mn, (task-word z a x xn, tt)), tt)

  -- ---- the board it comes to
  abbrev t : Board
  t = with_message w m (addressed_to x k)

  settled_t : Settled z t o f
  settled_t = settled_addressed z w o f a s m k held x xn

  passing_t : Passing z t k
  passing_t = record {
    order = o;
    queues = f;
    settled = settled_t;
    runs = p.runs;
    rightly = runs_alike w t k (λ j. refl) (λ j. refl) p.rightly;
    idle = p.idle;
    untimed = p.untimed;
  }

  -- ---- m sent to x
  abbrev d : Board
  d = send z w k m x

  go_send : given (own_row z w k (Send m x)) ≡ Go
  go_send =
      go_held z w k m (no6 z w x ∷ []) some mn held (go_there z w x [] xn there refl)

  abbrev g : ℕ → List ℕ
  g = queues_after w f (IntoQueue m (own_prio (message w m).prio (task w k).prio) x)

  settled_d : Settled z d o g
  settled_d = body_settles z w o f k (Send m x) a fitting s (λ n. (p.rightly.leads n).awake) p.idle go_send

  frame_d : Frame w d (x ∷ []) for_messages (m ∷ []) x (queue z w x) false
  frame_d = body_frame z w k (Send m x)

  -- its record, as it was placed
  placed_as : message (addressed w k m x) m ≡ record { stat = 0; prio = 0; link = 0; rptr = x; sptr = k }
  placed_as = addressed_reads z w o f s m x k held ∙ made
    where
      made : new_record w k m x ≡ record { stat = 0; prio = 0; link = 0; rptr = x; sptr = k }
      made = rw zero

  block_d : block (message d m) ≡ addressed_to x k
  block_d =
      placed_message z (addressed w k m x) m x (rw long mn)
      ∙ ap (λ (u : Message). with_prio (block u) (with_fifo u.prio)) placed_as
    where
      long : length (addressed w k m x).messages ≡ z.messages
      long = length-put w.messages m (new_record w k m x) ∙ s.fits.messages

  place_d : place d m ≡ QueuedAt (task_no x)
  place_d = placed_place z (addressed w k m x) m x (rw s.fits.places mn)

  -- x waited for nothing, so no status changes
  stat_d : (j : ℕ) → Dec (j ≡ x) → (task d j).stat ≡ (task w j).stat
  stat_d j (no h) = ap (λ (r : Task). r.stat) (frame_d.tasks j (h, tt))
  stat_d j (yes h) =
      subst (λ (i : ℕ). (task d i).stat ≡ (task w i).stat) (sym h)
      (step (placed_wakes z (addressed w k m x) m x (rw s.fits.tasks xn)))
    where
      step : Woke (placing z (addressed w k m x) m x) x → (task d x).stat ≡ (task w x).stat
      step (wakes e i) =
          absurd (true≢false (sym e ∙ ap (λ (r : Status). has r WAIT) (placed_stat z (addressed w k m x) m x) ∙ awake))
      step (stays e i) = i ∙ placed_stat z (addressed w k m x) m x

  same_d : (j : ℕ) → (task d j).stat ≡ (task w j).stat
  same_d j = stat_d j (ℕ_discrete j x)

  abbrev passing_d : Passing z d k
  passing_d = record {
    order = o;
    queues = g;
    settled = settled_d;
    runs = frame_d.running ∙ p.runs;
    rightly = runs_alike w d k (λ j. ap is_ready (same_d j)) (λ j. ap number (frame_d.fields refl j).0) p.rightly;
    idle = ap (λ (r : Status). has r MHBS) (same_d k) ∙ p.idle;
    untimed = still_untimed w d m p.untimed (λ j h. frame_d.places j (h, tt)) (ap is_on_timer place_d);
  }

  makes_send : Makes z w (Send m x ∷ []) d
  makes_send = makes_call z a w k p (Send m x) d k passing_d fitting go_send (runs_same d k passing_d.runs) (inl refl)

  -- ---- and taken back
  abbrev b : Board
  b = cancel_message z d k m x

  go_cancel : given (own_row z d k (CancelMessage m x)) ≡ Go
  go_cancel =
      let still : present d x ≡ true = ap is_present (same_d x) ∙ there in
      let queued : (no12 d m x).applies ≡ false = ap (λ (i : Place). not (is_queued_at x i)) place_d ∙ ap not (eq-eqb x x refl) in
      let its : (no13 d k m).applies ≡ false =
      ap (λ (i : ℕ). not (eqb i k)) (ap (λ (u : Message). u.sptr) block_d) ∙ ap not (eq-eqb k k refl) in
      go_runs k (no4 z m ∷ no6 z d x ∷ no12 d m x ∷ no13 d k m ∷ []) some
      (go_from (no4 z m) (no6 z d x ∷ no12 d m x ∷ no13 d k m ∷ []) (within-outside z.messages m mn.0 mn.1)
      (go_there z d x (no12 d m x ∷ no13 d k m ∷ []) xn still
      (go_from (no12 d m x) (no13 d k m ∷ []) queued (go_from (no13 d k m) [] its refl))))

  abbrev h : ℕ → List ℕ
  h = queues_after d g (OutOfQueue m x)

  settled_b : Settled z b o h
  settled_b =
      body_settles z d o g k (CancelMessage m x) a fitting settled_d (λ n. (passing_d.rightly.leads n).awake) passing_d.idle
      go_cancel

  frame_b : Frame d b (x ∷ []) for_messages (m ∷ []) x (queue z d x) false
  frame_b = body_frame z d k (CancelMessage m x)

  lists : (j : ℕ) → Dec (j ≡ x) → h j ≡ f j
  lists j (no n) = rw (ne_eqb j x n) refl
  lists j (yes e) =
      let out : Out m (f x) = not_in_out m (f x) (λ i. unqueued_out z w o f s m (ap is_queued held) x xn m i refl) in
      subst (λ (i : ℕ). h i ≡ f i) (sym e) (rw (eq-eqb x x refl) (without_insert _ m (f x) out))

  -- x was due nothing, so no status changes
  stat_b : (j : ℕ) → Dec (j ≡ x) → (task b j).stat ≡ (task d j).stat
  stat_b j (no n) = ap (λ (r : Task). r.stat) (frame_b.tasks j (n, tt))
  stat_b j (yes e) =
      subst (λ (i : ℕ). (task b i).stat ≡ (task d i).stat) (sym e) (step (back_waits z d k m x (rw settled_d.fits.tasks xn)))
    where
      step : Waits (hold (with_queue d x (without m (queue z d x))) k m) x → (task b x).stat ≡ (task d x).stat
      step (again e i j) =
          absurd (true≢false (sym e ∙ ap (λ (r : Status). has r MHBS) (held-stat z d k m x ∙ same_d x) ∙ due))
      step (unchanged i) = i ∙ held-stat z d k m x

  sheets : (j : ℕ) → sheet (task b j) ≡ sheet (task w j)
  sheets j =
      let (p1, s1, n1) = frame_b.fields refl j in
      let (p2, s2, n2) = frame_d.fields refl j in
      let e0 = stat_b j (ℕ_discrete j x) ∙ same_d j in
      let e1 = p1 ∙ p2 in
      let e2 = s1 ∙ s2 in
      let e3 = n1 ∙ n2 in
      λ i. record { stat = e0 i; prio = e1 i; link = 0; mptr = 0; sptr = e2 i; name = e3 i }

  blocks : (j : ℕ) → Dec (j ≡ m) → block (message b j) ≡ block (message t j)
  blocks j (no n) =
      ap block (frame_b.messages j (n, tt)) ∙ ap block (frame_d.messages j (n, tt))
      ∙ sym (ap block (message_other w m j (addressed_to x k) n))
  blocks j (yes e) =
      subst (λ (i : ℕ). block (message b i) ≡ block (message t i)) (sym e)
      (back_message z d k m x (rw settled_d.fits.messages mn) ∙ block_d
      ∙ sym (ap block (message-put w m (addressed_to x k) (rw s.fits.messages mn))))

  places : (j : ℕ) → Dec (j ≡ m) → place b j ≡ place w j
  places j (no n) = frame_b.places j (n, tt) ∙ frame_d.places j (n, tt)
  places j (yes e) =
      subst (λ (i : ℕ). place b i ≡ place w i) (sym e) (back_place z d k m x (rw settled_d.fits.places mn) ∙ sym held)

  taken_back : b ≡ t
  taken_back =
      same_board z b t o h f settled_b settled_t (frame_b.running ∙ frame_d.running) (λ j i. lists j (ℕ_discrete j x))
      (λ j i. sheets j) (λ j i. blocks j (ℕ_discrete j m)) (λ j i. places j (ℕ_discrete j m))

  -- both calls leave just that record
  pub makes_addressed : Makes z w (Send m x ∷ CancelMessage m x ∷ []) (with_message w m (addressed_to x k))
  makes_addressed =
      makes_then z w d t (Send m x ∷ []) (CancelMessage m x ∷ []) makes_send
      (makes_call z a d k passing_d (CancelMessage m x) t k passing_t fitting go_cancel (taken_back ∙ runs_same t k p.runs)
      (inl refl))
