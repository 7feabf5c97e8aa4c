-- Messages in queues, while somebody runs: the task that runs held the last message of a queue and forwarded it. So back over the
-- whole queue of a task, until it is empty.
-- Assumes nothing.
use mathlib.Core.Path.{◌≡◌, refl, sym, ap, ap₂, ◌∙◌, subst}
use mathlib.Core.Logic.{◌≢◌, ◌⊎◌, inl, inr, ⊎_elim}
use mathlib.Core.Bool.{Bool, true, false, true≢false}
use mathlib.Core.List.{List, [], ◌∷◌, ◌++◌, append-nil}
use Prim.Native.Nat.{ℕ, ◌≤◌, ◌%◌}
use native.Mathlib.Omega.{arith}
use native.Mathlib.Decide.{ℕ_discrete}
use borrow.Author.Tests.{eq-eqb, ne_eqb, eqb-true, le-ltb}
use Rattle.links.specs.Queue.{is_in, goes_before, insert, without}
use Rattle.links.specs.Chain.{In, Out, Once, Sorted, Chain}
use Rattle.links.proofs.Members.{out_not_in, not_in_out, is_in_in, in_is_in, in_right, once_middle_out, out_left}
use Rattle.links.proofs.Chains.{chain_once}
use Rattle.links.proofs.Removal.{without_split}
use Rattle.links.proofs.Insertion.{insert_end, sorted_last}
use Rattle.board.specs.declared.numbers.Size.{Size}
use Rattle.board.specs.declared.status.Status.{Status}
use Rattle.board.specs.declared.records.Task.{Task}
use Rattle.board.specs.declared.records.Message.{Message}
use Rattle.board.specs.declared.places.Place.TheVariants.{HeldBy, QueuedAt}
use Rattle.board.specs.Numbers.{task_no, Numbered}
use Rattle.board.specs.Status.{WAIT, INTQ, MHBS, TCBB, has, with_bit, without_bit, is_ready, number, fifo, with_fifo}
use Rattle.board.specs.Places.{is_on_timer}
use Rattle.board.specs.Records.{with_prio}
use Rattle.board.specs.Board.{Board, task, message, place}
use Rattle.board.proofs.Bits.{without_bit_other, without_bit-small, set_cleared, clear_set, with_bit-has}
use Rattle.paper.specs.declared.call.Call.TheVariants.{Forward, CancelMessage}
use Rattle.paper.specs.Rules.{present, next_message, message_number, queue, ready}
use Rattle.paper.specs.Changes.{with_queue, hold}
use Rattle.paper.specs.Effects.{place_at, emptied, cancel_message}
use Rattle.paper.specs.Refusals.{no6, no7, own_row, Go, given}
use Rattle.linked.specs.Sound.{PlaceGood}
use Rattle.linked.proofs.Running.{placed_numbered, ready_says}
use Rattle.linked.proofs.Chosen.{fewer_runs}
use Rattle.kept.specs.Settled.{Settled}
use Rattle.kept.specs.Touched.{IntoQueue, every_bit, for_messages, changed, queues_after}
use Rattle.kept.specs.Claims.{Sizes}
use Rattle.kept.proofs.Reading.{queue-walked, queued_placed}
use Rattle.kept.proofs.Waiting.{queue-awake, queued_starts, emptied_settled}
use Rattle.kept.proofs.Taking.{out_settled}
use Rattle.kept.proofs.Placing.{held_loose, place_settled}
use Rattle.kept.proofs.Framed.{Framed, framed_back, framed_forward}
use Rattle.past.specs.Past.{back, forwarded, queued}
use Rattle.reached.proofs.Making.{Passing, still_untimed, Makes, makes_call}
use Rattle.reached.proofs.Sweeping.{Earlier, Turned, unlisted}
use Rattle.kept.proofs.Statuses.{unready}
use Rattle.reached.proofs.Stages.{Quiet, Led}
use Rattle.kept.proofs.SameBoard.{sheet, block, same_board}
use Rattle.kept.proofs.Mail.{Waits, again, unchanged, back_message, back_place, held-stat, back_waits}
use Rattle.kept.proofs.Mail.{Woke, wakes, stays, placed_message, placed_place, placed_stat, placing, placed_wakes}
use Rattle.kept.proofs.Going.{go_there, go_from, go_held, message-word, task-word}
use Rattle.reached.proofs.Parking.{runs_same}

-- ---- m is the last in the queue of k, and c runs
module _ (z : Size) (a : Sizes z) (c k : ℕ) (n : Numbered z.tasks k) (b : Board) (v : Led z c b) (q : List ℕ) (m : ℕ)
    (e : v.stage.passing.queues k ≡ q ++ m ∷ []) where
  abbrev p : Passing z b c
  p = v.stage.passing

  abbrev o : List ℕ
  o = p.order

  abbrev f : ℕ → List ℕ
  f = p.queues

  abbrev s : Settled z b o f
  s = p.settled

  in_k : In m (f k)
  in_k = subst (In m) (sym e) (in_right m q (m ∷ []) (inl refl))

  at_k : place b m ≡ QueuedAt (task_no k)
  at_k = ((s.regular.linked.messages k n).exact m).0 in_k

  mn : Numbered z.messages m
  mn = rw s.fits.places at (placed_numbered b m (queued_placed b m k at_k))

  good : PlaceGood z b m (QueuedAt (task_no k))
  good = subst (PlaceGood z b m) at_k (s.regular.places m mn)

  nonempty : (task b k).mptr ≢ 0
  nonempty = queued_starts z b o f s.regular.linked k m n at_k

  somebody : c ≢ 0
  somebody = v.runs k n nonempty

  up : ready b c ≡ true
  up = (p.rightly.leads somebody).awake

  awake : has (task b k).stat WAIT ≡ false
  awake = queue-awake (task b k).stat ((task b k).mptr ≡ 0) (s.flags k n) nonempty

  out : Out m q
  out =
      out_left m q [] (once_middle_out m q []
      (subst Once e (chain_once (next_message b) (task b k).mptr (f k) (s.regular.linked.messages k n).chain)))

  rest : without m (f k) ≡ q
  rest = ap (without m) e ∙ without_split m q [] out ∙ append-nil q

  -- ---- before that c held m
  abbrev y : Board
  y = cancel_message z b c m k

  abbrev fy : ℕ → List ℕ
  fy = changed f k (without m (f k))

  settled_y : Settled z y o fy
  settled_y =
      let d = out_settled z b o f a s m k c at_k (ready_says b c up).0 in
      subst (λ (l : List ℕ). Settled z (emptied (hold (with_queue b k (without m l)) c m) k) o fy)
      (sym (queue-walked z b o f s k n))
      (emptied_settled z _ o fy k ((task b k).mptr ≡ 0) d (queue-awake _ ((task b k).mptr ≡ 0) d.flags nonempty))

  frame_y : Framed z b c (CancelMessage m k)
  frame_y = framed_back z b c m k

  abbrev old : Status
  old = (task b k).stat

  abbrev waiting : Status
  waiting = with_bit (without_bit old MHBS) WAIT

  -- k is as it was, or was due a message and has none left
  abbrev Before : Type 0
  Before = ((task y k).stat ≡ old) ⊎ ((has old MHBS ≡ true) × ((task y k).stat ≡ waiting))

  stat_y : Before
  stat_y = step (back_waits z b c m k (rw s.fits.tasks n))
    where
      step : Waits (hold (with_queue b k (without m (queue z b k))) c m) k → Before
      step (again d g w) =
          let h = held-stat z b c m k in
          inr (sym (ap (λ (t : Status). has t MHBS) h) ∙ d, w ∙ ap (λ (t : Status). with_bit (without_bit t MHBS) WAIT) h)
      step (unchanged w) = inl (w ∙ held-stat z b c m k)

  waits_on : has waiting WAIT ≡ true
  waits_on = with_bit-has WAIT refl (without_bit old MHBS) (without_bit-small old MHBS (s.fits.task k).stat)

  -- c is as it was
  stat_c : Dec (c ≡ k) → (task y c).stat ≡ (task b c).stat
  stat_c (no h) = ap (λ (t : Task). t.stat) (frame_y.tasks c (h, tt))
  stat_c (yes h) =
      ⊎_elim (λ d. ap (λ (w : ℕ). (task y w).stat) h ∙ d ∙ ap (λ (w : ℕ). (task b w).stat) (sym h))
      (λ d. absurd (true≢false (sym d.0 ∙ ap (λ (w : ℕ). has (task b w).stat MHBS) (sym h) ∙ p.idle))) stat_y

  fewer : (j : ℕ) → Dec (j ≡ k) → ready y j ≡ true → ready b j ≡ true
  fewer j (no h) r = sym (ap (λ (t : Task). is_ready t.stat) (frame_y.tasks j (h, tt))) ∙ r
  fewer j (yes h) r =
      ⊎_elim (λ d. ap (ready b) h ∙ sym (ap is_ready d) ∙ ap (ready y) (sym h) ∙ r)
      (λ d. absurd (true≢false (sym r ∙ ap (ready y) h ∙ ap is_ready d.1 ∙ unready waiting (inl waits_on)))) stat_y

  -- a bit that has nothing to do with messages is as it was
  bit_y : (bit j : ℕ) → is_in bit every_bit ≡ true → is_in bit for_messages ≡ false
      → has (task y j).stat bit ≡ has (task b j).stat bit
  bit_y bit j g h =
      frame_y.stat j bit (is_in_in bit every_bit g)
      (not_in_out bit for_messages (λ i. true≢false (sym (in_is_in bit for_messages i) ∙ h)))

  quiet_y : (j : ℕ) → Numbered z.tasks j → Quiet (task y j)
  quiet_y j h = bit_y INTQ j refl refl ∙ v.stage.all j h

  held_y : place y m ≡ HeldBy (task_no c)
  held_y = back_place z b c m k (rw s.fits.places mn)

  abbrev passing_y : Passing z y c
  passing_y = record {
    order = o;
    queues = fy;
    settled = settled_y;
    runs = frame_y.running ∙ p.runs;
    rightly = fewer_runs b y c (λ j. fewer j (ℕ_discrete j k)) (λ j. ap number (frame_y.fields refl j).0)
        (ap is_ready (stat_c (ℕ_discrete c k)) ∙ up) p.rightly;
    idle = ap (λ (t : Status). has t MHBS) (stat_c (ℕ_discrete c k)) ∙ p.idle;
    untimed = still_untimed b y m p.untimed (λ j h. frame_y.places j (h, tt)) (ap is_on_timer held_y);
  }

  abbrev led_y : Led z c y
  led_y = record { stage = record { passing = passing_y; all = quiet_y }; runs = λ j h g. somebody }

  queue_y : changed f k (without m (f k)) k ≡ q
  queue_y = rw (eq-eqb k k refl) rest

  keeps_y : (j : ℕ) → Dec (j ≡ k) → (task b j).mptr ≡ 0 → (task y j).mptr ≡ 0
  keeps_y j (yes h) d = absurd (nonempty (ap (λ (w : ℕ). (task b w).mptr) (sym h) ∙ d))
  keeps_y j (no h) d = frame_y.mptr refl j h ∙ d

  -- ---- and forwarded it
  there_y : present y k ≡ true
  there_y = bit_y TCBB k refl refl ∙ good.3

  block_y : block (message y m) ≡ block (message b m)
  block_y = back_message z b c m k (rw s.fits.messages mn)

  abbrev prio : ℕ
  prio = (message y m).prio

  prio_y : prio ≡ (message b m).prio
  prio_y = ap (λ (t : Message). t.prio) block_y

  odd : (message b m).prio % 2 ≡ 1
  odd = eqb-true ((message b m).prio % 2) 1 good.1

  low : number prio ≢ 127
  low h = omega (arith, prio_y, odd, good.2, h)

  abbrev x : Board
  x = place_at z y m k

  abbrev fx : ℕ → List ℕ
  fx = queues_after y fy (IntoQueue m prio k)

  settled_x : Settled z x o fx
  settled_x = place_settled z y o fy a settled_y m k (held_loose z y o fy settled_y m c held_y) there_y low

  frame_x : Framed z y c (Forward m k)
  frame_x = framed_forward z y c m k

  abbrev goes : ℕ → Bool
  goes j = goes_before (fifo prio) (number prio) (message_number y j)

  -- it goes behind all that are left
  behind : (j : ℕ) → In j q → goes j ≡ false
  behind j i =
      let h : j ≢ m = λ d. out_not_in m q out (subst (λ (w : ℕ). In w q) d i) in
      let t : fifo prio ≡ true = ap fifo prio_y ∙ good.1 in
      let r : message_number y j ≡ message_number b j = ap (λ (w : Message). number w.prio) (frame_y.messages j (h, tt)) in
      let u : message_number b j ≤ message_number b m =
      sorted_last (message_number b) q m (subst (Sorted (message_number b)) e (s.regular.linked.messages k n).sorted) j i in
      let w : message_number y j ≤ number prio = omega (arith, r, u, prio_y) in
      rw t (le-ltb (number prio) (message_number y j) w)

  lists : (j : ℕ) → Dec (j ≡ k) → fx j ≡ f j
  lists j (yes h) =
      subst (λ (w : ℕ). fx w ≡ f w) (sym h)
      (rw (eq-eqb k k refl) (ap (insert goes m) rest ∙ insert_end goes m q behind ∙ sym e))
  lists j (no h) = rw (ne_eqb j k h) refl

  stat_x : (task x k).stat ≡ old
  stat_x = step (placed_wakes z y m k (rw settled_y.fits.tasks n)) stat_y
    where
      h : (task (placing z y m k) k).stat ≡ (task y k).stat
      h = placed_stat z y m k

      step : Woke (placing z y m k) k → Before → (task x k).stat ≡ old
      step (wakes w d) (inl g) =
          absurd (true≢false (sym w ∙ ap (λ (t : Status). has t WAIT) (h ∙ g) ∙ awake))
      step (wakes w d) (inr (g, i)) =
          d ∙ ap (λ (t : Status). with_bit (without_bit t WAIT) MHBS) (h ∙ i)
          ∙ ap (λ (t : Status). with_bit t MHBS) (clear_set WAIT refl (without_bit old MHBS)
          (without_bit-small old MHBS (s.fits.task k).stat) (without_bit_other old MHBS WAIT refl ∙ awake))
          ∙ set_cleared MHBS refl old (s.fits.task k).stat g
      step (stays w d) (inl g) = d ∙ h ∙ g
      step (stays w d) (inr (g, i)) =
          absurd (true≢false (sym waits_on ∙ sym (ap (λ (t : Status). has t WAIT) (h ∙ i)) ∙ w))

  sheets : (j : ℕ) → Dec (j ≡ k) → sheet (task x j) ≡ sheet (task b j)
  sheets j (no h) = ap sheet (frame_x.tasks j (h, tt)) ∙ ap sheet (frame_y.tasks j (h, tt))
  sheets j (yes h) =
      let (p1, s1, n1) = frame_x.fields refl k in
      let (p2, s2, n2) = frame_y.fields refl k in
      let e1 = p1 ∙ p2 in
      let e2 = s1 ∙ s2 in
      let e3 = n1 ∙ n2 in
      subst (λ (w : ℕ). sheet (task x w) ≡ sheet (task b w)) (sym h)
      (λ i. record { stat = stat_x i; prio = e1 i; link = 0; mptr = 0; sptr = e2 i; name = e3 i })

  blocks : (j : ℕ) → Dec (j ≡ m) → block (message x j) ≡ block (message b j)
  blocks j (no h) = ap block (frame_x.messages j (h, tt)) ∙ ap block (frame_y.messages j (h, tt))
  blocks j (yes h) =
      let w : with_fifo prio ≡ (message b m).prio = omega (arith, prio_y, odd) in
      subst (λ (i : ℕ). block (message x i) ≡ block (message b i)) (sym h)
      (placed_message z y m k (rw settled_y.fits.messages mn) ∙ ap₂ with_prio block_y w)

  places : (j : ℕ) → Dec (j ≡ m) → place x j ≡ place b j
  places j (no h) = frame_x.places j (h, tt) ∙ frame_y.places j (h, tt)
  places j (yes h) =
      subst (λ (i : ℕ). place x i ≡ place b i) (sym h) (placed_place z y m k (rw settled_y.fits.places mn) ∙ sym at_k)

  same : x ≡ b
  same =
      same_board z x b o fx f settled_x s (frame_x.running ∙ frame_y.running) (λ j h. lists j (ℕ_discrete j k))
      (λ j h. sheets j (ℕ_discrete j k)) (λ j h. blocks j (ℕ_discrete j m)) (λ j h. places j (ℕ_discrete j m))

  go_forward : given (own_row z y c (Forward m k)) ≡ Go
  go_forward =
      go_held z y c m (no6 z y k ∷ no7 y m ∷ []) somebody mn held_y
      (go_there z y k (no7 y m ∷ []) n there_y (go_from (no7 y m) [] (ne_eqb (number prio) 127 low) refl))

  makes_forward : Makes z y (Forward m k ∷ []) b
  makes_forward =
      makes_call z a y c passing_y (Forward m k) b c p ((message-word z a m mn, (task-word z a k n, tt)), tt) go_forward
      (same ∙ runs_same b c p.runs) (inl refl)

-- ---- back over the queue of k
-- on the way back from b: q is still queued at k, and what queue was empty still is
record Unqueued (z : Size) (c k : ℕ) (b : Board) (q : List ℕ) (d : Board) : Type 0 where
  led : Led z c d
  queue : led.stage.passing.queues k ≡ q
  keeps : (j : ℕ) → (task b j).mptr ≡ 0 → (task d j).mptr ≡ 0

module _ (z : Size) (a : Sizes z) (c k : ℕ) (n : Numbered z.tasks k) (b : Board) where
  one_back : (q : List ℕ) (m : ℕ) (d : Board) → Unqueued z c k b (q ++ m ∷ []) d
      → Earlier z (Unqueued z c k b q) d (forwarded z k d m)
  one_back q m d u =
      let v = u.led in
      subst (λ (r : ℕ). Earlier z (Unqueued z c k b q) d (back (cancel_message z d r m k) (Forward m k ∷ [])))
      (sym v.stage.passing.runs)
      (record {
        inv = record {
          led = led_y z a c k n d v q m u.queue;
          queue = queue_y z a c k n d v q m u.queue;
          keeps = λ j h. keeps_y z a c k n d v q m u.queue j (ℕ_discrete j k) (u.keeps j h);
        };
        makes = makes_forward z a c k n d v q m u.queue;
      })

  all_back : Led z c b → Earlier z (Unqueued z c k b []) b (queued z b k)
  all_back v =
      let p = v.stage.passing in
      unlisted z (Unqueued z c k b) (forwarded z k) one_back (queue z b k) b
      (record { led = v; queue = sym (queue-walked z b p.order p.queues p.settled k n); keeps = λ j h. h })

-- back over the messages in the queue of k, each forwarded by the task that runs: its queue is empty
pub turn-queued : (z : Size) → Sizes z → (c k : ℕ) (b : Board) → Numbered z.tasks k → Led z c b
    → Turned z (Led z c) (λ d j. (task d j).mptr ≡ 0) b k (queued z b k)
turn-queued z a c k b n v =
    let r = all_back z a c k n b v in
    let u = r.inv in
    let d : Board = (queued z b k).board in
    let l = u.led.stage.passing.settled.regular.linked in record {
      earlier = record { inv = u.led; makes = r.makes };
      simple = subst (Chain (next_message d) (task d k).mptr) u.queue (l.messages k n).chain;
      keeps = λ j h. u.keeps j;
    }
