-- The stores of each call's body come to its effect, on a board that is settled and where no refusal of its row applies.
--   Body z b c d p   the stores d of c's call on b come to what the paper says, p: the value, the bytes, and whose status may be another
-- Assumes nothing.
use mathlib.Core.Path.{◌≡◌, refl, sym, ap, ◌∙◌, subst}
use mathlib.Core.Logic.{◌≢◌}
use mathlib.Core.Bool.{true, false, true≢false}
use mathlib.Core.List.{List, [], ◌∷◌}
use Prim.Native.Nat.{ℕ}
use lib.Dec.{eqb}
use lib.ListN.{length}
use Rattle.std.specs.Prelude.{Option}
use Rattle.links.specs.Queue.{first_with}
use Rattle.links.specs.Chain.{In, Out}
use Rattle.links.proofs.Members.{not_in_out}
use Rattle.board.specs.declared.numbers.Size.{Size}
use Rattle.board.specs.declared.numbers.TaskNo.{TaskNo}
use Rattle.board.specs.declared.records.Message.{Message}
use Rattle.board.specs.declared.places.Place.TheVariants.{Free}
use Rattle.board.specs.Numbers.{Numbered, number_of_task}
use Rattle.board.specs.Records.{no_task, no_message}
use Rattle.board.specs.Places.{is_queued}
use Rattle.board.specs.Board.{Board, total, board_of, task, message, with_task, with_message, with_place}
use Rattle.board.specs.Writes.{put_message}
use Rattle.paper.specs.declared.call.Call.{Call}
use Rattle.paper.specs.declared.call.Call.TheVariants.{Install, PostInterrupt, Find, CancelTask, Claim, Prepare, Release}
use Rattle.paper.specs.declared.call.Call.TheVariants.{Send, SendAndWait, Resend, ResendAndWait, Forward, ForwardAndWait, Return, ReturnAndWait}
use Rattle.paper.specs.declared.call.Call.TheVariants.{Receive, ReceiveAndWait, CancelMessage, WaitForInterrupt}
use Rattle.paper.specs.Rules.{present, queue, order}
use Rattle.paper.specs.Changes.{hold}
use Rattle.paper.specs.Effects.{place_at, send, emptied, cancel_message, waits, install, cancel_task, lowest_free, release}
use Rattle.paper.specs.Refusals.{Test, no3, no4, no5, no6, no7, own_row, Go, given}
use Rattle.paper.specs.Outcomes.{Undispatched, body}
use Rattle.linked.proofs.Running.{ready_says}
use Rattle.kept.specs.Claims.{Sizes}
use Rattle.kept.specs.Settled.{Settled, Awake}
use Rattle.kept.specs.Touched.{touched, relinks}
use Rattle.kept.proofs.Reading.{runner_passed, go_passed, install-row, cancel_row, claim-row, queue-walked, order-walked}
use Rattle.kept.proofs.Holding.{unqueued_out, held_numbered}
use Rattle.kept.proofs.Waiting.{task_numbered}
use Rattle.kept.proofs.Placing.{sender-passed}
use Rattle.kept.proofs.Taking.{cancel_message-row}
use Rattle.stores.specs.Changes as changes
use Rattle.stores.specs.Moves as moves
use Rattle.stores.specs.Effects as effects
use Rattle.stores.specs.Answers.{Stored}
use Rattle.stores.specs.Calls as calls
use Rattle.stored.proofs.Comes.{Comes, and_then, comes_to, comes_same, comes_task, comes_message, comes_free, comes_held, comes_hold}
use Rattle.stored.proofs.Links.{message_same}
use Rattle.stored.proofs.Queues.{queue_out_lem}
use Rattle.stored.proofs.Order.{order_read, order_into_lem, order_out_lem}
use Rattle.stored.proofs.Next.{Stirs, stirs_by, install-stirs, cancel_stirs}
use Rattle.stored.proofs.Bodies.{comes_emptied, comes_post, comes_wait, comes_waits, comes_placed, first_read, comes_taken}

pub record Body (z : Size) (b : Board) (c : ℕ) (d : Stored) (p : Undispatched) : Type 0 where
  pub value : d.value ≡ p.value
  pub bytes : Comes z d.after p.board
  pub stirs : Stirs b p.board c (number_of_task d.stirred)

module _ (z : Size) (l : List ℕ) (e : length l ≡ total z) (a : Sizes z) (q : List ℕ) (queues : ℕ → List ℕ)
    (s : Settled z (board_of z l) q queues) (c : ℕ) (awake : Awake (board_of z l) c) where
  abbrev b : Board
  b = board_of z l

  numbered : (k : ℕ) → present b k ≡ true → Numbered z.tasks k
  numbered k h = task_numbered z b q queues s k h

  runner : c ≢ 0 → Numbered z.tasks c
  runner n = numbered c (ready_says b c (awake n)).0

  -- ---- messages that are placed
  -- as the record u, by a row that says that the running task holds it and that r is there
  placed : (m : ℕ) (u : Message) (r : ℕ) (tests : List Test) → given (no3 c ∷ no4 z m ∷ no5 b c m ∷ no6 z b r ∷ tests) ≡ Go
      → Comes z (effects.place_at z l m u r) (place_at z (with_message b m u) m r)
  placed m u r tests g =
      let (runs, held, there, rest) = sender-passed z b c m r tests g in
      let n = numbered r there in
      let out : (y : ℕ) → In y (queues r) → y ≢ m = unqueued_out z b q queues s m (ap is_queued held) r n in
      comes_placed z l e a s.regular.linked m u r (held_numbered z b q queues s m c held) n
      (not_in_out m (queue z b r) (λ i. out m (subst (In m) (queue-walked z b q queues s r n) i) refl))

  -- addressed
  sent : (m r : ℕ) → given (own_row z b c (Send m r)) ≡ Go → Comes z (effects.send z l c m r) (send z b c m r)
  sent m r g = placed m (effects.addressed b c m r) r [] g

  -- as it is
  passed : (m r : ℕ) → given (own_row z b c (Forward m r)) ≡ Go → Comes z (effects.pass_on z l m r) (place_at z b m r)
  passed m r g =
      comes_to z _ _ _ (placed m (message b m) r (no7 b m ∷ []) g)
      (ap (λ (x : Board). place_at z x m r) (message_same b m (message b m) refl))

  and_waits_lem : (k : List ℕ) (d : Board) → Comes z k d → Comes z (effects.waits z k c) (waits c d)
  and_waits_lem k d h = and_then z k _ _ (waits c) h (λ f. comes_waits z k f c)

  -- ---- tasks
  installed : (k t p sptr name : ℕ) → given (own_row z b c (Install k t p sptr name)) ≡ Go
      → Comes z (effects.install z l k t p sptr name) (install z b k t p sptr name)
  installed k t p sptr name g =
      let (prio, n, absent, stat) = install-row z b k t p g in
      order_into_lem z l e a.limit a.tasks s.regular.linked k _ n
      (not_in_out k (order z b) (λ i. true≢false
      (sym ((s.regular.linked.tasks.exact k).0 (subst (In k) (order-walked z b q queues s a.limit) i)) ∙ absent)))

  cancelled : (k : ℕ) → given (own_row z b c (CancelTask k)) ≡ Go → Comes z (effects.cancel_task z l k) (cancel_task z b k)
  cancelled k g =
      let (n, there, idle) = cancel_row z b c k g in
      let i : In k (order z b) = subst (In k) (sym (order-walked z b q queues s a.limit)) ((s.regular.linked.tasks.exact k).1 there) in
      let d : List ℕ = moves.order_out z l k in
      and_then z d _ _ (λ x. with_task x k no_task) (order_out_lem z l e a.limit a.tasks s.regular.linked k i) (λ f. comes_task z d f k no_task)

  -- ---- messages
  released : (m : ℕ) → Comes z (effects.release z l m) (release b m)
  released m =
      let d : List ℕ = put_message z l m no_message in
      and_then z d _ _ (λ x. with_place x m Free) (comes_message z l e m no_message) (λ f. comes_free z d f m)

  taken_back : (m r : ℕ) → given (own_row z b c (CancelMessage m r)) ≡ Go → Comes z (effects.cancel_message z l c m r) (cancel_message z b c m r)
  taken_back m r g =
      let (runs, n, queued) = cancel_message-row z b c m r g in
      let i : In m (queue z b r) = subst (In m) (sym (queue-walked z b q queues s r n)) (((s.regular.linked.messages r n).exact m).1 queued) in
      let d : List ℕ = moves.queue_out z l m r in
      let k : List ℕ = changes.hold z d c m in
      and_then z k _ _ (λ y. emptied y r)
      (and_then z d _ _ (λ y. hold y c m) (queue_out_lem z l e a.limit s.regular.linked r n m i)
      (λ f. comes_hold z d f c m (runner runs) a.tasks)) (λ f. comes_emptied z k f r)

  there : given (own_row z b c Receive) ≡ Go → present b c ≡ true
  there g = (ready_says b c (awake (runner_passed c (go_passed (no3 c) [] g).0))).0

  -- ---- every call
  -- without a value and without tasks linked anew
  does : (call : Call) → (body z b c call).value ≡ 0 → relinks (touched b c call).move ≡ false → {k : Option TaskNo} {m : List ℕ}
      → ((j : ℕ) → j ≢ number_of_task k → j ≢ c → Out j (touched b c call).tasks) → Comes z m (body z b c call).board
      → Body z b c (record { value = 0; stirred = k; after = m }) (body z b c call)
  does call v r {k = k} o h = record { value = sym v; bytes = h; stirs = stirs_by z b c call (number_of_task k) r o }

  pub body_comes : (call : Call) → given (own_row z b c call) ≡ Go → Body z b c (calls.body z l c call) (body z b c call)
  body_comes (Install k t p sptr name) g = record {
    value = refl;
    bytes = installed k t p sptr name g;
    stirs = install-stirs z b c awake k t p sptr name (install-row z b k t p g).2;
  }
  body_comes (PostInterrupt k) g = does (PostInterrupt k) refl refl (λ j n m. (n, tt)) (comes_post z l e k)
  body_comes (Find name) g = record {
    value = ap (first_with (λ k. eqb (task b k).name name)) (order_read z l e a.limit a.tasks s.regular.linked);
    bytes = comes_same z l e;
    stirs = stirs_by z b c (Find name) 0 refl (λ j n m. tt);
  }
  body_comes (CancelTask k) g = record { value = refl; bytes = cancelled k g; stirs = cancel_stirs z b c k }
  body_comes Claim g = record {
    value = refl;
    bytes = comes_held z l e (lowest_free b) c (runner (claim-row b c g).0) a.tasks;
    stirs = stirs_by z b c Claim 0 refl (λ j n m. tt);
  }
  body_comes (Prepare i t p sptr) g = does (Prepare i t p sptr) refl refl (λ j n m. tt) (comes_message z l e i _)
  body_comes (Release i) g = does (Release i) refl refl (λ j n m. tt) (released i)
  body_comes (Send i r) g = does (Send i r) refl refl (λ j n m. (n, tt)) (sent i r g)
  body_comes (SendAndWait i r) g = does (SendAndWait i r) refl refl (λ j n m. (n, (m, tt))) (and_waits_lem _ _ (sent i r g))
  body_comes (Resend i) g = does (Resend i) refl refl (λ j n m. (n, tt)) (passed i (message b i).rptr g)
  body_comes (ResendAndWait i) g =
      does (ResendAndWait i) refl refl (λ j n m. (n, (m, tt))) (and_waits_lem _ _ (passed i (message b i).rptr g))
  body_comes (Forward i r) g = does (Forward i r) refl refl (λ j n m. (n, tt)) (passed i r g)
  body_comes (ForwardAndWait i r) g = does (ForwardAndWait i r) refl refl (λ j n m. (n, (m, tt))) (and_waits_lem _ _ (passed i r g))
  body_comes (Return i) g = does (Return i) refl refl (λ j n m. (n, tt)) (passed i (message b i).sptr g)
  body_comes (ReturnAndWait i) g =
      does (ReturnAndWait i) refl refl (λ j n m. (n, (m, tt))) (and_waits_lem _ _ (passed i (message b i).sptr g))
  body_comes Receive g = record {
    value = first_read z l e a q queues s c (there g);
    bytes = comes_taken z l e a q queues s c (there g);
    stirs = stirs_by z b c Receive 0 refl (λ j n m. (m, tt));
  }
  body_comes ReceiveAndWait g = does ReceiveAndWait refl refl (λ j n m. (m, tt)) (comes_waits z l e c)
  body_comes (CancelMessage i r) g = does (CancelMessage i r) refl refl (λ j n m. (n, tt)) (taken_back i r g)
  body_comes WaitForInterrupt g = does WaitForInterrupt refl refl (λ j n m. (m, tt)) (comes_wait z l e c)
