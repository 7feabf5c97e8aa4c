-- Each call on a board and on its machine: the same refusal, and where none is given the same value and again a board and its machine.
-- A call more costs a row of calls_alike.
-- Assumes nothing.
use mathlib.Core.Path.{◌≡◌, refl, sym, subst}
use mathlib.Core.Logic.{◌≢◌}
use mathlib.Core.Bool.{Bool, true, false}
use mathlib.Core.List.{List, [], ◌∷◌}
use Prim.Native.Nat.{ℕ}
use Rattle.board.specs.declared.numbers.Size.{Size}
use Rattle.board.specs.declared.places.Place.TheVariants.{HeldBy}
use Rattle.board.specs.Numbers.{task_no, Numbered}
use Rattle.board.specs.Board.{Board, message, place}
use Rattle.paper.specs.declared.call.Call.{Call}
use Rattle.paper.specs.declared.call.Call.TheVariants.{Install, PostInterrupt, Find, CancelTask, Claim, Prepare, Release}
use Rattle.paper.specs.declared.call.Call.TheVariants.{Send, SendAndWait, Resend, ResendAndWait, Forward, ForwardAndWait, Return, ReturnAndWait}
use Rattle.paper.specs.declared.call.Call.TheVariants.{Receive, ReceiveAndWait, CancelMessage, WaitForInterrupt}
use Rattle.paper.specs.Changes.{take_first}
use Rattle.paper.specs.Effects.{waits}
use Rattle.paper.specs.Refusals.{Test, no3, no4, no5, no6, no7, no10, no14, own_row, Go, given}
use Rattle.paper.specs.Outcomes.{Undispatched, undispatched, body}
use Rattle.linked.proofs.Running.{ready_says}
use Rattle.kept.specs.Settled.{Settled, Awake}
use Rattle.kept.specs.Touched.{touched, changed, order_after, queues_after}
use Rattle.kept.specs.Claims.{Sizes}
use Rattle.kept.proofs.Reading.{go_passed, runner_passed, held_row, task-passed, install-row, cancel_row, claim-row}
use Rattle.kept.proofs.Waiting.{task_numbered}
use Rattle.kept.proofs.Placing.{sender-passed, send_settled, forward_settled}
use Rattle.kept.proofs.Taking.{first_left, cancel_message-row}
use Rattle.history.specs.Ranking.{Entry}
use Rattle.history.specs.Machine as plain
use Rattle.history.specs.Machine.{Plain, Played}
use Rattle.history.proofs.Places.{held_alike, queued_alike}
use Rattle.history.proofs.Named.{Named}
use Rattle.history.proofs.Machines.{plain_of}
use Rattle.history.proofs.Asked.{asked_find, asked_free, asked_holds, asked_awaited, first_mptr, first_walked}
use Rattle.history.proofs.Same.{Same, same_at, same_holds, post_same, wait_same, claim_same, release_same, prepare_same, install_same, cancel_same}
use Rattle.history.proofs.Placed.{forward_same, send_same, waits_same}
use Rattle.history.proofs.Taken.{take_same, cancel_message_same}

-- the refusals tests and the body d on a board come to what the row e does on its machine; q and f are the lists afterwards
pub record Alike (z : Size) (tests : List Test) (d : Undispatched) (q : List ℕ) (f : ℕ → List ℕ) (e : Played) : Type 0 where
  pub verdict : given e.refusals ≡ given tests
  pub value : given tests ≡ Go → d.value ≡ e.value
  pub same : given tests ≡ Go → Same z d.board q f e.plain

-- so it is with a call of task c on a board that lists q and f before it
abbrev pub CallAlike : Size → Board → List ℕ → (ℕ → List ℕ) → ℕ → Call → Played → Type 0
CallAlike z b q f c call e =
    let move = (touched b c call).move in
    Alike z (own_row z b c call) (body z b c call) (order_after b q move) (queues_after b f move) e

-- ---- one test before others
-- what follows it is asked where it does not apply
given-then : (t : Test) (l k : List Test) → (t.applies ≡ false → given l ≡ given k) → given (t ∷ l) ≡ given (t ∷ k)
given-then t l k h = step t.applies refl
  where
    step : (a : Bool) → t.applies ≡ a → given (t ∷ l) ≡ given (t ∷ k)
    step true e = rw (e, given)
    step false e = rw (e, given) (h e)

-- ---- a wait
-- on any board that is settled
waits_after : (z : Size) (b : Board) (q : List ℕ) (f : ℕ → List ℕ) (p : Plain) → Sizes z → Settled z b q f → (c : ℕ)
    → Numbered z.tasks c → Same z b q f p → Same z (waits c b) q f (plain.waits c p)
waits_after z b q f p a h c d t =
    same_holds z b q f p (λ (x : Plain). Same z (waits c b) q f (plain.waits c x)) t
    (λ l s n w. waits_same z b q f a h l s n w c d)

-- after a call whose row passes 3
and_waits_lem : (z : Size) (b : Board) (q : List ℕ) (f : ℕ → List ℕ) (c : ℕ) (tests : List Test) (e : Played) → Sizes z
    → (given tests ≡ Go → Settled z b q f × Numbered z.tasks c) → Alike z tests (undispatched 0 b) q f e
    → Alike z tests (undispatched 0 (waits c b)) q f (plain.and_waits c e)
and_waits_lem z b q f c tests e a h t = record {
  verdict = t.verdict;
  value = t.value;
  same = λ g. waits_after z b q f e.plain a (h g).0 c (h g).1 (t.same g);
}

module _ (z : Size) (b : Board) (q : List ℕ) (f : ℕ → List ℕ) (a : Sizes z) (h : Settled z b q f)
    (l s : List Entry) (n : ℕ) (w : Named z (plain_of b l s n) q f) (c : ℕ) (awake : Awake b c) where
  abbrev p : Plain
  p = plain_of b l s n

  -- ---- what a row says that refuses nothing
  -- the task that calls is one of the board's
  runner_numbered : c ≢ 0 → Numbered z.tasks c
  runner_numbered e = task_numbered z b q f h c (ready_says b c (awake e)).0

  -- 3 alone
  runner_alone : given (no3 c ∷ []) ≡ Go → Numbered z.tasks c
  runner_alone g = runner_numbered (runner_passed c (go_passed (no3 c) [] g).0)

  -- 3 to 6: it holds the message, and the task meant is one of the board's
  sender-row : (m r : ℕ) (tests : List Test) → given (no3 c ∷ no4 z m ∷ no5 b c m ∷ no6 z b r ∷ tests) ≡ Go
      → (place b m ≡ HeldBy (task_no c)) × Numbered z.tasks r × Numbered z.tasks c
  sender-row m r tests g =
      let (runs, held, there, rest) = sender-passed z b c m r tests g in
      (held, task_numbered z b q f h r there, runner_numbered runs)

  -- ---- messages placed
  sends : (m r : ℕ) → CallAlike z b q f c (Send m r) (plain.sends z p c m r)
  sends m r = record {
    verdict = rw (held_alike c (place b m));
    value = λ g. refl;
    same = λ g. let t = sender-row m r [] g in send_same z b q f a h l s n w c m r t.0 t.1;
  }

  passes_on_lem : (m r : ℕ) → CallAlike z b q f c (Forward m r) (plain.passes_on z p c m r)
  passes_on_lem m r = record {
    verdict = rw (held_alike c (place b m));
    value = λ g. refl;
    same = λ g. let t = sender-row m r (no7 b m ∷ []) g in forward_same z b q f a h l s n w c m r t.0 t.1;
  }

  sends-waits : (m r : ℕ) → CallAlike z b q f c (SendAndWait m r) (plain.and_waits c (plain.sends z p c m r))
  sends-waits m r =
      and_waits_lem z _ q _ c (own_row z b c (Send m r)) (plain.sends z p c m r) a
      (λ g. ((send_settled z b q f a h c awake m r g).0, (sender-row m r [] g).2)) (sends m r)

  passes_on_waits : (m r : ℕ) → CallAlike z b q f c (ForwardAndWait m r) (plain.and_waits c (plain.passes_on z p c m r))
  passes_on_waits m r =
      and_waits_lem z _ q _ c (own_row z b c (Forward m r)) (plain.passes_on z p c m r) a
      (λ g. ((forward_settled z b q f a h c awake m r g).0, (sender-row m r (no7 b m ∷ []) g).2)) (passes_on_lem m r)

  -- ---- a task cancelled
  -- where 6 has passed, 10 is the same on the board and on the machine
  busy_row : (k : ℕ) → given (plain.play z p c (CancelTask k)).refusals ≡ given (own_row z b c (CancelTask k))
  busy_row k =
      given-then (no3 c) (no6 z b k ∷ plain.no10 z p k ∷ []) (no6 z b k ∷ no10 z b k ∷ []) (λ e.
      given-then (no6 z b k) (plain.no10 z p k ∷ []) (no10 z b k ∷ []) (λ u.
      rw (first_mptr z b q f a h l s n w k (task-passed z b k u).0, asked_holds z b q f h l s n k, asked_awaited z b q f h l s n k)))

  -- ---- each call
  pub calls_alike : (call : Call) → CallAlike z b q f c call (plain.play z (plain_of b l s n) c call)
  calls_alike (Install k t prio sptr name) = record {
    verdict = refl;
    value = λ g. refl;
    same = λ g. let d = install-row z b k t prio g in install_same z b q f a h l s n w k t prio sptr name d.1 d.2;
  }
  calls_alike (PostInterrupt k) = record {
    verdict = refl;
    value = λ g. refl;
    same = λ g. post_same z b q f a h l s n w k (task-passed z b k (go_passed (no6 z b k) [] g).0).0;
  }
  calls_alike (Find name) = record {
    verdict = refl;
    value = λ g. sym (asked_find z b q f a h l s n w name);
    same = λ g. same_at l s n refl w;
  }
  calls_alike (CancelTask k) = record {
    verdict = busy_row k;
    value = λ g. refl;
    same = λ g. cancel_same z b q f a h l s n w k (cancel_row z b c k g).0;
  }
  calls_alike Claim = record {
    verdict = rw (asked_free z b q f h l s n);
    value = λ g. sym (asked_free z b q f h l s n);
    same = λ g. claim_same z b q f a h l s n w c (claim-row b c g).1;
  }
  calls_alike (Prepare m t prio sptr) = record {
    verdict = rw (held_alike c (place b m));
    value = λ g. refl;
    same = λ g. prepare_same z b q f a h l s n w c m (held_row z b c m (no14 z sptr ∷ []) g).1 t prio sptr;
  }
  calls_alike (Release m) = record {
    verdict = rw (held_alike c (place b m));
    value = λ g. refl;
    same = λ g. release_same z b q f a h l s n w c m (held_row z b c m [] g).1;
  }
  calls_alike (Send m r) = sends m r
  calls_alike (SendAndWait m r) = sends-waits m r
  calls_alike (Resend m) = passes_on_lem m (message b m).rptr
  calls_alike (ResendAndWait m) = passes_on_waits m (message b m).rptr
  calls_alike (Forward m r) = passes_on_lem m r
  calls_alike (ForwardAndWait m r) = passes_on_waits m r
  calls_alike (Return m) = passes_on_lem m (message b m).sptr
  calls_alike (ReturnAndWait m) = passes_on_waits m (message b m).sptr
  calls_alike Receive = record {
    verdict = refl;
    value = λ g. sym (first_walked z b q f a h l s n w c (runner_alone g));
    same = λ g. subst (λ (x : List ℕ). Same z (take_first z b c) q (changed f c x) (plain.take p c (plain.first p c)))
        (sym (first_left z b q f h c (runner_alone g))) (take_same z b q f a h l s n w c (runner_alone g) _ refl);
  }
  calls_alike ReceiveAndWait = record {
    verdict = refl;
    value = λ g. refl;
    same = λ g. waits_same z b q f a h l s n w c (runner_alone g);
  }
  calls_alike (CancelMessage m r) = record {
    verdict = rw (queued_alike r (place b m));
    value = λ g. refl;
    same = λ g. let t = cancel_message-row z b c m r g in cancel_message_same z b q f a h l s n w c m r t.2 t.1;
  }
  calls_alike WaitForInterrupt = record {
    verdict = refl;
    value = λ g. refl;
    same = λ g. wait_same z b q f a h l s n w c (runner_alone g);
  }
