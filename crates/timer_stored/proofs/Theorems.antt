-- Start and tick as code makes them are their definitions, on a board that passes with a buffer that is good for it.
-- Assumes nothing.
use mathlib.Core.Path.{◌≡◌, refl, sym, ap, ◌∙◌, subst}
use mathlib.Core.Bool.{Bool, true, false, cond}
use mathlib.Core.List.{List}
use Prim.Native.Nat.{ℕ, ◌+◌, ◌%◌}
use native.Mathlib.Nat.{mod-eq_of_lt}
use native.Mathlib.Omega.{arith}
use lib.ListN.{length}
use Rattle.std.specs.Prelude.{Option, None}
use Rattle.board.specs.declared.numbers.Size.{Size}
use Rattle.board.specs.declared.numbers.TaskNo.{TaskNo}
use Rattle.board.specs.declared.places.Place.TheVariants.{OnTimer}
use Rattle.board.specs.Numbers.{task_meant, number_of_task}
use Rattle.board.specs.Board.{Board, board_of, bytes_of}
use Rattle.board.specs.Writes.{put_running, put_place}
use Rattle.board.proofs.Codec.{Small}
use Rattle.timer.specs.declared.entry.Entry.{Entry}
use Rattle.timer.specs.Timer.{Timer, timer_of, timer_bytes}
use Rattle.timer.specs.Writes.{put_entry}
use Rattle.timer.proofs.Written.{put-entry-bytes}
use Rattle.linked.specs.Linked.{Listing}
use Rattle.paper.specs.Rules.{present, next_task, task_number, order, ready, first_ready, runs_next}
use Rattle.paper.specs.Refusals.{Verdict, Go, Stop, given}
use Rattle.paper.specs.Outcomes.{Outcome, judge, accepted, undispatched, dispatch}
use Rattle.linked.specs.Sound.{RunsRightly}
use Rattle.linked.proofs.Chosen.{first_meant}
use Rattle.kept.specs.Settled.{Settled}
use Rattle.kept.proofs.Holding.{held_numbered}
use Rattle.kept.proofs.Dispatching.{dispatched, listed_walked}
use Rattle.kept.proofs.Theorems.{passing-sound}
use Rattle.timing.specs.Timing.{start_own, lowest_entry, wrapped, started, started_timer, next_now, returned, ticked, timed, start, tick}
use Rattle.timing.proofs.Theorems.{start_own_lem, tick_goes}
use Rattle.ticked.specs.Claims.{TimerSizes, Passing}
use Rattle.ticked.proofs.Starting.{start-row, start_settled}
use Rattle.ticked.proofs.Returning.{returned_settled}
use Rattle.ticked.proofs.Buffers.{matches_entered}
use Rattle.ticked.proofs.Leaving.{Left, passing_left}
use Rattle.stores.specs.Answers.{rests, body_by, bytes_by, done}
use Rattle.stores.specs.Calls as calls
use Rattle.timer_calls.specs.Stores.{behind, any_due, returned_bytes, start_called, tick_called}
use Rattle.stored.proofs.Comes.{Comes, comes_timed}
use Rattle.stored.proofs.Next.{then_on, then_next, first_next}
use Rattle.stored.proofs.Theorems.{chosen_comes}
use Rattle.timer_stored.proofs.Returns.{returned_comes, returned-running, none_returned}

-- ---- an accepted outcome with its buffer
accepted-timed : (o : Outcome) (s : List ℕ) (t : Timer) (v c m : ℕ) (k : List ℕ) → o ≡ accepted v c m k → behind o (timer_bytes t) ≡ timed o s t
accepted-timed o s t v c m k e =
    ap (λ (x : Outcome). behind x (timer_bytes t)) e ∙ sym (ap (λ (x : Outcome). timed x s t) e)

module _ (z : Size) (l s : List ℕ) (a : TimerSizes z) (p : Passing z l s) where
  abbrev b : Board
  b = board_of z l

  abbrev c : ℕ
  c = b.running

  abbrev t : Timer
  t = timer_of s

  left : Left z b t
  left = passing_left z l s a.sizes p

  right : RunsRightly b c
  right = (passing-sound z b a.sizes left.settled.fits p.sound).runs

  -- ---- a body whose bytes d come to the board e, where who runs next is told by comparing with w
  module _ (d : List ℕ) (e : Board) (order : List ℕ) (queues : ℕ → List ℕ) (w : Option TaskNo) (comes : Comes z d e)
      (settled : Settled z e order queues) (next : then_on z e c (number_of_task w) ≡ runs_next z e) where
    runs : calls.runs_then z c w d ≡ runs_next z (board_of z d)
    runs = ap (λ (x : Board). then_on z x c (number_of_task w)) comes.1 ∙ next ∙ ap (runs_next z) (sym comes.1)

    finish_comes : Small (calls.finish z c (done 0 w) d).after → calls.finish z c (done 0 w) d ≡ dispatch z l (undispatched 0 e)
    finish_comes small =
        ap (λ (k : ℕ). calls.dispatch z 0 (put_running d (k % 256)) k) runs
        ∙ chosen_comes z l d 0 a.sizes order queues comes.0 (subst (λ (x : Board). Settled z x order queues) (sym comes.1) settled)
        (subst (λ (k : ℕ). Small (calls.dispatch z 0 (put_running d (k % 256)) k).after) runs small)
        ∙ ap (λ (x : Board). dispatch z l (undispatched 0 x)) comes.1

    -- it is accepted, so the buffer is the new one
    finish-timed : (new : Timer) → Small (calls.finish z c (done 0 w) d).after
        → behind (calls.finish z c (done 0 w) d) (timer_bytes new) ≡ timed (dispatch z l (undispatched 0 e)) s new
    finish-timed new small =
        let h = dispatched z order l queues 0 e a.sizes settled in
        ap (λ (o : Outcome). behind o (timer_bytes new)) (finish_comes small)
        ∙ accepted-timed (dispatch z l (undispatched 0 e)) s new 0 (runs_next z e) h.delivered (bytes_of h.board) h.ends

  -- ---- start
  module _ (m delay : ℕ) where
    abbrev entry : Entry
    entry = record { message = m % 256; due = wrapped (t.ticks + delay) }

    -- where nothing refuses it
    start_goes : given (start_own z b c t m delay) ≡ Go → Small (calls.finish z c (done 0 None) (put_place z l m OnTimer)).after
        → behind (calls.finish z c (done 0 None) (put_place z l m OnTimer)) (put_entry s (lowest_entry t) entry)
        ≡ timed (dispatch z l (undispatched 0 (started b m))) s (started_timer t m delay)
    start_goes g small =
        let go = start-row z b c t m delay g in
        let e : Board = started b m in
        let settled = start_settled z b left.order left.queues c t m delay a.sizes left.settled go in
        let listed = listed_walked z e left.order left.queues a.sizes settled in
        let next = then_next z b e c 0 right settled.fits.tasks listed refl (record { others = λ j n i. (refl, refl); own = λ r. refl }) in
        let number = held_numbered z b left.order left.queues left.settled m c go.held in
        let byte : m % 256 ≡ m = mod-eq_of_lt (omega (arith, number.1, a.byte)) in
        let written : put_entry s (lowest_entry t) entry ≡ timer_bytes (started_timer t m delay) =
        put-entry-bytes s p.timer_bytes (lowest_entry t) entry (omega arith) (omega arith)
        ∙ ap (λ (n : ℕ). timer_bytes (started_timer t n delay)) byte in
        ap (behind (calls.finish z c (done 0 None) (put_place z l m OnTimer))) written
        ∙ finish-timed (put_place z l m OnTimer) e left.order left.queues None
        (comes_timed z l p.bytes.long m a.sizes.tasks) settled next (started_timer t m delay) small

    start_by : (v : Verdict) → given (start_own z b c t m delay) ≡ v
        → Small (calls.finish z c (body_by v (rests 0 l)) (bytes_by v l (put_place z l m OnTimer))).after
        → behind (calls.finish z c (body_by v (rests 0 l)) (bytes_by v l (put_place z l m OnTimer))) (bytes_by v s (put_entry s (lowest_entry t) entry))
        ≡ timed (judge l v (dispatch z l (undispatched 0 (started b m)))) s (started_timer t m delay)
    start_by Go g small = start_goes g small
    start_by (Stop q) g small = refl

    pub start-effect : Small (start_called z l s m delay).board → start_called z l s m delay ≡ start z l s m delay
    start-effect small =
        start_by (given (start_own z b c t m delay)) refl small
        ∙ ap (λ (v : Verdict). timed (judge l v (dispatch z l (undispatched 0 (started b m)))) s (started_timer t m delay))
        (sym (start_own_lem z l b s c m delay p.bytes.long p.sound p.good))

  -- ---- a tick
  abbrev at : ℕ
  at = next_now t

  abbrev after : Board
  after = returned z at t.entries b

  abbrev bytes : List ℕ
  bytes = returned_bytes z at t.entries l

  -- whoever is compared: the first ready task where a message went back, and else nobody
  abbrev compared : Bool → Option TaskNo
  compared any = cond any (task_meant z (first_ready z (board_of z bytes))) None

  pub tick-effect : Small (tick_called z l s).board → tick_called z l s ≡ tick z l s
  unfolding tick_called
  tick-effect small =
      let entered = matches_entered b t.entries left.right in
      let comes = returned_comes z at left.order a.sizes t.entries l left.queues p.bytes.long left.settled entered in
      let settled = returned_settled z at left.order a.sizes t.entries b left.queues left.settled entered in
      let listed = listed_walked z after left.order _ a.sizes settled in
      let ran = returned-running z at t.entries b in
      finish-timed bytes after left.order _ (compared (any_due at t.entries)) comes settled
      (next comes settled.fits.tasks listed ran) (ticked t) small
      ∙ ap (λ (v : Verdict). timed (judge l v (dispatch z l (undispatched 0 after))) s (ticked t))
      (sym (tick_goes z l b s p.bytes.long p.sound p.good))
    where
      next : Comes z bytes after → length after.tasks ≡ z.tasks
          → Listing (next_task after) (task_number after) after.first (order z after) (λ k. present after k ≡ true)
          → after.running ≡ c → then_on z after c (number_of_task (compared (any_due at t.entries))) ≡ runs_next z after
      next comes tasks listed ran = step (any_due at t.entries) refl
        where
          step : (any : Bool) → any_due at t.entries ≡ any → then_on z after c (number_of_task (compared any)) ≡ runs_next z after
          step true d =
              ap (λ (x : Board). then_on z after c (number_of_task (task_meant z (first_ready z x)))) comes.1
              ∙ ap (then_on z after c) (first_meant z after tasks)
              ∙ first_next z after c tasks listed ran
          step false d =
              let same = none_returned z at t.entries b d in
              then_next z b after c 0 right tasks listed ran (record {
                others = λ j n i. (ap (λ (x : Board). ready x j) same, ap (λ (x : Board). task_number x j) same);
                own = λ r. ap (λ (x : Board). task_number x c) same;
              })
