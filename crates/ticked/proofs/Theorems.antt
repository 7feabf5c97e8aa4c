-- The claims of specs/Claims, proved, but for the delay.
-- Assumes nothing.
use mathlib.Core.Path.{ap, ◌∙◌}
use native.Mathlib.Omega.{arith}
use lib.Dec.{lit<}
use Rattle.board.specs.Numbers.{small}
use Rattle.board.specs.declared.numbers.Size.{Size}
use Rattle.board.specs.Board.{Board, board_of}
use Rattle.timer.specs.Timer.{Timer, timer_of}
use Rattle.paper.specs.Rules.{runs_next}
use Rattle.paper.specs.Refusals.{Verdict, given}
use Rattle.paper.specs.Outcomes.{Outcome, undispatched, judge, dispatch, effect}
use Rattle.linked.proofs.Theorems.{one_whereabouts}
use Rattle.kept.proofs.Theorems.{passing_stays_passing, small-sizes}
use Rattle.kept.proofs.Timers.{calls_leave_the_timer}
use Rattle.timing.specs.Timing.{start_row, tick_row, started, started_timer, next_now, returned, ticked, Timed, start, tick}
use Rattle.timing.specs.Events.{Called, Started, Ticked}
use Rattle.timing.proofs.Theorems.{tick_goes, start_below, tick_below, accepted_passed}
use Rattle.ticked.specs.Claims.{TimerSizes, Passing, BlocksOnce}
use Rattle.ticked.specs.Claims.{EventsStayPassing, NeverStuck, TicksGo, EveryBlockOnce, DueInEntryOrder}
use Rattle.ticked.proofs.Returning.{returned_settled}
use Rattle.ticked.proofs.Buffers.{good_stays, matches_entered}
use Rattle.ticked.proofs.OneEntry.{one_timer}
use Rattle.ticked.proofs.Leaving.{passing_left, passed-passing, start-leaves, tick-leaves}
use Rattle.ticked.proofs.Leaving.{left_accepts, stays_passing, not_stuck}

-- the small board's sizes are such that all promises hold
pub small-timer-sizes : TimerSizes small
small-timer-sizes = record { sizes = small-sizes; byte = lit< tt }

-- ---- an event leaves a board and a buffer that pass
pub events_stay_passing : EventsStayPassing
events_stay_passing z l s (Called call) a w p =
    let (bytes, sound) = passing_stays_passing z l call a.sizes p.bytes w p.sound in record {
      bytes = bytes;
      sound = sound;
      timer_bytes = p.timer_bytes;
      good = good_stays (board_of z l) (board_of z (effect z l call).after) s
          (calls_leave_the_timer z l call a.sizes p.bytes.bytes w) p.good;
    }
events_stay_passing z l s (Started m delay) a w p = let b = board_of z l in
    stays_passing z l s (started b m) (started_timer (timer_of s) m delay) a.sizes
    (given (start_row z l b b.running s m delay)) (start-leaves z l s a p.bytes.bytes p.timer_bytes.bytes m delay) p
events_stay_passing z l s Ticked a w p = let b = board_of z l in let t = timer_of s in
    stays_passing z l s (returned z (next_now t) t.entries b) (ticked t) a.sizes (given (tick_row z l b s))
    (tick-leaves z l s a p.bytes.bytes p.timer_bytes.bytes) p

-- ---- no start and no tick is stuck
pub never_stuck : NeverStuck
never_stuck z l s a h g = let b = board_of z l in let t = timer_of s in (
  (λ m delay v w. not_stuck z l s (started b m) (started_timer t m delay) a.sizes
      (given (start_row z l b b.running s m delay)) (start-leaves z l s a h g m delay)
      (start_below z l b b.running s m delay)),
  not_stuck z l s (returned z (next_now t) t.entries b) (ticked t) a.sizes (given (tick_row z l b s))
      (tick-leaves z l s a h g) (tick_below z l b s),
)

-- ---- a tick goes
pub ticks_go : TicksGo
ticks_go z l s a p =
    let b : Board = board_of z l in
    let t : Timer = timer_of s in
    let d : Board = returned z (next_now t) t.entries b in
    let goes = tick_goes z l b s p.bytes.long p.sound p.good in
    let h = left_accepts z l s d (ticked t) a.sizes (tick-leaves z l s a p.bytes.bytes p.timer_bytes.bytes goes) in (
      runs_next z d,
      h.delivered,
      ap (λ (v : Verdict). (judge l v (dispatch z l (undispatched 0 d))).answer) goes
          ∙ ap (λ (o : Outcome). o.answer) h.ends,
    )

-- ---- every block in one place
-- where a board and a buffer pass
passing_once : (z : Size) (o : Timed) → TimerSizes z → Passing z o.board o.timer → BlocksOnce z o
passing_once z o a p v c k e m n =
    let h = passing_left z o.board o.timer a.sizes p in
    let t : Timer = timer_of o.timer in
    let (on, off) = one_timer (board_of z o.board) t h.fits.sixteen h.right m (λ i. omega (arith, n.0)) in
    (one_whereabouts z o.board a.sizes.limit p.sound m n, on, off)

-- accepted, so the board and the buffer passed; so they pass now
pub every_block_once : EveryBlockOnce
every_block_once z l s a h g = let (starts, ticks) = accepted_passed z l s in (
  (λ m delay u w v c k e. passing_once z (start z l s m delay) a
      (events_stay_passing z l s (Started m delay) a (u, w) (passed-passing z l s h g (starts m delay v c k e))) v c k e),
  λ v c k e. passing_once z (tick z l s) a
      (events_stay_passing z l s Ticked a tt (passed-passing z l s h g (ticks v c k e))) v c k e,
)

-- ---- the messages that are due go back in entry order
pub due_in_entry_order : DueInEntryOrder
due_in_entry_order z l s order queues a p h =
    let t : Timer = timer_of s in
    let right = (passing_left z l s a.sizes p).right in
    returned_settled z (next_now t) order a.sizes t.entries (board_of z l) queues h
    (matches_entered (board_of z l) t.entries right)
