-- What an accepted start and an accepted tick leave before dispatch, and what dispatch makes of that.
-- Assumes nothing.
use mathlib.Core.Path.{◌≡◌, refl, sym, ap, subst}
use mathlib.Core.Logic.{◌≢◌}
use mathlib.Core.Bool.{true}
use mathlib.Core.List.{List}
use Prim.Native.Nat.{ℕ}
use native.Mathlib.Omega.{arith}
use lib.ListN.{get_or, length}
use Rattle.std.specs.Prelude.{Err}
use Rattle.board.specs.declared.numbers.Size.{Size}
use Rattle.board.specs.Records.{Byte}
use Rattle.board.specs.Board.{Board, board_of, total}
use Rattle.timer.specs.Timer.{Timer, timer_of, timer_bytes}
use Rattle.paper.specs.declared.answer.Refusal.{Refusal}
use Rattle.paper.specs.declared.answer.Refusal.TheVariants.{NothingToDeliver}
use Rattle.paper.specs.Rules.{passes}
use Rattle.paper.specs.Refusals.{Verdict, Go, Stop, given}
use Rattle.paper.specs.Outcomes.{Outcome, undispatched, judge, dispatch}
use Rattle.kept.specs.Settled.{Settled}
use Rattle.kept.specs.Claims.{Sizes}
use Rattle.kept.proofs.Fitting.{fits-board}
use Rattle.kept.proofs.Holding.{held_numbered}
use Rattle.kept.proofs.Dispatching.{Handing, dispatched}
use Rattle.kept.proofs.Theorems.{sound_settled, passing-sound, dispatch-accepts, dispatch-passes}
use Rattle.kept.proofs.Timers.{dispatch-leaves_the_timer}
use Rattle.timing.specs.Timing.{good_timer, start_row, tick_row, started, started_timer, next_now, returned, ticked, accepting, timed}
use Rattle.timing.proofs.Theorems.{start-passed, tick-passed}
use Rattle.ticked.specs.Claims.{TimerSizes, Passing, due_queues}
use Rattle.ticked.proofs.Returning.{returned_settled}
use Rattle.ticked.proofs.Starting.{start-row, start_settled}
use Rattle.ticked.proofs.Fitting.{FitsTimer, timer-fits, started-fits, ticked-fits}
use Rattle.ticked.proofs.Buffers.{Matches, says_good_timer, matches_good, good_stays}
use Rattle.ticked.proofs.Buffers.{matches_started, matches_entered, matches_ticked}

-- a board that is settled, and a timer that fits its bytes and is right for it
pub record Left (z : Size) (d : Board) (t : Timer) : Type 0 where
  pub order : List ℕ
  pub queues : ℕ → List ℕ
  pub settled : Settled z d order queues
  pub fits : FitsTimer t
  pub right : Matches d t.entries

-- ---- what is there before
-- of bytes of which the board passes and the buffer is good, the board and the timer are such
pub passing_left : (z : Size) (l s : List ℕ) → Sizes z → Passing z l s → Left z (board_of z l) (timer_of s)
passing_left z l s a p =
    let f = fits-board z l p.bytes in
    let r = passing-sound z (board_of z l) a f p.sound in record {
      order = r.order;
      queues = r.queues;
      settled = sound_settled z (board_of z l) a f r;
      fits = timer-fits s p.timer_bytes;
      right = ((says_good_timer (board_of z l) s).0 p.good).1;
    }

-- so it is where 1, 2 and 18 are passed
pub passed-passing : (z : Size) (l s : List ℕ) → ((i : ℕ) → Byte (get_or l i 0)) → ((i : ℕ) → Byte (get_or s i 0))
    → let b = board_of z l in (length l ≡ total z) × (passes z b ≡ true) × (good_timer b s ≡ true) → Passing z l s
passed-passing z l s h g (long, sound, good) = record {
  bytes = record { long = long; bytes = h };
  sound = sound;
  timer_bytes = record { long = ((says_good_timer (board_of z l) s).0 good).0; bytes = g };
  good = good;
}

-- ---- what a start and a tick leave
module _ (z : Size) (l s : List ℕ) (a : TimerSizes z) (h : (i : ℕ) → Byte (get_or l i 0)) (g : (i : ℕ) → Byte (get_or s i 0)) where
  abbrev b : Board
  b = board_of z l

  abbrev t : Timer
  t = timer_of s

  pub start-leaves : (m delay : ℕ) → given (start_row z l b b.running s m delay) ≡ Go
      → Left z (started b m) (started_timer t m delay)
  start-leaves m delay e =
      let c : ℕ = b.running in
      let (long, sound, good, own) = start-passed z l b s c m delay e in
      let p = passing_left z l s a.sizes (passed-passing z l s h g (long, sound, good)) in
      let r = start-row z b c t m delay own in
      let n = held_numbered z b p.order p.queues p.settled m c r.held in record {
        order = p.order;
        queues = p.queues;
        settled = start_settled z b p.order p.queues c t m delay a.sizes p.settled r;
        fits = started-fits t m delay (omega (arith, n.1, a.byte)) p.fits;
        right = matches_started z b p.order p.queues p.settled c t m delay r p.right;
      }

  pub tick-leaves : given (tick_row z l b s) ≡ Go → Left z (returned z (next_now t) t.entries b) (ticked t)
  tick-leaves e =
      let p = passing_left z l s a.sizes (passed-passing z l s h g (tick-passed z l b s e)) in
      let at : ℕ = next_now t in record {
        order = p.order;
        queues = due_queues z at t.entries b p.queues;
        settled = returned_settled z at p.order a.sizes t.entries b p.queues p.settled
            (matches_entered b t.entries p.right);
        fits = ticked-fits t p.fits;
        right = matches_ticked z at p.order a.sizes t.entries b p.queues p.settled p.right;
      }

-- ---- dispatch behind them
module _ (z : Size) (l s : List ℕ) (d : Board) (t : Timer) (a : Sizes z) where
  abbrev outcome : Outcome
  outcome = dispatch z l (undispatched 0 d)

  -- it accepts
  pub left_accepts : (h : Left z d t) → Handing z h.order l (undispatched 0 d)
  left_accepts h = dispatched z h.order l h.queues 0 d a h.settled

  -- and leaves a board and a buffer that pass
  left_passes : Left z d t → Passing z outcome.after (accepting outcome.answer s (timer_bytes t))
  left_passes h =
      let (bytes, sound) = dispatch-passes z l (undispatched 0 d) h.order h.queues a h.settled in
      let (long, good) = matches_good d t h.fits h.right in
      let stays = dispatch-leaves_the_timer z l (undispatched 0 d) h.order h.queues a h.settled in
      subst (Passing z outcome.after)
      (sym (ap (λ (o : Outcome). accepting o.answer s (timer_bytes t)) (left_accepts h).ends)) (record {
        bytes = bytes;
        sound = sound;
        timer_bytes = long;
        good = good_stays d (board_of z outcome.after) (timer_bytes t) stays good;
      })

  -- by the verdict of the row: a board and a buffer that pass are left, if such were there before
  pub stays_passing : (v : Verdict) → (v ≡ Go → Left z d t) → Passing z l s → let o = timed (judge l v outcome) s t in
      Passing z o.board o.timer
  stays_passing Go left p = left_passes (left refl)
  stays_passing (Stop q) left p = p

  -- and it isn't stuck, where the row doesn't say so
  pub not_stuck : (v : Verdict) → (v ≡ Go → Left z d t) → ((q : Refusal) → v ≡ Stop q → q ≢ NothingToDeliver)
      → (judge l v outcome).answer ≢ Err NothingToDeliver
  not_stuck Go left below =
      let h = left refl in dispatch-accepts z l (undispatched 0 d) h.order h.queues a h.settled
  not_stuck (Stop q) left below = λ r. let same : q ≡ NothingToDeliver = cc in below q refl same
