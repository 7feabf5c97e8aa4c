-- A start: a held message goes onto the timer, and the board is settled.
-- Assumes nothing.
use mathlib.Core.Path.{◌≡◌, refl, ap}
use mathlib.Core.Logic.{◌≢◌}
use mathlib.Core.Bool.{true}
use mathlib.Core.List.{List, [], ◌∷◌}
use Prim.Native.Nat.{ℕ}
use native.Mathlib.Omega.{arith}
use lib.Dec.{lit<}
use borrow.Author.Tests.{eqb-false}
use Rattle.board.specs.declared.numbers.Size.{Size}
use Rattle.board.specs.declared.places.Place.TheVariants.{HeldBy, OnTimer}
use Rattle.board.specs.Numbers.{task_no}
use Rattle.board.specs.Status.{number}
use Rattle.board.specs.Places.{is_queued}
use Rattle.board.specs.Board.{Board, message, place}
use Rattle.board.proofs.Pieces.{outside_above}
use Rattle.board.proofs.Codec.{place-timer}
use Rattle.timer.specs.Timer.{Timer}
use Rattle.paper.specs.Rules.{present}
use Rattle.paper.specs.Refusals.{no7, Go, given}
use Rattle.kept.specs.Settled.{Settled}
use Rattle.kept.specs.Claims.{Sizes}
use Rattle.kept.proofs.Reading.{FitsPlace, go_passed}
use Rattle.kept.proofs.Holding.{held-good, settled_place}
use Rattle.kept.proofs.Placing.{sender-passed}
use Rattle.timing.specs.Timing.{no16, no17, start_own, started, lowest_entry}

-- what a row that lets a start go on says
pub record Startable (b : Board) (c : ℕ) (t : Timer) (m delay : ℕ) : Type 0 where
  pub held : place b m ≡ HeldBy (task_no c)
  pub there : present b (message b m).sptr ≡ true
  pub low : number (message b m).prio ≢ 127
  pub delayed : delay ≢ 0
  pub free : lowest_entry t ≢ 0

pub start-row : (z : Size) (b : Board) (c : ℕ) (t : Timer) (m delay : ℕ) → given (start_own z b c t m delay) ≡ Go
    → Startable b c t m delay
start-row z b c t m delay g =
    let (n, held, there, h) = sender-passed z b c m (message b m).sptr (no7 b m ∷ no16 delay ∷ no17 t ∷ []) g in
    let prio = go_passed (no7 b m) (no16 delay ∷ no17 t ∷ []) h in
    let wait = go_passed (no16 delay) (no17 t ∷ []) prio.1 in
    let room = go_passed (no17 t) [] wait.1 in record {
      held = held;
      there = there;
      low = eqb-false (number (message b m).prio) 127 prio.0;
      delayed = eqb-false delay 0 wait.0;
      free = eqb-false (lowest_entry t) 0 room.0;
    }

-- 128 is a byte that says so, for there are fewer than 64 tasks
timer-fits : (z : Size) → Sizes z → FitsPlace z OnTimer
timer-fits z a =
    let few = a.tasks in
    (lit< tt, place-timer z 128 refl (outside_above z.tasks 128 (omega arith)) (outside_above z.tasks 64 (omega arith)))

-- R1 to R6 hold, and the lists stay
pub start_settled : (z : Size) (b : Board) (order : List ℕ) (queues : ℕ → List ℕ) (c : ℕ) (t : Timer) (m delay : ℕ) → Sizes z
    → Settled z b order queues → Startable b c t m delay → Settled z (started b m) order queues
start_settled z b order queues c t m delay a s h =
    let g = held-good z b order queues s m c h.held in
    settled_place z b order queues s m OnTimer (ap is_queued h.held) refl (timer-fits z a)
    (g.0, g.1, h.there, omega (arith, h.low, (s.fits.message m).prio))
