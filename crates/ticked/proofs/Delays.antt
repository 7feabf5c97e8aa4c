-- A started message is on the timer until the delay-th tick after its start, and goes back at that tick. A claim of specs/Claims,
-- proved.
-- Assumes nothing.
use mathlib.Core.Path.{◌≡◌, refl, sym, ap, subst}
use mathlib.Core.Bool.{Bool, true, false, true≢false}
use mathlib.Core.List.{List, [], ◌∷◌}
use Prim.Native.Nat.{ℕ, suc, ◌+◌, ◌-◌, ◌<◌}
use native.Mathlib.Omega.{arith}
use Rattle.std.specs.Prelude.{Err, Ok}
use Rattle.board.specs.declared.numbers.Size.{Size}
use Rattle.board.specs.Board.{Board, board_of, message}
use Rattle.timer.specs.Timer.{Timer, timer_of}
use Rattle.paper.specs.Refusals.{Verdict, Go, Stop, given}
use Rattle.paper.specs.Outcomes.{judge, undispatched, dispatch, effect}
use Rattle.paper.specs.Answers.{Answer, accepts}
use Rattle.kept.proofs.Timers.{calls_leave_the_timer}
use Rattle.timing.specs.Timing.{start_row, tick_row, started, started_timer, next_now, returned, ticked, Timed, timed, start, tick}
use Rattle.timing.specs.Events.{Event, Called, Started, Ticked, RanAll, run_all, ticks}
use Rattle.timing.proofs.Theorems.{start-passed, tick_goes}
use Rattle.ticked.specs.Claims.{TimerSizes, Passing, AllEventsFit, GoesBack, ExactlyTheDelay}
use Rattle.ticked.proofs.Starting.{Startable, start-row}
use Rattle.ticked.proofs.Leaving.{Left, passing_left, start-leaves, tick-leaves}
use Rattle.ticked.proofs.Theorems.{events_stay_passing}
use Rattle.ticked.proofs.Delivering.{queued_goes_back}
use Rattle.ticked.proofs.Waits.{Waits, leaves-waits, dispatch-waits}
use Rattle.ticked.proofs.Waits.{start-waits, start-waits_on, tick-waits_on, tick_goes_back}

-- an answer that refuses nothing
abbrev is_accepted : Answer → Bool
is_accepted (Ok a) = true
is_accepted (Err q) = false

-- the message m waits in these bytes, for n ticks, and then goes back to r
abbrev WaitsIn : Size → List ℕ → List ℕ → ℕ → ℕ → ℕ → Type 0
WaitsIn z l s m r n = Waits (board_of z l) (timer_of s) m r n

-- ---- a start and a tick on a board and a buffer that pass
module _ (z : Size) (a : TimerSizes z) (l s : List ℕ) (p : Passing z l s) where
  abbrev b : Board
  b = board_of z l

  abbrev t : Timer
  t = timer_of s

  -- ---- a start, by the verdict of its row
  module _ (k delay : ℕ) where
    abbrev verdict : Verdict
    verdict = given (start_row z l b b.running s k delay)

    abbrev outcome : Verdict → Timed
    outcome v = timed (judge l v (dispatch z l (undispatched 0 (started b k)))) s (started_timer t k delay)

    startable : verdict ≡ Go → Startable b b.running t k delay
    startable e = start-row z b b.running t k delay (start-passed z l b s b.running k delay e).3

    -- who waits before dispatch waits after it
    goes_on : verdict ≡ Go → (m r n : ℕ) → Waits (started b k) (started_timer t k delay) m r n
        → WaitsIn z (outcome Go).board (outcome Go).timer m r n
    goes_on e m r n w =
        dispatch-waits z l s (started b k) (started_timer t k delay) m r n a.sizes
        (start-leaves z l s a p.bytes.bytes p.timer_bytes.bytes k delay e) w

    -- accepted, so its message waits for its delay
    begins : (v : Verdict) → verdict ≡ v → (x y i : ℕ) → (outcome v).answer ≡ accepts x y i
        → WaitsIn z (outcome v).board (outcome v).timer k (message b k).sptr delay
    begins Go e x y i h = goes_on e k _ delay (start-waits b b.running t k delay (startable e))
    begins (Stop q) e x y i h = absurd (true≢false (sym (ap is_accepted h)))

    -- refused or not, others wait on
    others_wait : (v : Verdict) → verdict ≡ v → (m r n : ℕ) → WaitsIn z l s m r n
        → WaitsIn z (outcome v).board (outcome v).timer m r n
    others_wait Go e m r n w = goes_on e m r n (start-waits_on b b.running t k delay (startable e) m r n w)
    others_wait (Stop q) e m r n w = w

  -- ---- a tick
  left : Left z b t
  left = passing_left z l s a.sizes p

  goes : given (tick_row z l b s) ≡ Go
  goes = tick_goes z l b s p.bytes.long p.sound p.good

  abbrev back : Board
  back = returned z (next_now t) t.entries b

  then : Left z back (ticked t)
  then = tick-leaves z l s a p.bytes.bytes p.timer_bytes.bytes goes

  tick_is : tick z l s ≡ timed (dispatch z l (undispatched 0 back)) s (ticked t)
  tick_is = ap (λ (v : Verdict). timed (judge l v (dispatch z l (undispatched 0 back))) s (ticked t)) goes

  -- it leaves one tick less
  one_less : (m r n : ℕ) → 0 < n → n < 65536 → WaitsIn z l s m r (suc n)
      → WaitsIn z (tick z l s).board (tick z l s).timer m r n
  one_less m r n h g w =
      subst (λ (o : Timed). WaitsIn z o.board o.timer m r n) (sym tick_is)
      (dispatch-waits z l s back (ticked t) m r n a.sizes then (tick-waits_on z b t a.sizes left m r n h g w))

  -- and the last brings it back
  last_one : (m r : ℕ) → WaitsIn z l s m r 1 → GoesBack z (tick z l s) r m
  last_one m r w =
      subst (λ (o : Timed). GoesBack z o r m) (sym tick_is)
      (queued_goes_back z l s (ticked t) back then.order then.queues a.sizes then.settled m r
      (tick_goes_back z b t a.sizes left m r w))

-- ---- events one after another
module _ (z : Size) (a : TimerSizes z) (m r : ℕ) where
  -- after them it waits, for as many ticks less as are among them, if that isn't all
  after_events : (events : List Event) (l s : List ℕ) (n k : ℕ) → AllEventsFit events → Passing z l s → 0 < n
      → k ≡ ticks events + n → k < 65536 → WaitsIn z l s m r k
      → let p = run_all z l s events in Passing z p.board p.timer × WaitsIn z p.board p.timer m r n
  after_events [] l s n k f p h e g w = let same : k ≡ n = omega arith in (p, subst (WaitsIn z l s m r) same w)
  after_events (Called call ∷ events) l s n k f p h e g w =
      let d : List ℕ = (effect z l call).after in
      after_events events d s n k f.1 (events_stay_passing z l s (Called call) a f.0 p) h e g
      (leaves-waits (board_of z l) (board_of z d) (timer_of s) m r k
      (calls_leave_the_timer z l call a.sizes p.bytes.bytes f.0) w)
  after_events (Started j delay ∷ events) l s n k f p h e g w =
      let o : Timed = start z l s j delay in
      after_events events o.board o.timer n k f.1 (events_stay_passing z l s (Started j delay) a f.0 p) h e g
      (others_wait z a l s p j delay _ refl m r k w)
  after_events (Ticked ∷ events) l s n k f p h e g w =
      let o : Timed = tick z l s in
      let i : ℕ = ticks events + n in
      let more : k ≡ suc i = omega arith in
      after_events events o.board o.timer n i f.1 (events_stay_passing z l s Ticked a f.0 p) h refl (omega arith)
      (one_less z a l s p m r i (omega arith) (omega arith) (subst (WaitsIn z l s m r) more w))

pub exactly_the_delay : ExactlyTheDelay
exactly_the_delay z l s m delay v c k a p wm wd e between fit less =
    let o : Timed = start z l s m delay in
    let r : ℕ = (message (board_of z l) m).sptr in
    let n : ℕ = delay - ticks between in
    let d : RanAll = run_all z o.board o.timer between in
    let (passing, waits) = after_events z a m r between o.board o.timer n delay fit
    (events_stay_passing z l s (Started m delay) a (wm, wd) p) (omega arith) (omega arith) wd
    (begins z a l s p m delay _ refl v c k e) in (
      waits.on,
      λ last. let one : n ≡ 1 = omega arith in
          last_one z a d.board d.timer passing m r (subst (WaitsIn z d.board d.timer m r) one waits),
    )
