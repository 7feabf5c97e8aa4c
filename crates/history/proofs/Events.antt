-- A whole event on the bytes of a board and of its timer buffer, and on the machine with its timer: the same answer, and they agree again
-- afterwards.
-- Assumes nothing.
use mathlib.Core.Path.{◌≡◌, refl, sym, ap, ◌∙◌, subst}
use mathlib.Core.List.{List, []}
use Prim.Native.Nat.{ℕ, ◌+◌}
use native.Mathlib.Omega.{arith}
use lib.ListN.{length, length-map}
use Rattle.std.specs.Prelude.{Err, Ok}
use Rattle.board.specs.declared.numbers.Size.{Size}
use Rattle.board.specs.Records.{Word}
use Rattle.board.specs.Board.{Board, board_of}
use Rattle.board.proofs.Numbered.{length-put}
use Rattle.timer.specs.Timer.{Timer, timer_of, timer_bytes}
use Rattle.timer.specs.Claims.{TimerBytes}
use Rattle.timer.proofs.Codec.{length-entries, timer_back}
use Rattle.paper.specs.Refusals.{Test, Verdict, Go, given}
use Rattle.paper.specs.Outcomes as paper
use Rattle.paper.specs.Answers.{Answer, accepts}
use Rattle.kept.specs.Settled.{Settled}
use Rattle.timing.specs.Timing.{start_own, lowest_entry, wrapped, started, started_timer, next_now, returned, freed, ticked, Timed, accepting, timed}
use Rattle.timing.specs.Events.{Event, Called, Started, Ticked, happen}
use Rattle.timing.proofs.Theorems.{start_own_lem, tick_goes}
use Rattle.ticked.specs.Claims.{TimerSizes, Passing, FittingEvent}
use Rattle.ticked.proofs.Starting.{start-row, start_settled}
use Rattle.ticked.proofs.Returning.{Entered, returned_settled}
use Rattle.ticked.proofs.Buffers.{says_good_timer, matches_entered}
use Rattle.ticked.proofs.Theorems.{events_stay_passing}
use Rattle.history.specs.Machine.{Plain, Played, Result, step}
use Rattle.history.specs.Clockwork as clock
use Rattle.history.specs.Clockwork.{Clocked, Happening, unless_refused, happened, happens}
use Rattle.history.proofs.Named.{Named}
use Rattle.history.proofs.Machines.{plain_of}
use Rattle.history.proofs.Same.{same_at, same_holds}
use Rattle.history.proofs.Calls.{Alike}
use Rattle.history.proofs.Timers.{start_alike, returned_same}
use Rattle.history.proofs.Steps.{Agreeing, Ended, alike_ends, call_agrees}

-- ---- the bytes of a board and of a buffer, and the machine with its timer
pub record Clockwise (z : Size) (l s : List ℕ) (x : Clocked) : Type 0 where
  pub board : Agreeing z l x.plain
  pub passing : Passing z l s
  pub timer : timer_of s ≡ x.timer

-- the same answer, and both agree again
abbrev Agree : Size → Timed → Happening → Type 0
Agree z o x = (o.answer ≡ x.answer) × Clockwise z o.board o.timer x.machine

-- now is a word
ticks-word : (s : List ℕ) → TimerBytes s → Word (timer_of s).ticks
ticks-word s h = omega (arith, h.bytes 0, h.bytes 1)

-- a buffer that a refusal leaves is the machine's, as is one that is written anew
left_timer : (s : List ℕ) (t : Timer) → Word t.ticks → length t.entries ≡ 16 → (a e : Answer) → a ≡ e
    → timer_of (accepting a s (timer_bytes t)) ≡ unless_refused e (timer_of s) t
left_timer s t w n a e i = by a ∙ ap (λ (x : Answer). unless_refused x (timer_of s) t) i
  where
    by : (a : Answer) → timer_of (accepting a s (timer_bytes t)) ≡ unless_refused a (timer_of s) t
    by (Ok b) = timer_back t w n
    by (Err q) = refl

-- ---- start and tick alike: o and r are what comes of them on the bytes and on the machine, t the timer where they are accepted
ends_agree : (z : Size) (s : List ℕ) (t : Timer) (o : paper.Outcome) (r : Result) → Word t.ticks → length t.entries ≡ 16
    → Ended z o r → Passing z (timed o s t).board (timed o s t).timer → Agree z (timed o s t) (happened r (timer_of s) t)
ends_agree z s t o r w n e p = (
  e.answers,
  record {
    board = record {
      bytes = p.bytes;
      sound = p.sound;
      order = e.order;
      queues = e.queues;
      settled = e.settled;
      same = e.same;
    };
    passing = p;
    timer = left_timer s t w n o.answer r.answer e.answers;
  },
)

module _ (z : Size) (a : TimerSizes z) (l s : List ℕ) (p : Plain) (agreeing : Agreeing z l p) (pass : Passing z l s) where
  abbrev b : Board
  b = board_of z l

  abbrev t : Timer
  t = timer_of s

  abbrev machine : Clocked
  machine = record { plain = p; timer = t }

  -- tests and a body on the bytes, and a row on the machine, that come to the same and settle
  body_ends : (tests : List Test) (d : Board) (queues : ℕ → List ℕ) (row : Plain → Played)
      → ((i k : List _) (n : ℕ) → Named z (plain_of b i k n) agreeing.order agreeing.queues
      → Alike z tests (paper.undispatched 0 d) agreeing.order queues (row (plain_of b i k n)))
      → (given tests ≡ Go → Settled z d agreeing.order queues)
      → Ended z (paper.judge l (given tests) (paper.dispatch z l (paper.undispatched 0 d))) (clock.played_out p (row p))
  body_ends tests d queues row alike settles =
      same_holds z b agreeing.order agreeing.queues p
      (λ (x : Plain). Ended z (paper.judge l (given tests) (paper.dispatch z l (paper.undispatched 0 d))) (clock.played_out x (row x)))
      agreeing.same
      (λ i k n w. alike_ends z a.sizes l agreeing.order agreeing.queues agreeing.settled i k n w tests
      (paper.undispatched 0 d) agreeing.order queues (row (plain_of b i k n)) (alike i k n w) settles)

  start_agrees : (m delay : ℕ) → FittingEvent (Started m delay) → Agree z (happen z l s (Started m delay)) (happens z machine (Started m delay))
  start_agrees m delay fits =
      let tests : List Test = start_own z b b.running t m delay in
      let row : Plain → Played = λ x. clock.play_start z x x.running t m delay in
      let ends = body_ends tests (started b m) agreeing.queues row
      (λ i k n w. start_alike z b _ _ a.sizes agreeing.settled i k n w b.running t m delay)
      (λ g. start_settled z b _ _ b.running t m delay a.sizes agreeing.settled (start-row z b b.running t m delay g)) in
      ends_agree z s (started_timer t m delay) _ _ (ticks-word s pass.timer_bytes)
      (length-put t.entries (lowest_entry t) (record { message = m; due = wrapped (t.ticks + delay) }) ∙ length-entries s)
      (subst (λ (v : Verdict). Ended z (paper.judge l v (paper.dispatch z l (paper.undispatched 0 (started b m)))) (clock.played_out p (row p)))
      (sym (start_own_lem z l b s b.running m delay pass.bytes.long pass.sound pass.good)) ends)
      (events_stay_passing z l s (Started m delay) a fits pass)

  tick_agrees : Agree z (happen z l s Ticked) (happens z machine Ticked)
  tick_agrees =
      let at : ℕ = next_now t in
      let d : Board = returned z at t.entries b in
      let entered : Entered b t.entries = matches_entered b t.entries ((says_good_timer b s).0 pass.good).1 in
      let ends = body_ends [] d _ (clock.play_tick t)
      (λ i k n w. record {
        verdict = refl;
        value = λ g. refl;
        same = λ g. returned_same z at _ a.sizes t.entries b _ (plain_of b i k n) agreeing.settled entered (same_at i k n refl w);
      })
      (λ g. returned_settled z at _ a.sizes t.entries b _ agreeing.settled entered) in
      ends_agree z s (ticked t) _ _ (omega arith) (length-map t.entries (freed at) ∙ length-entries s)
      (subst (λ (v : Verdict). Ended z (paper.judge l v (paper.dispatch z l (paper.undispatched 0 d))) (clock.played_out p (clock.play_tick t p)))
      (sym (tick_goes z l b s pass.bytes.long pass.sound pass.good)) ends)
      (events_stay_passing z l s Ticked a tt pass)

-- ---- an event
unless_same : (a : Answer) (t : Timer) → unless_refused a t t ≡ t
unless_same (Ok a) t = refl
unless_same (Err q) t = refl

pub event_agrees : (z : Size) → TimerSizes z → (l s : List ℕ) (x : Clocked) (event : Event) → FittingEvent event → Clockwise z l s x
    → Agree z (happen z l s event) (happens z x event)
event_agrees z a l s x event fits c =
    subst (λ (t : Timer). Agree z (happen z l s event) (happens z (record { plain = x.plain; timer = t }) event)) c.timer (by event fits)
  where
    by : (event : Event) → FittingEvent event
        → Agree z (happen z l s event) (happens z (record { plain = x.plain; timer = timer_of s }) event)
    by (Called call) fits =
        let o = call_agrees z a.sizes l x.plain call fits c.board in (
          o.0,
          record {
            board = o.1;
            passing = events_stay_passing z l s (Called call) a fits c.passing;
            timer = sym (unless_same (step z x.plain call).answer (timer_of s));
          },
        )
    by (Started m delay) fits = start_agrees z a l s x.plain c.board c.passing m delay fits
    by Ticked fits = tick_agrees z a l s x.plain c.board c.passing
