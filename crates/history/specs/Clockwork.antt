-- The plain machine with its timer: document 02, Ask 5. It keeps now and the sixteen entries beside what Machine keeps; a message that is
-- due is a placement made at that tick, in entry order. A reader must believe this file, and can read it beside Machine. What becomes of now
-- and of the entries is timing's (Timing), as are 16 and 17: nothing of that looks at a link.
--   Clocked                a plain machine and its timer; begin: at the fresh board, with a buffer of zeros
--   play_start, play_tick  start and tick as rows: their refusals behind 18, and the machine before dispatch
--   happens z p event      the answer of an event, and the machine afterwards
-- Assumes nothing.
use Rattle.std.specs.Prelude.{cond, List, [], ◌∷◌, ℕ, replicate, Err, Ok}
use Rattle.board.specs.declared.numbers.Size.{Size}
use Rattle.timer.specs.declared.entry.Entry as waiting
use Rattle.timer.specs.Timer.{Timer, timer, no_entry, is_due}
use Rattle.paper.specs.Refusals.{no3, no4, given}
use Rattle.paper.specs.Answers.{Answer, accepts}
use Rattle.timing.specs.Timing.{no16, no17, next_now, started_timer, ticked}
use Rattle.timing.specs.Events.{Event, Called, Started, Ticked}
use Rattle.history.specs.Machine.{Timed, Plain, start, with_whose, place, no5, no6, no7, Played, played, Result, dispatch, judged, step}

-- ---- what it keeps
pub record Clocked : Type 0 where
  pub plain : Plain
  pub timer : Timer

abbrev pub no_timer : Timer
no_timer = timer 0 (replicate 16 no_entry)

abbrev pub begin : Clocked
begin = record { plain = start; timer = no_timer }

-- ---- start: the message is on the timer
abbrev pub started : Plain → ℕ → Plain
started p m = with_whose p m Timed

abbrev pub play_start : Size → Plain → ℕ → Timer → ℕ → ℕ → Played
play_start z p c t m delay =
    played (no3 c ∷ no4 z m ∷ no5 p c m ∷ no6 z p (p.blocks m).sptr ∷ no7 p m ∷ no16 delay ∷ no17 t ∷ []) 0 (started p m)

-- ---- a tick: each message that is due is placed at its SPTR task, in entry order
abbrev pub returned : ℕ → List waiting.Entry → Plain → Plain
returned at [] p = p
returned at (e ∷ es) p = let m = e.message in returned at es (cond (is_due at e) (place p m (p.blocks m).sptr) p)

abbrev pub play_tick : Timer → Plain → Played
play_tick t p = played [] 0 (returned (next_now t) t.entries p)

-- ---- an event
pub record Happening : Type 0 where
  pub answer : Answer
  pub machine : Clocked

-- a refusal leaves the timer, as it leaves the machine
abbrev pub unless_refused : Answer → Timer → Timer → Timer
unless_refused (Ok a) t after = after
unless_refused (Err q) t after = t

abbrev pub happened : Result → Timer → Timer → Happening
happened o t after =
    record { answer = o.answer; machine = record { plain = o.plain; timer = unless_refused o.answer t after } }

abbrev pub played_out : Plain → Played → Result
played_out p d = judged p (given d.refusals) (dispatch p d)

abbrev pub happens : Size → Clocked → Event → Happening
happens z x (Called call) = let t = x.timer in happened (step z x.plain call) t t
happens z x (Started m delay) = let p = x.plain in let t = x.timer in
    happened (played_out p (play_start z p p.running t m delay)) t (started_timer t m delay)
happens z x Ticked = let p = x.plain in let t = x.timer in happened (played_out p (play_tick t p)) t (ticked t)
