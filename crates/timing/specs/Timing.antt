-- Document 02, Ask 5: start and tick as functions of the bytes of a board and of a timer buffer. A reader must believe this file.
--   used l                 the messages in these entries, in entry order
--   good_timer b s         the bytes s are a timer buffer for the board b: the contrary of 18
--   no16 .. no18           the refusals that start and tick alone give; start_row, tick_row their refusals, in the paper's order
--   wrapped n              the sixteen-bit word: n, less 65,536 where that is beyond 65,535
--   started, started_timer the board and the timer after a start; returned, ticked those after a tick, before dispatch
--   Timed                 an answer and all bytes of both buffers
--   start z l s m delay, tick z l s   start and tick on a board of the bytes l, with the timer buffer s
--   EndsTimed a l s o     a contract's one clause: the answer a and the bytes l and s are those of the outcome o
-- Assumes nothing.
use Rattle.std.specs.Prelude.{◌≡◌, Ok, Err, Bool, true, cond, not, ◌&&◌, ◌||◌, List, [], ◌∷◌, map, ℕ, ◌+◌, ◌%◌, length, eqb}
use Rattle.links.specs.Queue.{first_of, cons_if, which, rearranged}
use Rattle.board.specs.declared.numbers.Size.{Size}
use Rattle.board.specs.declared.places.Place.TheVariants.{OnTimer}
use Rattle.board.specs.Places.{is_on_timer}
use Rattle.board.specs.Board.{Board, board_of, message, with_place}
use Rattle.timer.specs.declared.entry.Entry.{Entry}
use Rattle.timer.specs.Timer.{Timer, timer, timer_length, timer_of, timer_bytes, no_entry, is_used, is_due, with_entry}
use Rattle.paper.specs.declared.answer.Refusal.TheVariants.{NoDelay, NoTimerFree, BadTimer}
use Rattle.paper.specs.Effects.{give_back}
use Rattle.paper.specs.Refusals.{Test, test, no1, no2, no3, no4, no5, no6, no7, given}
use Rattle.paper.specs.Outcomes.{Outcome, judge, undispatched, dispatch}
use Rattle.paper.specs.Answers.{Answer, accepts}

-- ---- 18: the length isn't 50, a free entry isn't zero, or the messages placed 128 aren't exactly those in entries, once each
abbrev pub used : List Entry → List ℕ
used [] = []
used (e ∷ l) = cons_if (is_used e) e.message (used l)

abbrev pub free_are_zero : List Entry → Bool
free_are_zero [] = true
free_are_zero (e ∷ l) = (is_used e || eqb e.due 0) && free_are_zero l

abbrev pub on_timer : Board → List ℕ
on_timer b = which is_on_timer 1 b.places

abbrev pub good_timer : Board → List ℕ → Bool
good_timer b s = let l = (timer_of s).entries in eqb (length s) timer_length && free_are_zero l && rearranged (used l) (on_timer b)

abbrev pub no18 : Board → List ℕ → Test
no18 b s = test BadTimer (not (good_timer b s))

-- ---- 16 for delay 0, 17 if all sixteen are in use; the lowest free entry is taken
abbrev pub lowest_entry : Timer → ℕ
lowest_entry t = first_of (which (λ e. not (is_used e)) 1 t.entries)

abbrev pub no16 : ℕ → Test
no16 delay = test NoDelay (eqb delay 0)

abbrev pub no17 : Timer → Test
no17 t = test NoTimerFree (eqb (lowest_entry t) 0)

-- ---- refusals they can give: 18 after 1 and 2 and before the rest; 3 to 7 as for return
abbrev pub start_own : Size → Board → ℕ → Timer → ℕ → ℕ → List Test
start_own z b c t m delay =
    no3 c ∷ no4 z m ∷ no5 b c m ∷ no6 z b (message b m).sptr ∷ no7 b m ∷ no16 delay ∷ no17 t ∷ []

abbrev pub start_row : Size → List ℕ → Board → ℕ → List ℕ → ℕ → ℕ → List Test
start_row z l b c s m delay = no1 z l ∷ no2 z b ∷ no18 b s ∷ start_own z b c (timer_of s) m delay

abbrev pub tick_row : Size → List ℕ → Board → List ℕ → List Test
tick_row z l b s = no1 z l ∷ no2 z b ∷ no18 b s ∷ []

-- ---- the tick counter is sixteen bits and runs on past 65,535 to 0
abbrev pub wrapped : ℕ → ℕ
wrapped n = n % 65536

-- ---- Start: its place becomes 128, and its due word now plus the delay
abbrev pub started : Board → ℕ → Board
started b m = with_place b m OnTimer

abbrev pub started_timer : Timer → ℕ → ℕ → Timer
started_timer t m delay = with_entry t (lowest_entry t) (record { message = m; due = wrapped (t.ticks + delay) })

-- ---- a tick adds one to now, then returns each message whose due word equals now to its SPTR task, in entry order, and frees the entry
abbrev pub next_now : Timer → ℕ
next_now t = wrapped (t.ticks + 1)

abbrev pub returned : Size → ℕ → List Entry → Board → Board
returned z at [] b = b
returned z at (e ∷ l) b = returned z at l (cond (is_due at e) (give_back z b e.message) b)

abbrev pub freed : ℕ → Entry → Entry
freed at e = cond (is_due at e) no_entry e

abbrev pub ticked : Timer → Timer
ticked t = let at = next_now t in timer at (map (freed at) t.entries)

-- ---- the answer and all bytes of both buffers afterwards
pub record Timed : Type 0 where
  pub answer : Answer
  pub board : List ℕ
  pub timer : List ℕ

-- refused leaves the buffer as it was, as it leaves the board
abbrev pub accepting : Answer → List ℕ → List ℕ → List ℕ
accepting (Ok a) s after = after
accepting (Err q) s after = s

abbrev pub timed : Outcome → List ℕ → Timer → Timed
timed o s after = record { answer = o.answer; board = o.after; timer = accepting o.answer s (timer_bytes after) }

-- ---- both dispatch once, at the end, and hand back no value
abbrev pub start : Size → List ℕ → List ℕ → ℕ → ℕ → Timed
start z l s m delay = let b = board_of z l in let t = timer_of s in
    timed (judge l (given (start_row z l b b.running s m delay)) (dispatch z l (undispatched 0 (started b m)))) s
    (started_timer t m delay)

abbrev pub tick : Size → List ℕ → List ℕ → Timed
tick z l s = let b = board_of z l in let t = timer_of s in
    timed (judge l (given (tick_row z l b s)) (dispatch z l (undispatched 0 (returned z (next_now t) t.entries b)))) s (ticked t)

-- ---- contracts
pub record EndsTimed (a : Answer) (l s : List ℕ) (o : Timed) : Type 0 where
  pub answers : a ≡ o.answer
  pub board : l ≡ o.board
  pub timer : s ≡ o.timer
