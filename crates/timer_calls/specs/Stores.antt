-- What code stores for start and for tick, on the bytes l of a board and s of a timer buffer. Contracts of code cite this file;
-- that it comes to the definitions of start and tick is proved (timer_stored), so no reader needs to believe it.
--   Reply, Makes             what an inner step answers and leaves of both buffers
--   Made a old new s o       the same of a board on lent bytes and the buffer s: a contract's one clause; Ended of a whole call
--   entry_meant n            the entry of that number, none for 0
--   starting_held, starting  start behind 18: of a held message m, and of any
--   start_called             and dispatch behind it
--   given_back z l m         message m placed at its SPTR task; nothing where one of the two isn't on the board
--   returned_bytes z at es l the board once each message that is due in the entries es has gone back, in entry order
--   any_due at es           one of the entries is due
--   returning, ticking      a tick's work on both buffers, whether there was any, and whoever may then outrank who ran
--   tick_called             and dispatch behind it
-- Assumes nothing.
use Rattle.std.specs.Prelude.{◌≡◌, ℕ, ◌+◌, ◌%◌, Bool, false, cond, ◌||◌, List, [], ◌∷◌, map, Option, Some, None, eqb}
use Rattle.board.specs.declared.numbers.Size.{Size}
use Rattle.board.specs.declared.numbers.TaskNo.{TaskNo}
use Rattle.board.specs.declared.places.Place.TheVariants.{OnTimer}
use Rattle.board.specs.Numbers.{outside, task_meant}
use Rattle.board.specs.Board.{board_of, message}
use Rattle.lent.specs.declared.bytes.LentMut.{LentMut}
use Rattle.lent.specs.Lent.{Becomes}
use Rattle.board.specs.Writes.{put_place}
use Rattle.timer.specs.declared.entry.Entry.{Entry}
use Rattle.timer.specs.Timer.{timer, timer_of, timer_bytes, is_due}
use Rattle.timer.specs.Writes.{put_entry}
use Rattle.paper.specs.Rules.{first_ready}
use Rattle.paper.specs.Refusals.{no6, no7, Verdict, given}
use Rattle.paper.specs.Answers.{Answer}
use Rattle.paper.specs.Outcomes.{Outcome}
use Rattle.timing.specs.Timing.{no16, no17, start_own, lowest_entry, wrapped, next_now, freed, ticked, Timed}
use Rattle.stores.specs.Effects.{pass_on}
use Rattle.stores.specs.Answers.{rests, body_by, bytes_by, Body, done}
use Rattle.stores.specs.Calls.{finish}

pub record Reply (A : Type 0) : Type 0 where
  pub answer : A
  pub board : List ℕ
  pub timer : List ℕ

pub record Makes {A : Type 0} (a : A) (l s : List ℕ) (o : Reply A) : Type 0 where
  pub answers : a ≡ o.answer
  pub board : l ≡ o.board
  pub timer : s ≡ o.timer

pub record Made {A : Type 0} (a : A) (old new : LentMut) (s : List ℕ) (o : Reply A) : Type 0 where
  pub answers : a ≡ o.answer
  pub becomes : Becomes old new o.board
  pub timer : s ≡ o.timer

pub record Ended (a : Answer) (old new : LentMut) (s : List ℕ) (o : Timed) : Type 0 where
  pub answers : a ≡ o.answer
  pub becomes : Becomes old new o.board
  pub timer : s ≡ o.timer

abbrev pub behind : Outcome → List ℕ → Timed
behind o s = record { answer = o.answer; board = o.after; timer = s }

-- ---- start
abbrev pub entry_meant : ℕ → Option ℕ
entry_meant n = cond (eqb n 0) None (Some n)

abbrev pub start_by : Verdict → Size → List ℕ → List ℕ → ℕ → ℕ → Reply Body
start_by v z l s m delay = let t = timer_of s in record {
  answer = body_by v (rests 0 l);
  board = bytes_by v l (put_place z l m OnTimer);
  timer = bytes_by v s (put_entry s (lowest_entry t) (record { message = m % 256; due = wrapped (t.ticks + delay) }));
}

abbrev pub starting_held : Size → List ℕ → List ℕ → ℕ → ℕ → Reply Body
starting_held z l s m delay = let b = board_of z l in
    start_by (given (no6 z b (message b m).sptr ∷ no7 b m ∷ no16 delay ∷ no17 (timer_of s) ∷ [])) z l s m delay

abbrev pub starting : Size → List ℕ → List ℕ → ℕ → ℕ → Reply Body
starting z l s m delay = let b = board_of z l in start_by (given (start_own z b b.running (timer_of s) m delay)) z l s m delay

abbrev pub start_called : Size → List ℕ → List ℕ → ℕ → ℕ → Timed
start_called z l s m delay = let o = starting z l s m delay in
    behind (finish z (board_of z l).running o.answer o.board) o.timer

-- ---- a tick
abbrev pub given_back : Size → List ℕ → ℕ → List ℕ
given_back z l m = let r = (message (board_of z l) m).sptr in
    cond (outside z.messages m || outside z.tasks r) l (pass_on z l m r)

abbrev pub returned_bytes : Size → ℕ → List Entry → List ℕ → List ℕ
returned_bytes z at [] l = l
returned_bytes z at (e ∷ es) l = returned_bytes z at es (cond (is_due at e) (given_back z l e.message) l)

abbrev pub any_due : ℕ → List Entry → Bool
any_due at [] = false
any_due at (e ∷ es) = is_due at e || any_due at es

abbrev pub returning : Size → List ℕ → List ℕ → ℕ → Reply Bool
returning z l s at = let t = timer_of s in record {
  answer = any_due at t.entries;
  board = returned_bytes z at t.entries l;
  timer = timer_bytes (timer t.ticks (map (freed at) t.entries));
}

abbrev pub ticking : Size → List ℕ → List ℕ → Reply (Option TaskNo)
ticking z l s = let t = timer_of s in let at = next_now t in let d = returned_bytes z at t.entries l in record {
  answer = cond (any_due at t.entries) (task_meant z (first_ready z (board_of z d))) None;
  board = d;
  timer = timer_bytes (ticked t);
}

unfoldable pub tick_called : Size → List ℕ → List ℕ → Timed
tick_called z l s = let o = ticking z l s in
    behind (finish z (board_of z l).running (done 0 o.answer) o.board) o.timer
