-- A timer buffer as code looks at it, entry by entry, counting as it goes. The contracts of src/lib.rt cite this file; that it
-- says the same as the definition of 18 is proved (proofs/Buffers), so no reader needs to believe it.
--   timed_of z b          how many messages are placed on the timer
--   named_before t i m    an entry before entry i names the message m
--   good_as b t i e       e, if used, names a message that is on the timer and no entry before entry i names; if free, it is zero
--   good_entry b t i      so does entry i
--   used_of b t           how many are used, if each is good
-- Assumes nothing.
use Rattle.std.specs.Prelude.{Bool, cond, not, ◌&&◌, ℕ, ◌-◌, eqb, Option, Some, None}
use Rattle.links.specs.Queue.{each}
use Rattle.board.specs.declared.numbers.Size.{Size}
use Rattle.board.specs.Places.{is_on_timer}
use Rattle.board.specs.Board.{Board, place}
use Rattle.timer.specs.declared.entry.Entry.{Entry}
use Rattle.timer.specs.Timer.{Timer, is_used, entry}
use Rattle.queue_rules.specs.Walks.{counted}

abbrev pub timed_of : Size → Board → ℕ
timed_of z b = counted (λ m. is_on_timer (place b m)) z.messages

abbrev pub named_before : Timer → ℕ → ℕ → Bool
named_before t i m = not (each (λ j. not (eqb (entry t j).message m)) (i - 1))

abbrev pub good_as : Board → Timer → ℕ → Entry → Bool
good_as b t i e = cond (is_used e) (is_on_timer (place b e.message) && not (named_before t i e.message)) (eqb e.due 0)

abbrev pub good_entry : Board → Timer → ℕ → Bool
good_entry b t i = good_as b t i (entry t i)

abbrev pub used_of : Board → Timer → Option ℕ
used_of b t = cond (each (good_entry b t) 16) (Some (counted (λ i. is_used (entry t i)) 16)) None
