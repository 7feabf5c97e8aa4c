-- What C is told of a call that it asked for by its kind, and the bytes it is left with. A reader of the exports must believe this file.
--   word_for l asked     the packed answer of document 01's effect on l; 255 for no call, whatever the board
--   left_for l asked     the bytes of that effect; for no call, l
--   TellsTimed w l s o   the word w is the packed answer of the outcome o of a start or tick, and l and s are the bytes that it leaves
-- Assumes nothing.
use Rattle.std.specs.Prelude.{◌≡◌, List, ℕ, Option, Some, None}
use Rattle.board.specs.Numbers.{small}
use Rattle.paper.specs.Answers.{handed}
use Rattle.paper.specs.Outcomes.{effect}
use Rattle.paper.specs.declared.call.Call.{Call}
use Rattle.timing.specs.Timing.{Timed}
use Rattle.for_c.specs.Packed.{packed}

abbrev pub word_for : List ℕ → Option Call → ℕ
word_for l (Some call) = packed (handed (effect small l call).answer)
word_for l None = 255

abbrev pub left_for : List ℕ → Option Call → List ℕ
left_for l (Some call) = (effect small l call).after
left_for l None = l

pub record TellsTimed (w : ℕ) (l s : List ℕ) (o : Timed) : Type 0 where
  pub word : w ≡ packed (handed o.answer)
  pub board : l ≡ o.board
  pub timer : s ≡ o.timer
