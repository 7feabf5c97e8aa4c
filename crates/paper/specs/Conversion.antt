-- Document 02, Ask 3: boards that were saved when bytes 1 to 3 were zero and the first ready task in queue order ran. The rules of that time,
-- which stay as they are whatever later requests make of the others, and the conversion of a board that keeps them. A reader must believe
-- this file.
--   old_rule1 b         R1 over bytes 1 to 3; old_rule4_at z b m R4 without the timer; old_rule7 z b R7 of the task that ran then. R2, R3, R5
--                       and R6 have not changed since (Rules)
--   old_passes z b      all of them; old_broken z b the lowest that is broken, and its record
--   convert z l         byte 1 becomes the task that ran by the old rules, and nothing else; a board that breaks them is refused as it was
-- Assumes nothing.
use Rattle.std.specs.Prelude.{Bool, not, ◌&&◌, List, [], ◌∷◌, ℕ, eqb, set}
use Rattle.board.specs.declared.numbers.Size.{Size}
use Rattle.board.specs.Status.{MHBS, has}
use Rattle.board.specs.Places.{is_on_timer}
use Rattle.board.specs.Board.{Board, board_of, task, place}
use Rattle.paper.specs.declared.answer.Rule.{Rule}
use Rattle.paper.specs.declared.answer.Rule.TheVariants.{R1, R7}
use Rattle.paper.specs.Rules.{first_ready, rule1, rule4_at, rules2to6}
use Rattle.paper.specs.Named.{unless, broken2to6}
use Rattle.paper.specs.Refusals.{Test, no1, no2_by, given}
use Rattle.paper.specs.Outcomes.{Outcome, judge, accepted}

-- ---- the old rules
abbrev pub old_rule1 : Board → Bool
old_rule1 b = eqb b.running 0 && rule1 b

-- no message was on the timer
abbrev pub old_rule4_at : Size → Board → ℕ → Bool
old_rule4_at z b m = rule4_at z b m && not (is_on_timer (place b m))

abbrev pub old_rule7 : Size → Board → Bool
old_rule7 z b = not (has (task b (first_ready z b)).stat MHBS)

abbrev pub old_passes : Size → Board → Bool
old_passes z b = old_rule1 b && rules2to6 z b (old_rule4_at z b) && old_rule7 z b

abbrev pub old_broken : Size → Board → Rule
old_broken z b = let r4 = old_rule4_at z b in
    unless (old_rule1 b) R1 (unless (rules2to6 z b r4) (broken2to6 z b r4) (R7 (first_ready z b)))

abbrev pub old_no2 : Size → Board → Test
old_no2 z b = no2_by (old_broken z b) (old_passes z b)

-- ---- the conversion
-- byte 1 written
abbrev pub converted : Size → List ℕ → Outcome
converted z l = let c = first_ready z (board_of z l) in accepted 0 c 0 (set l 1 c)

abbrev pub convert : Size → List ℕ → Outcome
convert z l = judge l (given (no1 z l ∷ old_no2 z (board_of z l) ∷ [])) (converted z l)
