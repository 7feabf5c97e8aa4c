-- Document 02, Ask 1: the rule that refusal 2 names, and the record. A reader must believe this file.
--   unless t r s       the rule r, unless t: then s
--   broken2to6 z b r4  of a board that breaks one of R2 to R6, R4 being r4 at each message: the lowest that is broken, with the smallest
--                      task or message that breaks it
--   broken_rule z b    of a board that breaks a rule: the lowest that is broken, with its record. So R6 and R7 are named only where R1 to
--                      R5 hold
-- Assumes nothing.
use Rattle.std.specs.Prelude.{Bool, cond, ℕ}
use Rattle.links.specs.Queue.{each, smallest_failing}
use Rattle.board.specs.declared.numbers.Size.{Size}
use Rattle.board.specs.Numbers.{task_no, msg_no}
use Rattle.board.specs.Board.{Board}
use Rattle.paper.specs.declared.answer.Rule.{Rule}
use Rattle.paper.specs.declared.answer.Rule.TheVariants.{R1, R2, R3, R4, R5, R6, R7}
use Rattle.paper.specs.Rules.{rule1, rule2_at, rule3, rule4_at, rule5_at, rule6_at, rules2to6}

abbrev pub unless : Bool → Rule → Rule → Rule
unless t r s = cond t s r

abbrev pub broken2to6 : Size → Board → (ℕ → Bool) → Rule
broken2to6 z b r4 =
    unless (each (rule2_at b) z.tasks) (R2 (task_no (smallest_failing (rule2_at b) z.tasks)))
    (unless (rule3 z b) R3
    (unless (each r4 z.messages) (R4 (msg_no (smallest_failing r4 z.messages)))
    (unless (each (rule5_at z b) z.tasks) (R5 (task_no (smallest_failing (rule5_at z b) z.tasks)))
    (R6 (task_no (smallest_failing (rule6_at b) z.tasks))))))

-- R7 is told with byte 1, whatever it is
abbrev pub broken_rule : Size → Board → Rule
broken_rule z b = let r4 = rule4_at z b in unless (rule1 b) R1 (unless (rules2to6 z b r4) (broken2to6 z b r4) (R7 b.running))
