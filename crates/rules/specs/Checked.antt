-- The check's answer, and what it is put together from. The contracts of src/ cite this file.
--   good_by e z ..      R4 of a message by the rules of that edition, rule4_of e z b m of the message m
--   messages_seen e z b the first message that breaks R4, if any; else how many are queued. messages_if: where R4 is kept or not
--   tasks_seen z b      the first task whose record breaks R2, if any; else the first that breaks R6, and how many are present. tasks_if:
--                       where R2 is kept or not
--   earlier a b         a, or b where a is none
--   between_of e z b    R2 to R6: they hold and this is the first ready task, or the one that is named
--   leads_with b c f    the task c is ready, of no greater priority number than f, and due no message
--   ran_of z b f        R7 where f is the first ready task, if any: it passes with the task in byte 1, or is broken
--   old_ran_of b f      R7 of saved boards, where f ran; ran_by one of the two
--   rule1_of e c zeros  R1 of byte 1 and of bytes 2 and 3
--   checked_of e z b    passes with the running task, or broken with the rule that is named, by the rules of that edition
-- Assumes nothing.
use Rattle.std.specs.Prelude.{Bool, cond, not, ◌&&◌, List, ℕ, ◌%◌, eqb, ltb, Option, Some, None, Result, Err, Ok}
use Rattle.links.specs.Queue.{each, smallest_failing}
use Rattle.board.specs.declared.numbers.Size.{Size}
use Rattle.board.specs.declared.numbers.TaskNo.{TaskNo}
use Rattle.board.specs.declared.numbers.MsgNo.{MsgNo}
use Rattle.board.specs.declared.records.Message.{Message}
use Rattle.board.specs.declared.places.Place.{Place}
use Rattle.board.specs.Numbers.{task_meant, number_of_task, message_meant}
use Rattle.board.specs.Status.{MHBS, has}
use Rattle.board.specs.Places.{is_on_timer}
use Rattle.board.specs.Board.{Board, task, message, place}
use Rattle.paper.specs.Rules.{present, task_number, ready, first_ready, all_zero, good_message, rule2_at, rule6_at, rules2to6, passes}
use Rattle.paper.specs.declared.answer.Rule.{Rule}
use Rattle.paper.specs.declared.answer.Rule.TheVariants.{R7}
use Rattle.paper.specs.Named.{broken2to6, broken_rule}
use Rattle.paper.specs.Conversion.{old_passes, old_broken}
use Rattle.queue_rules.specs.Walks.{counted, queued, breaking}
use Rattle.rules.specs.declared.records.Tasks.{Tasks}
use Rattle.rules.specs.declared.records.Messages.{Messages}
use Rattle.rules.specs.declared.Edition.{Edition}
use Rattle.rules.specs.declared.Edition.TheVariants.{Today, Old}

-- a broken rule, or who runs
abbrev pub Checked : Type 0
Checked = Result (Option TaskNo) Rule

abbrev pub messages_of : Option MsgNo → ℕ → Messages
messages_of m n = record { breaks4 = m; queued = n }

-- when boards were saved no message was on the timer
abbrev pub good_by : Edition → Size → (ℕ → Bool) → Message → Place → Bool
good_by Today z there u p = good_message z there u p
good_by Old z there u p = good_message z there u p && not (is_on_timer p)

abbrev pub rule4_of : Edition → Size → Board → ℕ → Bool
rule4_of edition z b m = good_by edition z (present b) (message b m) (place b m)

abbrev pub messages_if : Edition → Size → Board → Bool → Messages
messages_if edition z b kept =
    cond kept (messages_of None (counted (queued b) z.messages))
    (messages_of (message_meant z (smallest_failing (rule4_of edition z b) z.messages)) 0)

abbrev pub messages_seen : Edition → Size → Board → Messages
messages_seen edition z b = messages_if edition z b (each (rule4_of edition z b) z.messages)

abbrev pub tasks_of : Option TaskNo → (Option TaskNo) → ℕ → Tasks
tasks_of k j n = record { breaks2 = k; breaks6 = j; present = n }

abbrev pub tasks_if : Size → Board → Bool → Tasks
tasks_if z b kept =
    cond kept (tasks_of None (breaking z (rule6_at b)) (counted (present b) z.tasks)) (tasks_of (breaking z (rule2_at b)) None 0)

abbrev pub tasks_seen : Size → Board → Tasks
tasks_seen z b = tasks_if z b (each (rule2_at b) z.tasks)

abbrev pub earlier : Option TaskNo → (Option TaskNo) → (Option TaskNo)
earlier (Some k) t = Some k
earlier None t = t

abbrev pub between_of : Edition → Size → Board → Checked
between_of edition z b = let r4 = rule4_of edition z b in
    cond (rules2to6 z b r4) (Ok (task_meant z (first_ready z b))) (Err (broken2to6 z b r4))

abbrev pub leads_with : Board → ℕ → ℕ → Bool
leads_with b c f = ready b c && not (ltb (task_number b f) (task_number b c)) && not (has (task b c).stat MHBS)

abbrev pub runs_with : Board → ℕ → Option TaskNo → Bool
runs_with b c (Some f) = leads_with b c f.0
runs_with b c None = eqb c 0

abbrev pub ran_of : Size → Board → Option TaskNo → Checked
ran_of z b first = let c = b.running in cond (runs_with b c first) (Ok (task_meant z c)) (Err (R7 c))

abbrev pub old_ran_of : Board → Option TaskNo → Checked
old_ran_of b first = let c = number_of_task first in cond (has (task b c).stat MHBS) (Err (R7 (c % 256))) (Ok first)

abbrev pub ran_by : Edition → Size → Board → Option TaskNo → Checked
ran_by Today z b first = ran_of z b first
ran_by Old z b first = old_ran_of b first

abbrev pub rule1_of : Edition → ℕ → List ℕ → Bool
rule1_of Today c zeros = all_zero zeros
rule1_of Old c zeros = eqb c 0 && all_zero zeros

abbrev pub checked_of : Edition → Size → Board → Checked
checked_of Today z b = cond (passes z b) (Ok (task_meant z b.running)) (Err (broken_rule z b))
checked_of Old z b = cond (old_passes z b) (Ok (task_meant z (first_ready z b))) (Err (old_broken z b))
