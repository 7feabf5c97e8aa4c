-- Document 01, 'Numbers handed back', and document 02, Ask 1: what each answer says. A reader must believe this file.
--   rule_number r    the number of a broken rule, 1 to 7; record_number r the task or message that it names, 0 for R1 and R3, byte 1 for R7
--   told q           the number of a refusal, and with 2 the rule and the record, else zeros; number_of q its number alone
--   Answer           accepted with three values, or refused; accepts v c m is accepted with these
--   handed a         the papers' numbers and values of an answer: 0 and three values if accepted, else what is told and zeros
-- Assumes nothing.
use Rattle.std.specs.Prelude.{ℕ, Result, Ok, Err}
use Rattle.paper.specs.declared.answer.Rule.{Rule}
use Rattle.paper.specs.declared.answer.Rule.TheVariants.{R1, R2, R3, R4, R5, R6, R7}
use Rattle.paper.specs.declared.answer.Refusal.{Refusal}
use Rattle.paper.specs.declared.answer.Refusal.TheVariants.{WrongLength, RuleBroken, NobodyRuns, NoSuchMessage, NotHeld, NoSuchTask}
use Rattle.paper.specs.declared.answer.Refusal.TheVariants.{BadPriority, NotInstallable, BadStatus, TaskBusy, NoneFree, NotQueued}
use Rattle.paper.specs.declared.answer.Refusal.TheVariants.{NotItsSender, BadSender, NothingToDeliver, NoDelay, NoTimerFree, BadTimer}
use Rattle.paper.specs.declared.answer.Accepted.{Accepted}

-- ---- the rule and the record
abbrev pub rule_number : Rule → ℕ
rule_number R1 = 1
rule_number (R2 k) = 2
rule_number R3 = 3
rule_number (R4 m) = 4
rule_number (R5 k) = 5
rule_number (R6 k) = 6
rule_number (R7 c) = 7

abbrev pub record_number : Rule → ℕ
record_number R1 = 0
record_number (R2 k) = k.0
record_number R3 = 0
record_number (R4 m) = m.0
record_number (R5 k) = k.0
record_number (R6 k) = k.0
record_number (R7 c) = c

-- ---- a refusal
pub record Told : Type 0 where
  pub number : ℕ
  pub rule : ℕ
  pub record_no : ℕ

abbrev pub only : ℕ → Told
only n = record { number = n; rule = 0; record_no = 0 }

abbrev pub told : Refusal → Told
told WrongLength = only 1
told (RuleBroken r) = record { number = 2; rule = rule_number r; record_no = record_number r }
told NobodyRuns = only 3
told NoSuchMessage = only 4
told NotHeld = only 5
told NoSuchTask = only 6
told BadPriority = only 7
told NotInstallable = only 8
told BadStatus = only 9
told TaskBusy = only 10
told NoneFree = only 11
told NotQueued = only 12
told NotItsSender = only 13
told BadSender = only 14
told NothingToDeliver = only 15
told NoDelay = only 16
told NoTimerFree = only 17
told BadTimer = only 18

abbrev pub number_of : Refusal → ℕ
number_of q = (told q).number

-- ---- an answer
abbrev pub Answer : Type 0
Answer = Result Accepted Refusal

abbrev pub accepts : ℕ → ℕ → ℕ → Answer
accepts v c m = Ok (record { value = v; running = c; delivered = m })

pub record Handed : Type 0 where
  pub number : ℕ
  pub value : ℕ
  pub running : ℕ
  pub delivered : ℕ
  pub rule : ℕ
  pub record_no : ℕ

abbrev pub handed : Answer → Handed
handed (Ok a) = record { number = 0; value = a.value; running = a.running; delivered = a.delivered; rule = 0; record_no = 0 }
handed (Err q) =
    record { number = number_of q; value = 0; running = 0; delivered = 0; rule = (told q).rule; record_no = (told q).record_no }
