-- What a program goes by of the answer of the check, or of the conversion.
--   finding_of a     accepted, with the running task; or refused
-- Assumes nothing.
use Rattle.std.specs.Prelude.{ℕ, Result, Ok, Err}
use Rattle.paper.specs.declared.answer.Refusal.{Refusal}
use Rattle.paper.specs.Answers.{Answer}

abbrev pub finding_of : Answer → Result ℕ Refusal
finding_of (Ok a) = Ok a.running
finding_of (Err q) = Err q
