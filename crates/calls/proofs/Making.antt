-- A body, and dispatch behind it, are the whole call. Assumes nothing.
use mathlib.Core.Path.{subst, ◌∙◌}
use Rattle.std.specs.Prelude.{Option}
use Rattle.board.specs.declared.numbers.TaskNo.{TaskNo}
use Rattle.board.specs.Numbers.{number_of_task}
use Rattle.lent.specs.declared.bytes.LentMut.{LentMut}
use Rattle.paper.specs.declared.call.Call.{Call}
use Rattle.paper.specs.Answers.{Answer}
use Rattle.stores.specs.Answers.{Runner, Made, Ended, Body}
use Rattle.stores.specs.Calls.{stepping, finish, called}

-- the body makes mid of the board old, and dispatch makes new of that; x runs
pub makes : (call : Call) {old mid new : LentMut} {x : Option TaskNo} → Runner old.size old.bytes.now x → {y : Body}
    → Made y old mid (stepping old.size old.bytes.now call) → {a : Answer}
    → Ended a mid new (finish mid.size (number_of_task x) y mid.bytes.now) → Ended a old new (called old.size old.bytes.now call)
makes call {mid = mid} {new = new} ex h {a = a} e =
    let b = h.becomes in
    let f = subst (Ended a mid new) (λ i. finish (b.size i) (ex.1 i) (h.answers i) (b.bytes i)) e in
    record {
      answers = f.answers;
      becomes = record { bytes = f.becomes.bytes; size = f.becomes.size ∙ b.size; loan = f.becomes.loan ∙ b.loan };
    }
