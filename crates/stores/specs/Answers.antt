-- What inner steps answer, by the paper's tables of refusals. Contracts of code cite this file; no reader needs to believe it.
--   holds c m               task c, with the message m that it holds
--   held_of z b c w         c and the message w, or the lowest of 3, 4 and 5 that applies
--   present_meant z b w     the task w, unless 6 applies
--   Stored                  what a body comes to: its value, the task other than the caller whose status may have changed, and the bytes
--   Body, done v k          what a body answers; done with this value, and this is the task other than the caller
--   with_nobody d           the answer to a body where nobody is dispatched
--   Runner z l c            c is the task that byte 1 of the bytes l names, if any
--   Runs z l c              and they hold a whole board: what a body asks for
--   body_by v d             a body with this verdict: done, or stopped
--   bytes_by v l after      the bytes with this verdict: those afterwards, or those before
--   Reply, Makes            what an inner step answers and leaves
--   Made a old new o        the answer a, and what has become of a board on lent bytes, are those of o: a contract's one clause
--   Ended a old new o       the same of a whole call
-- Assumes nothing.
use Rattle.std.specs.Prelude.{◌≡◌, cond, not, ◌||◌, List, [], ◌∷◌, ℕ, ◌≤◌, length, Option, Some, None, Result, Err, Ok}
use Rattle.board.specs.declared.numbers.Size.{Size}
use Rattle.board.specs.declared.numbers.TaskNo.{TaskNo}
use Rattle.board.specs.declared.numbers.MsgNo.{MsgNo}
use Rattle.board.specs.Numbers.{outside, task_no, task_meant, number_of_task}
use Rattle.board.specs.Board.{Board, board_of, total}
use Rattle.lent.specs.declared.bytes.LentMut.{LentMut}
use Rattle.lent.specs.Lent.{Becomes}
use Rattle.paper.specs.Rules.{present}
use Rattle.paper.specs.Outcomes.{Outcome}
use Rattle.paper.specs.Refusals.{no3, no4, no5, Verdict, Go, Stop, given}
use Rattle.paper.specs.declared.answer.Refusal.{Refusal}
use Rattle.paper.specs.Answers.{Answer, accepts}
use Rattle.stores.specs.declared.Held.{Held}
use Rattle.stores.specs.declared.Done.{Done}

-- ---- who and which
abbrev pub holds : TaskNo → MsgNo → Result Held Refusal
holds c m = Ok (record { c = c; m = m })

abbrev pub held_by : Verdict → ℕ → ℕ → Result Held Refusal
held_by Go c m = holds (task_no c) (record { 0 = m })
held_by (Stop q) c m = Err q

abbrev pub held_of : Size → Board → ℕ → ℕ → Result Held Refusal
held_of z b c w = held_by (given (no3 c ∷ no4 z w ∷ no5 b c w ∷ [])) c w

abbrev pub present_meant : Size → Board → ℕ → Option TaskNo
present_meant z b w = cond (outside z.tasks w || not (present b w)) None (Some (task_no w))

-- byte 1 is 0 or a number of the board, and c is that task
abbrev pub Runner : Size → List ℕ → Option TaskNo → Type 0
Runner z l c = (c ≡ task_meant z (board_of z l).running) × (number_of_task c ≡ (board_of z l).running)

abbrev pub Runs : Size → List ℕ → Option TaskNo → Type 0
Runs z l c = (total z ≤ length l) × Runner z l c

-- ---- a body
abbrev pub Body : Type 0
Body = Result Done Refusal

abbrev pub done : ℕ → Option TaskNo → Body
done v k = Ok (record { value = v; stirred = k })

pub record Stored : Type 0 where
  pub value : ℕ
  pub stirred : Option TaskNo
  pub after : List ℕ

-- the status of task k may have changed; that of no other task than the caller has
abbrev pub stirs : ℕ → ℕ → List ℕ → Stored
stirs v k l = record { value = v; stirred = Some (task_no k); after = l }

abbrev pub rests : ℕ → List ℕ → Stored
rests v l = record { value = v; stirred = None; after = l }

abbrev pub with_nobody : Body → Answer
with_nobody (Ok d) = accepts d.value 0 0
with_nobody (Err q) = Err q

-- ---- by a verdict
abbrev pub body_by : Verdict → Stored → Body
body_by Go d = done d.value d.stirred
body_by (Stop q) d = Err q

abbrev pub bytes_by : Verdict → List ℕ → List ℕ → List ℕ
bytes_by Go l after = after
bytes_by (Stop q) l after = l

-- ---- contracts
pub record Reply (A : Type 0) : Type 0 where
  pub answer : A
  pub after : List ℕ

pub record Makes {A : Type 0} (a : A) (l : List ℕ) (o : Reply A) : Type 0 where
  pub answers : a ≡ o.answer
  pub leaves : l ≡ o.after

-- a body with this verdict on the bytes l
abbrev pub reply_by : Verdict → List ℕ → Stored → Reply Body
reply_by v l d = record { answer = body_by v d; after = bytes_by v l d.after }

pub record Made {A : Type 0} (a : A) (old new : LentMut) (o : Reply A) : Type 0 where
  pub answers : a ≡ o.answer
  pub becomes : Becomes old new o.after

pub record Ended (a : Answer) (old new : LentMut) (o : Outcome) : Type 0 where
  pub answers : a ≡ o.answer
  pub becomes : Becomes old new o.after
