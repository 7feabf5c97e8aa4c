-- What dispatch answers and leaves, by the tests that code makes. Assumes nothing.
use mathlib.Core.Path.{◌≡◌, refl, sym, ap, ◌∙◌, subst}
use mathlib.Core.Bool.{Bool, true, false, not, cond, ◌&&◌}
use mathlib.Core.List.{List}
use Prim.Native.Nat.{ℕ, ◌%◌}
use lib.Dec.{ltb}
use borrow.Author.Tests.{not-true, not-false}
use Rattle.std.specs.Prelude.{Option, Some, None, Err}
use Rattle.board.specs.declared.numbers.Size.{Size}
use Rattle.board.specs.declared.numbers.TaskNo.{TaskNo}
use Rattle.board.specs.declared.numbers.MsgNo.{MsgNo}
use Rattle.board.specs.declared.records.Task.{Task}
use Rattle.board.specs.Numbers.{task_meant, message_meant, number_of_task}
use Rattle.board.specs.Status.{MHBS, has, is_ready, number}
use Rattle.board.specs.Board.{Board, board_of, task}
use Rattle.board.specs.Writes.{put_running}
use Rattle.board.proofs.Codec.{length-tasks}
use Rattle.board.proofs.Meant.{message_meant-message, message_meant_none}
use Rattle.paper.specs.declared.answer.Refusal.TheVariants.{NothingToDeliver}
use Rattle.paper.specs.Rules.{task_number, ready, outranks, first_ready}
use Rattle.paper.specs.Outcomes.{Outcome, Ends}
use Rattle.paper.specs.Answers.{accepts, Answer}
use Rattle.stores.specs.Changes.{clears, with_mptr, hold}
use Rattle.stores.specs.Moves.{message_behind}
use Rattle.stores.specs.Effects.{take_first}
use Rattle.lent.specs.declared.bytes.LentMut.{LentMut}
use Rattle.lent.specs.Lent.{Becomes}
use Rattle.stores.specs.Answers.{Ended, with_nobody, Body, done}
use Rattle.stores.specs.Calls.{deliver, dispatch, runs_then, finish}
use Rattle.linked.proofs.Chosen.{first_meant}
use Rattle.inner.proofs.Steps.{ends}

-- ---- who runs then: c ran before, and s is the task stirred
module _ (z : Size) (l : List ℕ) (c s : Option TaskNo) where
  abbrev b : Board
  b = board_of z l

  then_by : (t u : Bool) → ready b (number_of_task c) ≡ t → outranks b (number_of_task c) (number_of_task s) ≡ u
      → cond t (cond u (number_of_task s) (number_of_task c)) (first_ready z b) ≡ runs_then z (number_of_task c) s l
  then_by t u e f = λ i. cond (sym e i) (cond (sym f i) (number_of_task s) (number_of_task c)) (first_ready z b)

  -- the task queue is looked through: x is the first ready one
  looked : {x : Option TaskNo} → x ≡ task_meant z (first_ready z b) → ready b (number_of_task c) ≡ false → number_of_task x ≡ runs_then z (number_of_task c) s l
  looked ex e = ap number_of_task ex ∙ first_meant z b (length-tasks z l) ∙ then_by false _ e refl

  -- nobody ran
  pub then-nobody : {x : Option TaskNo} → c ≡ None → x ≡ task_meant z (first_ready z b) → number_of_task x ≡ runs_then z (number_of_task c) s l
  then-nobody e ex = looked ex (ap (λ (y : Option TaskNo). ready b (number_of_task y)) e)

  -- k did, of record t, and r is the test that it is ready
  module _ {k : TaskNo} (e : c ≡ Some k) {t : Task} (et : t ≡ task b k.0) {r : Bool} (er : r ≡ is_ready t.stat) where
    number_k : k.0 ≡ number_of_task c
    number_k = ap number_of_task (sym e)

    still : r ≡ ready b (number_of_task c)
    still = er ∙ ap (λ (x : Task). is_ready x.stat) et ∙ ap (ready b) number_k

    -- it no longer is
    pub then-waits : {x : Option TaskNo} → r ≡ false → x ≡ task_meant z (first_ready z b) → number_of_task x ≡ runs_then z (number_of_task c) s l
    then-waits h ex = looked ex (sym still ∙ h)

-- ---- behind a body that was done, c having run before it: x is who runs then, and m the bytes with that in byte 1
module _ (z : Size) (c : ℕ) (l : List ℕ) {y : Body} {v : ℕ} {s : Option TaskNo} (e : y ≡ done v s) (x : Option TaskNo)
    (ex : number_of_task x ≡ runs_then z c s l) {m : List ℕ} (em : m ≡ put_running l (number_of_task x % 256)) where
  finished : (n : ℕ) → number_of_task x ≡ n → dispatch z v m n ≡ finish z c y l
  finished n en =
      (λ i. dispatch z v (em i) (sym en i)) ∙ (λ i. dispatch z v (put_running l (ex i % 256)) (ex i)) ∙ ap (λ (y : Body). finish z c y l) (sym e)

  -- nobody
  pub finish-nobody : {a : Answer} {old new : LentMut} → x ≡ None → a ≡ with_nobody (done v s) → Becomes old new m
      → Ended a old new (finish z c y l)
  finish-nobody {a = a} {old = old} {new = new} n ea b =
      subst (Ended a old new) (finished 0 (ap number_of_task n)) (record { answers = ea; becomes = b })

  -- k
  pub finish-runs : {k : TaskNo} {a : Answer} {old new : LentMut} → x ≡ Some k → Ended a old new (dispatch z v m k.0)
      → Ended a old new (finish z c y l)
  finish-runs {k = k} {a = a} {old = old} {new = new} r = subst (Ended a old new) (finished k.0 (ap number_of_task r))
