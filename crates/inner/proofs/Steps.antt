-- A call's answer and bytes from the verdict of its row, and the tests that open most rows: who runs, and which message it holds.
-- Assumes nothing.
use mathlib.Core.Path.{◌≡◌, refl, sym, ap, ◌∙◌, subst}
use mathlib.Core.List.{List, ◌∷◌}
use Prim.Native.Nat.{ℕ}
use Rattle.std.specs.Prelude.{Option, Some, None, Err, Result}
use Rattle.board.specs.declared.numbers.Size.{Size}
use Rattle.board.specs.declared.numbers.TaskNo.{TaskNo}
use Rattle.board.specs.declared.numbers.MsgNo.{MsgNo}
use Rattle.board.specs.Numbers.{task_no}
use Rattle.board.specs.Board.{Board, board_of}
use Rattle.lent.specs.declared.bytes.LentMut.{LentMut}
use Rattle.lent.specs.Lent.{Becomes}
use Rattle.paper.specs.declared.call.Call.{Call}
use Rattle.paper.specs.declared.answer.Refusal.{Refusal}
use Rattle.paper.specs.declared.answer.Refusal.TheVariants.{NobodyRuns}
use Rattle.paper.specs.Refusals.{Test, no3, no4, no5, Verdict, Go, Stop, own_row, given}
use Rattle.stores.specs.Answers.{Runner, held_of, Stored, Reply, Makes, Made, reply_by, done, holds}
use Rattle.stores.specs.Calls.{body, verdict, stepping}
use Rattle.stores.specs.declared.Held.{Held}
use Rattle.paper.specs.Outcomes.{Outcome, Ends}
use Rattle.paper.proofs.Rows.{given_stop, given_on}
use Rattle.paper.specs.Answers.{Answer}
use Rattle.inner.proofs.Rows.{nobody-runs, one_runs, held_row, not_held_row}

-- an outcome ends as it says
pub ends : {a : Answer} {l : List ℕ} {o : Outcome} → o ≡ record { answer = a; after = l } → Ends a l o
ends e = record { answers = sym (ap (λ (x : Outcome). x.answer) e); leaves = sym (ap (λ (x : Outcome). x.after) e) }

-- ---- by a verdict u, of a body that comes to s on the bytes l
module _ (l : List ℕ) (s : Stored) {u : Verdict} where
  -- it is refused
  pub stopped_by : {q : Refusal} {d : List ℕ} → u ≡ Stop q → d ≡ l → Makes (Err q) d (reply_by u l s)
  stopped_by {q = q} {d = d} e f = subst (λ (v : Verdict). Makes (Err q) d (reply_by v l s)) (sym e) (record { answers = refl; leaves = f })

  -- it is done
  pub done_by : {x : ℕ} {k : Option TaskNo} {d : List ℕ} → u ≡ Go → x ≡ s.value → k ≡ s.stirred → d ≡ s.after → Makes (done x k) d (reply_by u l s)
  done_by {x = x} {k = k} {d = d} e f h g =
      subst (λ (v : Verdict). Makes (done x k) d (reply_by v l s)) (sym e) (record { answers = λ i. done (f i) (h i); leaves = g })

module _ (z : Size) (l : List ℕ) (call : Call) where
  abbrev b : Board
  b = board_of z l

  abbrev c : ℕ
  c = b.running

  abbrev stored : Stored
  stored = body z l c call

  -- a call that is refused
  pub stops : {q : Refusal} {d : List ℕ} → verdict z l call ≡ Stop q → d ≡ l → Makes (Err q) d (stepping z l call)
  stops = stopped_by l stored

  -- a call that is done
  pub does : {x : ℕ} {k : Option TaskNo} {d : List ℕ} → verdict z l call ≡ Go → x ≡ stored.value → k ≡ stored.stirred → d ≡ stored.after
      → Makes (done x k) d (stepping z l call)
  does = done_by l stored

  -- ---- a row that opens with 3: x is who runs
  module _ (tests : List Test) (row : own_row z b c call ≡ no3 c ∷ tests) {x : Option TaskNo} (found : Runner z l x) where
    -- nobody runs
    pub nobody_stops : {d : List ℕ} → x ≡ None → d ≡ l → Makes (Err NobodyRuns) d (stepping z l call)
    nobody_stops e = stops (ap given row ∙ given_stop (no3 c) tests (nobody-runs z l found e))

    -- one does: the rest of the row decides
    pub one_goes : {k : TaskNo} → x ≡ Some k → (verdict z l call ≡ given tests) × (k ≡ task_no c)
    one_goes {k = k} e = let r = one_runs z l found e in (ap given row ∙ given_on (no3 c) tests r.0, r.1)

  -- ---- a row that opens with 3, 4 and 5: h is what is held
  module _ (w : ℕ) (tests : List Test) (row : own_row z b c call ≡ no3 c ∷ no4 z w ∷ no5 b c w ∷ tests) {h : Result Held Refusal}
      (found : h ≡ held_of z b c w) where
    -- it is not: the call stops there
    pub not_held_stops : {q : Refusal} {d : List ℕ} → h ≡ Err q → d ≡ l → Makes (Err q) d (stepping z l call)
    not_held_stops {q = q} e = stops (ap given row ∙ not_held_row z b c w q tests (sym found ∙ e))

    -- it is: the rest of the row decides
    pub held_goes : {k : TaskNo} {m : MsgNo} → h ≡ holds k m
        → (verdict z l call ≡ given tests) × (k ≡ task_no c) × (m ≡ record { 0 = w })
    held_goes {k = k} {m = m} e = let r = held_row z b c w k m tests (sym found ∙ e) in (ap given row ∙ r.0, r.1, r.2)

-- ---- on a board on lent bytes
-- nothing was written
pub unmoved : {A : Type 0} {a : A} {l : LentMut} {o : Reply A} → Makes a l.bytes.now o → Made a l l o
unmoved m = record { answers = m.answers; becomes = record { bytes = m.leaves; size = refl; loan = refl } }

-- l has become d
pub made : {A : Type 0} {a : A} {l d : LentMut} {x : List ℕ} {o : Reply A} → Becomes l d x → Makes a d.bytes.now o → Made a l d o
made b m = record { answers = m.answers; becomes = record { bytes = m.leaves; size = b.size; loan = b.loan } }
