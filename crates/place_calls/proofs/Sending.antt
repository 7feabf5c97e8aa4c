-- What the functions of sends answer and leave, in plain variables: what send writes into a message, a message passed on as it
-- is, and the calls that place.
-- Assumes nothing.
use mathlib.Core.Path.{◌≡◌, refl, sym, ap, ◌∙◌, subst}
use mathlib.Core.Logic.{◌≢◌}
use mathlib.Core.List.{List, [], ◌∷◌}
use Prim.Native.Nat.{ℕ}
use borrow.Author.Tests.{eq-eqb, ne_eqb}
use Rattle.std.specs.Prelude.{Option, Some, None, Err, Result}
use Rattle.board.specs.declared.numbers.Size.{Size}
use Rattle.board.specs.declared.numbers.TaskNo.{TaskNo}
use Rattle.board.specs.declared.numbers.MsgNo.{MsgNo}
use Rattle.board.specs.declared.records.Task.{Task}
use Rattle.board.specs.declared.records.Message.{Message}
use Rattle.board.specs.Numbers.{task_no}
use Rattle.board.specs.Status.{number}
use Rattle.lent.specs.declared.bytes.LentMut.{LentMut}
use Rattle.board.specs.Board.{Board, board_of, task, message}
use Rattle.paper.specs.declared.call.Call.{Call}
use Rattle.paper.specs.declared.call.Call.TheVariants.{Send}
use Rattle.paper.specs.declared.answer.Refusal.TheVariants.{NoSuchTask, BadPriority}
use Rattle.paper.specs.Refusals.{no3, no4, no5, no6, no7, own_row, given}
use Rattle.stores.specs.Effects.{place_at, addressed_as, send, pass_on}
use Rattle.stores.specs.Answers.{held_of, present_meant, Stored, stirs, Makes, Made, reply_by, done, holds, Body}
use Rattle.stores.specs.Calls.{body, verdict, stepping, passing}
use Rattle.stores.specs.declared.Held.{Held}
use Rattle.paper.proofs.Rows.{given_stop, given_on}
use Rattle.paper.specs.declared.answer.Refusal.{Refusal}
use Rattle.inner.proofs.Rows.{task_row, no_task_row}
use Rattle.inner.proofs.Steps.{stopped_by, done_by, stops, does, held_goes}

-- ---- the message that send writes
-- it is placed so: u and t are the records of the message and of c, v the addressed one
pub sent_to : (z : Size) (l : List ℕ) (c m r : ℕ) {u v : Message} {t : Task} {d : List ℕ} → u ≡ message (board_of z l) m
    → t ≡ task (board_of z l) c → v ≡ addressed_as u t.prio c r → d ≡ place_at z l m v r → d ≡ send z l c m r
sent_to z l c m r eu et ev ed = ed ∙ (λ i. place_at z l m ((ev ∙ (λ j. addressed_as (eu j) (et j).prio c r)) i) r)

-- ---- a held message passed on as it is: to is the task that w means
module _ (z : Size) (l : List ℕ) (m w : ℕ) {to : Option TaskNo} (et : to ≡ present_meant z (board_of z l) w) where
  abbrev b : Board
  b = board_of z l

  abbrev passed : Stored
  passed = stirs 0 w (pass_on z l m w)

  -- 6: none
  pub pass_no_task : to ≡ None → Makes (Err NoSuchTask) l (passing z l m w)
  pass_no_task e = stopped_by l passed (given_stop (no6 z b w) (no7 b m ∷ []) (no_task_row z b w (sym et ∙ e))) refl

  -- it is n; u is the record of m and p its priority number
  module _ {n : TaskNo} (en : to ≡ Some n) {u : Message} (eu : u ≡ message b m) {p : ℕ} (ep : p ≡ number u.prio) where
    prio : p ≡ number (message b m).prio
    prio = ep ∙ (λ i. number (eu i).prio)

    there : given (no6 z b w ∷ no7 b m ∷ []) ≡ given (no7 b m ∷ [])
    there = given_on (no6 z b w) (no7 b m ∷ []) (task_row z b w n (sym et ∙ en)).0

    -- 7: it is 127
    pub pass_bad_priority : p ≡ 127 → Makes (Err BadPriority) l (passing z l m w)
    pass_bad_priority e =
        stopped_by l passed (there ∙ given_stop (no7 b m) [] (eq-eqb (number (message b m).prio) 127 (sym prio ∙ e))) refl

    -- it is placed
    pub passes : {d : List ℕ} → p ≢ 127 → d ≡ place_at z l m u n.0 → Makes (done 0 (Some n)) d (passing z l m w)
    passes h ed =
        let t = (task_row z b w n (sym et ∙ en)).1 in
        done_by l passed (there ∙ given_on (no7 b m) [] (ne_eqb (number (message b m).prio) 127 (λ e. h (prio ∙ e)))) refl
        (ap Some t) (ed ∙ (λ i. place_at z l m (eu i) (t i).0))

-- ---- resend, forward, return
-- a call whose row ends with 6 and 7 and whose body passes m on to the task `to m`: the message held is passed on to w
pub passes_on_lem : (lent : LentMut) (call : Call) (m : ℕ) (to : ℕ → ℕ)
    → (let z = lent.size in let l = lent.bytes.now in let b = board_of z l in let c = b.running in
    own_row z b c call ≡ no3 c ∷ no4 z m ∷ no5 b c m ∷ no6 z b (to m) ∷ no7 b m ∷ [])
    → (let z = lent.size in let l = lent.bytes.now in body z l (board_of z l).running call ≡ stirs 0 (to m) (pass_on z l m (to m)))
    → {h : Result Held Refusal} → h ≡ held_of lent.size (board_of lent.size lent.bytes.now) (board_of lent.size lent.bytes.now).running m
    → {k : TaskNo} {one : MsgNo} → h ≡ holds k one → {w : ℕ} → w ≡ to one.0 → {x : Body} {d : LentMut}
    → Made x lent d (passing lent.size lent.bytes.now one.0 w) → Made x lent d (stepping lent.size lent.bytes.now call)
passes_on_lem lent call m to row is eh by ew {x = x} {d = d} made =
    let z = lent.size in
    let l = lent.bytes.now in
    let b = board_of z l in
    let g = held_goes z l call m (no6 z b (to m) ∷ no7 b m ∷ []) row eh by in
    let at = ew ∙ (λ i. to (g.2 i).0) in
    subst (Made x lent d) ((λ i. passing z l (g.2 i).0 (at i)) ∙ (λ i. reply_by (sym g.0 i) l (sym is i))) made

-- ---- send: c holds the message as `one`, and to is the task that r means
module _ (z : Size) (l : List ℕ) (m r : ℕ) {h : Result Held Refusal} (eh : h ≡ held_of z (board_of z l) (board_of z l).running m)
    {c : TaskNo} {one : MsgNo} (by : h ≡ holds c one) {to : Option TaskNo} (et : to ≡ present_meant z (board_of z l) r) where
  abbrev board : Board
  board = board_of z l

  goes : (verdict z l (Send m r) ≡ given (no6 z board r ∷ [])) × (c ≡ task_no board.running) × (one ≡ record { 0 = m })
  goes = held_goes z l (Send m r) m (no6 z board r ∷ []) refl eh by

  -- 6: none
  pub send_no_task : to ≡ None → Makes (Err NoSuchTask) l (stepping z l (Send m r))
  send_no_task e = stops z l (Send m r) (goes.0 ∙ given_stop (no6 z board r) [] (no_task_row z board r (sym et ∙ e))) refl

  -- it is n: the message is sent to it
  pub sends : {n : TaskNo} {d : List ℕ} → to ≡ Some n → d ≡ send z l c.0 one.0 n.0
      → Makes (done 0 (Some n)) d (stepping z l (Send m r))
  sends {n = n} en ed =
      let t = task_row z board r n (sym et ∙ en) in
      does z l (Send m r) (goes.0 ∙ given_on (no6 z board r) [] t.0) refl (ap Some t.1)
      (ed ∙ (λ i. send z l (goes.1 i).0 (goes.2 i).0 (t.1 i).0))
