-- Who runs after an accepted call: the claims of specs/Claims on it, proved.
-- Assumes nothing.
use mathlib.Core.Path.{◌≡◌, refl, sym, ap, ◌∙◌, subst}
use mathlib.Core.Logic.{◌≢◌}
use mathlib.Core.Bool.{Bool, cond, true≢false}
use mathlib.Core.List.{List}
use Prim.Native.Nat.{ℕ, ◌≤◌}
use native.Mathlib.Omega.{arith}
use Rattle.std.specs.Prelude.{Err}
use Rattle.links.proofs.Bools.{cond_holds}
use Rattle.board.specs.declared.numbers.Size.{Size}
use Rattle.board.specs.Status.{MHBS, has}
use Rattle.board.specs.Board.{Board, board_of, bytes_of, task, with_running}
use Rattle.paper.specs.declared.call.Call.{Call}
use Rattle.paper.specs.declared.answer.Refusal.{Refusal}
use Rattle.paper.specs.declared.answer.Refusal.TheVariants.{NothingToDeliver}
use Rattle.paper.specs.Answers.{number_of, handed, accepts, Answer}
use Rattle.paper.specs.Rules.{task_number, empty_queue, may_run, first_ready, runs_next}
use Rattle.paper.specs.Refusals.{row, Verdict, Go, Stop, given}
use Rattle.paper.specs.Outcomes.{Outcome, Undispatched, undispatched, judge, accepted, body, deliver, dispatch_to, dispatch, effect}
use Rattle.paper.proofs.Theorems.{refusal-number}
use Rattle.linked.specs.Sound.{RunsRightly}
use Rattle.linked.proofs.Chosen.{leads_may}
use Rattle.kept.specs.Claims.{effected, RightlyChosen, EqualNeverPushes, SmallerRunsAtOnce}
use Rattle.kept.proofs.Fitting.{board-bytes}
use Rattle.kept.proofs.Bodies.{body_frame}
use Rattle.kept.proofs.Dispatching.{next_rightly}
use Rattle.kept.proofs.Theorems.{settles, went}

-- ---- whom an accepted call tells to run: the answer is Accepted v c m
module _ (v c m : ℕ) where
  -- a refusal is no acceptance
  not_refused : (q : Refusal) → Err q ≡ accepts v c m → ⊥
  not_refused q e = let x : number_of q ≡ 0 = ap (λ (a : Answer). (handed a).number) e in let y = (refusal-number q).0 in omega arith

  -- the task that is dispatched
  dispatched_runs : (z : Size) (l : List ℕ) (d : Undispatched) (k : ℕ) → (dispatch_to z l d k).answer ≡ accepts v c m → c ≡ k
  dispatched_runs z l d k =
      cond_holds Names (has (task d.board k).stat MHBS) (deliver z l d k) (accepted d.value k 0 (bytes_of d.board))
      (λ e. cond_holds Names (empty_queue d.board k) _ _ (λ i e. absurd (not_refused NothingToDeliver e)) (λ i. named)) (λ e. named)
    where
      Names : Outcome → Type 0
      Names o = o.answer ≡ accepts v c m → c ≡ k

      named : {w n : ℕ} → accepts w k n ≡ accepts v c m → c ≡ k
      named e = sym (ap (λ (a : Answer). (handed a).running) e)

  module _ (z : Size) (l : List ℕ) (call : Call) where
    abbrev d : Undispatched
    d = body z (board_of z l) (board_of z l).running call

    -- who runs next after the effect
    effect-runs : (effect z l call).answer ≡ accepts v c m → c ≡ runs_next z d.board
    effect-runs = step (given (row z l (board_of z l) (board_of z l).running call))
      where
        step : (w : Verdict) → (judge l w (dispatch z l d)).answer ≡ accepts v c m → c ≡ runs_next z d.board
        step Go e = dispatched_runs z l (undispatched d.value (with_running d.board (runs_next z d.board))) (runs_next z d.board) e
        step (Stop q) e = absurd (not_refused q e)

    -- and no refusal stopped it
    effect_goes : (effect z l call).answer ≡ accepts v c m → given (row z l (board_of z l) (board_of z l).running call) ≡ Go
    effect_goes e = step (given (row z l (board_of z l) (board_of z l).running call)) e
      where
        step : (w : Verdict) → (judge l w (dispatch z l d)).answer ≡ accepts v c m → w ≡ Go
        step Go e = refl
        step (Stop q) e = absurd (not_refused q e)

-- ---- the claims
pub rightly_chosen : RightlyChosen
rightly_chosen z l call v c m a h w e =
    let runs = effect-runs v c m z l call e in
    let g = effect_goes v c m z l call e in
    let (queues, s) = settles z l call a h w g in
    let t = went z l call a h w g in
    let after : (effect z l call).after ≡ bytes_of t.board =
    ap (λ (x : Verdict). (judge l x (dispatch z l (d v c m z l call))).after) g ∙ ap (λ (o : Outcome). o.after) t.ends in (
      subst (RunsRightly (effected z l call)) (sym runs) (next_rightly z (effected z l call) _ queues a s),
      ap (λ (x : List ℕ). (board_of z x).running) after ∙ ap (λ (x : Board). x.running) (board-bytes z t.board t.settled.fits)
          ∙ t.runs ∙ sym runs,
    )

pub equal_never_pushes : EqualNeverPushes
equal_never_pushes z l call v c m e leads =
    let b : Board = board_of z l in
    let d : Board = effected z l call in
    let ran = (body_frame z b b.running call).running in
    effect-runs v c m z l call e ∙ ap (λ (k : ℕ). cond (may_run z d k) k (first_ready z d)) ran
    ∙ ap (λ (t : Bool). cond t b.running (first_ready z d)) (leads_may z d b.running leads)

pub smaller_runs_at_once : SmallerRunsAtOnce
smaller_runs_at_once z l call v c m a h w e k r less =
    let d : Board = effected z l call in
    let ran : ℕ = (board_of z l).running in
    let right = (rightly_chosen z l call v c m a h w e).0 in
    let some : c ≢ 0 = λ i. true≢false (sym r ∙ right.nobody.0 i k) in
    let leads = right.leads some in
    (leads, λ i. let x = subst (λ (j : ℕ). task_number d j ≤ task_number d k) i (leads.smallest k r) in omega (arith, x, less))
