-- Calls that make one board of another: none, some and then others, one more. A board that passes, with its lists and who runs,
-- and with no message on the timer.
-- Assumes nothing.
use mathlib.Core.Path.{◌≡◌, refl, sym, ap, ◌∙◌, subst}
use mathlib.Core.Logic.{◌≢◌, ◌⊎◌, inl, inr}
use mathlib.Core.Bool.{Bool, true, false, cond, not}
use mathlib.Core.List.{List, [], ◌∷◌, ◌++◌}
use Prim.Native.Nat.{ℕ}
use native.Mathlib.Decide.{ℕ_discrete}
use lib.ListN.{length}
use borrow.Author.Tests.{eq-eqb}
use Rattle.links.specs.Chain.{All}
use Rattle.links.proofs.Members.{all_append}
use Rattle.board.specs.declared.numbers.Size.{Size}
use Rattle.board.specs.Status.{MHBS, has}
use Rattle.board.specs.Places.{is_on_timer}
use Rattle.board.specs.Board.{Board, total, bytes_of, task, place, with_running}
use Rattle.paper.specs.declared.call.Call.{Call}
use Rattle.paper.specs.Rules.{ready, may_run, first_ready, runs_next}
use Rattle.paper.specs.Refusals.{no1, no2, own_row, row, Verdict, Go, given}
use Rattle.paper.specs.Outcomes.{Outcome, accepted, undispatched, judge, body, deliver, dispatch_to, dispatch, called, effect}
use Rattle.paper.specs.History.{run}
use Rattle.paper.proofs.Histories.{after_append, answers_append}
use Rattle.linked.specs.Sound.{RunsRightly}
use Rattle.linked.proofs.Chosen.{leads_may}
use Rattle.kept.specs.Settled.{Settled, Fitting, AllFit}
use Rattle.kept.specs.Claims.{Sizes}
use Rattle.kept.proofs.Fitting.{board-bytes, bytes_fit}
use Rattle.kept.proofs.Dispatching.{settled_running, next_rightly, runs-byte}
use Rattle.kept.proofs.Theorems.{settled_passes}
use Rattle.kept.proofs.Going.{go_from}
use Rattle.reached.specs.Claims.{IsAccepted, NoneOnTimer}

-- ---- a board that passes, with its lists and the task c that runs; no message is on the timer
pub record Passing (z : Size) (b : Board) (c : ℕ) : Type 0 where
  pub order : List ℕ
  pub queues : ℕ → List ℕ
  pub settled : Settled z b order queues
  pub runs : b.running ≡ c
  pub rightly : RunsRightly b c
  pub idle : has (task b c).stat MHBS ≡ false
  pub untimed : NoneOnTimer b

-- where one place changes, and not to the timer, it stays so
pub still_untimed : (b d : Board) (m : ℕ) → NoneOnTimer b → ((j : ℕ) → j ≢ m → place d j ≡ place b j)
    → is_on_timer (place d m) ≡ false → NoneOnTimer d
still_untimed b d m h o e j = step (ℕ_discrete j m)
  where
    step : Dec (j ≡ m) → is_on_timer (place d j) ≡ false
    step (yes i) = ap (λ (x : ℕ). is_on_timer (place d x)) i ∙ e
    step (no i) = ap is_on_timer (o j i) ∙ h j

-- ---- the calls, none refused, make b of y
abbrev pub Makes : Size → Board → List Call → Board → Type 0
Makes z y calls b = let made = run z (bytes_of y) calls in
    AllFit calls × (made.after ≡ bytes_of b) × All IsAccepted made.answers

-- no calls
pub makes_none : (z : Size) (b : Board) → Makes z b [] b
makes_none z b = (tt, refl, tt)

-- some, and then others
pub makes_then : (z : Size) (x y b : Board) (calls more : List Call) → Makes z x calls y → Makes z y more b
    → Makes z x (calls ++ more) b
makes_then z x y b calls more (f, e, o) (g, d, p) = (
  all_append Fitting calls more f g,
  after_append z (bytes_of x) calls more ∙ ap (λ (l : List ℕ). (run z l more).after) e ∙ d,
  subst (All IsAccepted) (sym (answers_append z (bytes_of x) calls more))
      (all_append IsAccepted (run z (bytes_of x) calls).answers _ o
      (subst (λ (l : List ℕ). All IsAccepted (run z l more).answers) (sym e) p)),
)

-- ---- one call more: on y, where c runs, it makes x, where d runs; either the same task or the only one that is ready on x
module _ (z : Size) (a : Sizes z) (y : Board) (c : ℕ) (p : Passing z y c) (call : Call) (x : Board) (d : ℕ)
    (q : Passing z x d) where
  abbrev l : List ℕ
  l = bytes_of y

  -- the board after the effect: byte 1 still names c
  abbrev e : Board
  e = with_running x c

  settled_e : Settled z e q.order q.queues
  settled_e =
      settled_running z x q.order q.queues c (runs-byte z y p.order p.queues a p.settled c p.rightly)
      q.settled

  next_is : (d ≡ c) ⊎ ((j : ℕ) → ready x j ≡ true → j ≡ d) → runs_next z e ≡ d
  next_is w = step w (ℕ_discrete d 0) (ℕ_discrete (runs_next z e) 0)
    where
      right : RunsRightly e (runs_next z e)
      right = next_rightly z e q.order q.queues a settled_e

      step : (d ≡ c) ⊎ ((j : ℕ) → ready x j ≡ true → j ≡ d) → Dec (d ≡ 0) → Dec (runs_next z e ≡ 0) → runs_next z e ≡ d
      step (inl h) (yes i) k = right.nobody.1 (q.rightly.nobody.0 i) ∙ sym i
      step (inl h) (no i) k =
          ap (λ (t : Bool). cond t c (first_ready z e)) (ap (may_run z x) (sym h) ∙ leads_may z x d (q.rightly.leads i)) ∙ sym h
      step (inr h) i (yes k) = k ∙ sym (q.rightly.nobody.1 (right.nobody.0 k))
      step (inr h) i (no k) = h (runs_next z e) (right.leads k).awake

  row_goes : given (own_row z y c call) ≡ Go → given (row z (bytes_of y) y c call) ≡ Go
  row_goes g =
      let s = p.settled in
      let w = bytes_fit z y s.fits s.regular.zeros in
      let r = subst (RunsRightly y) (sym p.runs) p.rightly in
      let i = ap (λ (k : ℕ). has (task y k).stat MHBS) p.runs ∙ p.idle in
      go_from (no1 z l) (no2 z y ∷ own_row z y c call) (ap not (eq-eqb (length l) (total z) w.long))
      (go_from (no2 z y) (own_row z y c call) (ap not (settled_passes z y a s.fits p.order p.queues s r i)) g)

  -- who runs is settled, and nobody is handed a message
  dispatch-leaves : runs_next z e ≡ d → (v : ℕ) → dispatch z l (undispatched v e) ≡ accepted v d 0 (bytes_of x)
  dispatch-leaves n v =
      ap (λ (k : ℕ). dispatch_to z l (undispatched v (with_running e k)) k) n
      ∙ ap (λ (t : Bool). cond t (deliver z l (undispatched v (with_running e d)) d) (accepted v d 0 (bytes_of (with_running e d))))
      q.idle
      ∙ ap (λ (k : ℕ). accepted v d 0 (bytes_of (with_running x k))) (sym q.runs)

  -- so one call makes x
  pub makes_call : Fitting call → given (own_row z y c call) ≡ Go → (body z y c call).board ≡ with_running x c
      → (d ≡ c) ⊎ ((j : ℕ) → ready x j ≡ true → j ≡ d) → Makes z y (call ∷ []) x
  makes_call f g h w =
      let v : ℕ = (body z y c call).value in
      let made : effect z l call ≡ accepted v d 0 (bytes_of x) =
      ap (λ (b : Board). called z l b b.running call) (board-bytes z y p.settled.fits)
      ∙ ap (λ (k : ℕ). called z l y k call) p.runs
      ∙ ap (λ (t : Verdict). judge l t (dispatch z l (body z y c call))) (row_goes g)
      ∙ ap (λ (b : Board). dispatch z l (undispatched v b)) h ∙ dispatch-leaves (next_is w) v in (
        (f, tt),
        ap (λ (o : Outcome). o.after) made,
        ((v, d, 0, ap (λ (o : Outcome). o.answer) made), tt),
      )
