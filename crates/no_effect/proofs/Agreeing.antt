-- Two boards alike and two calls: where the rows of refusals and the values are the same, and the boards before dispatch are but
-- for DEBUG and MROB, the answers are the same and the boards left are alike.
-- Assumes nothing.
use mathlib.Core.Path.{◌≡◌, refl, sym, ap, ap₂, ◌∙◌, subst}
use mathlib.Core.Bool.{Bool, true, not}
use mathlib.Core.List.{List, ◌∷◌}
use Prim.Native.Nat.{ℕ}
use lib.Dec.{eqb}
use lib.ListN.{length, get_or}
use borrow.Author.Tests.{eqb-true, not-false}
use Rattle.board.specs.declared.numbers.Size.{Size}
use Rattle.board.specs.Records.{Byte}
use Rattle.board.specs.Board.{Board, total, board_of, bytes_of}
use Rattle.paper.specs.declared.call.Call.{Call}
use Rattle.paper.specs.declared.answer.Rule.{Rule}
use Rattle.paper.specs.declared.answer.Refusal.TheVariants.{WrongLength, RuleBroken}
use Rattle.paper.specs.Rules.{passes}
use Rattle.paper.specs.Named.{broken_rule}
use Rattle.paper.specs.Refusals.{Test, test, no1, no2, own_row, row, Verdict, Go, Stop, given}
use Rattle.paper.specs.Outcomes.{Outcome, accepted, judge, Undispatched, body, dispatch, effect}
use Rattle.paper.specs.Answers.{accepts}
use Rattle.kept.specs.Settled.{Fitting}
use Rattle.kept.specs.Claims.{Sizes}
use Rattle.kept.proofs.Reading.{go_passed}
use Rattle.kept.proofs.Fitting.{fits-board}
use Rattle.kept.proofs.Bodies.{body_settles}
use Rattle.kept.proofs.Theorems.{sound_settled, sound-awake, passing-sound}
use Rattle.bare.specs.Bare.{bare_board}
use Rattle.no_effect.specs.Claims.{Alike}
use Rattle.bare.proofs.Reading.{passes-bare, broken_bare}
use Rattle.no_effect.proofs.Dispatching.{chosen, chosen_bare, left, delivered, left_alike, delivered-bare, Returns}
use Rattle.no_effect.proofs.Dispatching.{left_returns, dispatch-leaves}

-- ---- what the two bits don't matter to is the same of two boards
pub same : {A : Type 0} (f : Board → A) → ((b : Board) → f (bare_board b) ≡ f b) → (b d : Board) → bare_board b ≡ bare_board d
    → f b ≡ f d
same f h b d e = sym (h b) ∙ ap f e ∙ h d

-- with who runs next in byte 1 they are still the same but for the two bits
same_chosen : (z : Size) (b d : Board) → bare_board b ≡ bare_board d → bare_board (chosen z b) ≡ bare_board (chosen z d)
same_chosen z b d e = sym (chosen_bare z b) ∙ ap (chosen z) e ∙ chosen_bare z d

-- ---- two outcomes
abbrev pub Agree : Size → Outcome → Outcome → Type 0
Agree z o p = (o.answer ≡ p.answer) × Alike z o.after p.after

-- a refusal leaves the boards that were
pub judge_agree : (z : Size) (l d : List ℕ) (v w : Verdict) (o p : Outcome) → Alike z l d → v ≡ w
    → (v ≡ Go → w ≡ Go → Agree z o p) → Agree z (judge l v o) (judge d w p)
judge_agree z l d v w o p a e h = subst (λ (u : Verdict). Agree z (judge l v o) (judge d u p)) e (step v refl)
  where
    step : (u : Verdict) → v ≡ u → Agree z (judge l u o) (judge d u p)
    step Go g = h g (sym e ∙ g)
    step (Stop q) g = (refl, a)

-- 1 and 2 apply to both or to none
pub verdicts : (z : Size) (l d : List ℕ) (tests others : List Test) → Alike z l d → tests ≡ others
    → given (no1 z l ∷ no2 z (board_of z l) ∷ tests) ≡ given (no1 z d ∷ no2 z (board_of z d) ∷ others)
verdicts z l d tests others a e =
    let long = ap (λ (n : ℕ). test WrongLength (not (eqb n (total z)))) a.long in
    let pass = same (passes z) (passes-bare z) (board_of z l) (board_of z d) a.boards in
    let broken = same (broken_rule z) (broken_bare z) (board_of z l) (board_of z d) a.boards in
    let rules = ap₂ (λ (r : Rule) (t : Bool). test (RuleBroken r) (not t)) broken pass in
    λ i. given (long i ∷ rules i ∷ e i)

-- ---- a call that is accepted
abbrev pub begun : Size → Board → Call → Undispatched
begun z b call = body z b b.running call

-- it ends with the board that dispatch leaves, and this reads back
record Ended (z : Size) (l : List ℕ) (x : Undispatched) : Type 0 where
  ends : let d = chosen z x.board in dispatch z l x ≡ accepted x.value d.running (delivered z d) (bytes_of (left z d))
  returns : Returns z (left z (chosen z x.board))

passed : (z : Size) (l : List ℕ) (b : Board) (c : ℕ) (call : Call) → given (row z l b c call) ≡ Go
    → (length l ≡ total z) × (passes z b ≡ true) × (given (own_row z b c call) ≡ Go)
passed z l b c call g =
    let long = go_passed (no1 z l) (no2 z b ∷ own_row z b c call) g in
    let rules = go_passed (no2 z b) (own_row z b c call) long.1 in
    (eqb-true _ _ (not-false _ long.0), not-false (passes z b) rules.0, rules.1)

ended : (z : Size) (l : List ℕ) (call : Call) → Sizes z → ((i : ℕ) → Byte (get_or l i 0)) → Fitting call → let b = board_of z l in
    given (row z l b b.running call) ≡ Go → Ended z l (begun z b call)
ended z l call a h w g =
    let b = board_of z l in
    let (long, rules, own) = passed z l b b.running call g in
    let f = fits-board z l (record { long = long; bytes = h }) in
    let s = passing-sound z b a f rules in
    let awake = sound-awake z b a f s in
    let t = body_settles z b s.order s.queues b.running call a w (sound_settled z b a f s) awake s.idle own in
    let x = begun z b call in
    record { ends = dispatch-leaves z x.board _ _ a t l x.value; returns = left_returns z x.board _ _ a t }

ends_agree : (z : Size) (l d : List ℕ) (x y : Undispatched) → x.value ≡ y.value → bare_board x.board ≡ bare_board y.board
    → Ended z l x → Ended z d y → Agree z (dispatch z l x) (dispatch z d y)
ends_agree z l d x y v e s t =
    let b : Board = chosen z x.board in
    let c : Board = chosen z y.board in
    let alike = same_chosen z x.board y.board e in
    let given = same (delivered z) (delivered-bare z) b c alike in
    let lefts = same (λ b. bare_board (left z b)) (left_alike z) b c alike in
    rw (s.ends, t.ends) (
      λ i. accepts (v i) (alike i).running (given i),
      record {
        long = s.returns.0.long ∙ sym t.returns.0.long;
        boards = ap bare_board s.returns.1 ∙ lefts ∙ sym (ap bare_board t.returns.1);
      },
    )

-- ---- two calls
module _ (z : Size) (l d : List ℕ) (call other : Call) (a : Sizes z) (h : (i : ℕ) → Byte (get_or l i 0))
    (k : (i : ℕ) → Byte (get_or d i 0)) (w : Fitting call) (u : Fitting other) (e : Alike z l d) where
  abbrev b : Board
  b = board_of z l

  abbrev c : Board
  c = board_of z d

  pub effects_agree : own_row z b b.running call ≡ own_row z c c.running other
      → (begun z b call).value ≡ (begun z c other).value
      → (given (own_row z b b.running call) ≡ Go → bare_board (begun z b call).board ≡ bare_board (begun z c other).board)
      → Agree z (effect z l call) (effect z d other)
  effects_agree rows values boards =
      judge_agree z l d (given (row z l b b.running call)) (given (row z d c c.running other)) _ _ e
      (verdicts z l d (own_row z b b.running call) (own_row z c c.running other) e rows)
      (λ g n. ends_agree z l d (begun z b call) (begun z c other) values (boards (passed z l b b.running call g).2)
      (ended z l call a h w g) (ended z d other a k u n))
