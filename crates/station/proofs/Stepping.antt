-- What a call answers and leaves, by the tests that code makes: 1, 2, or what the call made of a board that passes. Assumes nothing.
use mathlib.Core.Path.{◌≡◌, sym, ap, ◌∙◌, subst}
use mathlib.Core.Bool.{Bool, true, false, not}
use mathlib.Core.List.{List, ◌∷◌}
use Prim.Native.Nat.{ℕ, ◌<◌}
use lib.ListN.{length, get_or}
use lib.Dec.{eqb}
use Rattle.std.specs.Prelude.{Option, Ok, Err}
use Rattle.board.specs.declared.numbers.TaskNo.{TaskNo}
use Rattle.board.specs.Numbers.{small, number_of_task}
use Rattle.board.specs.Board.{Board, board_of, total}
use Rattle.board.specs.Claims.{Bytes}
use Rattle.board.proofs.Codec.{Small, small_bytes}
use Rattle.paper.specs.declared.call.Call.{Call}
use Rattle.paper.specs.declared.answer.Rule.{Rule}
use Rattle.paper.specs.declared.answer.Refusal.TheVariants.{WrongLength, RuleBroken}
use Rattle.paper.specs.Refusals.{no1, no2, own_row, Verdict}
use Rattle.paper.specs.Outcomes.{Outcome, Ends, refused, judge, body, dispatch, effect}
use Rattle.kept.specs.Settled.{Fitting}
use Rattle.kept.proofs.Theorems.{small-sizes}
use Rattle.stores.specs.Answers.{Runs}
use Rattle.stores.specs.Calls.{called}
use Rattle.rules.specs.declared.Edition.TheVariants.{Today}
use Rattle.rules.specs.Checked.{checked_of, Checked}
use Rattle.paper.proofs.Rows.{given_stop, given_on}
use Rattle.paper.specs.Answers.{Answer}
use Rattle.stored.proofs.Theorems.{call_effect}
use Rattle.inner.proofs.Steps.{ends}
use Rattle.station.proofs.Answers.{sized_not, sized_so, sized-long, sized_whole, today_broken, today_kept, runs-named}

-- what a call asks for: s is the test of the length, and x what the check of the rules says
pub runner-asked : (l : List ℕ) {s : Bool} → s ≡ eqb (length l) (total small) → s ≡ true → {x : Checked}
    → x ≡ checked_of Today small (board_of small l) → {w : Option TaskNo} → x ≡ Ok w → Runs small l w
runner-asked l es h ex p =
    let (kept, named) = today_kept l ex p in
    (sized_whole l es h, (named, ap number_of_task named ∙ runs-named l kept))

-- s is the test of the length
module _ (l : List ℕ) (call : Call) {s : Bool} (es : s ≡ eqb (length l) (total small)) where
  abbrev b : Board
  b = board_of small l

  abbrev c : ℕ
  c = b.running

  -- the outcome by the verdict of the row
  abbrev by : Verdict → Outcome
  by v = judge l v (dispatch small l (body small b c call))

  -- 1
  pub step_length : s ≡ false → Ends (Err WrongLength) l (effect small l call)
  step_length h = ends (ap by (given_stop (no1 small l) (no2 small b ∷ own_row small b c call) (ap not (sized_not l es h))))

  -- it is right, and x is what the check of the rules says
  module _ (h : s ≡ true) {x : Checked} (ex : x ≡ checked_of Today small b) where
    -- 2
    pub step_broken : {r : Rule} → x ≡ Err r → Ends (Err (RuleBroken r)) l (effect small l call)
    step_broken p =
        let on = given_on (no1 small l) (no2 small b ∷ own_row small b c call) (ap not (sized_so l es h)) in
        let n = today_broken l ex p in
        ends
        (ap by (on ∙ given_stop (no2 small b) (own_row small b c call) (ap not n.0))
        ∙ ap (λ (r : Rule). refused l (RuleBroken r)) (sym n.1))

    module _ {w : Option TaskNo} (p : x ≡ Ok w) where
      -- the call was made
      pub step-made : ((i : ℕ) → get_or l i 0 < 256) → Fitting call → {a : Answer} {d : List ℕ} → ((i : ℕ) → get_or d i 0 < 256)
          → Ends a d (called small l call) → Ends a d (effect small l call)
      step-made n f {a = a} {d = d} g m =
          let k : Small (called small l call).after = subst Small m.leaves (small_bytes d g) in
          let long : Bytes small l = record { long = sized-long l es h; bytes = n } in
          subst (Ends a d) (call_effect small l call small-sizes long f (today_kept l ex p).0 k) m
