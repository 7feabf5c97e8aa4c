-- A saved board that is converted: it passes, and byte 1 alone is another.
-- Assumes nothing.
use mathlib.Core.Path.{◌≡◌, refl, sym, ap, ◌∙◌}
use mathlib.Core.Logic.{◌≢◌}
use mathlib.Core.Bool.{true, ◌&&◌, Bool, not}
use mathlib.Core.List.{List, [], ◌∷◌}
use Prim.Native.Nat.{ℕ}
use native.Mathlib.Omega.{arith}
use lib.Dec.{eqb}
use lib.ListN.{length, get_or, length-set}
use lib.Seq.{get_or-set_other}
use borrow.Author.Tests.{not-true}
use Rattle.links.specs.Queue.{each}
use Rattle.links.proofs.Bools.{both, and_true, each_at, each_all}
use Rattle.board.specs.declared.numbers.Size.{Size}
use Rattle.board.specs.Status.{MHBS, has}
use Rattle.board.specs.Places.{is_on_timer}
use Rattle.board.specs.Board.{Board, total, board_of, task, place, with_running}
use Rattle.board.specs.Writes.{put_running}
use Rattle.board.proofs.Codec.{length-tasks}
use Rattle.board.proofs.Written.{board-put-running}
use Rattle.paper.specs.Answers.{handed, Answer}
use Rattle.paper.specs.Rules.{order, queue, first_ready, rule1, rules2to6, rule7, passes, rule4_at, rule2_at, rule3, rule5_at}
use Rattle.paper.specs.Effects.{find}
use Rattle.paper.specs.Refusals.{no1, Verdict, Go, Stop, given}
use Rattle.paper.specs.Outcomes.{Outcome, judge}
use Rattle.paper.specs.Conversion.{old_rule1, old_rule7, old_passes, old_broken, old_no2, converted, convert, old_rule4_at}
use Rattle.paper.proofs.Rows.{rules_kept}
use Rattle.paper.proofs.Theorems.{accepted_passed}
use Rattle.linked.specs.Claims.{ConvertedPasses, OnlyByte1}
use Rattle.linked.proofs.Chosen.{rules3, says_rule7, first_runs, runs_alike, tasks_listed}
use Rattle.paper.specs.Rules.{rule6_at}

module _ (z : Size) (l : List ℕ) where
  abbrev b : Board
  b = board_of z l

  abbrev c : ℕ
  c = first_ready z b

  -- of the right length: the board with byte 1 so
  pub converted-board : length l ≡ total z → board_of z (put_running l c) ≡ with_running b c
  converted-board long = board-put-running z l c (omega arith)

  -- who keeps the old R4 keeps that of today
  fourth_weaker : rules2to6 z b (old_rule4_at z b) ≡ true → rules2to6 z b (rule4_at z b) ≡ true
  fourth_weaker e =
      let r23 : Bool = each (rule2_at b) z.tasks && rule3 z b in
      let old : Bool = each (old_rule4_at z b) z.messages in
      let today : Bool = each (rule4_at z b) z.messages in
      let r5 : Bool = each (rule5_at z b) z.tasks in
      let r6 : Bool = each (rule6_at b) z.tasks in
      let (to5, h6) = both (r23 && old && r5) r6 e in
      let (to4, h5) = both (r23 && old) r5 to5 in
      let (h23, h4) = both r23 old to4 in
      let kept = each_all (rule4_at z b) z.messages
      (λ m i j. (both (rule4_at z b m) (not (is_on_timer (place b m))) (each_at (old_rule4_at z b) z.messages h4 m i j)).0) in
      and_true (r23 && today && r5) r6 (and_true (r23 && today) r5 (and_true r23 today h23 kept) h5) h6

  -- and it passes where the board passed the old rules
  passes-converted : old_passes z b ≡ true → passes z (with_running b c) ≡ true
  passes-converted e =
      let old : Bool = rules2to6 z b (old_rule4_at z b) in
      let today : Bool = rules2to6 z b (rule4_at z b) in
      let (front, due) = both (old_rule1 b && old) (old_rule7 z b) e in
      let (first, middle) = both (old_rule1 b) old front in
      let listed = tasks_listed z b (length-tasks z l) (rules3 z b (old_rule4_at z b) middle) in
      let right = runs_alike b (with_running b c) c (λ k. refl) (λ k. refl) (first_runs z b (length-tasks z l) listed) in
      and_true (rule1 b && today) (rule7 z (with_running b c)) (and_true (rule1 b) today (both (eqb b.running 0) (rule1 b) first).1 (fourth_weaker middle))
      ((says_rule7 z (with_running b c) (length-tasks z l)).1 (right, not-true (has (task b c).stat MHBS) due))

pub converted_passes : ConvertedPasses
converted_passes z l v c m e =
    let (long, old) = (accepted_passed z l).2 v c m e in
    let o : Outcome = converted z l in
    let is : convert z l ≡ o = ap (λ (v : Verdict). judge l v o) (rules_kept z l (old_broken z (board_of z l)) (old_passes z (board_of z l)) [] long old) in
    let d : board_of z (convert z l).after ≡ with_running (board_of z l) (first_ready z (board_of z l)) =
    ap (λ (x : Outcome). board_of z x.after) is ∙ converted-board z l long in (
      ap (passes z) d ∙ passes-converted z l old,
      ap (λ (x : Board). x.running) d ∙ ap (λ (a : Answer). (handed a).running) (sym (ap (λ (x : Outcome). x.answer) is) ∙ e),
    )

pub only_byte_1 : OnlyByte1
only_byte_1 z l = step (given (no1 z l ∷ old_no2 z (board_of z l) ∷ [])) refl
  where
    b : Board
    b = board_of z l

    Kept : Outcome → Type 0
    Kept o =
        (length o.after ≡ length l) × ((i : ℕ) → i ≢ 1 → get_or o.after i 0 ≡ get_or l i 0)
        × (order z (board_of z o.after) ≡ order z b) × ((k : ℕ) → queue z (board_of z o.after) k ≡ queue z b k)
        × ((name : ℕ) → find z (board_of z o.after) name ≡ find z b name)

    long : given (no1 z l ∷ old_no2 z b ∷ []) ≡ Go → length l ≡ total z
    long g = ((accepted_passed z l).2 0 _ 0 (ap (λ (v : Verdict). (judge l v (converted z l)).answer) g)).0

    step : (v : Verdict) → given (no1 z l ∷ old_no2 z b ∷ []) ≡ v → Kept (judge l v (converted z l))
    step Go g = let e = converted-board z l (long g) in (
      length-set l 1 (first_ready z b),
      (λ i n. get_or-set_other l 1 i (first_ready z b) 0 n),
      ap (order z) e,
      (λ k. ap (λ (d : Board). queue z d k) e),
      λ name. ap (λ (d : Board). find z d name) e,
    )
    step (Stop q) g = (refl, (λ i n. refl), refl, (λ k. refl), λ name. refl)
