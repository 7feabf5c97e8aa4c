-- What C is told of a call, from what the call answered and left. Assumes nothing.
use mathlib.Core.Path.{◌≡◌, sym, ap, ◌∙◌}
use mathlib.Core.List.{List}
use Prim.Native.Nat.{ℕ}
use Rattle.std.specs.Prelude.{Option, None, Some}
use Rattle.board.specs.Numbers.{small}
use Rattle.paper.specs.declared.call.Call.{Call}
use Rattle.paper.specs.Answers.{handed, Answer}
use Rattle.paper.specs.Outcomes.{Ends, effect}
use Rattle.for_c.specs.Packed.{packed}
use Rattle.station_c.specs.Called.{word_for, left_for}

-- x is the call that was asked for
module _ (l : List ℕ) {x asked : Option Call} (ex : x ≡ asked) where
  pub no_call_told : x ≡ None → (255 ≡ word_for l asked) × (l ≡ left_for l asked)
  no_call_told e = let f = sym e ∙ ex in (ap (word_for l) f, ap (left_for l) f)

  pub made_told : {call : Call} {a : Answer} {d : List ℕ} {w : ℕ} → x ≡ Some call → w ≡ packed (handed a)
      → Ends a d (effect small l call) → (w ≡ word_for l asked) × (d ≡ left_for l asked)
  made_told e p m =
      let f = sym e ∙ ex in
      (p ∙ ap (λ (x : Answer). packed (handed x)) m.answers ∙ ap (word_for l) f, m.leaves ∙ ap (left_for l) f)
