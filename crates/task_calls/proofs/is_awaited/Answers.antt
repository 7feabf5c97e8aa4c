-- `task_calls::is_awaited` meets its contract.
use mathlib.Core.Path.{◌≡◌, ◌∙◌}
use mathlib.Core.Logic.{inl, inr}
use mathlib.Core.Bool.{Bool, ◌&&◌}
use Prim.Native.Nat.{ℕ}
use lib.Dec.{eqb}
use Rattle.std.proofs.Common.{rules}
use Rattle.board.specs.Places.{is_on_timer}
use Rattle.board.specs.Board.{place, message}
use Rattle.lent.specs.Lent.{board}
use Rattle.task_calls.proofs.Searches.{any_each, any_says}
use Rattle.task_calls.proofs.is_awaited.Goals as goal

pub returns : goal.returns
returns c =
    let b = board c.args.l in
    let returns_to : ℕ → Bool = λ m. is_on_timer (place b m) && eqb (message b m).sptr c.args.k.0 in
    let run = c.any.ensures.runs in
    any_each returns_to c.args.l.size.messages c.any.result
    (any_says (λ a r d e. search rules) returns_to
    (λ m t e. elim e.met.0.said-raw.1.1.1.1 as (λ h. t ≡ returns_to m) [
      | inl h ↦ h.2.1.1.1.1.1 ∙ (λ i. h.1 i && eqb (h.2.1.0.ensures i).sptr (h.2.1.1.1.0.ensures i))
      | inr h ↦ h.2 ∙ h.0 ∙ (λ i. h.1 i && eqb (message b m).sptr c.args.k.0)
    ])
    c.new.ensures.start c.new.ensures.end c.new.ensures.exhausted c.any.result run.0 run.1 run.2)
