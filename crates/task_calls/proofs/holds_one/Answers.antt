-- `task_calls::holds_one` meets its contract.
use mathlib.Core.Path.{refl}
use mathlib.Core.Bool.{Bool}
use Prim.Native.Nat.{ℕ}
use Rattle.std.proofs.Common.{rules}
use Rattle.board.specs.Places.{is_held_by}
use Rattle.board.specs.Board.{place}
use Rattle.lent.specs.Lent.{board}
use Rattle.task_calls.proofs.Searches.{any_place, any_says}
use Rattle.task_calls.proofs.holds_one.Goals as goal

pub returns : goal.returns
returns c =
    let held : ℕ → Bool = λ m. is_held_by c.args.k.0 (place (board c.args.l) m) in
    let run = c.any.ensures.runs in
    any_place c.args.l.size c.args.l.bytes.now (is_held_by c.args.k.0) refl c.any.result
    (any_says (λ a r d e. search rules) held (λ x t e. search rules) c.new.ensures.start c.new.ensures.end c.new.ensures.exhausted
    c.any.result run.0 run.1 run.2)
