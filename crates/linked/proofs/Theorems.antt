-- The claims of specs/Claims, proved; and with R2 `present` means that a task record isn't ten zero bytes.
-- Assumes nothing.
use mathlib.Core.Path.{◌≡◌, sym, ap, ◌∙◌}
use mathlib.Core.Logic.{⊎_elim, ◌↔◌}
use mathlib.Core.Bool.{true, true≢false}
use Rattle.board.specs.declared.records.Task.{Task}
use Rattle.board.specs.Records.{no_task}
use Rattle.board.specs.Board.{board_of}
use Rattle.board.proofs.Codec.{length-tasks, length-places}
use Rattle.paper.specs.Rules.{is_there, good_task}
use Rattle.linked.specs.Sound.{Proper}
use Rattle.linked.specs.Claims.{PassesExactly, LinksAreLists, OneWhereabouts}
use Rattle.linked.proofs.Tests.{says_good_task}
use Rattle.linked.proofs.Boards.{says_passes, passes-linked, linked_walks, passes_whereabouts}

-- ---- the claims
-- a board passes exactly if R1 to R7 hold as the paper words them
pub passes_exactly : PassesExactly
passes_exactly z l h = says_passes z (board_of z l) (length-tasks z l) (length-places z l) h

-- on a board that passes the links list what the walks visit, and links that list anything list just that
pub links_are_lists : LinksAreLists
links_are_lists z l h = (
  passes-linked z (board_of z l) (length-tasks z l) (length-places z l) h,
  linked_walks z (board_of z l) (length-tasks z l) (length-places z l) h,
)

-- on a board that passes every message is free, held by one present task, or in one queue once
pub one_whereabouts : OneWhereabouts
one_whereabouts z l h = passes_whereabouts z (board_of z l) (length-tasks z l) (length-places z l) h

-- ---- what `present` means
-- a task record that R2 allows is there exactly if it isn't ten zero bytes
pub present_not_zero : (t : Task) → good_task t ≡ true → (is_there t ≡ true) ↔ (t ≡ no_task → ⊥)
present_not_zero t e = (
  (λ h z. true≢false (sym h ∙ ap is_there z)),
  λ n. ⊎_elim (λ z. absurd (n z)) (λ (p : Proper t). p.there) ((says_good_task t).0 e),
)
