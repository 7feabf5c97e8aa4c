-- Document 01, 'What the board holds': DEBUG and MROB have no effect. That they are kept is in the frames of kept (Touched). As
-- statements; their proofs are in proofs/Theorems. A reader must believe this file.
--   Alike z l d         l and d are as long, and the same board but for DEBUG and MROB of tasks that are present
--   DebugAndMrobHaveNoEffect   check and each call answer boards alike the same, and leave boards alike
--   InstallHeedsNeither        so it is for two installs with STATs that are the same but for these bits
-- Assumes nothing.
use Rattle.std.specs.Prelude.{◌≡◌, List, ℕ, length, get_or}
use Rattle.board.specs.declared.numbers.Size.{Size}
use Rattle.board.specs.Status.{stored}
use Rattle.board.specs.Records.{Byte}
use Rattle.board.specs.Board.{board_of}
use Rattle.paper.specs.declared.call.Call.{Call}
use Rattle.paper.specs.declared.call.Call.TheVariants.{Install}
use Rattle.paper.specs.Outcomes.{effect, check}
use Rattle.bare.specs.Bare.{bare, bare_board}
use Rattle.kept.specs.Settled.{Fitting}
use Rattle.kept.specs.Claims.{Sizes}

pub record Alike (z : Size) (l d : List ℕ) : Type 0 where
  pub long : length l ≡ length d
  pub boards : bare_board (board_of z l) ≡ bare_board (board_of z d)

abbrev pub DebugAndMrobHaveNoEffect : Type 0
DebugAndMrobHaveNoEffect =
    (z : Size) (l d : List ℕ) (call : Call) → Sizes z → ((i : ℕ) → Byte (get_or l i 0)) → ((i : ℕ) → Byte (get_or d i 0))
    → Fitting call → Alike z l d
    → ((check z l).answer ≡ (check z d).answer) × ((effect z l call).answer ≡ (effect z d call).answer)
    × Alike z (effect z l call).after (effect z d call).after

abbrev pub InstallHeedsNeither : Type 0
InstallHeedsNeither =
    (z : Size) (l : List ℕ) (k s t p sptr name : ℕ) → let call = Install k s p sptr name in let other = Install k t p sptr name in
    Sizes z → ((i : ℕ) → Byte (get_or l i 0)) → Fitting call → Fitting other → bare (stored s) ≡ bare (stored t)
    → ((effect z l call).answer ≡ (effect z l other).answer) × Alike z (effect z l call).after (effect z l other).after
