-- The past of some boards of three tasks and four messages, computed: which calls it has, and that they make the board again.
-- Assumes nothing.
use mathlib.Core.Path.{◌≡◌, refl}
use mathlib.Core.List.{List, [], ◌∷◌, ◌++◌}
use Prim.Native.Nat.{ℕ}
use lib.ListN.{replicate}
use Rattle.board.specs.Board.{Board, board_of, bytes_of}
use Rattle.paper.specs.declared.call.Call.TheVariants.{Install, PostInterrupt, CancelTask, Claim, Prepare, Release, Send, Forward}
use Rattle.paper.specs.declared.call.Call.TheVariants.{ReceiveAndWait, CancelMessage, WaitForInterrupt}
use Rattle.paper.specs.Outcomes.{blank}
use Rattle.paper.specs.History.{run}
use Rattle.paper.proofs.Slips.{tiny, two_queues}
use Rattle.paper.proofs.Notches.{equals}
use Rattle.past.specs.Past.{past}

-- ---- they make the board again
abbrev again : Board → List ℕ
again b = (run tiny (blank tiny) (past tiny b)).after

-- tasks 1 and 2 are ready, with the queues 2, 4 and 3, and task 1 runs; message 1 is free
case_two_queues_again : again (board_of tiny (two_queues 0)) ≡ two_queues 0
case_two_queues_again = refl

-- two equals are ready, and the later one runs
case_equals_again : again equals ≡ bytes_of equals
case_equals_again = refl

-- task 1 runs with an interrupt queued, and holds message 1, whose RPTR names the absent task 3; task 2 waits for a message
abbrev visited : List ℕ
visited =
    (1 ∷ 1 ∷ 0 ∷ 0 ∷ [])
    ++ (0x11 ∷ 0x31 ∷ 2 ∷ 0 ∷ 0 ∷ 0 ∷ 0 ∷ 0 ∷ 0 ∷ 0 ∷ [])
    ++ (0x81 ∷ 0x33 ∷ 0 ∷ 0 ∷ 0 ∷ 0 ∷ 0 ∷ 0 ∷ 0 ∷ 0 ∷ [])
    ++ replicate 10 0
    ++ (0 ∷ 0x11 ∷ 0 ∷ 0 ∷ 3 ∷ 0 ∷ 2 ∷ 0 ∷ [])
    ++ replicate 24 0
    ++ (1 ∷ 0 ∷ 0 ∷ 0 ∷ [])

case_visited_again : again (board_of tiny visited) ≡ visited
case_visited_again = refl

-- ---- which they are
-- none for the fresh board
case_past_fresh : past tiny (board_of tiny (blank tiny)) ≡ []
case_past_fresh = refl

case_past_two_queues :
    past tiny (board_of tiny (two_queues 0))
    ≡ Install 1 0x01 0x31 0 0 ∷ WaitForInterrupt ∷ Install 2 0x01 0x33 0 0 ∷ WaitForInterrupt
    ∷ PostInterrupt 1 ∷ Claim ∷ Prepare 1 0 0 0 ∷ WaitForInterrupt
    ∷ PostInterrupt 1 ∷ Claim ∷ Prepare 2 0 0x11 0 ∷ WaitForInterrupt
    ∷ PostInterrupt 1 ∷ Claim ∷ Prepare 3 0 0x11 0 ∷ WaitForInterrupt
    ∷ PostInterrupt 1 ∷ Claim ∷ Prepare 4 0 0x11 0 ∷ WaitForInterrupt
    ∷ PostInterrupt 1 ∷ Release 1 ∷ WaitForInterrupt
    ∷ PostInterrupt 1 ∷ PostInterrupt 2 ∷ Forward 2 1 ∷ Forward 4 1 ∷ Forward 3 2 ∷ []
case_past_two_queues = refl

case_past_visited :
    past tiny (board_of tiny visited)
    ≡ Install 1 0x01 0x31 0 0 ∷ WaitForInterrupt ∷ Install 2 0x01 0x33 0 0 ∷ WaitForInterrupt
    ∷ Install 3 0x01 0xFD 0 0 ∷ WaitForInterrupt
    ∷ PostInterrupt 1 ∷ Claim ∷ Send 1 3 ∷ CancelMessage 1 3 ∷ Prepare 1 0 0x11 2 ∷ WaitForInterrupt
    ∷ PostInterrupt 3 ∷ CancelTask 3 ∷ PostInterrupt 2 ∷ ReceiveAndWait ∷ PostInterrupt 1 ∷ PostInterrupt 1 ∷ []
case_past_visited = refl
