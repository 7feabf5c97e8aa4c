-- Document 02, Ask 4, as statements; their proofs are in proofs/Theorems. A reader must believe this file, and needs passes, run,
-- blank and Call of paper to read the first. They speak of the nineteen calls and of boards without place 128, which Ask 5 adds:
-- none of the nineteen puts a message there (CallsLeaveTheTimer in Rattle.kept, specs/Claims).
--   Reached z l      some list of the nineteen calls, made from the fresh board, ends in the bytes l
--   NoneOnTimer b    no message is on the timer, place 128
--   HasPast          a list is the bytes of a board that passes, without place 128, exactly if it is reached
--   PastRebuilds     the calls that past gives of a board that passes, without place 128, end in its very bytes, and none of them
--                    is refused
--   MadeFresh l calls d   code that meets the contracts of fresh and of the step (Rattle.station, src/lib.rt), lent l, makes it
--                    fresh, makes these calls and leaves d
--   CheckedExactly   of code: the check accepts lent bytes, and they are without place 128, exactly if there are calls which, made
--                    on a fresh board, leave those bytes
-- Assumes nothing.
use Rattle.std.specs.Prelude.{◌≡◌, ◌↔◌, true, false, List, ℕ, length, get_or}
use Rattle.links.specs.Chain.{All}
use Rattle.board.specs.declared.numbers.Size.{Size}
use Rattle.board.specs.Numbers.{small}
use Rattle.board.specs.Records.{Byte}
use Rattle.board.specs.Places.{is_on_timer}
use Rattle.board.specs.Board.{Board, total, board_of, place}
use Rattle.board.specs.Claims.{Bytes}
use Rattle.paper.specs.declared.call.Call.{Call}
use Rattle.paper.specs.Rules.{passes}
use Rattle.paper.specs.Outcomes.{blank, Ends, fresh, check}
use Rattle.paper.specs.History.{run, Made}
use Rattle.paper.specs.Answers.{Answer, accepts}
use Rattle.kept.specs.Settled.{AllFit}
use Rattle.kept.specs.Claims.{Sizes}
use Rattle.past.specs.Past.{past}

-- ---- no stricter and no looser than life
-- AllFit: the arguments are words and bytes, as the code's types hold them
abbrev pub Reached : Size → List ℕ → Type 0
Reached z l = (calls : List Call) × AllFit calls × ((run z (blank z) calls).after ≡ l)

-- no message is on the timer
abbrev pub NoneOnTimer : Board → Type 0
NoneOnTimer b = (m : ℕ) → is_on_timer (place b m) ≡ false

-- Bytes: a list of bytes, as many as a board has
abbrev pub HasPast : Type 0
HasPast =
    (z : Size) → Sizes z → (l : List ℕ)
    → (Bytes z l × (passes z (board_of z l) ≡ true) × NoneOnTimer (board_of z l)) ↔ Reached z l

-- ---- which past
abbrev pub IsAccepted : Answer → Type 0
IsAccepted a = (v : ℕ) × (c : ℕ) × (m : ℕ) × (a ≡ accepts v c m)

abbrev pub PastRebuilds : Type 0
PastRebuilds =
    (z : Size) → Sizes z → (l : List ℕ) → Bytes z l → passes z (board_of z l) ≡ true → NoneOnTimer (board_of z l)
    → let calls = past z (board_of z l) in let made = run z (blank z) calls in
    AllFit calls × (made.after ≡ l) × All IsAccepted made.answers

-- ---- the same of code
abbrev pub MadeFresh : List ℕ → List Call → List ℕ → Type 0
MadeFresh l calls d =
    (a : Answer) × (new : List ℕ) × (answers : List Answer) × Ends a new (fresh small l) × Made new calls answers d

abbrev pub CheckedExactly : Type 0
CheckedExactly =
    (l after : List ℕ) (a : Answer) → ((i : ℕ) → Byte (get_or l i 0)) → Ends a after (check small l)
    → (IsAccepted a × NoneOnTimer (board_of small l))
    ↔ ((calls : List Call) × AllFit calls × ((lent : List ℕ) → length lent ≡ total small → MadeFresh lent calls l))
