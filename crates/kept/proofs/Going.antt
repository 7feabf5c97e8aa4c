-- Rows that let a call go on: the other way round than what a row that refuses nothing says (Reading).
-- Assumes nothing.
use mathlib.Core.Path.{◌≡◌, refl, ap, ◌∙◌}
use mathlib.Core.Logic.{◌≢◌}
use mathlib.Core.Bool.{true, false, not}
use mathlib.Core.List.{List, [], ◌∷◌}
use Prim.Native.Nat.{ℕ}
use native.Mathlib.Omega.{arith}
use borrow.Author.Tests.{ne_eqb, eq-eqb}
use Rattle.board.specs.declared.numbers.Size.{Size}
use Rattle.board.specs.declared.places.Place.{Place}
use Rattle.board.specs.declared.places.Place.TheVariants.{HeldBy}
use Rattle.board.specs.Numbers.{task_no, Numbered}
use Rattle.board.specs.Places.{is_held_by}
use Rattle.board.specs.Records.{Word}
use Rattle.board.specs.Board.{Board, place}
use Rattle.board.proofs.Pieces.{within-outside}
use Rattle.paper.specs.Rules.{present}
use Rattle.paper.specs.Refusals.{Test, no3, no4, no5, no6, no7_install, no8, no9, Go, given}
use Rattle.kept.specs.Claims.{Sizes}

-- the first doesn't apply, and the others let it go
pub go_from : (t : Test) (tests : List Test) → t.applies ≡ false → given tests ≡ Go → given (t ∷ tests) ≡ Go
go_from t tests e g = rw (e, given) g

-- 3: somebody runs
pub go_runs : (c : ℕ) (tests : List Test) → c ≢ 0 → given tests ≡ Go → given (no3 c ∷ tests) ≡ Go
go_runs c tests h = go_from (no3 c) tests (ne_eqb c 0 h)

-- 6: the task meant is one of the board's, and there
pub go_there : (z : Size) (b : Board) (r : ℕ) (tests : List Test) → Numbered z.tasks r → present b r ≡ true → given tests ≡ Go
    → given (no6 z b r ∷ tests) ≡ Go
go_there z b r tests n p = go_from (no6 z b r) tests (rw (within-outside z.tasks r n.0 n.1, p))

-- 7, 8 and 9, the row of install: its number is one of the board's, and no task is there
pub go_install : (z : Size) (b : Board) (k s p : ℕ) → (no7_install p).applies ≡ false → Numbered z.tasks k → present b k ≡ false
    → (no9 s).applies ≡ false → given (no7_install p ∷ no8 z b k ∷ no9 s ∷ []) ≡ Go
go_install z b k s p prio n absent stat =
    go_from (no7_install p) (no8 z b k ∷ no9 s ∷ []) prio
    (go_from (no8 z b k) (no9 s ∷ []) (rw (within-outside z.tasks k n.0 n.1, absent)) (go_from (no9 s) [] stat refl))

-- 3, 4 and 5: the caller holds the message
pub go_held : (z : Size) (b : Board) (c m : ℕ) (tests : List Test) → c ≢ 0 → Numbered z.messages m
    → place b m ≡ HeldBy (task_no c) → given tests ≡ Go → given (no3 c ∷ no4 z m ∷ no5 b c m ∷ tests) ≡ Go
go_held z b c m tests h n e g =
    go_runs c (no4 z m ∷ no5 b c m ∷ tests) h
    (go_from (no4 z m) (no5 b c m ∷ tests) (within-outside z.messages m n.0 n.1)
    (go_from (no5 b c m) tests (ap (λ (p : Place). not (is_held_by c p)) e ∙ ap not (eq-eqb c c refl)) g))

-- ---- numbers of the board are words
pub task-word : (z : Size) → Sizes z → (k : ℕ) → Numbered z.tasks k → Word k
task-word z a k n = omega (arith, a.tasks, n.1)

pub message-word : (z : Size) → Sizes z → (m : ℕ) → Numbered z.messages m → Word m
message-word z a m n = omega (arith, a.links, n.1)
