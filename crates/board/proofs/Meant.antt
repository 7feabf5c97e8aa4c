-- The number that a word means, if the board has it: a word from 1 to the last means itself, any other means none.
-- Assumes nothing.
use mathlib.Core.Path.{◌≡◌, refl, sym, ap, ◌∙◌}
use mathlib.Core.Logic.{◌≢◌}
use mathlib.Core.Bool.{Bool, true, false, cond}
use Prim.Native.Nat.{ℕ, ◌≤◌}
use native.Mathlib.Omega.{arith}
use lib.Dec.{eqb}
use borrow.Author.Tests.{eqb-true, eqb-false}
use Rattle.std.specs.Prelude.{Some, None}
use Rattle.board.specs.declared.numbers.Size.{Size}
use Rattle.board.specs.declared.numbers.TaskNo.{TaskNo}
use Rattle.board.specs.declared.numbers.MsgNo.{MsgNo}
use Rattle.board.specs.Numbers.{outside, task_no, msg_no, task_meant, message_meant, stored, number_of_task, number_of_message, on_board}
use Rattle.board.proofs.Pieces.{within-outside}

-- ---- a number of either kind
module _ {N : Type 0} where
  chosen_some : (t : Bool) (x n : N) → cond t None (Some x) ≡ Some n → (t ≡ false) × (n ≡ x)
  chosen_some true x n e = absurd (cc)
  chosen_some false x n e = (refl, cc)

  chosen_none : (t : Bool) (x : N) → cond t None (Some x) ≡ None → t ≡ true
  chosen_none true x e = refl
  chosen_none false x e = absurd (cc)

  chosen_stored : (number : N → ℕ) (t : Bool) (x : N) → stored number (cond t None (Some x)) ≡ cond t 0 (number x)
  chosen_stored number true x = refl
  chosen_stored number false x = refl

-- ---- tasks
-- a word that means a task isn't outside, and is its number
pub task_meant-task : (z : Size) (w : ℕ) (k : TaskNo) → task_meant z w ≡ Some k → (outside z.tasks w ≡ false) × (k ≡ task_no w)
task_meant-task z w k e = chosen_some _ _ k e

-- so the task is of the board
pub task_meant_there : (z : Size) (w : ℕ) (k : TaskNo) → task_meant z w ≡ Some k → (outside z.tasks k.0 ≡ false) × (k.0 ≡ w)
task_meant_there z w k e =
    let t = task_meant-task z w k e in
    (ap (λ (j : TaskNo). outside z.tasks j.0) t.1 ∙ t.0, ap (λ (j : TaskNo). j.0) t.1)

-- a word that means none is outside
pub task_meant_none : (z : Size) (w : ℕ) → task_meant z w ≡ None → outside z.tasks w ≡ true
task_meant_none z w e = chosen_none _ (task_no w) e

-- ---- messages
-- a word that means a message isn't outside, and is its number
pub message_meant-message : (z : Size) (w : ℕ) (m : MsgNo) → message_meant z w ≡ Some m
    → (outside z.messages w ≡ false) × (m ≡ record { 0 = w })
message_meant-message z w m e = chosen_some _ _ m e

-- so the message is of the board
pub message_meant_there : (z : Size) (w : ℕ) (m : MsgNo) → message_meant z w ≡ Some m
    → (outside z.messages m.0 ≡ false) × (m.0 ≡ w)
message_meant_there z w m e =
    let t = message_meant-message z w m e in
    (ap (λ (j : MsgNo). outside z.messages j.0) t.1 ∙ t.0, ap (λ (j : MsgNo). j.0) t.1)

-- a word that means none is outside
pub message_meant_none : (z : Size) (w : ℕ) → message_meant z w ≡ None → outside z.messages w ≡ true
message_meant_none z w e = chosen_none _ (msg_no w) e

-- ---- the number of what a word means
-- is the word where the board has it, else 0
pub number_of_task_lem : (z : Size) (w : ℕ) → number_of_task (task_meant z w) ≡ on_board z.tasks w
number_of_task_lem z w = chosen_stored (λ k. k.0) (outside z.tasks w) (task_no w)

pub number_of_message_lem : (z : Size) (w : ℕ) → number_of_message (message_meant z w) ≡ on_board z.messages w
number_of_message_lem z w = chosen_stored (λ m. m.0) (outside z.messages w) (msg_no w)

-- a number up to the last is itself, and so is 0
pub on_board-within : (last w : ℕ) → outside last w ≡ false → on_board last w ≡ w
on_board-within last w e = ap (λ (t : Bool). cond t 0 w) e

pub on_board-zero : (last w : ℕ) → w ≡ 0 → on_board last w ≡ 0
on_board-zero last w e = go (outside last w)
  where
    go : (t : Bool) → cond t 0 w ≡ 0
    go true = refl
    go false = e

-- so a word that is 0 or a number up to the last is itself
pub on_board-most : (last w : ℕ) → w ≤ last → on_board last w ≡ w
on_board-most last w h = go (eqb w 0) refl
  where
    go : (t : Bool) → eqb w 0 ≡ t → on_board last w ≡ w
    go true e = let f : w ≡ 0 = eqb-true w 0 e in on_board-zero last w f ∙ sym f
    go false e = let f : w ≢ 0 = eqb-false w 0 e in on_board-within last w (within-outside last w (omega arith) h)
