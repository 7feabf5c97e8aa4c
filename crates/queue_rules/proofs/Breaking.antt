-- The smallest task or message that breaks a rule, as a loop over the numbers finds it, and what it tells.
-- Assumes nothing.
use mathlib.Core.Path.{◌≡◌, refl, sym, ap, ◌∙◌}
use mathlib.Core.Bool.{Bool, true, false, true≢false}
use Prim.Native.Nat.{ℕ, ◌+◌, ◌<◌}
use Rattle.std.specs.Prelude.{Some, None}
use Rattle.links.specs.Queue.{each, smallest_failing}
use Rattle.links.proofs.Smallest.{smallest_none, smallest_is, smallest_one}
use Rattle.board.specs.declared.numbers.Size.{Size}
use Rattle.board.specs.declared.numbers.TaskNo.{TaskNo}
use Rattle.board.specs.declared.numbers.MsgNo.{MsgNo}
use Rattle.board.specs.Numbers.{outside, task_no, msg_no, task_meant, message_meant}
use Rattle.board.proofs.Pieces.{within-outside}
use Rattle.board.proofs.Meant.{task_meant-task, task_meant_none, message_meant-message, message_meant_none}
use Rattle.queue_rules.specs.Walks.{breaking}

-- ---- the smallest that fails is a number of the board exactly where one fails
module _ (f : ℕ → Bool) (n : ℕ) where
  abbrev s : ℕ
  s = smallest_failing f n

  one_fails : outside n s ≡ false → each f n ≡ false
  one_fails e = go (each f n) refl
    where
      go : (t : Bool) → each f n ≡ t → each f n ≡ false
      go true h = absurd (true≢false (sym (ap (outside n) (smallest_none f n h)) ∙ e))
      go false h = h

  none_fails : outside n s ≡ true → each f n ≡ true
  none_fails e = go (each f n) refl
    where
      go : (t : Bool) → each f n ≡ t → each f n ≡ true
      go true h = h
      go false h = let r = smallest_one f n h in absurd (true≢false (sym e ∙ within-outside n s r.0 r.1))

-- ---- tasks
module _ (z : Size) (f : ℕ → Bool) where
  -- each keeps the rule
  pub breaking_none : each f z.tasks ≡ true → None ≡ breaking z f
  breaking_none e = sym (ap (task_meant z) (smallest_none f z.tasks e))

  -- each up to k keeps it, and the next does not
  pub breaking_is : (k : ℕ) → k < z.tasks → each f k ≡ true → f (k + 1) ≡ false → task_meant z (k + 1) ≡ breaking z f
  breaking_is k h e g = sym (ap (task_meant z) (smallest_is f z.tasks k h e g))

  -- and back
  pub breaking-task : {k : TaskNo} → breaking z f ≡ Some k → (each f z.tasks ≡ false) × (k ≡ task_no (smallest_failing f z.tasks))
  breaking-task {k = k} e = let r = task_meant-task z (smallest_failing f z.tasks) k e in (one_fails f z.tasks r.0, r.1)

  pub breaking-nobody : breaking z f ≡ None → each f z.tasks ≡ true
  breaking-nobody e = none_fails f z.tasks (task_meant_none z (smallest_failing f z.tasks) e)

  -- ---- messages
  pub breaking-message : {m : MsgNo} → message_meant z (smallest_failing f z.messages) ≡ Some m
      → (each f z.messages ≡ false) × (m ≡ msg_no (smallest_failing f z.messages))
  breaking-message {m = m} e =
      let r = message_meant-message z (smallest_failing f z.messages) m e in (one_fails f z.messages r.0, r.1)

  pub breaking-nothing : message_meant z (smallest_failing f z.messages) ≡ None → each f z.messages ≡ true
  breaking-nothing e = none_fails f z.messages (message_meant_none z (smallest_failing f z.messages) e)
