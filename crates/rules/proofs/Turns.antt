-- The rules that ask each record by itself: what a look at every record tells, turn by turn.
-- Assumes nothing.
use mathlib.Core.Path.{◌≡◌, refl, sym, ap, ap₂, ◌∙◌}
use mathlib.Core.Bool.{Bool, true, false, cond}
use Prim.Native.Nat.{ℕ, ◌+◌, ◌≤◌, ◌<◌}
use native.Mathlib.Omega.{arith}
use Rattle.std.specs.Prelude.{Option, Some, None}
use Rattle.links.specs.Queue.{each, smallest_failing}
use Rattle.links.proofs.Bools.{each_next, each_fails}
use Rattle.links.proofs.Smallest.{smallest_none, smallest_is, smallest_one, smallest_stays}
use Rattle.board.specs.declared.numbers.Size.{Size}
use Rattle.board.specs.declared.numbers.TaskNo.{TaskNo}
use Rattle.board.specs.Numbers.{outside, task_no, task_meant, message_meant}
use Rattle.board.specs.Board.{Board}
use Rattle.board.proofs.Pieces.{within-outside}
use Rattle.paper.specs.Rules.{present, rule2_at, rule6_at}
use Rattle.queue_rules.specs.Walks.{counted, queued, breaking}
use Rattle.queue_rules.proofs.Breaking.{breaking_is}
use Rattle.rules.specs.declared.Edition.{Edition}
use Rattle.rules.specs.Checked.{rule4_of, messages_of, messages_if, messages_seen, tasks_of, tasks_if, tasks_seen, earlier}

-- ---- a look at every message
module _ (edition : Edition) (z : Size) (b : Board) where
  -- each up to m is good, and the next is not
  pub messages_fail : (m : ℕ) → m < z.messages → each (rule4_of edition z b) m ≡ true → rule4_of edition z b (m + 1) ≡ false
      → messages_of (message_meant z (m + 1)) 0 ≡ messages_seen edition z b
  messages_fail m h e g =
      ap (λ (n : ℕ). messages_of (message_meant z n) 0) (sym (smallest_is (rule4_of edition z b) z.messages m h e g))
      ∙ ap (messages_if edition z b) (sym (each_fails (rule4_of edition z b) z.messages (m + 1) (omega arith) (omega arith) g))

  pub messages-good : (n : ℕ) → each (rule4_of edition z b) z.messages ≡ true → n ≡ counted (queued b) z.messages
      → messages_of None n ≡ messages_seen edition z b
  messages-good n e q = ap (messages_of None) q ∙ ap (messages_if edition z b) (sym e)

-- ---- a look at every task
module _ (z : Size) (b : Board) where
  pub tasks_fail : (k : ℕ) → k < z.tasks → each (rule2_at b) k ≡ true → rule2_at b (k + 1) ≡ false
      → tasks_of (task_meant z (k + 1)) None 0 ≡ tasks_seen z b
  tasks_fail k h e g =
      ap (λ (t : Option TaskNo). tasks_of t None 0) (breaking_is z (rule2_at b) k h e g)
      ∙ ap (tasks_if z b) (sym (each_fails (rule2_at b) z.tasks (k + 1) (omega arith) (omega arith) g))

  pub tasks-good : (t : Option TaskNo) (n : ℕ) → each (rule2_at b) z.tasks ≡ true → t ≡ breaking z (rule6_at b)
      → n ≡ counted (present b) z.tasks → tasks_of None t n ≡ tasks_seen z b
  tasks-good t n e r q = ap₂ (tasks_of None) r q ∙ ap (tasks_if z b) (sym e)

-- ---- the first task that fails a test, behind one more number
module _ (z : Size) (f : ℕ → Bool) (k : ℕ) (h : k < z.tasks) where
  abbrev so : ℕ → Option TaskNo
  so n = task_meant z (smallest_failing f n)

  -- one that is there stays the first
  stays : (x : ℕ) → 1 ≤ x → x ≤ k → (t : Bool) → cond t (task_meant z x) (earlier (task_meant z x) (task_meant z (k + 1))) ≡ task_meant z x
  stays x i j t = go t (outside z.tasks x) (within-outside z.tasks x i (omega arith))
    where
      go : (t u : Bool) → u ≡ false
          → cond t (cond u None (Some (task_no x))) (earlier (cond u None (Some (task_no x))) (task_meant z (k + 1)))
          ≡ cond u None (Some (task_no x))
      go true u e = refl
      go false u e = rw e

  pub first_next : cond (f (k + 1)) (so k) (earlier (so k) (task_meant z (k + 1))) ≡ so (k + 1)
  first_next = go (each f k) refl (f (k + 1)) refl
    where
      go : (s : Bool) → each f k ≡ s → (t : Bool) → f (k + 1) ≡ t
          → cond (f (k + 1)) (so k) (earlier (so k) (task_meant z (k + 1))) ≡ so (k + 1)
      go true e true g =
          ap (λ (t : Bool). cond t (so k) (earlier (so k) (task_meant z (k + 1)))) g
          ∙ ap (task_meant z) (smallest_none f k e ∙ sym (smallest_none f (k + 1) (each_next f k e g)))
      go true e false g =
          ap (λ (t : Bool). cond t (so k) (earlier (so k) (task_meant z (k + 1)))) g
          ∙ ap (λ (x : ℕ). earlier (task_meant z x) (task_meant z (k + 1))) (smallest_none f k e)
          ∙ ap (task_meant z) (sym (smallest_is f (k + 1) k (omega arith) e g))
      go false e t g =
          let r = smallest_one f k e in
          stays (smallest_failing f k) r.0 r.1 (f (k + 1)) ∙ ap (task_meant z) (sym (smallest_stays f k e))
