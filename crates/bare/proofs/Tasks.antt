-- A task without DEBUG and MROB: what is read of it, and what is written to it.
-- Assumes nothing.
use mathlib.Core.Path.{◌≡◌, refl, sym, ap, ◌∙◌}
use mathlib.Core.Bool.{Bool, true, false, true≢false}
use Prim.Native.Nat.{ℕ}
use lib.Dec.{eqb}
use borrow.Author.Tests.{ne_eqb}
use Rattle.links.proofs.Bools.{cond_holds}
use Rattle.board.specs.declared.status.Status.{Status}
use Rattle.board.specs.declared.records.Task.{Task}
use Rattle.board.specs.Status.{stored, is_present, is_ready}
use Rattle.board.specs.Records.{task_with_stat, task_with_link, task_with_mptr}
use Rattle.paper.specs.Rules.{is_there, good_task, good_flags}
use Rattle.bare.specs.Bare.{bare, bare_task}
use Rattle.bare.proofs.Bits.{bare_twice, wait, iwat, bit5, intq, mhbs, tcbb}

-- ---- what is asked of a status
pub is_ready-bare : (s : Status) → is_ready (bare s) ≡ is_ready s
is_ready-bare s = rw (tcbb.reads s, wait.reads s, iwat.reads s)

pub good_flags-bare : (s : Status) (empty : Bool) → good_flags (bare s) empty ≡ good_flags s empty
good_flags-bare s empty = rw (wait.reads s, iwat.reads s, intq.reads s, mhbs.reads s)

-- that of a present task isn't 0
present-stat : (s : Status) → is_present s ≡ true → eqb s.0 0 ≡ false
present-stat s e = ne_eqb s.0 0 (λ h. true≢false (sym e ∙ ap (λ (n : ℕ). is_present (stored n)) h))

-- ---- what is read of a task
module _ (t : Task) where
  -- R2: an absent task has neither bit, or is none; to a present one they don't matter
  pub good_task-bare : good_task (bare_task t) ≡ good_task t
  good_task-bare = step (is_there t) refl
    where
      step : (there : Bool) → is_there t ≡ there → good_task (bare_task t) ≡ good_task t
      step true p =
          let s : Status = t.stat in
          rw (p, present-stat s p, present-stat (bare s) (tcbb.reads s ∙ p), tcbb.reads s ∙ p, bit5.reads s)
      step false p = let e : bare_task t ≡ t = rw p in ap good_task e

  -- if the two bits don't matter to f, they don't whether the task is present or absent
  pub same_bare : {A : Type 0} (f : Task → A) → f (task_with_stat t (bare t.stat)) ≡ f t → f (bare_task t) ≡ f t
  same_bare f e = cond_holds (λ x. f x ≡ f t) (is_there t) _ _ (λ p. e) (λ p. refl)

  pub is_there-bare : is_there (bare_task t) ≡ is_there t
  is_there-bare = same_bare is_there (tcbb.reads t.stat)

  -- cleared twice is cleared once
  pub bare_task_twice : bare_task (bare_task t) ≡ bare_task t
  bare_task_twice =
      cond_holds (λ x. bare_task x ≡ x) (is_there t) _ _
      (λ e. rw (tcbb.reads t.stat, e) (ap (task_with_stat t) (bare_twice t.stat))) (λ e. rw e)

-- ---- what is written to a task
module _ (t : Task) where
  -- a status changed beside the two bits and TCBB
  pub bare-stat : (f : Status → Status) → ((s : Status) → bare (f s) ≡ f (bare s))
      → ((s : Status) → is_present (f s) ≡ is_present s)
      → bare_task (task_with_stat t (f t.stat)) ≡ task_with_stat (bare_task t) (f (bare_task t).stat)
  bare-stat f h p =
      cond_holds (λ x. bare_task (task_with_stat t (f t.stat)) ≡ task_with_stat x (f x.stat)) (is_there t) _ _
      (λ e. rw (p t.stat, e) (ap (task_with_stat t) (h t.stat))) (λ e. rw (p t.stat, e))

  pub bare-link : (n : ℕ) → bare_task (task_with_link t n) ≡ task_with_link (bare_task t) n
  bare-link n = cond_holds (λ x. bare_task (task_with_link t n) ≡ task_with_link x n) (is_there t) _ _ (λ e. rw e) (λ e. rw e)

  pub bare-mptr : (m : ℕ) → bare_task (task_with_mptr t m) ≡ task_with_mptr (bare_task t) m
  bare-mptr m = cond_holds (λ x. bare_task (task_with_mptr t m) ≡ task_with_mptr x m) (is_there t) _ _ (λ e. rw e) (λ e. rw e)
