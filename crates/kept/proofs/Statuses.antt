-- One status written: read back, and written back. Who waits isn't ready.
-- Assumes nothing.
use mathlib.Core.Path.{◌≡◌, refl, sym, ap, ap₂, ◌∙◌}
use mathlib.Core.Logic.{◌⊎◌, inl, inr}
use mathlib.Core.Bool.{Bool, true, false, not, ◌&&◌, true≢false}
use Prim.Native.Nat.{ℕ}
use native.Mathlib.Decide.{ℕ_discrete}
use lib.ListN.{length}
use Rattle.board.specs.declared.status.Status.{Status}
use Rattle.board.specs.declared.records.Task.{Task}
use Rattle.board.specs.Numbers.{Numbered}
use Rattle.board.specs.Status.{WAIT, IWAT, TCBB, has, stored, is_ready}
use Rattle.board.specs.Records.{no_task, task_with_stat}
use Rattle.board.specs.Board.{Board, task, with_task, with_tasks}
use Rattle.board.proofs.Numbered.{put-nth, put-put}
use Rattle.paper.specs.Rules.{is_there, ready}
use Rattle.kept.proofs.Reading.{task-put, task_other, Lawful}

-- ---- the status of task k written
abbrev pub restat : Board → ℕ → Status → Board
restat b k s = with_task b k (task_with_stat (task b k) s)

module _ (b : Board) (k : ℕ) (s : Status) (n : Numbered (length b.tasks) k) where
  -- it reads back
  pub restat_stat : (task (restat b k s) k).stat ≡ s
  restat_stat = ap (λ (t : Task). t.stat) (task-put b k (task_with_stat (task b k) s) n)

  -- written back all is as it was
  restat_back : (t : Status) → t ≡ (task b k).stat → restat (restat b k s) k t ≡ b
  restat_back t e =
      let r : task_with_stat (task (restat b k s) k) t ≡ task b k =
      ap₂ task_with_stat (task-put b k (task_with_stat (task b k) s) n) e in
      ap (λ (x : Task). with_task (restat b k s) k x) r
      ∙ ap (with_tasks b)
      (put-put b.tasks k (task_with_stat (task b k) s) (task b k) ∙ put-nth no_task b.tasks k)

  -- what makes the old status of the new one makes the old board of the new one
  pub restat_undone : (f : Status → Status) → f s ≡ (task b k).stat → restat (restat b k s) k (f (task (restat b k s) k).stat) ≡ b
  restat_undone f e = restat_back (f (task (restat b k s) k).stat) (ap f restat_stat ∙ e)

-- ---- a flag that is set is a present task's
pub flag_there : (t : Task) (bit : ℕ) → has (stored 0) bit ≡ false → Lawful t → has t.stat bit ≡ true → is_there t ≡ true
flag_there t bit z (inl e) h = absurd (true≢false (sym h ∙ ap (λ (x : Task). has x.stat bit) e ∙ z))
flag_there t bit z (inr p) h = p.there

-- ---- who waits isn't ready
pub unready : (s : Status) → (has s WAIT ≡ true) ⊎ (has s IWAT ≡ true) → is_ready s ≡ false
unready s h = step (has s TCBB) (has s WAIT) (has s IWAT) h
  where
    step : (p w i : Bool) → (w ≡ true) ⊎ (i ≡ true) → p && not w && not i ≡ false
    step false w i h = refl
    step true true i h = refl
    step true false true h = refl
    step true false false (inl e) = absurd (true≢false (sym e))
    step true false false (inr e) = absurd (true≢false (sym e))

-- who is there and waits for nothing is
pub is_ready_lem : (s : Status) → has s TCBB ≡ true → has s WAIT ≡ false → has s IWAT ≡ false → is_ready s ≡ true
is_ready_lem s p w i = rw (p, w, i)

-- ---- where nobody is ready, only the task that is written can be
pub ready_one : (b : Board) (k : ℕ) (t : Task) → ((j : ℕ) → ready b j ≡ false) → (j : ℕ) → ready (with_task b k t) j ≡ true → j ≡ k
ready_one b k t h j e = step (ℕ_discrete j k)
  where
    step : Dec (j ≡ k) → j ≡ k
    step (yes d) = d
    step (no d) = absurd (true≢false (sym e ∙ ap (λ (x : Task). is_ready x.stat) (task_other b k j t d) ∙ h j))
