-- What each turn of a loop and each way out of it makes of the definition: a hypothesis for each test and each callee's contract.
-- Assumes nothing.
use mathlib.Core.Path.{◌≡◌, refl, sym, ap, ◌∙◌}
use mathlib.Core.Bool.{Bool, true, false, true≢false}
use Prim.Native.Nat.{ℕ, zero, suc, ◌+◌, ◌-◌, ◌≤◌, ◌<◌}
use native.Mathlib.Decide.{ℕ_discrete}
use native.Mathlib.Omega.{arith}
use Rattle.std.specs.Prelude.{Some, Option, None}
use Rattle.links.specs.Queue.{walk, first_with}
use Rattle.links.proofs.Chains.{walk_step, walk_end}
use Rattle.board.specs.declared.numbers.Size.{Size}
use Rattle.board.specs.Numbers.{task_meant}
use Rattle.board.specs.Board.{Board, task}
use Rattle.board.proofs.Pieces.{within-outside}
use Rattle.board.proofs.Meant.{task_meant_none}
use Rattle.paper.specs.Rules.{next_message, message_number}
use Rattle.queue_rules.specs.Walks.{counted, queued_at, queue_walked, behind, walked_on, walked}
use Rattle.queue_rules.proofs.Visits.{visited_bound}
use Rattle.queue_rules.proofs.Counting.{counted-turn, counted_bound}

-- ---- those that pass are counted
-- none so far
pub count_starts : (f : ℕ → Bool) → 0 ≡ counted f 0
unfolding counted
count_starts f = refl

module _ (f : ℕ → Bool) (k n : ℕ) (inv : n ≡ counted f k) where
  -- one more
  pub count_yes : f (k + 1) ≡ true → n + 1 ≡ counted f (k + 1)
  count_yes e = let s : n + 1 ≡ 1 + counted f k = omega arith in s ∙ sym (counted-turn f k true e)

  -- no more
  pub count_no : f (k + 1) ≡ false → n ≡ counted f (k + 1)
  count_no e = let s : n ≡ 0 + counted f k = omega arith in s ∙ sym (counted-turn f k false e)

  -- no more than numbers were looked at
  pub count_bound : n ≤ k
  count_bound = omega (arith, counted_bound f k)

-- ---- the walks of all queues, one after the other
module _ (b : Board) (most : ℕ) where
  -- no queue yet
  pub walks_start : walked b most 0 ≡ Some 0
  unfolding walked
  walks_start = refl

  -- behind k queues, whose walks saw s
  module _ (k s : ℕ) (so : walked b most k ≡ Some s) where
    next-walked : walked b most (k + 1) ≡ behind s (queue_walked b (most - s) (k + 1))
    unfolding walked
    next-walked =
        let i : k + 1 ≡ suc k = omega arith in
        ap (walked b most) i ∙ ap (λ (w : Option ℕ). walked_on w (λ s. queue_walked b (most - s) (suc k))) so
        ∙ ap (λ (j : ℕ). behind s (queue_walked b (most - s) j)) (sym i)

    -- the walk of the next is broken, so all together are
    pub walks_break : (n : ℕ) → k < n → None ≡ queue_walked b (most - s) (k + 1) → None ≡ walked b most n
    unfolding walked
    walks_break zero h e = absurd (omega arith)
    walks_break (suc n) h e = step (ℕ_discrete (k + 1) (suc n)) (λ i. walks_break n i e)
      where
        step : Dec (k + 1 ≡ suc n) → (k < n → None ≡ walked b most n) → None ≡ walked b most (suc n)
        step (yes i) ih = ap (behind s) e ∙ sym next-walked ∙ ap (walked b most) i
        step (no i) ih = ap (λ (w : Option ℕ). walked_on w (λ s. queue_walked b (most - s) (suc n))) (ih (omega arith))

    -- it saw n
    module _ (n : ℕ) (e : Some n ≡ queue_walked b (most - s) (k + 1)) where
      pub walks_on : walked b most (k + 1) ≡ Some (s + n)
      walks_on = next-walked ∙ ap (behind s) (sym e)

      -- no more than it may
      pub walks_bound : s ≤ most → s + n ≤ most
      walks_bound h =
          omega (arith, visited_bound (next_message b) (message_number b) (queued_at b (k + 1)) (most - s) (task b (k + 1)).mptr n (sym e))

-- ---- a walk for the first that passes, which is r
module _ (f : ℕ → Bool) (next : ℕ → ℕ) (n x : ℕ) {r : ℕ} (inv : first_with f (walk next n x) ≡ r) where
  -- the links end: there is none
  pub first_none : x ≡ 0 → 0 ≡ r
  first_none e = ap (first_with f) (sym (walk_end next n x e)) ∙ inv

  -- no link is left to follow
  pub first_out : n ≡ 0 → 0 ≡ r
  first_out e = ap (λ (m : ℕ). first_with f (walk next m x)) (sym e) ∙ inv

  -- this one is it
  pub first_found : 0 < n → (x ≡ 0 → ⊥) → f x ≡ true → x ≡ r
  first_found h g e = rw (← inv, walk_step next n x h (omega arith), first_with, e)

  -- it is behind this one
  pub first_behind : {v : ℕ} → v ≡ next x → 0 < n → (x ≡ 0 → ⊥) → f x ≡ false → first_with f (walk next (n - 1) v) ≡ r
  first_behind {v} s h g e = rw (← inv, walk_step next n x h (omega arith), first_with, e, s)

-- a number that a loop counts means a task
pub counted_there : (z : Size) (k : ℕ) → k < z.tasks → task_meant z (k + 1) ≡ None → ⊥
counted_there z k h e =
    true≢false (sym (task_meant_none z (k + 1) e) ∙ within-outside z.tasks (k + 1) (omega arith) (omega arith))
