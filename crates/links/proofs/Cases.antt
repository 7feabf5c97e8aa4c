-- Worked cases of the queue definitions, closed: what a slip in one of them would change.
-- Assumes nothing.
use mathlib.Core.Path.{◌≡◌, refl}
use mathlib.Core.Bool.{true, false}
use mathlib.Core.List.{List, [], ◌∷◌}
use Prim.Native.Nat.{ℕ, ◌-◌}
use lib.ListN.{get_or}
use lib.Dec.{eqb}
use Rattle.links.specs.Queue.{ends, goes_before, insert, lists, smallest_failing}

-- the values of 1, 2 ..
abbrev given : List ℕ → ℕ → ℕ
given l x = get_or l (x - 1) 0

-- 1 and 2 both link to 3, a member of the first queue only: the second doesn't pass
pub case_shared_tail : (lists (given (3 ∷ 3 ∷ 0 ∷ [])) (given []) 3 1 (1 ∷ 3 ∷ []) ≡ true)
    × (lists (given (3 ∷ 3 ∷ 0 ∷ [])) (given []) 3 2 (2 ∷ []) ≡ false)
case_shared_tail = (refl, refl)

-- 1 and 2 link to each other: no walk of them ends
pub case_walk_gives_up : ends (given (2 ∷ 1 ∷ [])) 2 1 ≡ false
case_walk_gives_up = refl

-- numbers 3, 5, 7 and a new one of number 5: LIFO it goes before its equal
pub case_lifo_before_equals : insert (λ x. goes_before false 5 (given (3 ∷ 5 ∷ 7 ∷ []) x)) 4 (1 ∷ 2 ∷ 3 ∷ []) ≡ 1 ∷ 4 ∷ 2 ∷ 3 ∷ []
case_lifo_before_equals = refl

-- FIFO it goes behind its equal
pub case_fifo_behind_equals : insert (λ x. goes_before true 5 (given (3 ∷ 5 ∷ 7 ∷ []) x)) 4 (1 ∷ 2 ∷ 3 ∷ []) ≡ 1 ∷ 2 ∷ 4 ∷ 3 ∷ []
case_fifo_behind_equals = refl

-- of 1 to 4 all but 3 fail, and the smallest is meant
pub case_smallest_failing : smallest_failing (λ n. eqb n 3) 4 ≡ 1
case_smallest_failing = refl
