-- Queues as lists of numbers, for tasks and messages alike; nothing here knows of bytes. A reader must believe this file.
--   walk next n x        the numbers that the links visit from x, 0 being the end, at most n of them
--   ends next n x        that walk comes to 0: where one link more than n isn't 0 it gives up (document 01, below R7)
--   first_of q           the first of a queue, 0 if none; rest_of q the others
--   goes_before f p x    one of priority number p goes before one of number x (f: FIFO, else LIFO)
--   insert goes m q      q with m before the first x of which goes x is true, else at the end
--   without m q          q with m taken out
--   relink link b q      b with each of q linked to the one behind it and the last to 0, where link b x y links x to y
--   which f n l          the numbers, counted from n, of those in l that f is true of
--   rearranged q l       q has the members of l, each as often, in whatever order
--   rising number low q no priority number of q is below the one before it, nor the first below low
--   lists ..             R3 and R5 alike: what the links of a queue must visit
--   first_with f q       the first of q that f is true of, 0 if none
--   each f n             f is true of each number from 1 to n
--   or_else x y          x, or y where x is 0
--   smallest_failing f n the smallest number from 1 to n that f is not true of, 0 if none
-- Assumes nothing.
use Rattle.std.specs.Prelude.{Bool, true, false, cond, ◌&&◌, List, [], ◌∷◌, ℕ, zero, suc, eqb, leb, ltb}

-- ---- what links visit
abbrev pub walk : (ℕ → ℕ) → ℕ → ℕ → List ℕ
walk next zero x = []
walk next (suc n) zero = []
walk next (suc n) (suc x) = suc x ∷ walk next n (next (suc x))

abbrev pub ends : (ℕ → ℕ) → ℕ → ℕ → Bool
ends next zero x = eqb x 0
ends next (suc n) zero = true
ends next (suc n) (suc x) = ends next n (next (suc x))

-- ---- a queue and its members
abbrev pub first_of : List ℕ → ℕ
first_of [] = 0
first_of (x ∷ q) = x

abbrev pub rest_of : List ℕ → List ℕ
rest_of [] = []
rest_of (x ∷ q) = q

abbrev pub is_in : ℕ → List ℕ → Bool
is_in m [] = false
is_in m (x ∷ q) = elim (eqb x m) [ true ↦ true | false ↦ is_in m q ]

abbrev pub first_with : (ℕ → Bool) → List ℕ → ℕ
first_with f [] = 0
first_with f (x ∷ q) = elim (f x) [ true ↦ x | false ↦ first_with f q ]

-- ---- one goes in, one is taken out: document 01, 'Place m at r', 'Install', 'Cancel'
abbrev pub goes_before : Bool → ℕ → ℕ → Bool
goes_before true p x = ltb p x
goes_before false p x = leb p x

abbrev pub insert : (ℕ → Bool) → ℕ → List ℕ → List ℕ
insert goes m [] = m ∷ []
insert goes m (x ∷ q) = elim (goes x) [ true ↦ m ∷ x ∷ q | false ↦ x ∷ insert goes m q ]

abbrev pub without : ℕ → List ℕ → List ℕ
without m [] = []
without m (x ∷ q) = elim (eqb x m) [ true ↦ q | false ↦ x ∷ without m q ]

-- ---- the links that list a queue
abbrev pub relink : {B : Type 0} → (B → ℕ → ℕ → B) → B → List ℕ → B
relink link b [] = b
relink link b (x ∷ q) = link (relink link b q) x (first_of q)

-- ---- R3 and R5: from x the links visit exactly the members, once each, end at 0, and priority numbers never fall
abbrev pub cons_if : Bool → ℕ → List ℕ → List ℕ
cons_if true x q = x ∷ q
cons_if false x q = q

abbrev pub which : {A : Type 0} → (A → Bool) → ℕ → List A → List ℕ
which f n [] = []
which f n (x ∷ l) = cons_if (f x) n (which f (suc n) l)

abbrev pub rearranged : List ℕ → List ℕ → Bool
rearranged [] [] = true
rearranged [] (y ∷ l) = false
rearranged (x ∷ q) l = is_in x l && rearranged q (without x l)

abbrev pub rising : (ℕ → ℕ) → ℕ → List ℕ → Bool
rising number low [] = true
rising number low (x ∷ q) = leb low (number x) && rising number (number x) q

abbrev pub lists : (ℕ → ℕ) → (ℕ → ℕ) → ℕ → ℕ → List ℕ → Bool
lists next number n x members =
    ends next n x && rearranged (walk next n x) members && rising number 0 (walk next n x)

abbrev pub each : (ℕ → Bool) → ℕ → Bool
each f zero = true
each f (suc n) = each f n && f (suc n)

abbrev pub or_else : ℕ → ℕ → ℕ
or_else zero y = y
or_else (suc x) y = suc x

abbrev pub smallest_failing : (ℕ → Bool) → ℕ → ℕ
smallest_failing f zero = 0
smallest_failing f (suc n) = or_else (smallest_failing f n) (cond (f (suc n)) 0 (suc n))
