-- Who goes first, from the history alone: document 00, demand 3. A reader must believe this file.
--   Entry               one install or placement: who, at which task, its priority number, FIFO or LIFO, and when
--   ahead x y           x goes ahead of y: the lower priority number first; of equals the later goes ahead if it was LIFO, behind if FIFO
--   foremost test l     the one of l that passes the test and that none other that does goes ahead of; 0 if none does
--   Ranking l q         q has just the entries of l, each ahead of all behind it; Names l n: the numbers n name the ranking of l
--   DifferentTimes l    no two of l were made at one time
-- A task's entry has no task it is placed at, and is FIFO: of two equal tasks the earlier installed goes first.
-- Assumes nothing.
use Rattle.std.specs.Prelude.{◌≡◌, ◌≢◌, ◌↔◌, Bool, true, cond, not, ◌&&◌, ◌||◌, List, [], ◌∷◌, map, ℕ, eqb, ltb}
use Rattle.links.specs.Chain.{In, All}

pub record Entry : Type 0 where
  pub id : ℕ
  pub at : ℕ
  pub number : ℕ
  pub fifo : Bool
  pub time : ℕ

-- ---- pairwise
-- the later of the two decides
abbrev pub ahead_of_equal : Entry → Entry → Bool
ahead_of_equal x y = (ltb y.time x.time && not x.fifo) || (ltb x.time y.time && y.fifo)

abbrev pub ahead : Entry → Entry → Bool
ahead x y = ltb x.number y.number || (eqb x.number y.number && ahead_of_equal x y)

-- ---- the foremost of those that pass
abbrev pub keep : (Entry → Bool) → List Entry → List Entry
keep test [] = []
keep test (x ∷ l) = cond (test x) (x ∷ keep test l) (keep test l)

abbrev pub leader : Entry → List Entry → Entry
leader x [] = x
leader x (y ∷ l) = leader (cond (ahead y x) y x) l

abbrev pub leads : List Entry → ℕ
leads [] = 0
leads (x ∷ l) = (leader x l).id

abbrev pub foremost : (Entry → Bool) → List Entry → ℕ
foremost test l = leads (keep test l)

-- ---- the whole ranking
abbrev pub AheadOf : Entry → List Entry → Type 0
AheadOf x q = All (λ y. ahead x y ≡ true) q

abbrev pub InOrder : List Entry → Type 0
InOrder [] = Unit {0}
InOrder (x ∷ q) = AheadOf x q × InOrder q

pub record Ranking (l q : List Entry) : Type 0 where
  pub same : (x : Entry) → In x q ↔ In x l
  pub order : InOrder q

abbrev pub DifferentTimes : List Entry → Type 0
DifferentTimes [] = Unit {0}
DifferentTimes (x ∷ l) = ((y : Entry) → In y l → y.time ≢ x.time) × DifferentTimes l

-- the numbers q name the ranking of the entries l
pub record Names (l : List Entry) (q : List ℕ) : Type 0 where
  pub list : List Entry
  pub ranking : Ranking l list
  pub names : q ≡ map (λ e. e.id) list
