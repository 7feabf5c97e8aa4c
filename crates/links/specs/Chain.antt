-- Chains of links and members of lists, as statements. A reader who follows a promise down to the links must believe this file.
--   In x q              x stands in q, a list of anything
--   Out x q             the number x stands nowhere in q
--   Once q              no number stands twice in q
--   All P q             P holds of each that stands in q
--   Sorted number q     of any two the earlier has no greater priority number
--   Chain next x q      the links from x are exactly q, and then 0
-- Assumes nothing.
use Rattle.std.specs.Prelude.{◌≡◌, ◌≢◌, ◌⊎◌, List, [], ◌∷◌, ℕ, ◌≤◌}

abbrev pub In : {A : Type 0} → A → List A → Type 0
In x [] = ⊥
In x (y ∷ q) = (x ≡ y) ⊎ In x q

abbrev pub Out : ℕ → List ℕ → Type 0
Out x [] = Unit {0}
Out x (y ∷ q) = (x ≢ y) × Out x q

abbrev pub Once : List ℕ → Type 0
Once [] = Unit {0}
Once (x ∷ q) = Out x q × Once q

abbrev pub All : {A : Type 0} → (A → Type 0) → List A → Type 0
All P [] = Unit {0}
All P (x ∷ q) = P x × All P q

abbrev pub Sorted : (ℕ → ℕ) → List ℕ → Type 0
Sorted number [] = Unit {0}
Sorted number (x ∷ q) = All (λ y. number x ≤ number y) q × Sorted number q

abbrev pub Chain : (ℕ → ℕ) → ℕ → List ℕ → Type 0
Chain next x [] = x ≡ 0
Chain next x (y ∷ q) = (x ≡ y) × (y ≢ 0) × Chain next (next y) q
