-- A place that is queued or not, as code tells it.
-- Assumes nothing.
use mathlib.Core.Path.{◌≡◌, refl, sym, ap, ◌∙◌}
use mathlib.Core.Bool.{false}
use Rattle.board.specs.declared.numbers.TaskNo.{TaskNo}
use Rattle.board.specs.declared.places.Place.{Place}
use Rattle.board.specs.declared.places.Place.TheVariants.{Free, HeldBy, QueuedAt, OnTimer, Nowhere}
use Rattle.board.specs.Places.{is_queued}

-- ---- places: the code holds the place p as q
module _ (p q : Place) (e : q ≡ p) where
  -- it met another variant than QueuedAt
  pub not_queued : ((k : TaskNo) → q ≡ QueuedAt k → ⊥) → is_queued p ≡ false
  not_queued h = ap is_queued (sym e) ∙ go q h
    where
      go : (q : Place) → ((k : TaskNo) → q ≡ QueuedAt k → ⊥) → is_queued q ≡ false
      go Free i = refl
      go (HeldBy k) i = refl
      go (QueuedAt k) i = absurd (i k refl)
      go OnTimer i = refl
      go (Nowhere m) i = refl
