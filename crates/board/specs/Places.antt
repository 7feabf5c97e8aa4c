-- Where a message is: document 01's place byte. A reader must believe this file.
--   place_of z p         what the place byte p says on a board of size z; place_byte the byte that says it
--   is_free, is_held_by k, is_queued_at k, is_on_timer   the place is that; is_queued: queued at whomever
-- Assumes nothing.
use Rattle.std.specs.Prelude.{Bool, true, false, cond, List, [], ◌∷◌, ℕ, ◌+◌, ◌-◌, ◌%◌, get_or, eqb}
use Rattle.board.specs.declared.numbers.Size.{Size}
use Rattle.board.specs.declared.places.Place.{Place}
use Rattle.board.specs.declared.places.Place.TheVariants.{Free, HeldBy, QueuedAt, OnTimer, Nowhere}
use Rattle.board.specs.Numbers.{outside, task_no}

-- 0 free, k held by task k, 64+k queued at task k; document 02, Ask 5: 128 on the timer. Any other byte says nothing
abbrev pub place_of : Size → ℕ → Place
place_of z p =
    cond (eqb p 0) Free
    (cond (outside z.tasks p)
    (cond (outside z.tasks (p - 64)) (cond (eqb p 128) OnTimer (Nowhere p)) (QueuedAt (task_no (p - 64)))) (HeldBy (task_no p)))

abbrev pub place_byte : Place → ℕ
place_byte Free = 0
place_byte (HeldBy k) = k.0
place_byte (QueuedAt k) = 64 + k.0
place_byte OnTimer = 128
place_byte (Nowhere p) = p

-- a place in its one byte, as the records in theirs
abbrev pub place_in : Size → List ℕ → Place
place_in z l = place_of z (get_or l 0 0)

abbrev pub place_bytes : Place → List ℕ
place_bytes p = place_byte p % 256 ∷ []

abbrev pub is_free : Place → Bool
is_free Free = true
is_free (HeldBy k) = false
is_free (QueuedAt k) = false
is_free OnTimer = false
is_free (Nowhere p) = false

abbrev pub is_held_by : ℕ → Place → Bool
is_held_by c Free = false
is_held_by c (HeldBy k) = eqb k.0 c
is_held_by c (QueuedAt k) = false
is_held_by c OnTimer = false
is_held_by c (Nowhere p) = false

abbrev pub is_queued_at : ℕ → Place → Bool
is_queued_at r Free = false
is_queued_at r (HeldBy k) = false
is_queued_at r (QueuedAt k) = eqb k.0 r
is_queued_at r OnTimer = false
is_queued_at r (Nowhere p) = false

abbrev pub is_queued : Place → Bool
is_queued Free = false
is_queued (HeldBy k) = false
is_queued (QueuedAt k) = true
is_queued OnTimer = false
is_queued (Nowhere p) = false

abbrev pub is_on_timer : Place → Bool
is_on_timer Free = false
is_on_timer (HeldBy k) = false
is_on_timer (QueuedAt k) = false
is_on_timer OnTimer = true
is_on_timer (Nowhere p) = false
