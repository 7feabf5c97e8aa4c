-- Whose a message is, by its place; the board's tests of the place and the machine's of whose it is. Places are told apart here alone.
-- Assumes nothing.
use mathlib.Core.Path.{◌≡◌, refl}
use Prim.Native.Nat.{ℕ}
use Rattle.board.specs.declared.places.Place.{Place}
use Rattle.board.specs.declared.places.Place.TheVariants as places
use Rattle.board.specs.Places.{is_free, is_held_by, is_queued_at, is_on_timer}
use Rattle.history.specs.Machine as plain
use Rattle.history.specs.Machine.{Whose, Free, Held, Queued, Timed}
use Rattle.history.specs.Claims.{IsWhere}

-- on a board that is settled none is nowhere
abbrev pub whose_of : Place → Whose
whose_of places.Free = Free
whose_of (places.HeldBy k) = Held k.0
whose_of (places.QueuedAt k) = Queued k.0
whose_of places.OnTimer = Timed
whose_of (places.Nowhere p) = Free

-- one that is not nowhere is where it is
pub somewhere : (x : Place) → ((p : ℕ) → x ≡ places.Nowhere p → ⊥) → IsWhere x (whose_of x)
somewhere places.Free h = refl
somewhere (places.HeldBy k) h = refl
somewhere (places.QueuedAt k) h = refl
somewhere places.OnTimer h = refl
somewhere (places.Nowhere p) h = h p refl

-- free
pub free_alike : (x : Place) → IsWhere x (whose_of x) → plain.is_free (whose_of x) ≡ is_free x
free_alike places.Free h = refl
free_alike (places.HeldBy k) h = refl
free_alike (places.QueuedAt k) h = refl
free_alike places.OnTimer h = refl
free_alike (places.Nowhere p) h = absurd h

-- held by c; a message that is nowhere is held by none
pub held_alike : (c : ℕ) (x : Place) → plain.is_held c (whose_of x) ≡ is_held_by c x
held_alike c places.Free = refl
held_alike c (places.HeldBy k) = refl
held_alike c (places.QueuedAt k) = refl
held_alike c places.OnTimer = refl
held_alike c (places.Nowhere p) = refl

-- queued at r
pub queued_alike : (r : ℕ) (x : Place) → plain.is_queued r (whose_of x) ≡ is_queued_at r x
queued_alike r places.Free = refl
queued_alike r (places.HeldBy k) = refl
queued_alike r (places.QueuedAt k) = refl
queued_alike r places.OnTimer = refl
queued_alike r (places.Nowhere p) = refl

-- on the timer
pub timed_alike : (x : Place) → plain.is_timed (whose_of x) ≡ is_on_timer x
timed_alike places.Free = refl
timed_alike (places.HeldBy k) = refl
timed_alike (places.QueuedAt k) = refl
timed_alike places.OnTimer = refl
timed_alike (places.Nowhere p) = refl
