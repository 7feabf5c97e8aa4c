-- How many messages are queued at each task, counted in one pass: what a message adds to the table.
-- Assumes nothing.
use mathlib.Core.Path.{◌≡◌, refl, sym, ap, ◌∙◌}
use mathlib.Core.Bool.{false, true≢false}
use mathlib.Core.List.{List}
use Prim.Native.Nat.{ℕ, ◌+◌, ◌≤◌, ◌<◌}
use native.Mathlib.Omega.{arith}
use native.Mathlib.Decide.{ℕ_discrete}
use lib.ListN.{length, get_or, set, replicate, get_or-replicate}
use lib.Seq.{get_or-set_same, get_or-set_other}
use lib.Dec.{eqb}
use borrow.Author.Tests.{eq-eqb, ne_eqb}
use Rattle.board.specs.declared.numbers.TaskNo.{TaskNo}
use Rattle.board.specs.declared.places.Place.{Place}
use Rattle.board.specs.declared.places.Place.TheVariants.{Free, HeldBy, QueuedAt, OnTimer, Nowhere}
use Rattle.board.specs.Places.{is_queued_at, is_queued}
use Rattle.board.specs.Board.{Board, place}
use Rattle.queue_rules.specs.Walks.{counted, queued_at, Lengths}
use Rattle.queue_rules.proofs.Turns.{count_starts, count_yes, count_no}

-- what is queued nowhere is not queued at k
nowhere : (k : ℕ) (p : Place) → is_queued p ≡ false → is_queued_at k p ≡ false
nowhere k Free e = refl
nowhere k (HeldBy j) e = refl
nowhere k (QueuedAt j) e = absurd (true≢false e)
nowhere k OnTimer e = refl
nowhere k (Nowhere n) e = refl

pub lengths_start : (b : Board) → Lengths b 0 (replicate 256 0)
lengths_start b k h = get_or-replicate 256 k 0 0 h ∙ count_starts (queued_at b k)

module _ (b : Board) (m : ℕ) (t : List ℕ) (so : Lengths b m t) where
  -- the next message is queued nowhere, or at a task beyond the table
  same : ((k : ℕ) → k < 256 → queued_at b k (m + 1) ≡ false) → Lengths b (m + 1) t
  same none k h = count_no (queued_at b k) m (get_or t k 0) (so k h) (none k h)

  pub lengths_same : is_queued (place b (m + 1)) ≡ false → Lengths b (m + 1) t
  lengths_same e = same (λ k h. nowhere k (place b (m + 1)) e)

  -- it is queued at j, whose number is i
  module _ {j : TaskNo} {i : ℕ} (e : place b (m + 1) ≡ QueuedAt j) (n : i ≡ j.0) where
    at : (k : ℕ) → queued_at b k (m + 1) ≡ eqb i k
    at k = ap (is_queued_at k) e ∙ ap (λ (x : ℕ). eqb x k) (sym n)

    pub lengths_beyond : 256 ≤ i → Lengths b (m + 1) t
    lengths_beyond h = same (λ k u. at k ∙ ne_eqb i k (λ q. omega arith))

    pub lengths_more : length t ≡ 256 → i < 256 → Lengths b (m + 1) (set t i (get_or t i 0 + 1))
    lengths_more long h k u = go (ℕ_discrete i k)
      where
        go : Dec (i ≡ k) → get_or (set t i (get_or t i 0 + 1)) k 0 ≡ counted (queued_at b k) (m + 1)
        go (yes q) =
            ap (λ (x : ℕ). get_or (set t i (get_or t i 0 + 1)) x 0) (sym q) ∙ get_or-set_same t i (get_or t i 0 + 1) 0 (omega (arith, h, long))
            ∙ count_yes (queued_at b i) m (get_or t i 0) (so i h) (at i ∙ eq-eqb i i refl) ∙ ap (λ (x : ℕ). counted (queued_at b x) (m + 1)) q
        go (no q) =
            get_or-set_other t i k (get_or t i 0 + 1) 0 (λ r. q (sym r))
            ∙ count_no (queued_at b k) m (get_or t k 0) (so k u) (at k ∙ ne_eqb i k q)
