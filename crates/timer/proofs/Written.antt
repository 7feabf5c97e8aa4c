-- One writer is one change of the timer: what the code leaves in bytes of the right length, read as a timer, is the timer with that
-- word or entry so and nothing else changed; and they are the bytes of that timer.
-- Assumes nothing.
use mathlib.Core.Path.{◌≡◌, refl, sym, ap, ◌∙◌}
use mathlib.Core.List.{List, [], ◌∷◌}
use Prim.Native.Nat.{ℕ, ◌+◌, ◌*◌, ◌≤◌}
use native.Mathlib.Omega.{arith}
use lib.Dec.{lit<}
use lib.ListN.{length}
use Rattle.board.specs.Records.{Byte, Word}
use Rattle.board.specs.Board.{put}
use Rattle.board.proofs.Pieces.{length_put_in, get_d_put_in}
use Rattle.board.proofs.Codec.{small_bytes, small_put_in, word_back}
use Rattle.board.proofs.Written.{record-put}
use Rattle.timer.specs.declared.entry.Entry.{Entry}
use Rattle.timer.specs.Timer.{timer, timer_length, entry_area, entry_of, entry_bytes, timer_of, timer_bytes, with_entry}
use Rattle.timer.specs.Writes.{put_now, put_entry}
use Rattle.timer.specs.Claims.{TimerBytes}
use Rattle.timer.proofs.Codec.{entry_back, small-entry, bytes-timer}

-- ---- an entry written: the bytes keep their length
pub length-put_entry : (s : List ℕ) (i : ℕ) (e : Entry) → length (put_entry s i e) ≡ length s
length-put_entry s i e = length_put_in entry_area s i (entry_bytes e)

-- ---- read as a timer
-- now
pub timer-put_now : (s : List ℕ) → 2 ≤ length s → (w : ℕ) → timer_of (put_now s w) ≡ timer w (timer_of s).entries
timer-put_now [] h w = absurd (omega arith)
timer-put_now (x ∷ []) h w = absurd (omega arith)
timer-put_now (x ∷ y ∷ s) h w = ap (λ (n : ℕ). timer n (timer_of (x ∷ y ∷ s)).entries) (word_back w)

-- an entry
pub timer-put-entry : (s : List ℕ) → length s ≡ timer_length → (i : ℕ) (e : Entry)
    → timer_of (put_entry s i e) ≡ with_entry (timer_of s) i e
timer-put-entry s h i e =
    let vs : List ℕ = entry_bytes e in
    let low = get_d_put_in entry_area s i vs 0 (lit< tt) in
    let high = get_d_put_in entry_area s i vs 1 (lit< tt) in
    let l = record-put entry_area entry_of s i vs (omega arith) refl ∙ ap (put (timer_of s).entries i) (entry_back e) in
    λ x. timer (low x + 256 * high x) (l x)

-- ---- the bytes of the timer with an entry changed
pub put-entry-bytes : (s : List ℕ) → TimerBytes s → (i : ℕ) (e : Entry) → Byte e.message → Word e.due
    → put_entry s i e ≡ timer_bytes (with_entry (timer_of s) i e)
put-entry-bytes s h i e b w =
    let d : List ℕ = put_entry s i e in
    let n = small_put_in entry_area s i (entry_bytes e) (small_bytes s h.bytes) (small-entry e b w) in
    sym (bytes-timer d (length-put_entry s i e ∙ h.long) n) ∙ ap timer_bytes (timer-put-entry s h.long i e)
