-- Nothing is lost between the bytes of a timer buffer and the timer: an entry and a timer read back from their bytes are the same,
-- and bytes written back from the timer that they are, are the bytes.
-- Assumes nothing.
use mathlib.Core.Path.{◌≡◌, refl, sym, ap, ◌∙◌}
use mathlib.Core.List.{List, [], ◌∷◌, ◌++◌, map, append-nil}
use Prim.Native.Nat.{ℕ, suc}
use native.Mathlib.Omega.{arith}
use lib.ListN.{length, get_or, drop, length-drop, length-map}
use lib.Seq.{drop-cons, take_all}
use Rattle.board.specs.Records.{Byte, Word}
use Rattle.board.specs.Board.{join, pieces}
use Rattle.board.proofs.Pieces.{length-pieces}
use Rattle.board.proofs.Codec.{Small, small_at, small_bytes, small-drop, drop_listed, word_halves, word_back, word_whole}
use Rattle.board.proofs.Codec.{join-cut, length-records, records_read, small-records}
use Rattle.timer.specs.declared.entry.Entry.{Entry}
use Rattle.timer.specs.Timer.{Timer, timer, timer_length, timer_of, timer_bytes}
use Rattle.timer.specs.Timer.{entry_area, entry_of, entry_bytes, no_entry, entry}
use Rattle.timer.specs.Claims.{TimerBytes, WritingBackChangesNothing}

-- ---- one entry
-- an entry read back from its bytes is the entry
pub entry_back : (e : Entry) → entry_of (entry_bytes e) ≡ e
entry_back e = λ i. record { message = e.message; due = word_back e.due i }

entry_whole : (p : List ℕ) → length p ≡ 3 → Small p → entry_bytes (entry_of p) ≡ p
entry_whole p e h = (λ i. get_or p 0 0 ∷ word_whole p 1 h i) ∙ sym (drop_listed 0 3 p e)

-- the bytes of an entry that fits are bytes
pub small-entry : (e : Entry) → Byte e.message → Word e.due → Small (entry_bytes e)
small-entry e b w = let h = word_halves e.due w in (b, (h.0, (h.1, tt)))

-- ---- from the bytes to the timer and back
-- it has sixteen entries
pub length-entries : (s : List ℕ) → length (timer_of s).entries ≡ 16
length-entries s = length-map (pieces entry_area s) entry_of ∙ length-pieces entry_area s

-- as many bytes as a buffer has, written back, are the very bytes
pub bytes-timer : (s : List ℕ) → length s ≡ timer_length → Small s → timer_bytes (timer_of s) ≡ s
bytes-timer s e h =
    let d = length-drop 2 s in
    let l = join-cut entry_of entry_bytes 3 entry_whole 16 (drop 2 s) (omega arith) (small-drop 2 s h)
    ∙ take_all 48 (drop 2 s) (omega arith) in
    (λ i. word_whole s 0 h i ++ l i)
    ∙ ap (λ (r : List ℕ). get_or s 0 0 ∷ r) (sym (drop-cons s 1 0 (omega arith)))
    ∙ sym (drop-cons s 0 0 (omega arith))

pub writing_back_changes_nothing : WritingBackChangesNothing
writing_back_changes_nothing s h = bytes-timer s h.long (small_bytes s h.bytes)

-- ---- from the timer to the bytes and back
-- a timer of sixteen entries read back from its bytes is the timer
pub timer_back : (t : Timer) → Word t.ticks → length t.entries ≡ 16 → timer_of (timer_bytes t) ≡ t
timer_back t w e =
    let j : List ℕ = join (map entry_bytes t.entries) in
    let l = records_read entry_bytes 3 (λ x. refl) entry_of no_entry t.entries j [] 16 e (sym (append-nil j))
    (λ i. entry_back (get_or t.entries i no_entry)) in
    λ i. timer (word_back t.ticks i) (l i)

-- its bytes are as many as a buffer has
pub length-timer-bytes : (t : Timer) → length t.entries ≡ 16 → length (timer_bytes t) ≡ timer_length
length-timer-bytes t e = omega (arith, length-records entry_bytes 3 (λ x. refl) t.entries)

-- and where now and each entry fit, they are bytes
pub timer-bytes_fit : (t : Timer) → Word t.ticks → length t.entries ≡ 16
    → ((i : ℕ) → Byte (entry t i).message × Word (entry t i).due) → TimerBytes (timer_bytes t)
timer-bytes_fit t w e f =
    let h = word_halves t.ticks w in
    let l = small-records entry_bytes no_entry t.entries (λ i. small-entry (entry t (suc i)) (f (suc i)).0 (f (suc i)).1) in
    record { long = length-timer-bytes t e; bytes = λ i. small_at (timer_bytes t) i (h.0, (h.1, l)) }
