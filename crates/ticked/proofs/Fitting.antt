-- Timers that fit the bytes of a buffer: one that is read from bytes does, and so do those that a start and a tick leave.
-- Assumes nothing.
use mathlib.Core.Path.{◌≡◌, refl, sym, ◌∙◌, subst}
use mathlib.Core.List.{List}
use Prim.Native.Nat.{ℕ}
use native.Mathlib.Omega.{arith}
use lib.Dec.{lit<}
use lib.ListN.{length, length-map}
use Rattle.links.proofs.Bools.{cond_holds}
use Rattle.board.specs.Records.{Byte, Word}
use Rattle.board.proofs.Numbered.{nth-map, length-put}
use Rattle.board.proofs.Codec.{read_holds}
use Rattle.timer.specs.declared.entry.Entry.{Entry}
use Rattle.timer.specs.Timer.{Timer, entry_area, timer_of, entry_of, timer_bytes, no_entry, is_due, entry}
use Rattle.timer.specs.Claims.{TimerBytes}
use Rattle.timer.proofs.Codec.{length-entries, timer_back, timer-bytes_fit}
use Rattle.kept.proofs.Reading.{nth_cases}
use Rattle.timing.specs.Timing.{lowest_entry, started_timer, next_now, freed, ticked}

-- an entry that fits its three bytes
abbrev pub FitsEntry : Entry → Type 0
FitsEntry e = Byte e.message × Word e.due

-- a timer that fits its fifty
pub record FitsTimer (t : Timer) : Type 0 where
  pub ticks : Word t.ticks
  pub sixteen : length t.entries ≡ 16
  pub entries : (i : ℕ) → FitsEntry (entry t i)

-- read from bytes
pub timer-fits : (s : List ℕ) → TimerBytes s → FitsTimer (timer_of s)
timer-fits s h = record {
  ticks = omega (arith, h.bytes 0, h.bytes 1);
  sixteen = length-entries s;
  entries = read_holds s h.bytes FitsEntry entry_of no_entry entry_area refl
      (λ p b. (b 0 (lit< tt), omega (arith, b 1 (lit< tt), b 2 (lit< tt))));
}

-- after a start
pub started-fits : (t : Timer) (m delay : ℕ) → Byte m → FitsTimer t → FitsTimer (started_timer t m delay)
started-fits t m delay b f = record {
  ticks = f.ticks;
  sixteen = length-put t.entries (lowest_entry t) _ ∙ f.sixteen;
  entries = λ i. nth_cases FitsEntry no_entry t.entries (lowest_entry t) i _ (λ e. (b, omega arith)) (f.entries i);
}

-- after a tick
pub ticked-fits : (t : Timer) → FitsTimer t → FitsTimer (ticked t)
ticked-fits t f = let at = next_now t in record {
  ticks = omega arith;
  sixteen = length-map t.entries (freed at) ∙ f.sixteen;
  entries = λ i. subst FitsEntry (sym (nth-map (freed at) no_entry no_entry t.entries i refl))
      (cond_holds FitsEntry (is_due at (entry t i)) no_entry (entry t i) (λ d. (lit< tt, lit< tt)) (λ d. f.entries i));
}

-- ---- written
-- its bytes are those of a buffer
pub fits-bytes : (t : Timer) → FitsTimer t → TimerBytes (timer_bytes t)
fits-bytes t f = timer-bytes_fit t f.ticks f.sixteen f.entries

-- and read again they are the timer
pub fits_back : (t : Timer) → FitsTimer t → timer_of (timer_bytes t) ≡ t
fits_back t f = timer_back t f.ticks f.sixteen
