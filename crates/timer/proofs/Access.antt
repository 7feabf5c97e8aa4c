-- What the code's reads of an entry come to: a free one for a number that the buffer does not have, else its bytes, from o on.
-- Assumes nothing.
use mathlib.Core.Path.{◌≡◌, refl, sym, ◌∙◌}
use mathlib.Core.Bool.{true}
use mathlib.Core.List.{List, []}
use Prim.Native.Nat.{ℕ, ◌+◌}
use lib.ListN.{get_or}
use Rattle.board.specs.Numbers.{Numbered, outside}
use Rattle.board.specs.Records.{word_at}
use Rattle.board.specs.Board.{pieces}
use Rattle.board.specs.Writes.{start}
use Rattle.board.proofs.Numbered.{nth-map}
use Rattle.lent.proofs.Access.{record_none, first_read, word_read}
use Rattle.timer.specs.Timer.{entry_area, timer_of, entry_of, no_entry, entry}

module _ (s : List ℕ) (i : ℕ) where
  pub entry_none : outside 16 i ≡ true → no_entry ≡ entry (timer_of s) i
  entry_none = record_none entry_area entry_of no_entry s i

  pub entry_read : (o : ℕ) → Numbered 16 i → o ≡ start entry_area i
      → record { message = get_or s o 0; due = word_at s (o + 1) } ≡ entry (timer_of s) i
  entry_read o h q =
      (λ x. record { message = first_read entry_area s i o h q tt x; due = word_read entry_area s i o h q 1 tt tt x })
      ∙ sym (nth-map entry_of [] no_entry (pieces entry_area s) i refl)
