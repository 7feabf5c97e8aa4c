-- STAT and PRIO: document 01, 'What the board holds'. A reader must believe this file.
--   has s BIT           the bit is set; with_bit s BIT and without_bit s BIT are s with that bit set, cleared, and the others as they were
--   is_present s        TCBB is set; with R2 this says that the record isn't ten zero bytes
--   is_ready s          present, WAIT and IWAT 0
--   number p            the priority number in a PRIO byte, bits 7 to 1; fifo p its bit 0; with_fifo p the byte with bit 0 set
-- Assumes nothing.
use Rattle.std.specs.Prelude.{Bool, not, ◌&&◌, ℕ, ◌+◌, ◌-◌, ◌*◌, ◌/◌, ◌%◌, eqb}
use Rattle.std.specs.Int.Bits.{bit_and, bit_or}
use Rattle.board.specs.declared.status.Status.{Status}

-- ---- STAT of a task; DEBUG and MROB are kept and have no effect
abbrev pub WAIT : ℕ
WAIT = 128

abbrev pub IWAT : ℕ
IWAT = 64

abbrev pub BIT5 : ℕ
BIT5 = 32

abbrev pub INTQ : ℕ
INTQ = 16

abbrev pub DEBUG : ℕ
DEBUG = 8

abbrev pub MROB : ℕ
MROB = 4

abbrev pub MHBS : ℕ
MHBS = 2

abbrev pub TCBB : ℕ
TCBB = 1

abbrev pub stored : ℕ → Status
stored s = record { 0 = s }

abbrev pub has : Status → ℕ → Bool
has s bit = not (eqb (bit_and s.0 bit) 0)

abbrev pub with_bit : Status → ℕ → Status
with_bit s bit = stored (bit_or s.0 bit)

abbrev pub without_bit : Status → ℕ → Status
without_bit s bit = stored (bit_and s.0 (255 - bit))

abbrev pub is_present : Status → Bool
is_present s = has s TCBB

abbrev pub is_ready : Status → Bool
is_ready s = is_present s && not (has s WAIT) && not (has s IWAT)

-- ---- PRIO: bits 7 to 1 the priority, 0 the highest; bit 0 FIFO
abbrev pub number : ℕ → ℕ
number p = p / 2

abbrev pub fifo : ℕ → Bool
fifo p = eqb (p % 2) 1

abbrev pub with_fifo : ℕ → ℕ
with_fifo p = 2 * number p + 1
