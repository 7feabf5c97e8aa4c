-- An answer as one word, for C. A reader of the exports must believe this file.
--   packed h     from the lowest bit: 8 bits number, 16 bits value, 16 bits running, 16 bits delivered. The rule is added to the
--                lower 8 bits of the value and the record to the upper: no refusal has a value, and no acceptance a rule or record
-- Assumes nothing.
use Rattle.std.specs.Prelude.{ℕ, ◌+◌, ◌*◌}
use Rattle.paper.specs.Answers.{Handed}

abbrev pub packed : Handed → ℕ
packed h =
    h.number + 256 * (h.value + h.rule + 256 * h.record_no) + 16777216 * h.running + 1099511627776 * h.delivered
