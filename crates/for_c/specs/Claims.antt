-- What the packed word tells C, as statements; their proofs are in proofs/Theorems. A reader of the exports must believe this file.
--   Words a          value, running and delivered are words, as the code's types have it, and the record is a byte
--   RecordFits       the record that comes with an answer on the board of document 01 is a byte, for each call, the check and the
--                    conversion; R7's is byte 1 as it is
--   PackedTells      the packed word tells the answer
--   NoAnswerIs255    255, which C is told where it asked for no call, is no answer's word
-- Assumes nothing.
use Rattle.std.specs.Prelude.{◌≡◌, ◌≢◌, List, ℕ, get_or}
use Rattle.board.specs.Numbers.{small}
use Rattle.board.specs.Records.{Byte, Word}
use Rattle.paper.specs.declared.call.Call.{Call}
use Rattle.paper.specs.Answers.{handed, Answer}
use Rattle.paper.specs.Outcomes.{effect, check}
use Rattle.paper.specs.Conversion.{convert}
use Rattle.for_c.specs.Packed.{packed}

pub record Words (a : Answer) : Type 0 where
  pub value : Word (handed a).value
  pub running : Word (handed a).running
  pub delivered : Word (handed a).delivered
  pub record_no : Byte (handed a).record_no

abbrev pub RecordFits : Type 0
RecordFits =
    (l : List ℕ) → ((i : ℕ) → Byte (get_or l i 0))
    → ((call : Call) → Byte (handed (effect small l call).answer).record_no)
    × Byte (handed (check small l).answer).record_no
    × Byte (handed (convert small l).answer).record_no

abbrev pub PackedTells : Type 0
PackedTells = (a e : Answer) → Words a → Words e → packed (handed a) ≡ packed (handed e) → a ≡ e

abbrev pub NoAnswerIs255 : Type 0
NoAnswerIs255 = (a : Answer) → packed (handed a) ≢ 255
