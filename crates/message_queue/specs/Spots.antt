-- A spot in the queue of a task as code hands it on: messages, not words.
--   message_spot z s     the spot s, for a board of size z
-- Assumes nothing.
use Rattle.links.specs.Seek as words
use Rattle.board.specs.declared.numbers.Size.{Size}
use Rattle.board.specs.declared.numbers.MsgNo.{MsgNo}
use Rattle.board.specs.Numbers.{message_meant}
use Rattle.changes.specs.declared.spot.Spot.{Spot}
use Rattle.changes.specs.Spots.{spot_meant}

abbrev pub message_spot : Size → words.Spot → Spot MsgNo
message_spot z = spot_meant (message_meant z)
