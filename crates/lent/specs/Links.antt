-- Where a message's LINK leads. The contract of link_from cites this file.
--   message_link z w    the word w as a link: to the end where it is 0, on to the message that it means, or beyond a board of size z
-- Assumes nothing.
use Rattle.std.specs.Prelude.{cond, ℕ, eqb, Option, Some, None}
use Rattle.board.specs.declared.numbers.Size.{Size}
use Rattle.board.specs.declared.numbers.MsgNo.{MsgNo}
use Rattle.board.specs.Numbers.{message_meant}
use Rattle.lent.specs.declared.bytes.MessageLink.{MessageLink}
use Rattle.lent.specs.declared.bytes.MessageLink.TheVariants.{On, End, Beyond}

abbrev pub onward : Option MsgNo → MessageLink
onward (Some m) = On m
onward None = Beyond

abbrev pub message_link : Size → ℕ → MessageLink
message_link z w = cond (eqb w 0) End (onward (message_meant z w))
