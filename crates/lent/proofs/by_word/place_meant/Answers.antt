-- `lent::by_word::place_meant` meets its contract.
use Rattle.std.proofs.Common.{ap, sym, ◌∙◌}
use Rattle.board.specs.declared.numbers.MsgNo.{MsgNo}
use Rattle.board.specs.Board.{place}
use Rattle.board.proofs.Meant.{message_meant-message, message_meant_none}
use Rattle.lent.specs.Lent.{board}
use Rattle.lent.proofs.Access.{place_none}
use Rattle.lent.proofs.by_word.place_meant.Goals as goal

pub returns-in-Some : goal.returns-in-Some
returns-in-Some c = let b = c.args.b in c.place.ensures ∙ ap (λ (j : MsgNo). place (board b) j.0) (message_meant-message b.size c.args.w _ (sym c.in-Some.ensures)).1

pub returns-in-None : goal.returns-in-None
returns-in-None c = let b = c.args.b in place_none b.size b.bytes.now c.args.w (message_meant_none b.size c.args.w (sym c.in-None.ensures))
