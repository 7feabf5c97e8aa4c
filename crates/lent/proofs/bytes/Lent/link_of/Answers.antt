-- `lent::bytes::Lent::link_of` meets its contract.
use Rattle.std.proofs.Common.{ap}
use Rattle.board.specs.declared.records.Message.{Message}
use Rattle.lent.proofs.Access.{message_none, link_read}
use Rattle.lent.proofs.bytes.Lent.link_of.Goals as goal

pub returns-in_default : goal.returns-in_default
returns-in_default c = let a = c.args in ap (λ (u : Message). u.link) (message_none a.self.size a.self.bytes.now a.m.0 c.in_default.ensures)

pub returns : goal.returns
returns c =
    let a = c.args in
    let r = link_read a.self.size a.self.bytes.now a.m.0 c.in-Some.o c.in-Some.ensures.0 c.in-Some.ensures.1 in
    cc
