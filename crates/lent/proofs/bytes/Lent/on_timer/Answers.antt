-- `lent::bytes::Lent::on_timer` meets its contract.
use Rattle.std.proofs.Common.{ap}
use Rattle.board.specs.Places.{is_on_timer}
use Rattle.lent.proofs.Access.{place_none, place_read}
use Rattle.lent.proofs.bytes.Lent.on_timer.Goals as goal

pub returns-in_default : goal.returns-in_default
returns-in_default c = let a = c.args in ap is_on_timer (place_none a.self.size a.self.bytes.now a.m.0 c.in_default.ensures)

pub returns : goal.returns
returns c =
    let a = c.args in
    let r = ap is_on_timer (place_read a.self.size a.self.bytes.now a.m.0 c.in-Some.o c.in-Some.ensures.0 c.in-Some.ensures.1) in
    cc
