-- `lent::bytes::Lent::queued_at` meets its contract.
use Rattle.std.proofs.Common.{ap}
use Rattle.board.specs.Places.{is_queued_at}
use Rattle.lent.proofs.Access.{place_none, place_read}
use Rattle.lent.proofs.bytes.Lent.queued_at.Goals as goal

pub returns-in_default : goal.returns-in_default
returns-in_default c = let a = c.args in ap (is_queued_at c.args.k.0) (place_none a.self.size a.self.bytes.now a.m.0 c.in_default.ensures)

pub returns : goal.returns
returns c =
    let a = c.args in
    let r = ap (is_queued_at c.args.k.0) (place_read a.self.size a.self.bytes.now a.m.0 c.in-Some.o c.in-Some.ensures.0 c.in-Some.ensures.1) in
    cc
