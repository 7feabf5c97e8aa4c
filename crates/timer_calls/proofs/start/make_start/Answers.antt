-- `timer_calls::start::make_start` meets its contract.
use Rattle.std.proofs.Common.{refl}
use Rattle.board.specs.Board.{board_of}
use Rattle.timer_calls.specs.Stores.{starting}
use Rattle.timer_calls.proofs.Starting.{dispatched}
use Rattle.timer_calls.proofs.start.make_start.Goals as goal

pub returns : goal.returns
returns c =
    let a = c.args in
    let l = a.l.now in
    dispatched l.size (board_of l.size l.bytes.now).running (starting l.size l.bytes.now a.s.now a.m a.delay) refl c.requires.0.1
    c.start_body-done.ensures c.dispatch.ensures
