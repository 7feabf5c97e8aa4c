-- `station_c::station_call` meets its contract.
use Rattle.std.specs.Prelude.{Some}
use Rattle.station_c.proofs.Told.{no_call_told, made_told}
use Rattle.station_c.proofs.station_call.Goals as goal

pub returns-in_default : goal.returns-in_default
returns-in_default c =
    no_call_told c.args.board.now c.call_of_kind.ensures c.in_default.is

pub returns : goal.returns
returns c =
    made_told c.args.board.now c.call_of_kind.ensures
    c.in-Some.is c.pack.ensures c.step.ensures
