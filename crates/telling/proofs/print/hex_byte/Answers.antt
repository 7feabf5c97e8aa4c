-- `telling::print::hex_byte` meets its contract.
use Rattle.telling.proofs.print.hex_byte.Goals as goal

pub returns : goal.returns
returns g c = c.text.ensures
