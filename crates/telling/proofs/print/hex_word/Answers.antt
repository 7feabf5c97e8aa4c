-- `telling::print::hex_word` meets its contract.
use Rattle.telling.proofs.print.hex_word.Goals as goal

pub returns : goal.returns
returns g c = c.text.ensures
