-- `telling::output::Pieces::hand_on` meets its contract.
use Rattle.telling.proofs.output.Pieces.hand_on.Goals as goal

pub returns-clause-bytes : goal.returns-clause-bytes
returns-clause-bytes g c = c.in_ok-write_all.ensures.bytes
