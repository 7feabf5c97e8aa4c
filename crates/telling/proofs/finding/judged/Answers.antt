-- What is found goes by the answer of the check.
use Rattle.telling.proofs.finding.judged.Goals as goal

pub returns : goal.returns
returns g c = rw (← c.check-a.ensures.answers) c.found.ensures
