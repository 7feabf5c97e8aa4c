-- What is found goes by the answer of the conversion.
use Rattle.telling.proofs.finding.converted.Goals as goal

pub returns-clause-answers : goal.returns-clause-answers
returns-clause-answers g c = rw (← c.convert-a.ensures.answers) c.found.ensures
