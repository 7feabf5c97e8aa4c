-- `station::fresh` meets its contract.
use Rattle.station.proofs.Answers.{fresh-accepted}
use Rattle.station.proofs.fresh.Goals as goal

pub returns : goal.returns
returns c =
    fresh-accepted c.args.l.now c.sized.ensures c.if-not-sized.false (c.fill.ensures.after (λ y h. h))
