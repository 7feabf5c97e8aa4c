-- `station::convert` meets its contract.
use Rattle.std.proofs.lemmas.Result.{err_from_is_err_and}
use Rattle.station.proofs.Answers.{convert_broken, converts}
use Rattle.station.proofs.convert.Goals as goal

pub returns-in_err-c : goal.returns-in_err-c
returns-in_err-c c =
    let p = err_from_is_err_and c.from_residual.result c.from_residual.ensures.1 in
    rw (p.1, p.2) (convert_broken c.args.l.now c.sized.ensures c.if-not-sized.false c.checked_small.ensures c.in_err-c.was)

pub returns : goal.returns
returns c =
    converts c.args.l.now c.sized.ensures c.if-not-sized.false c.checked_small.ensures c.in_ok-c.was c.put_running.ensures
    c.number.ensures
