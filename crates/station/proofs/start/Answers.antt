-- `station::start` meets its contract.
use Rattle.std.proofs.lemmas.Result.{err_from_is_err_and}
use Rattle.station.proofs.Timing.{timed_asks, start-refused, start-made}
use Rattle.station.proofs.start.Goals as goal

pub returns-in_err-c : goal.returns-in_err-c
returns-in_err-c c =
    let a = c.args in
    let p = err_from_is_err_and c.from_residual.result c.from_residual.ensures.1 in
    rw p.1 (rw p.2 (start-refused a.l.now a.s.now c.both_pass.ensures c.in_err-c.was a.m a.delay))

pub start_small-requires : goal.start_small-requires
start_small-requires c = timed_asks c.args.l.now c.args.s.now c.both_pass.ensures c.in_ok-c.was

pub returns : goal.returns
returns c =
    let a = c.args in
    start-made a.l.now a.s.now c.both_pass.ensures c.in_ok-c.was (λ i. (c.slice_known-1.given i).fits)
    (λ i. (c.slice_known-2-1.given i).fits) a.m a.delay c.start_small.ensures (λ i. (c.type_inv.l i).fits)
