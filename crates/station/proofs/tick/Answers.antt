-- `station::tick` meets its contract.
use mathlib.Core.Path.{ap, ◌∙◌}
use Rattle.std.specs.Prelude.{Err}
use Rattle.std.proofs.lemmas.Result.{err_from_is_err_and}
use Rattle.station.proofs.Timing.{timed_asks, tick-refused, tick-made}
use Rattle.station.proofs.tick.Goals as goal

pub returns-in_err-c : goal.returns-in_err-c
returns-in_err-c c =
    let a = c.args in
    let p = err_from_is_err_and c.from_residual.result c.from_residual.ensures.1 in
    tick-refused a.l.now a.s.now c.both_pass.ensures c.in_err-c.was (p.1 ∙ ap Err p.2)

pub tick_small-requires : goal.tick_small-requires
tick_small-requires c = timed_asks c.args.l.now c.args.s.now c.both_pass.ensures c.in_ok-c.was

pub returns : goal.returns
returns c =
    let a = c.args in
    tick-made a.l.now a.s.now c.both_pass.ensures c.in_ok-c.was (λ i. (c.slice_known-1.given i).fits)
    (λ i. (c.slice_known-2-1.given i).fits) c.tick_small.ensures (λ i. (c.type_inv.l i).fits)
