-- `block_calls::lowest_free` meets its contract.
use mathlib.Core.Path.{sym, ◌∙◌}
use native.Mathlib.Omega.{arith}
use Rattle.four_places.proofs.Groups.{four_within}
use Rattle.block_calls.proofs.Search.{behind_four, free_none, free_here, free_above}
use Rattle.block_calls.proofs.lowest_free.Goals as goal

pub overflow_add-used : goal.overflow_add-used
overflow_add-used c =
    let l = c.args.l in
    omega (arith, four_within l.size l.bytes.now c.loop-used.used (sym c.none_free.ensures ∙ c.loop-used-test.true))

pub loop-used-smaller : goal.loop-used-smaller
loop-used-smaller c =
    let l = c.args.l in
    omega (arith, four_within l.size l.bytes.now c.loop-used.used (sym c.none_free.ensures ∙ c.loop-used-test.true))

pub loop-used-preserved : goal.loop-used-preserved
loop-used-preserved c =
    let l = c.args.l in
    behind_four l.size l.bytes.now c.loop-used.used c.loop-used.invariant (sym c.none_free.ensures ∙ c.loop-used-test.true)

pub returns-in-Free : goal.returns-in-Free
returns-in-Free c =
    let l = c.args.l in
    free_here l.size l.bytes.now c.loop-before.before c.loop-before.invariant c.loop-before-test.true c.place_meant.ensures
    c.in-Free.is c.meant.ensures

pub loop-before-preserved : goal.loop-before-preserved
loop-before-preserved c =
    let l = c.args.l in
    free_above l.size l.bytes.now c.loop-before.before c.loop-before.invariant c.loop-before-test.true c.place_meant.ensures
    c.in_default.not-Free

pub returns : goal.returns
returns c =
    let l = c.args.l in
    free_none l.size l.bytes.now c.loop-before.before c.loop-before.invariant c.loop-before-test.false
