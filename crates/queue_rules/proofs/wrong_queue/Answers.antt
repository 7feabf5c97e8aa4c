-- `queue_rules::wrong_queue` meets its contract.
use mathlib.Core.Path.{◌≡◌, sym, ap, ◌∙◌}
use Prim.Native.Nat.{ℕ, ◌+◌}
use native.Mathlib.Omega.{arith}
use lib.ListN.{get_or}
use Rattle.std.specs.Prelude.{Option}
use Rattle.links.specs.Queue.{each}
use Rattle.links.proofs.Bools.{each_next}
use Rattle.lent.specs.Lent.{board}
use Rattle.board.proofs.Meant.{task_meant_there}
use Rattle.paper.specs.Rules.{rule5_at}
use Rattle.queue_rules.specs.Walks.{queue_walked, saw}
use Rattle.queue_rules.proofs.Lists.{rule5_one}
use Rattle.queue_rules.proofs.Breaking.{breaking_none, breaking_is}
use Rattle.queue_rules.proofs.Turns.{counted_there}
use Rattle.queue_rules.proofs.wrong_queue.Goals as goal

pub returns-in_err-k : goal.returns-in_err-k
returns-in_err-k c =
    absurd (counted_there c.args.l.size c.loop-before.before c.loop-before-test.true (sym c.meant.ensures ∙ c.in_err-k.was))

pub returns-then-not-saw : goal.returns-then-not-saw
returns-then-not-saw c =
    let p = c.loop-before in
    let a = c.args in
    let b = board a.l in
    let n = get_or c.queue_lengths-lengths.result (p.before + 1) 0 in
    let told =
    c.saw.ensures
    ∙ ap (λ (w : Option ℕ). saw w n) (c.walk_queue.ensures
    ∙ ap (queue_walked b n) (task_meant_there a.l.size _ _ (sym c.meant.ensures ∙ c.in_ok-k.was)).1)
    ∙ rule5_one a.l.size a.l.bytes.now (p.before + 1) n (c.queue_lengths-lengths.ensures (p.before + 1) (omega (arith, c.requires))) in
    sym c.in_ok-k.was ∙ c.meant.ensures
    ∙ breaking_is a.l.size (rule5_at a.l.size b) p.before c.loop-before-test.true p.invariant (sym told ∙ c.if-not-saw.true)

pub loop-before-preserved : goal.loop-before-preserved
loop-before-preserved c =
    let p = c.loop-before in
    let a = c.args in
    let b = board a.l in
    let n = get_or c.queue_lengths-lengths.result (p.before + 1) 0 in
    let told =
    c.saw.ensures
    ∙ ap (λ (w : Option ℕ). saw w n) (c.walk_queue.ensures
    ∙ ap (queue_walked b n) (task_meant_there a.l.size _ _ (sym c.meant.ensures ∙ c.in_ok-k.was)).1)
    ∙ rule5_one a.l.size a.l.bytes.now (p.before + 1) n (c.queue_lengths-lengths.ensures (p.before + 1) (omega (arith, c.requires))) in
    each_next (rule5_at a.l.size b) p.before p.invariant (sym told ∙ c.if-not-saw.false)

pub returns : goal.returns
returns c =
    let p = c.loop-before in
    let a = c.args in
    let f = rule5_at a.l.size (board a.l) in
    let e : a.l.size.tasks ≡ p.before = omega arith in
    breaking_none a.l.size f (ap (each f) e ∙ p.invariant)
