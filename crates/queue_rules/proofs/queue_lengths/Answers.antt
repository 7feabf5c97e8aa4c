-- `queue_rules::queue_lengths` meets its contract.
use mathlib.Core.Path.{refl, sym, ◌∙◌}
use native.Mathlib.Omega.{arith}
use lib.ListN.{length-set}
use Rattle.lent.specs.Lent.{board}
use Rattle.queue_rules.specs.Walks.{queued_at}
use Rattle.queue_rules.proofs.Turns.{count_bound}
use Rattle.queue_rules.proofs.Places.{not_queued}
use Rattle.queue_rules.proofs.Lengths.{lengths_start, lengths_same, lengths_beyond, lengths_more}
use Rattle.queue_rules.proofs.queue_lengths.Goals.{in-QueuedAt+then-i-lt256, in-QueuedAt+else-i-lt256, in_default}
use Rattle.queue_rules.proofs.queue_lengths.Goals as goal

pub loop-before-init : goal.loop-before-init
loop-before-init c = (refl, lengths_start (board c.args.l))

pub overflow_add-lengths : goal.overflow_add-lengths
overflow_add-lengths c =
    let p = c.loop-before in
    let b = board c.args.l in
    omega (arith, count_bound (queued_at b c.number-i.result) p.before _ (p.invariant.1 _ c.if-i-lt256.true))

pub loop-before-preserved : goal.loop-before-preserved
loop-before-preserved c =
    let p = c.loop-before in
    let b = board c.args.l in
    elim c.match-place_meant.branch [
      | in-QueuedAt+then-i-lt256 w ↦ rw w.lengths-is (
        length-set p.lengths _ _ ∙ p.invariant.0,
        lengths_more b p.before p.lengths p.invariant.1 (sym c.place_meant.ensures ∙ w.in-QueuedAt.is) w.number-i.ensures
            p.invariant.0 w.if-i-lt256.true,
      )
      | in-QueuedAt+else-i-lt256 w ↦ rw w.lengths-is (
        p.invariant.0,
        lengths_beyond b p.before p.lengths p.invariant.1 (sym c.place_meant.ensures ∙ w.in-QueuedAt.is) w.number-i.ensures
            w.if-i-lt256.false,
      )
      | in_default w ↦ rw w.lengths-is (
        p.invariant.0,
        lengths_same b p.before p.lengths p.invariant.1
            (not_queued _ c.place_meant.result c.place_meant.ensures w.in_default.not-QueuedAt),
      )
    ]
