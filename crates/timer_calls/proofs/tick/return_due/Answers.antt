-- `timer_calls::tick::return_due` meets its contract.
use Rattle.std.proofs.Common.{refl, ◌∙◌, arith}
use Rattle.timer_calls.proofs.Returning.{going_begins, going_back, going_on, going_ends}
use Rattle.timer_calls.proofs.tick.return_due.Goals as goal

pub loop-before-init : goal.loop-before-init
loop-before-init c =
    let l = c.args.l.now in
    (refl, refl, going_begins l.size c.args.at l.bytes.now c.args.s.now (record { long = c.requires; bytes = λ j. (c.type_inv.s j).fits }))

pub loop-before-preserved-then-not-is_due : goal.loop-before-preserved-then-not-is_due
loop-before-preserved-then-not-is_due c =
    let l = c.args.l.now in
    let now = c.loop-before in (
      now.invariant.0,
      now.invariant.1,
      going_on l.size c.args.at l.bytes.now c.args.s.now now.l.bytes.now now.s now.before now.invariant.2 (omega arith)
          c.entry_at-e.ensures c.is_due.ensures c.if-not-is_due.true,
    )

pub loop-before-preserved : goal.loop-before-preserved
loop-before-preserved c =
    let l = c.args.l.now in
    let now = c.loop-before in
    let g = c.give_back.ensures in (
      g.size ∙ now.invariant.0,
      g.loan ∙ now.invariant.1,
      going_back l.size c.args.at l.bytes.now c.args.s.now now.l.bytes.now now.s now.before now.invariant.2 (omega arith)
          c.entry_at-e.ensures c.is_due.ensures c.if-not-is_due.false (rw now.invariant.0 at g.bytes) c.none.ensures
          c.put_entry.ensures (λ j. (c.type_inv.s j).fits),
    )

pub returns : goal.returns
returns c =
    let l = c.args.l.now in
    let now = c.loop-before in
    let m = going_ends l.size c.args.at l.bytes.now c.args.s.now now.l.bytes.now now.s now.before now.invariant.2 (omega arith) in
    record {
      answers = m.answers;
      becomes = record { bytes = m.board; size = now.invariant.0; loan = now.invariant.1 };
      timer = m.timer;
    }
