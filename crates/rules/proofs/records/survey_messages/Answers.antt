-- `rules::records::survey_messages` meets its contract.
use mathlib.Core.Path.{◌≡◌, refl, sym, ap, ap₂, ◌∙◌}
use native.Mathlib.Omega.{arith}
use Rattle.std.specs.Prelude.{Option}
use Rattle.board.specs.declared.numbers.MsgNo.{MsgNo}
use Rattle.links.specs.Queue.{each}
use Rattle.links.proofs.Bools.{each_next}
use Rattle.lent.specs.Lent.{board}
use Rattle.board.specs.Places.{is_queued}
use Rattle.paper.specs.Rules.{present}
use Rattle.queue_rules.specs.Walks.{counted, queued}
use Rattle.queue_rules.proofs.Turns.{count_starts, count_yes, count_no, count_bound}
use Rattle.queue_rules.proofs.Places.{not_queued}
use Rattle.rules.specs.Checked.{good_by, rule4_of, messages_of}
use Rattle.rules.proofs.Turns.{messages_fail, messages-good}
use Rattle.rules.proofs.records.survey_messages.Goals.{in-QueuedAt, in_default}
use Rattle.rules.proofs.records.survey_messages.Goals as goal

pub loop-before-init : goal.loop-before-init
loop-before-init c = (refl, count_starts _)

pub returns-then-not-good_message : goal.returns-then-not-good_message
returns-then-not-good_message c =
    let p = c.loop-before in
    let a = c.args in
    let b = board a.l in
    ap (λ (m : Option MsgNo). messages_of m 0) c.meant.ensures
    ∙ messages_fail a.edition a.l.size b p.before c.loop-before-test.true p.invariant.0
    (sym (c.good_message.ensures ∙ ap₂ (good_by a.edition a.l.size (present b)) c.message_meant-u.ensures c.place_meant-p.ensures)
    ∙ c.if-not-good_message.true)

pub overflow_add-queued : goal.overflow_add-queued
overflow_add-queued c = omega (arith, count_bound _ _ _ c.loop-before.invariant.1)

pub loop-before-preserved : goal.loop-before-preserved
loop-before-preserved c =
    let p = c.loop-before in
    let a = c.args in
    let b = board a.l in (
      each_next (rule4_of a.edition a.l.size b) p.before p.invariant.0
          (sym (c.good_message.ensures ∙ ap₂ (good_by a.edition a.l.size (present b)) c.message_meant-u.ensures c.place_meant-p.ensures)
          ∙ c.if-not-good_message.false),
      elim c.match-p.branch [
        | in-QueuedAt w ↦ w.queued-is ∙ count_yes _ _ _ p.invariant.1 (ap is_queued (sym c.place_meant-p.ensures ∙ w.in-QueuedAt.is))
        | in_default w ↦ w.queued-is
            ∙ count_no _ _ _ p.invariant.1 (not_queued _ c.place_meant-p.result c.place_meant-p.ensures w.in_default.not-QueuedAt)
      ],
    )

pub returns : goal.returns
returns c =
    let p = c.loop-before in
    let a = c.args in
    let b = board a.l in
    let e : p.before ≡ a.l.size.messages = omega arith in
    messages-good a.edition a.l.size b p.queued (sym (ap (each (rule4_of a.edition a.l.size b)) e) ∙ p.invariant.0)
    (p.invariant.1 ∙ ap (counted (queued b)) e)
