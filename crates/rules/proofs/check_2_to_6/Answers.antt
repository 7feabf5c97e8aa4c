-- `rules::check_2_to_6` meets its contract.
-- what each step found is named by its rule: s2 the look at the tasks and what it says of R2, s3 the walk of R3, and so on
use mathlib.Core.Path.{sym, ◌∙◌}
use Rattle.std.proofs.lemmas.Result.{err_from_is_err_and}
use Rattle.rules.proofs.Checking.{kept2, order_asked, out_of_order, in_order, first_met, broken4, kept4, broken5, kept5}
use Rattle.rules.proofs.Checking.{broken6, kept6}
use Rattle.rules.proofs.Checking.{breaks3, breaks4, breaks5, breaks6, all_hold}
use Rattle.rules.proofs.check_2_to_6.Goals as goal

pub returns-in_err-first : goal.returns-in_err-first
returns-in_err-first c =
    let a = c.args in
    let p = err_from_is_err_and c.from_residual.result c.from_residual.ensures.1 in
    let s2 = c.survey_tasks-tasks.ensures in
    let e2 = c.in_default.is in
    let o =
    out_of_order a.edition a.l.size a.l.bytes.now
    (sym c.in_err-first.was ∙ order_asked a.edition a.l.size a.l.bytes.now s2 e2 c.rule3.ensures) in
    rw (p.1, p.2) (o.1 ∙ breaks3 a.edition a.l.size a.l.bytes.now (kept2 a.edition a.l.size a.l.bytes.now s2 e2) o.0)

pub returns-in-Some-breaks4 : goal.returns-in-Some-breaks4
returns-in-Some-breaks4 c =
    let a = c.args in
    let s2 = c.survey_tasks-tasks.ensures in
    let e2 = c.in_default.is in
    let h2 = kept2 a.edition a.l.size a.l.bytes.now s2 e2 in
    let s3 = sym c.in_ok-first.was ∙ order_asked a.edition a.l.size a.l.bytes.now s2 e2 c.rule3.ensures in
    let h3 = in_order a.edition a.l.size a.l.bytes.now s3 in
    let n = broken4 a.edition a.l.size a.l.bytes.now c.survey_messages-messages.ensures c.in-Some-breaks4.is in
    breaks4 a.edition a.l.size a.l.bytes.now h2 h3 n.0 n.1

pub returns-in-Some-rule5 : goal.returns-in-Some-rule5
returns-in-Some-rule5 c =
    let a = c.args in
    let s2 = c.survey_tasks-tasks.ensures in
    let e2 = c.in_default.is in
    let h2 = kept2 a.edition a.l.size a.l.bytes.now s2 e2 in
    let s3 = sym c.in_ok-first.was ∙ order_asked a.edition a.l.size a.l.bytes.now s2 e2 c.rule3.ensures in
    let h3 = in_order a.edition a.l.size a.l.bytes.now s3 in
    let s4 = c.survey_messages-messages.ensures in
    let e4 = c.in_default-breaks4.is in
    let h4 = kept4 a.edition a.l.size a.l.bytes.now s4 e4 in
    let n = broken5 a.edition a.l.size a.l.bytes.now s4 e4 c.rule5.ensures c.in-Some-rule5.is in
    breaks5 a.edition a.l.size a.l.bytes.now h2 h3 h4 n.0 n.1

pub returns-in-Some-breaks6 : goal.returns-in-Some-breaks6
returns-in-Some-breaks6 c =
    let a = c.args in
    let s2 = c.survey_tasks-tasks.ensures in
    let e2 = c.in_default.is in
    let h2 = kept2 a.edition a.l.size a.l.bytes.now s2 e2 in
    let s3 = sym c.in_ok-first.was ∙ order_asked a.edition a.l.size a.l.bytes.now s2 e2 c.rule3.ensures in
    let h3 = in_order a.edition a.l.size a.l.bytes.now s3 in
    let s4 = c.survey_messages-messages.ensures in
    let e4 = c.in_default-breaks4.is in
    let h4 = kept4 a.edition a.l.size a.l.bytes.now s4 e4 in
    let h5 = kept5 a.edition a.l.size a.l.bytes.now s4 e4 c.rule5.ensures c.in_default-rule5.is in
    let n = broken6 a.edition a.l.size a.l.bytes.now s2 e2 c.in-Some-breaks6.is in
    breaks6 a.edition a.l.size a.l.bytes.now h2 h3 h4 h5 n.0 n.1

pub returns : goal.returns
returns c =
    let a = c.args in
    let s2 = c.survey_tasks-tasks.ensures in
    let e2 = c.in_default.is in
    let h2 = kept2 a.edition a.l.size a.l.bytes.now s2 e2 in
    let s3 = sym c.in_ok-first.was ∙ order_asked a.edition a.l.size a.l.bytes.now s2 e2 c.rule3.ensures in
    let h3 = in_order a.edition a.l.size a.l.bytes.now s3 in
    let s4 = c.survey_messages-messages.ensures in
    let e4 = c.in_default-breaks4.is in
    let h4 = kept4 a.edition a.l.size a.l.bytes.now s4 e4 in
    let h5 = kept5 a.edition a.l.size a.l.bytes.now s4 e4 c.rule5.ensures c.in_default-rule5.is in
    let h6 = kept6 a.edition a.l.size a.l.bytes.now s2 e2 c.in_default-breaks6.is in
    all_hold a.edition a.l.size a.l.bytes.now h2 h3 h4 h5 h6 (first_met a.edition a.l.size a.l.bytes.now s3)
