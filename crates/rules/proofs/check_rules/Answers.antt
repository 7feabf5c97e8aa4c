-- `rules::check_rules` meets its contract.
use mathlib.Core.Path.{sym, ◌∙◌}
use Rattle.std.proofs.lemmas.Result.{err_from_is_err_and}
use Rattle.rules.proofs.Runs.{between_fails, between_holds}
use Rattle.rules.proofs.check_rules.Goals as goal

pub returns-in_err-first : goal.returns-in_err-first
returns-in_err-first c =
    let a = c.args in
    let p = err_from_is_err_and c.from_residual.result c.from_residual.ensures.1 in
    rw (p.1, p.2)
    (sym c.in_err-first.was
    ∙ between_fails a.l.size a.l.bytes.now a.edition (sym c.rule1_of.ensures ∙ c.if-not-rule1_of.false) c.check_2_to_6.ensures
    c.in_err-first.was)

pub returns : goal.returns
returns c =
    let a = c.args in
    between_holds a.l.size a.l.bytes.now a.edition (sym c.rule1_of.ensures ∙ c.if-not-rule1_of.false) c.check_2_to_6.ensures c.requires
    c.in_ok-first.was c.rule7_of.ensures
