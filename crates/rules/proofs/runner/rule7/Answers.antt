-- `rules::runner::rule7` meets its contract.
use mathlib.Core.Path.{sym, ap, ◌∙◌}
use mathlib.Core.Bool.{Bool, cond}
use Rattle.std.specs.Prelude.{Ok, Err}
use Rattle.paper.specs.declared.answer.Rule.TheVariants.{R7}
use Rattle.rules.specs.Checked.{Checked}
use Rattle.rules.proofs.Runs.{nobody_ran, leads_ran}
use Rattle.rules.proofs.runner.rule7.Goals.{in-Some, in-None}
use Rattle.rules.proofs.runner.rule7.Goals as goal

pub returns-else-runs : goal.returns-else-runs
returns-else-runs c =
    let a = c.args in
    let of : Bool → Checked = λ t. cond t (Ok c.meant-meant.result) (Err (R7 c.byte-c.result)) in
    ap of (sym c.if-runs.false)
    ∙ elim c.match-first.branch [
      | in-Some w ↦ leads_ran a.l.size a.l.bytes.now a.first c.byte-c.ensures c.meant-meant.ensures w.in-Some.is (w.runs-is ∙ w.leads-runs.ensures)
      | in-None w ↦ nobody_ran a.l.size a.l.bytes.now a.first c.byte-c.ensures c.meant-meant.ensures w.in-None.is w.runs-is
    ]
