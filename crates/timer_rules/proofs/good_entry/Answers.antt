-- `timer_rules::good_entry` meets its contract.
use mathlib.Core.Path.{sym, ap, ◌∙◌}
use mathlib.Core.Bool.{not}
use Rattle.timer_rules.proofs.good_entry.Goals as goal

pub returns-then-is_timed : goal.returns-then-is_timed
returns-then-is_timed c =
    rw (sym c.used.ensures ∙ c.if-used.true, sym c.is_timed.ensures ∙ c.if-is_timed.true) (ap not c.named_before.ensures)
