-- `telling::state::state_of` meets its contract.
use Rattle.std.proofs.Common.{sym, ◌∙◌}
use Rattle.telling.proofs.state.state_of.Goals as goal

pub returns-then-has : goal.returns-then-has
returns-then-has c = rw (c.if-runs.false, sym c.has.ensures ∙ c.if-has.true)
