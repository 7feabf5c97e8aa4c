-- `rules::rule1_of` meets its contract.
use mathlib.Core.Path.{sym, ◌∙◌}
use borrow.Author.Tests.{eq-eqb}
use Rattle.rules.proofs.rule1_of.Goals as goal

pub returns-then-byte-eq0 : goal.returns-then-byte-eq0
returns-then-byte-eq0 c = rw (c.in-Old.is, eq-eqb _ _ (sym c.byte.ensures ∙ c.if-byte-eq0.true)) c.rule1-then-byte-eq0.ensures
