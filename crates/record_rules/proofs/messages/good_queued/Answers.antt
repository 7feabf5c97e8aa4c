-- `record_rules::messages::good_queued` meets its contract: where the last test decides, PRIO is below FFH.
use mathlib.Core.Bool.{true, and-true}
use mathlib.Core.Path.{◌≡◌, sym}
use Rattle.std.proofs.Common.{rules}
use Rattle.std.specs.Prelude.{ltb}
use Rattle.board.specs.Status.{fifo}
use Rattle.paper.specs.Rules.{good_pointers}
use Rattle.record_rules.proofs.messages.good_queued.Goals as goal

pub returns-then-fifo : goal.returns-then-fifo
returns-then-fifo c =
    let e : (good_pointers c.args.z c.args.u ≡ true) × (fifo c.args.u.prio ≡ true) × (c.args.there ≡ true) = search rules in
    rw (e.0, e.1, e.2) (sym (and-true (ltb c.args.u.prio 0xFF)))
