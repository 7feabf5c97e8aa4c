-- `changes::hold` meets its contract.
use mathlib.Core.Path.{◌∙◌}
use Rattle.changes.proofs.hold.Goals as goal

pub returns : goal.returns
returns c =
    let d = c.link_message.ensures in
    let e = c.put_place.ensures in
    record { bytes = rw (d.size, d.bytes) at e.bytes; size = e.size ∙ d.size; loan = e.loan ∙ d.loan }
