-- `message_queue::seek::spot_of_message` meets its contract.
use lib.Dec.{eqb}
use Rattle.std.proofs.Common.{rules, refl, ap, ◌∙◌}
use Rattle.board.specs.declared.records.Task.{Task}
use Rattle.board.specs.Numbers.{message_meant}
use Rattle.board.specs.Board.{board_of, task}
use Rattle.paper.specs.Rules.{next_message}
use Rattle.stores.proofs.Seeks.{message-kind}
use Rattle.changes.proofs.Spots.{spot_found}
use Rattle.message_queue.proofs.seek.spot_of_message.Goals as goal

pub returns : goal.returns
returns c =
    let a = c.args in
    let z = a.l.size in
    let b = board_of z a.l.bytes.now in
    spot_found (message-kind z) (λ y. eqb y a.x.0) (next_message b) (λ k y h. search rules) (λ k t h. search rules)
    z.messages (task b a.r.0).mptr _ _ refl (c.first.ensures ∙ ap (λ (t : Task). message_meant z t.mptr) c.task.ensures) c.seek.ensures
