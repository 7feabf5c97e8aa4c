-- `task_queue::seek::spot_of_task` meets its contract.
use lib.Dec.{eqb}
use Rattle.std.proofs.Common.{rules, refl}
use Rattle.board.specs.Board.{board_of}
use Rattle.paper.specs.Rules.{next_task}
use Rattle.stores.proofs.Seeks.{task-kind}
use Rattle.changes.proofs.Spots.{spot_found}
use Rattle.task_queue.proofs.seek.spot_of_task.Goals as goal

pub returns : goal.returns
returns c =
    let a = c.args in
    let z = a.l.size in
    let b = board_of z a.l.bytes.now in
    spot_found (task-kind z) (λ y. eqb y a.x.0) (next_task b) (λ k y h. search rules) (λ k t h. search rules)
    z.messages b.first _ _ refl c.first_task.ensures c.seek.ensures
