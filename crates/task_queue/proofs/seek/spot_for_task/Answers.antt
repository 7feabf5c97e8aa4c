-- `task_queue::seek::spot_for_task` meets its contract.
use mathlib.Core.Bool.{true}
use Rattle.std.proofs.Common.{rules, refl}
use Rattle.links.specs.Queue.{goes_before}
use Rattle.board.specs.Board.{board_of}
use Rattle.paper.specs.Rules.{next_task, task_number}
use Rattle.stores.proofs.Seeks.{task-kind}
use Rattle.changes.proofs.Spots.{spot_found}
use Rattle.task_queue.proofs.seek.spot_for_task.Goals as goal

pub returns : goal.returns
returns c =
    let a = c.args in
    let z = a.l.size in
    let b = board_of z a.l.bytes.now in
    spot_found (task-kind z) (λ y. goes_before true a.p (task_number b y)) (next_task b) (λ k y h. search rules) (λ k t h. search rules)
    z.messages b.first _ _ refl c.first_task.ensures c.seek.ensures
