-- `lent::bytes::Lent::task` meets its contract.
use Rattle.std.proofs.Common.{◌∙◌}
use Rattle.lent.proofs.Access.{task_none, task_read}
use Rattle.lent.proofs.bytes.Lent.task.Goals as goal

pub returns-in_default : goal.returns-in_default
returns-in_default c = let a = c.args in c.none.ensures ∙ task_none a.self.size a.self.bytes.now a.k.0 c.in_default.ensures

pub returns : goal.returns
returns c =
    let a = c.args in
    let r = task_read a.self.size a.self.bytes.now a.k.0 c.in-Some.o c.in-Some.ensures.0 c.in-Some.ensures.1 in
    cc
