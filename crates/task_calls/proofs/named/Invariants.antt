-- `task_calls::named` meets its contract.
use mathlib.Core.Path.{◌≡◌}
use Prim.Native.Nat.{◌-◌}
use Rattle.board.specs.Numbers.{task_meant, number_of_task}
use Rattle.lent.specs.Lent.{board}
use Rattle.stores.specs.Effects.{find}
use Rattle.task_calls.proofs.Naming.{named_from}
use Rattle.task_calls.proofs.named.Given as goal

abbrev pub invariant-loop : goal.invariant-loop
invariant-loop l = (l.cur ≡ task_meant l.l.size (number_of_task l.cur)) × (named_from l.l.size (board l.l) l.name (l.end - l.counter) (number_of_task l.cur) ≡ find l.l.size l.l.bytes.now l.name)
