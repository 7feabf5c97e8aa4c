-- `telling::walks::TaskNoLinked::next_of` meets its contract.
use Rattle.telling.proofs.walks.TaskNoLinked.next_of.Goals as goal

pub returns : goal.returns
returns c = c.next.ensures
