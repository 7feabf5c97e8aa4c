-- `take_calls::wait_again` meets its contract.
use mathlib.Core.Path.{◌≡◌, sym, ap, ◌∙◌}
use mathlib.Core.Bool.{true}
use lib.Dec.{eqb}
use borrow.Author.Tests.{eq-eqb}
use Rattle.board.specs.declared.records.Task.{Task}
use Rattle.board.specs.Status.{WAIT, MHBS, has}
use Rattle.board.specs.Board.{board_of, task}
use Rattle.stores.specs.Changes.{sets}
use Rattle.take_calls.proofs.wait_again.Goals as goal

pub returns-then-has : goal.returns-then-has
returns-then-has c =
    let l = c.args.l.now in
    let t = task (board_of l.size l.bytes.now) c.args.r.0 in
    let read = rw (c.read.ensures.0, c.read.ensures.1) at c.task-t.ensures in
    let due : has t.stat MHBS ≡ true = ap (λ (x : Task). has x.stat MHBS) (sym read) ∙ sym c.has.ensures ∙ c.if-has.true in
    let none : eqb t.mptr 0 ≡ true = ap (λ (x : Task). eqb x.mptr 0) (sym read) ∙ eq-eqb _ 0 c.if-t-eq0.true in
    let a = c.clear_bit.ensures in
    let b = c.set_bit.ensures in
    rw (due, none)
    (record {
      bytes = b.bytes ∙ (λ i. sets (a.size i) (a.bytes i) c.args.r.0 WAIT);
      size = b.size ∙ a.size;
      loan = b.loan ∙ a.loan;
    })
