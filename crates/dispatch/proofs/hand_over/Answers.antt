-- `dispatch::hand_over` meets its contract.
use mathlib.Core.Path.{◌≡◌, sym, ap, ◌∙◌}
use mathlib.Core.Bool.{true}
use Rattle.board.specs.declared.numbers.MsgNo.{MsgNo}
use Rattle.board.specs.declared.records.Task.{Task}
use Rattle.board.specs.Status.{MHBS, has}
use Rattle.board.specs.Board.{board_of, task}
use Rattle.board.proofs.Meant.{message_meant-message}
use Rattle.paper.specs.Answers.{accepts}
use Rattle.stores.specs.Changes.{clears}
use Rattle.dispatch.proofs.hand_over.Goals as goal

pub returns : goal.returns
returns c =
    let l = c.args.l.now in
    let t = task (board_of l.size l.bytes.now) c.args.k.0 in
    let read = rw (c.read.ensures.0, c.read.ensures.1) at c.task.ensures in
    let due : has t.stat MHBS ≡ true = ap (λ (x : Task). has x.stat MHBS) (sym read) ∙ sym c.has.ensures ∙ c.if-not-has.false in
    let m = message_meant-message l.size t.mptr c.in_ok-m.m (sym c.take_first.ensures.first ∙ c.in_ok-m.ensures.ok_part) in
    let a = c.take_first.ensures.taken in
    let b = c.clear_bit.ensures in
    let taken = rw m.0 at a.bytes in
    rw (due, m.0)
    (record {
      answers = λ i. accepts c.args.value (c.number-running.ensures i) ((c.number.ensures ∙ ap (λ (x : MsgNo). x.0) m.1) i);
      becomes = record {
        bytes = b.bytes ∙ (λ i. clears (a.size i) (taken i) c.args.k.0 MHBS);
        size = b.size ∙ a.size;
        loan = b.loan ∙ a.loan;
      };
    })
