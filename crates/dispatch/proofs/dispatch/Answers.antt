-- `dispatch::dispatch` meets its contract.
use mathlib.Core.Path.{◌≡◌, refl}
use Rattle.board.specs.Numbers.{number_of_task}
use Rattle.stores.specs.Calls.{runs_then}
use Rattle.dispatch.proofs.Delivering.{finish-nobody, finish-runs}
use Rattle.dispatch.proofs.dispatch.Goals as goal

pub returns-in_default-who : goal.returns-in_default-who
returns-in_default-who c =
    let l = c.args.l.now in
    let x = c.runs_then-who.result in
    let r : number_of_task x ≡ runs_then l.size (number_of_task c.args.c) c.in-Ok.done.stirred l.bytes.now =
    rw (← c.read.ensures.0, ← c.read.ensures.1) c.runs_then-who.ensures in
    finish-nobody l.size (number_of_task c.args.c) l.bytes.now c.in-Ok.is x r c.put_running.ensures c.in_default-who.is
    c.with_nobody-in_default-who.ensures (record { bytes = refl; size = refl; loan = refl })

pub returns : goal.returns
returns c =
    let l = c.args.l.now in
    let x = c.runs_then-who.result in
    let r : number_of_task x ≡ runs_then l.size (number_of_task c.args.c) c.in-Ok.done.stirred l.bytes.now =
    rw (← c.read.ensures.0, ← c.read.ensures.1) c.runs_then-who.ensures in
    let h = c.hand_over.ensures in
    finish-runs l.size (number_of_task c.args.c) l.bytes.now c.in-Ok.is x r c.put_running.ensures c.in-Some.is
    (record { answers = h.answers; becomes = record { bytes = h.becomes.bytes; size = h.becomes.size; loan = h.becomes.loan } })
