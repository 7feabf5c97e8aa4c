-- A call that code was handed has words and bytes for arguments: what the types of its fields say. Assumes nothing.
use mathlib.Core.List.{[], ◌∷◌}
use denote.Laws.{Is}
use denote.Enum.Declared.{row}
use denote.Enum.Laws.{val}
use Rattle.paper.specs.contracts.call.Call.{the_type}
use Rattle.paper.proofs.call.Call.TheLaws.{the_laws}
use Rattle.paper.specs.declared.call.Call.{Call}
use Rattle.paper.specs.declared.call.Call.TheVariants.{Install, PostInterrupt, Find, CancelTask, Claim, Prepare, Release, Send}
use Rattle.paper.specs.declared.call.Call.TheVariants.{SendAndWait, Resend, ResendAndWait, Forward, ForwardAndWait, Return, ReturnAndWait}
use Rattle.paper.specs.declared.call.Call.TheVariants.{Receive, ReceiveAndWait, CancelMessage, WaitForInterrupt}
use Rattle.kept.specs.Settled.{Fitting}

pub fitted : (call : Call) → Is (row the_type) call (val the_type the_laws call ∷ []) → Fitting call
fitted (Install k s p sptr name) g =
    let f = g.1.1.1.1 in ((f.0.1, (f.1.1.1.0.1, (f.1.1.1.1.0.1, tt))), (f.1.0.1, (f.1.1.0.1, tt)))
fitted (PostInterrupt k) g = ((g.1.1.1.1.0.1, tt), tt)
fitted (Find name) g = ((g.1.1.1.1.0.1, tt), tt)
fitted (CancelTask k) g = ((g.1.1.1.1.0.1, tt), tt)
fitted Claim g = (tt, tt)
fitted (Prepare m s p sptr) g = let f = g.1.1.1.1 in ((f.0.1, (f.1.1.1.0.1, tt)), (f.1.0.1, (f.1.1.0.1, tt)))
fitted (Release m) g = ((g.1.1.1.1.0.1, tt), tt)
fitted (Send m r) g = let f = g.1.1.1.1 in ((f.0.1, (f.1.0.1, tt)), tt)
fitted (SendAndWait m r) g = let f = g.1.1.1.1 in ((f.0.1, (f.1.0.1, tt)), tt)
fitted (Resend m) g = ((g.1.1.1.1.0.1, tt), tt)
fitted (ResendAndWait m) g = ((g.1.1.1.1.0.1, tt), tt)
fitted (Forward m r) g = let f = g.1.1.1.1 in ((f.0.1, (f.1.0.1, tt)), tt)
fitted (ForwardAndWait m r) g = let f = g.1.1.1.1 in ((f.0.1, (f.1.0.1, tt)), tt)
fitted (Return m) g = ((g.1.1.1.1.0.1, tt), tt)
fitted (ReturnAndWait m) g = ((g.1.1.1.1.0.1, tt), tt)
fitted Receive g = (tt, tt)
fitted ReceiveAndWait g = (tt, tt)
fitted (CancelMessage m r) g = let f = g.1.1.1.1 in ((f.0.1, (f.1.0.1, tt)), tt)
fitted WaitForInterrupt g = (tt, tt)
