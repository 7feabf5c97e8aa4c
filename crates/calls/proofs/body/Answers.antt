-- `calls::body` meets its contract.
use Rattle.inner.proofs.Steps.{unmoved}
use Rattle.wait_calls.proofs.Waiting.{send-waits, resend-waits, forward-waits, return_waits}
use Rattle.calls.proofs.body.Goals as goal

pub returns-in-Install : goal.returns-in-Install
returns-in-Install c = rw c.in-Install.is c.install.ensures

pub returns-in-PostInterrupt : goal.returns-in-PostInterrupt
returns-in-PostInterrupt c =
    rw c.in-PostInterrupt.is c.post_interrupt.ensures

pub returns-in-Find : goal.returns-in-Find
returns-in-Find c =
    let f = rw (c.read.ensures.0, c.read.ensures.1) at c.find_task.ensures in
    rw c.in-Find.is (unmoved f)

pub returns-in-CancelTask : goal.returns-in-CancelTask
returns-in-CancelTask c =
    rw c.in-CancelTask.is c.cancel_task.ensures

pub returns-in-Claim : goal.returns-in-Claim
returns-in-Claim c = rw c.in-Claim.is c.claim.ensures

pub returns-in-Prepare : goal.returns-in-Prepare
returns-in-Prepare c =
    rw c.in-Prepare.is c.prepare.ensures

pub returns-in-Release : goal.returns-in-Release
returns-in-Release c =
    rw c.in-Release.is c.release.ensures

pub returns-in-Send : goal.returns-in-Send
returns-in-Send c = rw c.in-Send.is c.send.ensures

pub returns-in-SendAndWait : goal.returns-in-SendAndWait
returns-in-SendAndWait c =
    send-waits c.requires c.then_wait.ensures c.in-SendAndWait.is
    c.send-placed.ensures

pub returns-in-Resend : goal.returns-in-Resend
returns-in-Resend c =
    rw c.in-Resend.is c.resend.ensures

pub returns-in-ResendAndWait : goal.returns-in-ResendAndWait
returns-in-ResendAndWait c =
    resend-waits c.requires c.then_wait-in-ResendAndWait.ensures
    c.in-ResendAndWait.is c.resend-placed.ensures

pub returns-in-Forward : goal.returns-in-Forward
returns-in-Forward c =
    rw c.in-Forward.is c.forward.ensures

pub returns-in-ForwardAndWait : goal.returns-in-ForwardAndWait
returns-in-ForwardAndWait c =
    forward-waits c.requires c.then_wait-in-ForwardAndWait.ensures
    c.in-ForwardAndWait.is c.forward-placed.ensures

pub returns-in-Return : goal.returns-in-Return
returns-in-Return c =
    rw c.in-Return.is c.give_back.ensures

pub returns-in-ReturnAndWait : goal.returns-in-ReturnAndWait
returns-in-ReturnAndWait c =
    return_waits c.requires c.then_wait-in-ReturnAndWait.ensures
    c.in-ReturnAndWait.is c.give_back-placed.ensures

pub returns-in-Receive : goal.returns-in-Receive
returns-in-Receive c =
    rw c.in-Receive.is c.receive.ensures

pub returns-in-ReceiveAndWait : goal.returns-in-ReceiveAndWait
returns-in-ReceiveAndWait c =
    rw c.in-ReceiveAndWait.is c.receive_and_wait.ensures

pub returns-in-CancelMessage : goal.returns-in-CancelMessage
returns-in-CancelMessage c =
    rw c.in-CancelMessage.is c.cancel_message.ensures

pub returns-in-WaitForInterrupt : goal.returns-in-WaitForInterrupt
returns-in-WaitForInterrupt c =
    rw c.in-WaitForInterrupt.is c.wait_for_interrupt.ensures
