-- Who is served: install, post and find anyone, and a task that cancels itself. Worked cases on the board of Slips.
-- Assumes nothing.
use mathlib.Core.Path.{◌≡◌, refl}
use mathlib.Core.List.{[], ◌∷◌}
use Rattle.std.specs.Prelude.{Err}
use Rattle.paper.specs.declared.call.Call.TheVariants.{Install, PostInterrupt, Find, CancelTask, Claim, WaitForInterrupt}
use Rattle.paper.specs.declared.answer.Refusal.TheVariants.{NobodyRuns}
use Rattle.paper.proofs.Slips.{answers_to, ok}
use Rattle.paper.specs.Answers.{accepts}

-- find, install and post, though nobody runs
case_anyone_is_served :
    answers_to (Find 7 ∷ Install 1 0x01 0x31 0 0 ∷ WaitForInterrupt ∷ PostInterrupt 1 ∷ [])
    ≡ accepts 0 0 0 ∷ ok ∷ accepts 0 0 0 ∷ ok ∷ []
case_anyone_is_served = refl

-- a task that cancels itself
case_cancels_itself : answers_to (Install 1 0x01 0x31 0 0 ∷ CancelTask 1 ∷ Claim ∷ []) ≡ ok ∷ accepts 0 0 0 ∷ Err NobodyRuns ∷ []
case_cancels_itself = refl
