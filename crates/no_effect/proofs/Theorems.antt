-- The claims of specs/Claims, proved.
-- Assumes nothing.
use mathlib.Core.Path.{refl, ap}
use mathlib.Core.List.{List, [], ◌∷◌}
use Prim.Native.Nat.{ℕ}
use Rattle.board.specs.declared.numbers.Size.{Size}
use Rattle.board.specs.Board.{Board, board_of}
use Rattle.paper.specs.declared.call.Call.TheVariants.{Install}
use Rattle.paper.specs.Refusals.{no1, no2, own_row, given}
use Rattle.paper.specs.Outcomes.{check}
use Rattle.paper.specs.Answers.{accepts}
use Rattle.bare.specs.Bare.{bare_board}
use Rattle.kept.proofs.Reading.{install-row}
use Rattle.kept.proofs.Bodies.{body_blind}
use Rattle.no_effect.specs.Claims.{Alike, DebugAndMrobHaveNoEffect, InstallHeedsNeither}
use Rattle.bare.proofs.Installing.{own_row_status, install_status}
use Rattle.no_effect.proofs.Agreeing.{same, Agree, judge_agree, verdicts, begun, effects_agree}

checks_agree : (z : Size) (l d : List ℕ) → Alike z l d → Agree z (check z l) (check z d)
checks_agree z l d e =
    let b = board_of z l in
    let c = board_of z d in
    judge_agree z l d (given (no1 z l ∷ no2 z b ∷ [])) (given (no1 z d ∷ no2 z c ∷ [])) _ _ e (verdicts z l d [] [] e refl)
    (λ g n. (ap (λ (d : Board). accepts 0 d.running 0) e.boards, e))

pub debug_and_mrob_have_no_effect : DebugAndMrobHaveNoEffect
debug_and_mrob_have_no_effect z l d call a h k w e =
    let b = board_of z l in
    let c = board_of z d in
    let agree = effects_agree z l d call call a h k w w e
    (same (λ b. own_row z b b.running call) (λ b. (body_blind z b b.running call).0) b c e.boards)
    (same (λ b. (begun z b call).value) (λ b. (body_blind z b b.running call).1) b c e.boards)
    (λ g. same (λ b. bare_board (begun z b call).board) (λ b. (body_blind z b b.running call).2) b c e.boards) in
    ((checks_agree z l d e).0, agree.0, agree.1)

pub install_heeds_neither : InstallHeedsNeither
install_heeds_neither z l k s t p sptr name a h w u e =
    let b = board_of z l in
    effects_agree z l l (Install k s p sptr name) (Install k t p sptr name) a h h w u (record { long = refl; boards = refl })
    (own_row_status z b k p sptr name s t e b.running) refl
    (λ g. install_status z b k p sptr name s t e (install-row z b k s p g).3)
