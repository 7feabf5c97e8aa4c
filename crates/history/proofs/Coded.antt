-- What meets the contracts of fresh, of the step, of start and of tick agrees with the history. Assumes nothing.
use mathlib.Core.Path.{◌≡◌, sym, ◌∙◌, subst}
use mathlib.Core.List.{List}
use Prim.Native.Nat.{ℕ}
use Rattle.board.specs.Numbers.{small}
use Rattle.paper.specs.Outcomes.{blank}
use Rattle.paper.proofs.Histories.{fresh-leaves}
use Rattle.timing.specs.Events.{Happened}
use Rattle.timing.proofs.Histories.{happened-runs}
use Rattle.ticked.proofs.Theorems.{small-timer-sizes}
use Rattle.history.specs.Clockwork.{begin}
use Rattle.history.specs.Claims.{Agrees, plain_run, zeros, CodeAgrees}
use Rattle.history.proofs.Theorems.{links_agree}

pub code_agrees : CodeAgrees
code_agrees lent l d t a events answers n f w h =
    let e : l ≡ blank small = f.leaves ∙ fresh-leaves lent n in
    let g = happened-runs events answers (blank small) zeros d t (subst (λ (x : List ℕ). Happened x zeros events answers d t) e h) in
    let r = links_agree small small-timer-sizes events w in (
      g.0 ∙ r.0,
      subst (λ (x : List ℕ). Agrees small x (plain_run small begin events).machine.plain) (sym g.1) r.1,
      g.2 ∙ r.2,
    )
