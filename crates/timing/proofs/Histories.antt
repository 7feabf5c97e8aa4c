-- What a program was handed and left, event by event as the contracts say, is the history of its events. Assumes nothing.
use mathlib.Core.Path.{◌≡◌, refl, ap₂, subst}
use mathlib.Core.List.{List, [], ◌∷◌}
use Prim.Native.Nat.{ℕ}
use Rattle.board.specs.Numbers.{small}
use Rattle.timing.specs.Timing.{Timed}
use Rattle.timing.specs.Events.{Event, happen, run_all, Happened}
use Rattle.paper.specs.Answers.{Answer}

pub happened-runs : (events : List Event) (answers : List Answer) (l s d t : List ℕ) → Happened l s events answers d t
    → let r = run_all small l s events in (answers ≡ r.answers) × (d ≡ r.board) × (t ≡ r.timer)
happened-runs [] [] l s d t h = (refl, h.0, h.1)
happened-runs [] (a ∷ answers) l s d t h = absurd h
happened-runs (event ∷ events) [] l s d t h = absurd h
happened-runs (event ∷ events) (a ∷ answers) l s d t (m, u, e, h) =
    let o : Timed = happen small l s event in
    let to = subst (λ (x : List ℕ). Happened x u events answers d t) e.board h in
    let r = happened-runs events answers o.board o.timer d t
    (subst (λ (x : List ℕ). Happened o.board x events answers d t) e.timer to) in
    (ap₂ ◌∷◌ e.answers r.0, r.1, r.2)
