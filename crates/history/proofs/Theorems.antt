-- The claim LinksAgree of specs/Claims, proved: the links agree with the history.
-- Assumes nothing.
use mathlib.Core.Path.{◌≡◌, refl, sym, ap, ap₂, ◌∙◌}
use mathlib.Core.List.{List, [], ◌∷◌}
use Prim.Native.Nat.{ℕ}
use Rattle.board.specs.declared.numbers.Size.{Size}
use Rattle.board.specs.Board.{Board, board_of}
use Rattle.timer.specs.Timer.{timer_bytes}
use Rattle.timer.proofs.Codec.{writing_back_changes_nothing}
use Rattle.timing.specs.Events.{Event, happen, run_all}
use Rattle.ticked.specs.Claims.{TimerSizes, AllEventsFit}
use Rattle.history.specs.Machine.{Plain}
use Rattle.history.specs.Clockwork.{Clocked, begin, happens}
use Rattle.history.specs.Claims.{Agrees, plain_run, LinksAgree}
use Rattle.history.proofs.Asked.{is_where}
use Rattle.history.proofs.Same.{same_holds}
use Rattle.history.proofs.Steps.{Agreeing}
use Rattle.history.proofs.Events.{Clockwise, event_agrees}
use Rattle.history.proofs.Fresh.{fresh_clockwise}

-- ---- what the bytes show
-- bytes that agree with the machine call by call agree with it in all that is seen
agreeing_agrees : (z : Size) (l : List ℕ) (p : Plain) → Agreeing z l p → Agrees z l p
agreeing_agrees z l p t =
    let b : Board = board_of z l in
    let q = t.order in
    let f = t.queues in
    let linked = t.settled.regular.linked in
    same_holds z b q f p (Agrees z l) t.same (λ i s n w. record {
      sound = t.sound;
      tasks = λ k. refl;
      messages = λ m. refl;
      places = λ m. is_where z b q f t.settled m;
      times = (w.tasks.times, w.messages.times);
      order = record { numbers = q; names = w.order; chain = linked.tasks.chain };
      queues = λ k d. record { numbers = f k; names = w.queues k d; chain = (linked.messages k d).chain };
      runs = refl;
    })

-- ---- histories
-- from bytes and a machine that agree, the answers are the same one by one, and bytes and machine agree afterwards
history_agrees : (z : Size) → TimerSizes z → (events : List Event) (l s : List ℕ) (x : Clocked) → AllEventsFit events → Clockwise z l s x
    → ((run_all z l s events).answers ≡ (plain_run z x events).answers)
    × Clockwise z (run_all z l s events).board (run_all z l s events).timer (plain_run z x events).machine
history_agrees z a [] l s x w t = (refl, t)
history_agrees z a (event ∷ events) l s x w t =
    let o = event_agrees z a l s x event w.0 t in
    let h = happen z l s event in
    let r = history_agrees z a events h.board h.timer (happens z x event).machine w.1 o.1 in
    (ap₂ ◌∷◌ o.0 r.0, r.1)

-- demand 3: a machine without links gives the same answers from the fresh board on, the links list its rankings, and the buffer is its own
pub links_agree : LinksAgree
links_agree z a events w =
    let r = history_agrees z a events _ _ begin w (fresh_clockwise z a.sizes) in (
      r.0,
      agreeing_agrees z _ _ r.1.board,
      sym (writing_back_changes_nothing _ r.1.passing.timer_bytes) ∙ ap timer_bytes r.1.timer,
    )
