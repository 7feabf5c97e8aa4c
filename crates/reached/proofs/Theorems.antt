-- The claims of specs/Claims, proved.
-- Assumes nothing.
use mathlib.Core.Path.{◌≡◌, refl, sym, ap, ◌∙◌, subst}
use mathlib.Core.Bool.{true}
use mathlib.Core.List.{List, [], ◌∷◌}
use Prim.Native.Nat.{ℕ}
use lib.ListN.{length}
use Rattle.links.specs.Chain.{All}
use Rattle.board.specs.declared.numbers.Size.{Size}
use Rattle.board.specs.Numbers.{small}
use Rattle.board.specs.Places.{is_on_timer}
use Rattle.board.specs.Board.{Board, total, board_of, bytes_of}
use Rattle.board.specs.Claims.{Bytes}
use Rattle.board.proofs.Codec.{writing_back_changes_nothing}
use Rattle.paper.specs.declared.call.Call.{Call}
use Rattle.paper.specs.Rules.{passes}
use Rattle.paper.specs.Outcomes.{blank, effect, fresh}
use Rattle.paper.specs.History.{run, Made}
use Rattle.paper.proofs.Theorems.{accepted_passed}
use Rattle.paper.proofs.Naming.{verdict_stays}
use Rattle.paper.proofs.Histories.{made_bytes, run-made, fresh-leaves}
use Rattle.kept.specs.Settled.{AllFit}
use Rattle.kept.specs.Claims.{Sizes}
use Rattle.kept.proofs.Fitting.{fits-board}
use Rattle.kept.proofs.Theorems.{small-sizes, sound_settled, passing-sound, passing_stays_passing}
use Rattle.kept.proofs.Timers.{calls_leave_the_timer}
use Rattle.kept.proofs.Fresh.{fresh-place, fresh-bytes, fresh-passes}
use Rattle.past.specs.Past.{past, way_back}
use Rattle.reached.specs.Claims.{Reached, NoneOnTimer, HasPast, IsAccepted, PastRebuilds, MadeFresh, CheckedExactly}
use Rattle.reached.proofs.Making.{Passing}
use Rattle.reached.proofs.WayBack.{all_back}

-- ---- whatever is reached passes, and has no message on the timer
abbrev Good : Size → List ℕ → Type 0
Good z l = Bytes z l × (passes z (board_of z l) ≡ true) × NoneOnTimer (board_of z l)

run-good : (z : Size) → Sizes z → (calls : List Call) (l : List ℕ) → AllFit calls → Good z l → Good z (run z l calls).after
run-good z a [] l w g = g
run-good z a (call ∷ calls) l w g =
    let (b, p) = passing_stays_passing z l call a g.0 w.0 g.1 in
    run-good z a calls (effect z l call).after w.1
    (b, p, λ m. (calls_leave_the_timer z l call a g.0.bytes w.0 m).0 ∙ g.2 m)

reached_good : (z : Size) → Sizes z → (l : List ℕ) → Reached z l → Good z l
reached_good z a l (calls, w, e) =
    subst (Good z) e (run-good z a calls (blank z) w (fresh-bytes z, fresh-passes z a, λ m. ap is_on_timer (fresh-place z m)))

-- ---- whatever passes, with no message on the timer, is reached
bytes-passing : (z : Size) → Sizes z → (l : List ℕ) → Bytes z l → passes z (board_of z l) ≡ true → NoneOnTimer (board_of z l)
    → Passing z (board_of z l) (board_of z l).running
bytes-passing z a l h p u =
    let b : Board = board_of z l in
    let f = fits-board z l h in
    let s = passing-sound z b a f p in
    record {
      order = s.order;
      queues = s.queues;
      settled = sound_settled z b a f s;
      runs = refl;
      rightly = s.runs;
      idle = s.idle;
      untimed = u;
    }

-- the calls of the way back, from the fresh board
pub past_rebuilds : PastRebuilds
past_rebuilds z a l h p u =
    let b : Board = board_of z l in
    let calls : List Call = past z b in
    let r = all_back z a b.running b (bytes-passing z a l h p u) in
    let e : bytes_of (way_back z b).board ≡ blank z =
    ap bytes_of r.inv ∙ writing_back_changes_nothing z (blank z) (fresh-bytes z) in
    let (f, d, o) = r.makes in (
      f,
      ap (λ (k : List ℕ). (run z k calls).after) (sym e) ∙ d ∙ writing_back_changes_nothing z l h,
      subst (λ (k : List ℕ). All IsAccepted (run z k calls).answers) e o,
    )

-- document 02, Ask 4
pub has_past : HasPast
has_past z a l = (
  (λ g. let (f, e, o) = past_rebuilds z a l g.0 g.1 g.2 in (past z (board_of z l), f, e)),
  reached_good z a l,
)

-- ---- the same of code
-- calls that end in l by the definitions, made by code on any lent board that it makes fresh, leave l
run_left : (l : List ℕ) (calls : List Call) → (run small (blank small) calls).after ≡ l
    → (lent : List ℕ) → length lent ≡ total small → MadeFresh lent calls l
run_left l calls e lent n = (
  (fresh small lent).answer,
  (fresh small lent).after,
  (run small (blank small) calls).answers,
  record { answers = refl; leaves = refl },
  subst (λ (d : List ℕ). Made d calls (run small (blank small) calls).answers l) (sym (fresh-leaves lent n))
      (subst (Made (blank small) calls (run small (blank small) calls).answers) e (run-made (blank small) calls)),
)

-- and what code leaves so is reached
left_reached : (l : List ℕ) (calls : List Call) → AllFit calls → MadeFresh (blank small) calls l → Reached small l
left_reached l calls f (a, new, answers, e, m) =
    let d : new ≡ blank small = e.leaves ∙ fresh-leaves (blank small) (fresh-bytes small).long in
    (calls, f, sym (made_bytes new l calls answers m ∙ ap (λ (k : List ℕ). (run small k calls).after) d))

-- of boards without place 128 the check accepts just what calls can leave
pub checked_exactly : CheckedExactly
checked_exactly l after a h e = (
  (λ ((v, c, m, w), u).
      let (long, passed) = (accepted_passed small l).1 v c m (sym e.answers ∙ w) in
      let (f, r, o) = past_rebuilds small small-sizes l (record { long = long; bytes = h }) passed u in
      (past small (board_of small l), f, run_left l (past small (board_of small l)) r)),
  λ (calls, f, made).
      let (b, p, u) = reached_good small small-sizes l (left_reached l calls f (made (blank small) (fresh-bytes small).long)) in
      ((0, (board_of small l).running, 0, e.answers ∙ (verdict_stays small l).3 b.long p), u),
)
