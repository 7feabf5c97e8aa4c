-- Claims of specs/Claims, proved: dispatch is never stuck, a board that passes goes on passing, and every block is in one place.
-- Assumes nothing.
use mathlib.Core.Path.{◌≡◌, refl, sym, ap, ◌∙◌, subst}
use mathlib.Core.Logic.{◌≢◌}
use mathlib.Core.Bool.{true, false}
use mathlib.Core.List.{List, ◌∷◌}
use Prim.Native.Nat.{ℕ}
use native.Mathlib.Omega.{arith}
use lib.Dec.{lit<, lit≤}
use lib.ListN.{get_or}
use borrow.Author.Tests.{eqb-true, not-false}
use Rattle.std.specs.Prelude.{Err}
use Rattle.board.specs.declared.numbers.Size.{Size}
use Rattle.board.specs.Numbers.{small}
use Rattle.board.specs.Status.{MHBS, has}
use Rattle.board.specs.Records.{Byte}
use Rattle.board.specs.Board.{Board, board_of, task}
use Rattle.board.specs.Claims.{Bytes}
use Rattle.paper.specs.declared.call.Call.{Call}
use Rattle.paper.specs.declared.answer.Refusal.TheVariants.{NothingToDeliver}
use Rattle.paper.specs.Answers.{number_of, handed, Answer}
use Rattle.paper.specs.Rules.{order, passes}
use Rattle.paper.specs.Refusals.{no1, no2, own_row, row, Verdict, Go, Stop, given}
use Rattle.paper.specs.Outcomes.{Outcome, Undispatched, judge, body, dispatch, effect}
use Rattle.paper.proofs.Theorems.{row_below, accepted_passed}
use Rattle.linked.specs.Sound.{RunsRightly, Sound}
use Rattle.linked.proofs.Boards.{says_passes}
use Rattle.linked.proofs.Theorems.{one_whereabouts}
use Rattle.kept.specs.Settled.{Fits, Settled, Awake, Fitting}
use Rattle.kept.specs.Touched.{touched, order_after, queues_after}
use Rattle.kept.specs.Claims.{Sizes, NeverStuck, PassingStaysPassing, EveryBlockOnce}
use Rattle.kept.proofs.Reading.{order-walked, go_passed}
use Rattle.kept.proofs.Fitting.{board-bytes, bytes_fit, fits-board}
use Rattle.kept.proofs.Bodies.{body_settles}
use Rattle.kept.proofs.Dispatching.{Handing, dispatched}

-- the small board's sizes are such that all promises hold
pub small-sizes : Sizes small
small-sizes = record { tasks = lit≤ tt; limit = lit≤ tt; links = lit< tt }

-- ---- a board that passes is settled, and who runs runs rightly and is due no message; and the other way round
module _ (z : Size) (b : Board) (a : Sizes z) (f : Fits z b) where
  pub sound_settled : (s : Sound z b) → Settled z b s.order s.queues
  sound_settled s = record { fits = f; regular = s.regular; flags = s.flags }

  -- the order may be taken as walked
  walked_settled : (q : List ℕ) (queues : ℕ → List ℕ) → Settled z b q queues → Settled z b (order z b) queues
  walked_settled q queues h = subst (λ (x : List ℕ). Settled z b x queues) (sym (order-walked z b q queues h a.limit)) h

  -- whoever runs is ready
  pub sound-awake : Sound z b → Awake b b.running
  sound-awake s n = (s.runs.leads n).awake

  pub passing-sound : passes z b ≡ true → Sound z b
  passing-sound p = (says_passes z b f.tasks f.places a.limit).0 p

  pub settled_passes : (q : List ℕ) (queues : ℕ → List ℕ) → Settled z b q queues → RunsRightly b b.running
      → has (task b b.running).stat MHBS ≡ false → passes z b ≡ true
  settled_passes q queues h r i =
      (says_passes z b f.tasks f.places a.limit).1
      (record { order = q; queues = queues; regular = h.regular; flags = h.flags; runs = r; idle = i })

-- ---- what dispatch makes of a board that is settled
module _ (z : Size) (l : List ℕ) (d : Undispatched) (q : List ℕ) (queues : ℕ → List ℕ) (a : Sizes z)
    (s : Settled z d.board q queues) where
  abbrev t : Handing z q l d
  t = dispatched z q l queues d.value d.board a s

  -- it isn't refused
  pub dispatch-accepts : (dispatch z l d).answer ≢ Err NothingToDeliver
  dispatch-accepts r =
      let x : (handed (dispatch z l d).answer).number ≡ 0 = ap (λ (o : Outcome). (handed o.answer).number) t.ends in
      let y : (handed (dispatch z l d).answer).number ≡ 15 = ap (λ (x : Answer). (handed x).number) r in
      absurd (omega arith)

  -- and its bytes pass
  pub dispatch-passes : let k = (dispatch z l d).after in Bytes z k × (passes z (board_of z k) ≡ true)
  dispatch-passes =
      let f = t.settled.fits in
      subst (λ (o : Outcome). Bytes z o.after × (passes z (board_of z o.after) ≡ true)) (sym t.ends) (
        bytes_fit z t.board f t.settled.regular.zeros,
        ap (passes z) (board-bytes z t.board f) ∙ settled_passes z t.board a f _ t.queues t.settled
            (subst (RunsRightly t.board) (sym t.runs) t.rightly)
            (ap (λ (c : ℕ). has (task t.board c).stat MHBS) t.runs ∙ t.idle),
      )

-- ---- a call, by the verdict of its row
module _ (z : Size) (l : List ℕ) (call : Call) (a : Sizes z) (h : (i : ℕ) → Byte (get_or l i 0)) (w : Fitting call) where
  abbrev b : Board
  b = board_of z l

  abbrev d : Undispatched
  d = body z b b.running call

  abbrev order_then : List ℕ
  order_then = order_after b (order z b) (touched b b.running call).move

  -- where no refusal stops it the board fits and R1 to R7 hold, and no refusal of its own row applies
  pub starts : given (row z l b b.running call) ≡ Go → Fits z b × Sound z b × (given (own_row z b b.running call) ≡ Go)
  starts g =
      let long = go_passed (no1 z l) (no2 z b ∷ own_row z b b.running call) g in
      let rules = go_passed (no2 z b) (own_row z b b.running call) long.1 in
      let f = fits-board z l (record { long = eqb-true _ _ (not-false _ long.0); bytes = h }) in
      (f, passing-sound z b a f (not-false (passes z b) rules.0), rules.1)

  -- and its body leaves a board that is settled
  pub settles : given (row z l b b.running call) ≡ Go → (queues : ℕ → List ℕ) × Settled z d.board order_then queues
  settles g =
      let (f, s, own) = starts g in
      let t = walked_settled z b a f s.order s.queues (sound_settled z b a f s) in (
        queues_after b s.queues (touched b b.running call).move,
        body_settles z b (order z b) s.queues b.running call a w t (sound-awake z b a f s) s.idle own,
      )

  -- what dispatch makes of it
  pub went : given (row z l b b.running call) ≡ Go → Handing z order_then l d
  went g = let (queues, s) = settles g in dispatched z order_then l queues d.value d.board a s

  -- it isn't refused at dispatch
  by_verdict : (v : Verdict) → given (row z l b b.running call) ≡ v
      → (judge l v (dispatch z l d)).answer ≢ Err NothingToDeliver
  by_verdict Go e = let (queues, s) = settles e in dispatch-accepts z l d order_then queues a s
  by_verdict (Stop q) e = λ r.
      let x : number_of q ≡ 15 = ap (λ (x : Answer). (handed x).number) r in
      let y = row_below z l b b.running call q e in
      absurd (omega arith)

  -- the bytes after it pass, if those before did
  abbrev Passes : List ℕ → Type 0
  Passes k = Bytes z k × (passes z (board_of z k) ≡ true)

  passes_after : (v : Verdict) → given (row z l b b.running call) ≡ v → Passes l → Passes (judge l v (dispatch z l d)).after
  passes_after Go e p = let (queues, s) = settles e in dispatch-passes z l d order_then queues a s
  passes_after (Stop q) e p = p

pub never_stuck : NeverStuck
never_stuck z l call a h w = by_verdict z l call a h w (given (row z l (board_of z l) (board_of z l).running call)) refl

pub passing_stays_passing : PassingStaysPassing
passing_stays_passing z l call a h w p =
    passes_after z l call a h.bytes w (given (row z l (board_of z l) (board_of z l).running call)) refl (h, p)

-- accepted, so the board passed; so it passes now; so each block is in one place
pub every_block_once : EveryBlockOnce
every_block_once z l call v c m a h w e =
    let (long, passed) = (accepted_passed z l).0 call v c m e in
    one_whereabouts z (effect z l call).after a.limit
    (passing_stays_passing z l call a (record { long = long; bytes = h }) w passed).1
