-- What dispatch leaves of a settled board and what it delivers: the same, but for DEBUG and MROB, where these are cleared before;
-- and the bytes that it leaves read back.
-- Assumes nothing.
use mathlib.Core.Path.{◌≡◌, refl, ap, ap₂}
use mathlib.Core.Bool.{Bool, true, false, cond}
use mathlib.Core.List.{List}
use Prim.Native.Nat.{ℕ}
use Rattle.links.specs.Queue.{first_of}
use Rattle.links.proofs.Bools.{cond_holds}
use Rattle.board.specs.declared.numbers.Size.{Size}
use Rattle.board.specs.Status.{MHBS, has}
use Rattle.board.specs.Board.{Board, board_of, bytes_of, task, with_running}
use Rattle.board.specs.Claims.{Bytes}
use Rattle.paper.specs.Rules.{queue, runs_next}
use Rattle.paper.specs.Changes.{clears, take_first}
use Rattle.paper.specs.Outcomes.{accepted, undispatched, dispatch}
use Rattle.linked.specs.Sound.{RunsRightly}
use Rattle.linked.proofs.Chosen.{runs_alike}
use Rattle.kept.specs.Settled.{Settled}
use Rattle.kept.specs.Claims.{Sizes}
use Rattle.kept.proofs.Fitting.{board-bytes, bytes_fit}
use Rattle.kept.proofs.Taking.{deliver_settled}
use Rattle.kept.proofs.Dispatching.{next_rightly, next_settled, due_there, dispatch_delivers}
use Rattle.bare.specs.Bare.{bare_board}
use Rattle.bare.proofs.Bits.{mhbs}
use Rattle.bare.proofs.Reading.{has-bare, queue-bare, runs_next-bare}
use Rattle.bare.proofs.Writing.{bare_alike, bare-cond, bare-delivered}

-- ---- who runs next, in byte 1
abbrev pub chosen : Size → Board → Board
chosen z b = with_running b (runs_next z b)

pub chosen_bare : (z : Size) (b : Board) → chosen z (bare_board b) ≡ bare_board (chosen z b)
chosen_bare z b = ap (with_running (bare_board b)) (runs_next-bare z b)

-- ---- with that: whether a message is due, the board that is left, the message that is delivered
abbrev due : Board → Bool
due b = has (task b b.running).stat MHBS

abbrev pub left : Size → Board → Board
left z b = let c = b.running in cond (due b) (clears (take_first z b c) c MHBS) b

abbrev pub delivered : Size → Board → ℕ
delivered z b = cond (due b) (first_of (queue z b b.running)) 0

module _ (z : Size) (b : Board) where
  abbrev c : ℕ
  c = b.running

  pub left_alike : bare_board (left z (bare_board b)) ≡ bare_board (left z b)
  left_alike = bare_alike (left z b) _ (bare-cond (due b) _ _ _ _ _ (has-bare b c MHBS mhbs) (bare-delivered z b c) refl)

  pub delivered-bare : delivered z (bare_board b) ≡ delivered z b
  delivered-bare = ap₂ (λ (t : Bool) (q : List ℕ). cond t (first_of q) 0) (has-bare b c MHBS mhbs) (queue-bare z b c)

-- ---- of a settled board
-- its bytes read back
abbrev pub Returns : Size → Board → Type 0
Returns z b = Bytes z (bytes_of b) × (board_of z (bytes_of b) ≡ b)

settled_returns : (z : Size) (b : Board) (order : List ℕ) (queues : ℕ → List ℕ) → Settled z b order queues → Returns z b
settled_returns z b order queues s = (bytes_fit z b s.fits s.regular.zeros, board-bytes z b s.fits)

module _ (z : Size) (b : Board) (order : List ℕ) (queues : ℕ → List ℕ) (sizes : Sizes z)
    (settled : Settled z b order queues) where
  -- it is settled with who runs next in byte 1 too
  abbrev d : Board
  d = chosen z b

  s : Settled z d order queues
  s = next_settled z b order queues sizes settled

  -- and that task runs rightly
  right : RunsRightly d d.running
  right = runs_alike b d d.running (λ k. refl) (λ k. refl) (next_rightly z b order queues sizes settled)

  -- the bytes that are left read back too
  pub left_returns : Returns z (left z d)
  left_returns = cond_holds (Returns z) (due d) _ _ delivers (λ e. settled_returns z d order queues s)
    where
      delivers : due d ≡ true → Returns z (clears (take_first z d d.running) d.running MHBS)
      delivers e =
          let there = due_there z d order queues sizes s d.running right e in
          settled_returns z _ order _ (deliver_settled z d order queues sizes s d.running there e)

  -- and dispatch leaves them
  pub dispatch-leaves : (l : List ℕ) (v : ℕ)
      → dispatch z l (undispatched v b) ≡ accepted v d.running (delivered z d) (bytes_of (left z d))
  dispatch-leaves l v = step (due d) refl
    where
      step : (t : Bool) → due d ≡ t
          → dispatch z l (undispatched v b) ≡ accepted v d.running (delivered z d) (bytes_of (left z d))
      step true e = rw (e, dispatch_delivers z d order queues sizes s d.running right e)
      step false e = rw e
