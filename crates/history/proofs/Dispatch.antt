-- Dispatch on a board that is settled and on its machine: the same task runs next, and is handed the same message if it is due one.
-- Assumes nothing.
use mathlib.Core.Path.{◌≡◌, refl, sym, ap, ◌∙◌}
use mathlib.Core.Bool.{Bool, true, false}
use mathlib.Core.List.{List}
use Prim.Native.Nat.{ℕ, zero, suc}
use lib.ListN.{length}
use Rattle.links.specs.Queue.{first_of, rest_of}
use Rattle.board.specs.declared.numbers.Size.{Size}
use Rattle.board.specs.Numbers.{Numbered}
use Rattle.board.specs.Status.{MHBS, has}
use Rattle.board.specs.Board.{Board, bytes_of, task, with_running}
use Rattle.paper.specs.Rules.{present, queue, runs_next}
use Rattle.paper.specs.Changes.{clears, take_first}
use Rattle.paper.specs.Refusals.{Test}
use Rattle.paper.specs.Outcomes as paper
use Rattle.paper.specs.Answers.{accepts}
use Rattle.linked.specs.Sound.{RunsRightly}
use Rattle.linked.proofs.Chosen.{runs_alike}
use Rattle.kept.specs.Settled.{Settled}
use Rattle.kept.specs.Touched.{changed}
use Rattle.kept.specs.Claims.{Sizes}
use Rattle.kept.proofs.Waiting.{task_numbered}
use Rattle.kept.proofs.Taking.{due-queued, deliver_settled}
use Rattle.kept.proofs.Dispatching.{next_rightly, next_settled, due_there, dispatch_delivers}
use Rattle.history.specs.Ranking.{Entry}
use Rattle.history.specs.Machine as plain
use Rattle.history.specs.Machine.{Plain, Result}
use Rattle.history.proofs.Named.{Named, named-flagged}
use Rattle.history.proofs.Machines.{plain_of, plain-clears, length-tasks}
use Rattle.history.proofs.Asked.{asked_next, first_mptr, first_walked}
use Rattle.history.proofs.Same.{Same, same_at, same_holds}
use Rattle.history.proofs.Taken.{take_same}

-- ---- dispatch
-- the same answer, and the bytes of a board that is settled and is the machine's
pub record Dispatched (z : Size) (o : paper.Outcome) (r : Result) : Type 0 where
  pub answers : o.answer ≡ r.answer
  pub board : Board
  pub order : List ℕ
  pub queues : ℕ → List ℕ
  pub leaves : o.after ≡ bytes_of board
  pub settled : Settled z board order queues
  pub same : Same z board order queues r.plain

-- a bit cleared
clears_same : (z : Size) (b : Board) (q : List ℕ) (f : ℕ → List ℕ) (p : Plain) (c bit : ℕ) → Numbered (length b.tasks) c
    → Same z b q f p → Same z (clears b c bit) q f (plain.clears p c bit)
clears_same z b q f p c bit d t =
    same_holds z b q f p (λ (x : Plain). Same z (clears b c bit) q f (plain.clears x c bit)) t
    (λ l s n w. same_at l s n (plain-clears l s n b c d bit) (named-flagged z (plain_of b l s n) q f w c _))

-- ---- to a task c that runs rightly
module _ (z : Size) (b : Board) (q : List ℕ) (f : ℕ → List ℕ) (a : Sizes z) (h : Settled z b q f)
    (l s : List Entry) (n : ℕ) (w : Named z (plain_of b l s n) q f) (bytes : List ℕ) (old : Plain) (tests : List Test) (v c : ℕ)
    (right : RunsRightly b c) where
  abbrev p : Plain
  p = plain_of b l s n

  -- it is due a message
  module _ (due : has (task b c).stat MHBS ≡ true) where
    runner : present b c ≡ true
    runner = due_there z b q f a h c right due

    numbered : Numbered z.tasks c
    numbered = task_numbered z b q f h c runner

    abbrev after : Board
    after = clears (take_first z b c) c MHBS

    abbrev left : ℕ → List ℕ
    left = changed f c (rest_of (f c))

    -- it has one
    delivers : (m : ℕ) → plain.first p c ≡ m
        → Dispatched z (paper.accepted v c (first_of (queue z b c)) (bytes_of after)) (plain.deliver old (plain.played tests v p) c m)
    delivers zero e = absurd (due-queued z b q f a h c runner due (sym (first_mptr z b q f a h l s n w c numbered) ∙ e))
    delivers (suc m) e = record {
      answers = ap (λ (x : ℕ). accepts v c x) (sym (first_walked z b q f a h l s n w c numbered) ∙ e);
      board = after;
      order = q;
      queues = left;
      leaves = refl;
      settled = deliver_settled z b q f a h c runner due;
      same = clears_same z (take_first z b c) q left (plain.take p c (suc m)) c MHBS
          (rw (length-tasks b c (rest_of (queue z b c)), h.fits.tasks) numbered)
          (take_same z b q f a h l s n w c numbered (suc m) e);
    }

    -- so 15 is not given
    delivered : Dispatched z (paper.deliver z bytes (paper.undispatched v b) c) (plain.deliver old (plain.played tests v p) c (plain.first p c))
    delivered = rw (dispatch_delivers z b q f a h c right due) (delivers (plain.first p c) refl)

  -- it is handed its first message, if it is due one
  dispatched_to : Dispatched z (paper.dispatch_to z bytes (paper.undispatched v b) c) (plain.dispatch_to old (plain.played tests v p) c)
  dispatched_to = step (has (task b c).stat MHBS) refl
    where
      step : (t : Bool) → has (task b c).stat MHBS ≡ t
          → Dispatched z (paper.dispatch_to z bytes (paper.undispatched v b) c) (plain.dispatch_to old (plain.played tests v p) c)
      step true e = rw e (delivered e)
      step false e = rw e (record {
        answers = refl;
        board = b;
        order = q;
        queues = f;
        leaves = refl;
        settled = h;
        same = same_at l s n refl w;
      })

-- ---- to the task that runs next
module _ (z : Size) (b : Board) (q : List ℕ) (f : ℕ → List ℕ) (a : Sizes z) (h : Settled z b q f)
    (l s : List Entry) (n : ℕ) (w : Named z (plain_of b l s n) q f) (bytes : List ℕ) (old : Plain) (tests : List Test) (v : ℕ) where
  abbrev c : ℕ
  c = runs_next z b

  abbrev d : Board
  d = with_running b c

  right : RunsRightly d c
  right = runs_alike b d c (λ k. refl) (λ k. refl) (next_rightly z b q f a h)

  -- the machine names it too; beyond that it is the machine of the board with it in byte 1
  pub dispatch_alike : let p = plain_of b l s n in
      Dispatched z (paper.dispatch z bytes (paper.undispatched v b)) (plain.dispatch old (plain.played tests v p))
  dispatch_alike =
      rw (asked_next z b q f a h l s n w)
      (dispatched_to z d q f a (next_settled z b q f a h) l s n w bytes old tests v c right)
