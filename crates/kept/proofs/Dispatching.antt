-- Who runs once a call has had its effect on a board that is settled, and dispatch: a task that is due a message has one, it runs on with
-- that message, and R7 then holds.
-- Assumes nothing.
use mathlib.Core.Path.{◌≡◌, refl, sym, ap, ◌∙◌, subst}
use mathlib.Core.Logic.{◌≢◌, ◌⊎◌, inl, inr}
use mathlib.Core.Bool.{Bool, true, false, true≢false}
use mathlib.Core.List.{List}
use Prim.Native.Nat.{ℕ}
use native.Mathlib.Omega.{arith}
use native.Mathlib.Decide.{ℕ_discrete}
use borrow.Author.Tests.{ne_eqb}
use Rattle.links.specs.Queue.{first_of, rest_of}
use Rattle.links.proofs.Members.{is_in_in}
use Rattle.board.specs.declared.numbers.Size.{Size}
use Rattle.board.specs.declared.status.Status.{Status}
use Rattle.board.specs.declared.records.Task.{Task}
use Rattle.board.specs.Status.{WAIT, IWAT, MHBS, TCBB, has, without_bit, is_ready, number}
use Rattle.board.specs.Records.{Byte}
use Rattle.board.specs.Board.{Board, bytes_of, task, place, with_running}
use Rattle.board.proofs.Bits.{without_bit-has, without_bit_other}
use Rattle.paper.specs.Rules.{present, next_task, task_number, queue, empty_queue, ready, runs_next}
use Rattle.paper.specs.Rules as rules
use Rattle.paper.specs.Changes.{clears, take_first}
use Rattle.paper.specs.Outcomes.{accepted, Undispatched, undispatched, dispatch}
use Rattle.linked.specs.Linked.{Listing}
use Rattle.linked.specs.Sound.{RunsRightly}
use Rattle.linked.proofs.Running.{present_numbered, ready_says}
use Rattle.linked.proofs.Chosen.{ready_numbered, next-runs, runs_alike}
use Rattle.kept.specs.Settled.{Settled}
use Rattle.kept.specs.Touched.{every_bit, changed}
use Rattle.kept.specs.Claims.{Sizes, DispatchFrame}
use Rattle.kept.proofs.Reading.{task-put, task_alike, good_stays, order-walked}
use Rattle.kept.proofs.Taking.{take-stat, due-queued, deliver_settled}
use Rattle.kept.proofs.Framing.{frame_then, frame_clear}
use Rattle.kept.proofs.Framed.{frame_take}

-- handing over changes only the task that runs and the message that it is handed
pub dispatch_frame : DispatchFrame
dispatch_frame z b c =
    frame_then (frame_take z b c) (frame_clear (take_first z b c) c MHBS (inl refl) (is_in_in MHBS every_bit refl, inl refl))

-- ---- byte 1 written
-- nothing else of a board that is settled looks at it
pub settled_running : (z : Size) (b : Board) (order : List ℕ) (queues : ℕ → List ℕ) (c : ℕ) → Byte c → Settled z b order queues
    → Settled z (with_running b c) order queues
settled_running z b order queues c h s = let f = s.fits in let r = s.regular in record {
  fits = record {
    first = f.first;
    running = h;
    zeros = f.zeros;
    tasks = f.tasks;
    messages = f.messages;
    places = f.places;
    task = f.task;
    message = f.message;
    place = f.place;
  };
  regular = record {
    zeros = r.zeros;
    records = r.records;
    linked = record { tasks = r.linked.tasks; messages = r.linked.messages };
    places = λ m n. good_stays z b (with_running b c) m (place b m) refl (λ k i t. t) (r.places m n);
  };
  flags = s.flags;
}

-- ---- who runs
module _ (z : Size) (b : Board) (order : List ℕ) (queues : ℕ → List ℕ) (sizes : Sizes z) (settled : Settled z b order queues) where
  -- the links list the tasks as they are walked
  pub listed_walked : Listing (next_task b) (task_number b) b.first (rules.order z b) (λ k. present b k ≡ true)
  listed_walked = subst (λ (q : List ℕ). Listing (next_task b) (task_number b) b.first q (λ k. present b k ≡ true))
      (sym (order-walked z b order queues settled sizes.limit)) settled.regular.linked.tasks

  -- whoever runs next runs rightly
  pub next_rightly : RunsRightly b (runs_next z b)
  next_rightly = next-runs z b settled.fits.tasks listed_walked

  -- and has a number that byte 1 holds
  pub runs-byte : (c : ℕ) → RunsRightly b c → Byte c
  runs-byte c h = step (ℕ_discrete c 0)
    where
      step : Dec (c ≡ 0) → Byte c
      step (yes e) = omega arith
      step (no n) = let k = ready_numbered z b settled.fits.tasks c (h.leads n).awake in omega (arith, k.1, sizes.tasks)

  pub next_settled : Settled z (with_running b (runs_next z b)) order queues
  next_settled = settled_running z b order queues (runs_next z b) (runs-byte (runs_next z b) next_rightly) settled

-- ---- a delivery to c, who runs rightly
module _ (z : Size) (b : Board) (order : List ℕ) (queues : ℕ → List ℕ) (sizes : Sizes z) (settled : Settled z b order queues)
    (c : ℕ) (right : RunsRightly b c) (due : has (task b c).stat MHBS ≡ true) where
  abbrev after : Board
  after = clears (take_first z b c) c MHBS

  somebody : c ≢ 0
  somebody e = true≢false (sym due ∙ ap (λ (k : ℕ). has (task b k).stat MHBS) e)

  pub due_there : present b c ≡ true
  due_there = (ready_says b c (right.leads somebody).awake).0

  -- there is a message for it
  pub dispatch_delivers : empty_queue b c ≡ false
  dispatch_delivers = ne_eqb (task b c).mptr 0 (due-queued z b order queues sizes settled c due_there due)

  after_settled : Settled z after order (changed queues c (rest_of (queues c)))
  after_settled = deliver_settled z b order queues sizes settled c due_there due

  -- whoever was ready is
  ready_stays : (k : ℕ) → ready after k ≡ ready b k
  ready_stays k =
      task_alike (λ (t : Task). is_ready t.stat) (take_first z b c) c k _ (same (task (take_first z b c) c).stat)
      ∙ ap is_ready (take-stat z b c k)
    where
      same : (s : Status) → is_ready (without_bit s MHBS) ≡ is_ready s
      same s = rw (without_bit_other s MHBS TCBB refl, without_bit_other s MHBS WAIT refl, without_bit_other s MHBS IWAT refl)

  -- it runs on
  pub after_rightly : RunsRightly after c
  after_rightly = runs_alike b after c ready_stays (λ k. ap number ((dispatch_frame z b c).fields refl k).0) right

  -- and is due none
  after_idle : has (task after c).stat MHBS ≡ false
  after_idle =
      let n = present_numbered (take_first z b c) c (ap (λ (s : Status). has s TCBB) (take-stat z b c c) ∙ due_there) in
      ap (λ (x : Task). has x.stat MHBS) (task-put (take_first z b c) c _ n)
      ∙ without_bit-has (task (take_first z b c) c).stat MHBS refl

-- ---- what dispatch leaves
-- it accepts, naming who runs next, and the board that it leaves is settled and keeps R7 with that task in byte 1
pub record Handing (z : Size) (order l : List ℕ) (d : Undispatched) : Type 0 where
  pub board : Board
  pub queues : ℕ → List ℕ
  pub delivered : ℕ
  pub runs : board.running ≡ runs_next z d.board
  pub hands : let c = runs_next z d.board in let b = with_running d.board c in
      (board ≡ b) ⊎ (board ≡ clears (take_first z b c) c MHBS)  -- a message is handed over or none is
  pub ends : dispatch z l d ≡ accepted d.value (runs_next z d.board) delivered (bytes_of board)
  pub settled : Settled z board order queues
  pub rightly : RunsRightly board (runs_next z d.board)
  pub idle : has (task board (runs_next z d.board)).stat MHBS ≡ false

module _ (z : Size) (order l : List ℕ) (queues : ℕ → List ℕ) (v : ℕ) (b : Board) (sizes : Sizes z)
    (settled : Settled z b order queues) where
  abbrev c : ℕ
  c = runs_next z b

  abbrev d : Board
  d = with_running b c

  s : Settled z d order queues
  s = next_settled z b order queues sizes settled

  right : RunsRightly d c
  right = runs_alike b d c (λ k. refl) (λ k. refl) (next_rightly z b order queues sizes settled)

  -- so it is for each board that is settled
  pub dispatched : Handing z order l (undispatched v b)
  dispatched = step (has (task b c).stat MHBS) refl
    where
      step : (t : Bool) → has (task b c).stat MHBS ≡ t → Handing z order l (undispatched v b)
      step true e = record {
        board = clears (take_first z d c) c MHBS;
        queues = changed queues c (rest_of (queues c));
        delivered = first_of (queue z d c);
        runs = (dispatch_frame z d c).running;
        hands = inr refl;
        ends = rw (e, dispatch_delivers z d order queues sizes s c right e);
        settled = after_settled z d order queues sizes s c right e;
        rightly = after_rightly z d order queues sizes s c right e;
        idle = after_idle z d order queues sizes s c right e;
      }
      step false e = record {
        board = d;
        queues = queues;
        delivered = 0;
        runs = refl;
        hands = inl refl;
        ends = rw e;
        settled = s;
        rightly = right;
        idle = e;
      }
