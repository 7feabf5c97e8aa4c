-- The stages on the way back: what holds of every task record, and of messages; and who then holds a message, or is its receiver.
-- Assumes nothing.
use mathlib.Core.Path.{◌≡◌, refl, sym, ap, ◌∙◌, subst}
use mathlib.Core.Logic.{◌≢◌}
use mathlib.Core.Bool.{true, false, not, true≢false}
use mathlib.Core.List.{List}
use Prim.Native.Nat.{ℕ, suc}
use native.Mathlib.Omega.{arith}
use lib.Dec.{eqb}
use borrow.Author.Tests.{ne_eqb}
use Rattle.links.proofs.Bools.{refuted}
use Rattle.board.specs.declared.numbers.Size.{Size}
use Rattle.board.specs.declared.status.Status.{Status}
use Rattle.board.specs.declared.records.Task.{Task}
use Rattle.board.specs.declared.records.Message.{Message}
use Rattle.board.specs.declared.places.Place.{Place}
use Rattle.board.specs.declared.places.Place.TheVariants.{Free, HeldBy, QueuedAt, OnTimer, Nowhere}
use Rattle.board.specs.Numbers.{task_no, Numbered}
use Rattle.board.specs.Status.{IWAT, INTQ, has, is_ready}
use Rattle.board.specs.Places.{is_on_timer}
use Rattle.board.specs.Records.{no_task, no_message, task_with_stat}
use Rattle.board.specs.Board.{Board, task, message, place}
use Rattle.paper.specs.declared.call.Call.{Call}
use Rattle.paper.specs.Rules.{is_there, present, ready}
use Rattle.paper.proofs.Which.{nth_numbered}
use Rattle.linked.specs.Sound.{PlaceGood}
use Rattle.linked.proofs.Running.{ready_says, placed_numbered}
use Rattle.kept.specs.Settled.{Settled}
use Rattle.kept.proofs.Reading.{nth_cases, task-put}
use Rattle.kept.proofs.Waiting.{task_numbered, queued_starts}
use Rattle.past.specs.Past.{back}
use Rattle.reached.proofs.Making.{Passing, Makes}
use Rattle.reached.proofs.Sweeping.{Turned}
use Rattle.kept.proofs.Statuses.{restat}

-- ---- a stage: c runs, and Q holds of every task
pub record Stage (z : Size) (Q : Task → Type 0) (c : ℕ) (b : Board) : Type 0 where
  pub passing : Passing z b c
  pub all : (k : ℕ) → Numbered z.tasks k → Q (task b k)

-- no interrupt queued
abbrev pub Quiet : Task → Type 0
Quiet t = has t.stat INTQ ≡ false

-- and no message
abbrev pub Bare : Task → Type 0
Bare t = Quiet t × (t.mptr ≡ 0)

-- and not ready
abbrev pub Still : Task → Type 0
Still t = Bare t × (is_ready t.stat ≡ false)

-- waiting for an interrupt, where present
abbrev pub Parked : Task → Type 0
Parked t = (t.mptr ≡ 0) × (is_there t ≡ true → has t.stat IWAT ≡ true)

-- ---- a turn that changes one status
module _ (z : Size) (c : ℕ) (Q P : Task → Type 0) (b : Board) (v : Stage z Q c b) (k : ℕ) (n : Numbered z.tasks k) (s : Status)
    (calls : List Call) where
  -- the turn of k
  pub turn-stat : Q (task_with_stat (task b k) s) → P (task_with_stat (task b k) s) → Passing z (restat b k s) c
      → Makes z (restat b k s) calls b → Turned z (Stage z Q c) (λ d j. P (task d j)) b k (back (restat b k s) calls)
  turn-stat q r p m = record {
    earlier = record {
      inv = record {
        passing = p;
        all = λ j h. nth_cases Q no_task b.tasks k j (task_with_stat (task b k) s) (λ e. q) (v.all j h);
      };
      makes = m;
    };
    simple = subst P (sym (task-put b k (task_with_stat (task b k) s) (rw v.passing.settled.fits.tasks n))) r;
    keeps = λ j h. nth_cases P no_task b.tasks k j (task_with_stat (task b k) s) (λ e. r);
  }

-- ---- where all are parked nobody is ready
pub parked_still : (z : Size) (c : ℕ) (b : Board) → Stage z Parked c b → (j : ℕ) → ready b j ≡ false
parked_still z c b v j =
    refuted (ready b j) (λ r.
    let t = ready_says b j r in
    let n = task_numbered z b v.passing.order v.passing.queues v.passing.settled j t.0 in
    true≢false (sym ((v.all j n).1 t.0) ∙ t.2))

-- ---- where no message is queued, one that isn't free is held
pub used-held : (z : Size) (b : Board) → Stage z Parked 0 b → (m : ℕ) → place b m ≢ Free
    → (k : ℕ) × (place b m ≡ HeldBy (task_no k))
used-held z b v m h =
    let p = v.passing in
    let s = p.settled in
    step s (place b m) refl (s.regular.places m (rw s.fits.places at (placed_numbered b m h)))
  where
    step : Settled z b v.passing.order v.passing.queues → (x : Place) → place b m ≡ x → PlaceGood z b m x
        → (k : ℕ) × (place b m ≡ HeldBy (task_no k))
    step s Free e g = absurd (h e)
    step s (HeldBy t) e g = (t.0, e)
    step s (QueuedAt t) e g =
        let n = task_numbered z b v.passing.order v.passing.queues s t.0 g.3 in
        absurd (queued_starts z b v.passing.order v.passing.queues s.regular.linked t.0 m n e (v.all t.0 n).0)
    step s OnTimer e g = absurd (true≢false (sym (ap is_on_timer e) ∙ v.passing.untimed m))
    step s (Nowhere x) e g = absurd g

-- RPTR of a message, where it isn't 0, is the number of a task
pub receiver_numbered : (z : Size) (b : Board) (order : List ℕ) (queues : ℕ → List ℕ) → Settled z b order queues
    → (m : ℕ) → (message b m).rptr ≢ 0 → Numbered z.tasks (message b m).rptr
receiver_numbered z b order queues s m h = step (place b m) (s.regular.places m numbered)
  where
    numbered : Numbered z.messages m
    numbered =
        rw s.fits.messages at (nth_numbered no_message (λ (u : Message). not (eqb u.rptr 0)) b.messages refl m
        (ap not (ne_eqb (message b m).rptr 0 h)))

    step : (p : Place) → PlaceGood z b m p → Numbered z.tasks (message b m).rptr
    step Free g = absurd (h (ap (λ (u : Message). u.rptr) g))
    step (HeldBy k) g = (omega (arith, h), g.0.receiver)
    step (QueuedAt k) g = (omega (arith, h), g.0.receiver)
    step OnTimer g = (omega (arith, h), g.0.receiver)
    step (Nowhere p) g = absurd g

-- ---- the stages that say more
-- no interrupt is queued, and where a message is queued somebody runs
pub record Led (z : Size) (c : ℕ) (b : Board) : Type 0 where
  pub stage : Stage z Quiet c b
  pub runs : (k : ℕ) → Numbered z.tasks k → (task b k).mptr ≢ 0 → c ≢ 0

-- all are parked, and every task that an RPTR names is there
pub record Hosted (z : Size) (b : Board) : Type 0 where
  pub stage : Stage z Parked 0 b
  pub hosts : (m : ℕ) → (message b m).rptr ≢ 0 → present b (message b m).rptr ≡ true

-- and behind a free message all are free
pub record Filled (z : Size) (b : Board) : Type 0 where
  pub hosted : Hosted z b
  pub behind : (m : ℕ) → Numbered z.messages m → place b m ≡ Free → place b (suc m) ≡ Free

-- all are parked, no message is used, and the task queue is q
pub record Unused (z : Size) (q : List ℕ) (b : Board) : Type 0 where
  pub stage : Stage z Parked 0 b
  pub free : (m : ℕ) → Numbered z.messages m → place b m ≡ Free
  pub order : stage.passing.order ≡ q
