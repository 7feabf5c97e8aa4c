-- A task with an interrupt queued: before that it had none, and an interrupt was posted.
-- Assumes nothing.
use mathlib.Core.Path.{◌≡◌, refl, sym, ◌∙◌}
use mathlib.Core.Logic.{inl}
use mathlib.Core.Bool.{true, false, true≢false}
use mathlib.Core.List.{[], ◌∷◌}
use Prim.Native.Nat.{ℕ}
use Rattle.links.proofs.Bools.{refuted, cond_holds}
use Rattle.board.specs.declared.numbers.Size.{Size}
use Rattle.board.specs.declared.status.Status.{Status}
use Rattle.board.specs.declared.records.Task.{Task}
use Rattle.board.specs.Numbers.{Numbered}
use Rattle.board.specs.Status.{WAIT, IWAT, INTQ, MHBS, TCBB, has, with_bit, without_bit, is_ready, number}
use Rattle.board.specs.Board.{Board, task}
use Rattle.board.proofs.Bits.{without_bit-has, without_bit_other, set_cleared}
use Rattle.paper.specs.declared.call.Call.TheVariants.{PostInterrupt}
use Rattle.paper.specs.Rules.{is_there, present}
use Rattle.paper.specs.Changes.{clears}
use Rattle.paper.specs.Effects.{post}
use Rattle.linked.proofs.Chosen.{runs_alike}
use Rattle.kept.specs.Settled.{Settled}
use Rattle.kept.specs.Claims.{Sizes}
use Rattle.kept.proofs.Reading.{task_alike}
use Rattle.kept.proofs.Flagging.{flags_alike, apart_INTQ, settled_clears}
use Rattle.past.specs.Past.{back, here, posted}
use Rattle.reached.proofs.Making.{Passing, Makes, makes_call}
use Rattle.reached.proofs.Sweeping.{Turned, turned_here}
use Rattle.kept.proofs.Statuses.{restat_undone, flag_there}
use Rattle.kept.proofs.Going.{go_there, task-word}
use Rattle.reached.proofs.Stages.{Stage, Quiet, turn-stat}
use Rattle.reached.proofs.Parking.{runs_same}

module _ (z : Size) (a : Sizes z) (c k : ℕ) (b : Board) (n : Numbered z.tasks k) (p : Passing z b c)
    (e : has (task b k).stat INTQ ≡ true) where
  abbrev s : Status
  s = (task b k).stat

  abbrev y : Board
  y = clears b k INTQ

  abbrev st : Settled z b p.order p.queues
  st = p.settled

  there : present b k ≡ true
  there = flag_there (task b k) INTQ refl (st.regular.records k n) e

  awake : has (task b k).stat IWAT ≡ false
  awake = refuted (has s IWAT) (λ i. true≢false (sym e ∙ ((st.flags k n).parked i).0))

  settled_y : Settled z y p.order p.queues
  settled_y =
      settled_clears z b p.order p.queues k INTQ there apart_INTQ st
      (flags_alike s (without_bit s INTQ) _ (without_bit_other s INTQ WAIT refl) (without_bit_other s INTQ IWAT refl)
      (without_bit_other s INTQ MHBS refl) awake (st.flags k n))

  ready_same : (t : Status) → is_ready (without_bit t INTQ) ≡ is_ready t
  ready_same t = rw (without_bit_other t INTQ TCBB refl, without_bit_other t INTQ WAIT refl, without_bit_other t INTQ IWAT refl)

  passing_y : Passing z (clears b k INTQ) c
  passing_y = record {
    order = p.order;
    queues = p.queues;
    settled = settled_y;
    runs = p.runs;
    rightly = runs_alike b y c (λ j. task_alike (λ (t : Task). is_ready t.stat) b k j _ (ready_same s))
        (λ j. task_alike (λ (t : Task). number t.prio) b k j _ refl) p.rightly;
    idle = task_alike (λ (t : Task). has t.stat MHBS) b k c _ (without_bit_other s INTQ MHBS refl) ∙ p.idle;
    untimed = p.untimed;
  }

  posted_again : post (clears b k INTQ) k ≡ b
  posted_again =
      let i : has (task y k).stat IWAT ≡ false =
      task_alike (λ (t : Task). has t.stat IWAT) b k k _ (without_bit_other s INTQ IWAT refl) ∙ awake in
      rw i (restat_undone b k (without_bit s INTQ) (rw st.fits.tasks n) (λ x. with_bit x INTQ)
      (set_cleared INTQ refl s (st.fits.task k).stat e))

  makes_post : Makes z (clears b k INTQ) (PostInterrupt k ∷ []) b
  makes_post =
      makes_call z a y c passing_y (PostInterrupt k) b c p ((task-word z a k n, tt), tt)
      (go_there z y k [] n (task_alike is_there b k k _ (without_bit_other s INTQ TCBB refl) ∙ there) refl)
      (posted_again ∙ runs_same b c p.runs) (inl refl)

  -- as a turn of a sweep
  turned : Turned z (λ d. Passing z d c) (λ d j. Quiet (task d j)) b k (back (clears b k INTQ) (PostInterrupt k ∷ []))
  turned =
      let v : Stage z (λ t. Unit {0}) c b = record { passing = p; all = λ j h. tt } in
      let r = turn-stat z c (λ t. Unit {0}) Quiet b v k n (without_bit s INTQ) (PostInterrupt k ∷ []) tt
      (without_bit-has s INTQ refl) passing_y makes_post in
      record {
        earlier = record { inv = r.earlier.inv.passing; makes = r.earlier.makes };
        simple = r.simple;
        keeps = r.keeps;
      }

-- back over an interrupt that is queued at k, if any
pub turn-posted : (z : Size) → Sizes z → (c k : ℕ) (b : Board) → Numbered z.tasks k → Passing z b c
    → Turned z (λ d. Passing z d c) (λ d j. Quiet (task d j)) b k (posted b k)
turn-posted z a c k b n p =
    cond_holds (Turned z (λ d. Passing z d c) (λ d j. Quiet (task d j)) b k) (has (task b k).stat INTQ)
    (back (clears b k INTQ) (PostInterrupt k ∷ [])) (here b)
    (λ e. turned z a c k b n p e) (λ e. turned_here z (λ d. Passing z d c) (λ d j. Quiet (task d j)) b k p e)
