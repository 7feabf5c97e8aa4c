-- Nobody is ready, and a task is parked: an interrupt that is posted wakes it, it runs, and a wait for interrupt parks it again. Between the
-- two it can do what it likes, so whoever did something in the past was woken for it.
-- Assumes nothing.
use mathlib.Core.Path.{◌≡◌, refl, sym, ap, ◌∙◌, subst}
use mathlib.Core.Logic.{inr}
use mathlib.Core.Bool.{Bool, true, false, cond, true≢false}
use mathlib.Core.List.{[], ◌∷◌}
use Prim.Native.Nat.{ℕ}
use native.Mathlib.Omega.{arith}
use lib.ListN.{length}
use Rattle.links.proofs.Bools.{refuted}
use Rattle.board.specs.declared.numbers.Size.{Size}
use Rattle.board.specs.declared.status.Status.{Status}
use Rattle.board.specs.Numbers.{Numbered}
use Rattle.board.specs.Status.{WAIT, IWAT, INTQ, MHBS, TCBB, has, with_bit, without_bit, is_ready}
use Rattle.board.specs.Board.{Board, task, with_running}
use Rattle.board.proofs.Bits.{without_bit-has, without_bit_other, set_cleared}
use Rattle.paper.specs.declared.call.Call.TheVariants.{PostInterrupt, WaitForInterrupt}
use Rattle.paper.specs.Rules.{present, ready}
use Rattle.paper.specs.Changes.{sets, clears}
use Rattle.paper.specs.Effects.{post, wait_interrupt}
use Rattle.linked.specs.Sound.{RunsRightly}
use Rattle.linked.proofs.Chosen.{only_runs}
use Rattle.kept.specs.Settled.{Settled}
use Rattle.kept.specs.Claims.{Sizes}
use Rattle.kept.proofs.Flagging.{settled_post}
use Rattle.kept.proofs.Dispatching.{settled_running, runs-byte}
use Rattle.reached.proofs.Making.{Passing, Makes, makes_call}
use Rattle.kept.proofs.Statuses.{is_ready_lem, ready_one, restat_stat, restat_undone, flag_there}
use Rattle.kept.proofs.Going.{go_runs, go_there, task-word}

-- byte 1 as it is
pub runs_same : (b : Board) (c : ℕ) → b.running ≡ c → b ≡ with_running b c
runs_same b c e = ap (with_running b) e

-- ---- k is woken, and runs
abbrev pub awoken : Board → ℕ → Board
awoken b k = with_running (clears b k IWAT) k

module _ (z : Size) (a : Sizes z) (b : Board) (p : Passing z b 0) (still : (j : ℕ) → ready b j ≡ false) (k : ℕ)
    (n : Numbered z.tasks k) (e : has (task b k).stat IWAT ≡ true) where
  abbrev s : Status
  s = (task b k).stat

  abbrev d : Board
  d = clears b k IWAT

  abbrev y : Board
  y = awoken b k

  abbrev st : Settled z b p.order p.queues
  st = p.settled

  numbered : Numbered (length b.tasks) k
  numbered = rw st.fits.tasks n

  there : present b k ≡ true
  there = flag_there (task b k) IWAT refl (st.regular.records k n) e

  post_is : post b k ≡ clears b k IWAT
  post_is = ap (λ (t : Bool). cond t (clears b k IWAT) (sets b k INTQ)) e

  settled_d : Settled z d p.order p.queues
  settled_d =
      subst (λ (c : Board). Settled z c p.order p.queues) post_is (settled_post z b p.order p.queues st k there)

  stat_d : (task d k).stat ≡ without_bit s IWAT
  stat_d = restat_stat b k (without_bit s IWAT) numbered

  woken-ready : ready (clears b k IWAT) k ≡ true
  woken-ready =
      ap is_ready stat_d
      ∙ is_ready_lem (without_bit s IWAT) (without_bit_other s IWAT TCBB refl ∙ there)
      (without_bit_other s IWAT WAIT refl ∙ refuted (has s WAIT) (λ w. true≢false (sym e ∙ (st.flags k n).one w)))
      (without_bit-has s IWAT refl)

  -- it is the only one
  pub woken_only : (j : ℕ) → ready (clears b k IWAT) j ≡ true → j ≡ k
  woken_only = ready_one b k _ still

  woken_rightly : RunsRightly (clears b k IWAT) k
  woken_rightly = only_runs z d settled_d.fits.tasks k woken-ready woken_only

  -- the board is settled
  pub settled_awoken : Settled z (awoken b k) p.order p.queues
  settled_awoken =
      settled_running z d p.order p.queues k (runs-byte z d p.order p.queues a settled_d k woken_rightly) settled_d

  -- and passes
  pub passing_awoken : Passing z (awoken b k) k
  passing_awoken = record {
    order = p.order;
    queues = p.queues;
    settled = settled_awoken;
    runs = refl;
    rightly = only_runs z y settled_d.fits.tasks k woken-ready woken_only;
    idle = ap (λ (x : Status). has x MHBS) stat_d ∙ without_bit_other s IWAT MHBS refl ∙ ((st.flags k n).parked e).1;
    untimed = p.untimed;
  }

  parked_again : wait_interrupt (awoken b k) k ≡ with_running b k
  parked_again =
      let i : has (task d k).stat INTQ ≡ false =
      ap (λ (x : Status). has x INTQ) stat_d ∙ without_bit_other s IWAT INTQ refl ∙ ((st.flags k n).parked e).0 in
      rw i (ap (λ (c : Board). with_running c k) (restat_undone b k (without_bit s IWAT) numbered (λ x. with_bit x IWAT)
      (set_cleared IWAT refl s (st.fits.task k).stat e)))

  -- a wait for interrupt parks it again
  pub makes_wait : Makes z (awoken b k) (WaitForInterrupt ∷ []) b
  makes_wait =
      makes_call z a y k passing_awoken WaitForInterrupt b 0 p (tt, tt) (go_runs k [] (λ w. absurd (omega (arith, n.0, w))) refl)
      parked_again (inr (λ j r. absurd (true≢false (sym r ∙ still j))))

  -- and a post wakes it
  pub makes_wake : Makes z b (PostInterrupt k ∷ []) (awoken b k)
  makes_wake =
      makes_call z a b 0 p (PostInterrupt k) y k passing_awoken ((task-word z a k n, tt), tt) (go_there z b k [] n there refl)
      (post_is ∙ runs_same d 0 p.runs) (inr woken_only)
