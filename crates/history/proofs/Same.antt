-- A machine that is the machine of a board, its entries named by the board's lists. The calls that move no message keep this:
-- post, wait for interrupt, claim, release, prepare, install, cancel task.
-- Assumes nothing.
use mathlib.Core.Path.{◌≡◌, sym, ap, ◌∙◌, subst}
use mathlib.Core.Logic.{◌≢◌}
use mathlib.Core.Bool.{Bool, false, cond, true≢false}
use mathlib.Core.List.{List}
use Prim.Native.Nat.{ℕ}
use lib.ListN.{length}
use Rattle.links.specs.Chain.{In}
use Rattle.links.proofs.Bools.{cond_holds}
use Rattle.board.specs.declared.numbers.Size.{Size}
use Rattle.board.specs.declared.status.Status.{Status}
use Rattle.board.specs.declared.places.Place.TheVariants.{Free, HeldBy}
use Rattle.board.specs.Numbers.{task_no, Numbered}
use Rattle.board.specs.Status.{IWAT, INTQ, has}
use Rattle.board.specs.Records.{no_message}
use Rattle.board.specs.Board.{Board, task, place, with_message}
use Rattle.board.specs.Places.{is_queued}
use Rattle.paper.specs.Rules.{present}
use Rattle.paper.specs.Effects.{install, cancel_task, post, wait_interrupt, lowest_free, claim, release, prepare}
use Rattle.linked.proofs.Running.{lowest_free_lem}
use Rattle.kept.specs.Settled.{Settled}
use Rattle.kept.specs.Touched.{IntoOrder, OutOfOrder, order_after}
use Rattle.kept.specs.Claims.{Sizes}
use Rattle.kept.proofs.Holding.{held_numbered}
use Rattle.history.specs.Ranking.{Entry}
use Rattle.history.specs.Machine as plain
use Rattle.history.specs.Machine.{Plain, Held, no_block, with_whose, flagged}
use Rattle.history.proofs.Named.{Named, named-flagged, named_block, named-install, named_cancel}
use Rattle.history.proofs.Machines.{plain_of, plain-message, plain-place, plain-post, plain-wait, plain-install, plain_cancel}
use Rattle.history.proofs.Asked.{asked_free, entry-present, entry-queued}

pub record Same (z : Size) (b : Board) (q : List ℕ) (f : ℕ → List ℕ) (p : Plain) : Type 0 where
  pub installed : List Entry
  pub placed : List Entry
  pub time : ℕ
  pub is : p ≡ plain_of b installed placed time
  pub named : Named z p q f

-- so it is with the entries l and s at the time n
pub same_at : {z : Size} {b : Board} {q : List ℕ} {f : ℕ → List ℕ} {p : Plain} (l s : List Entry) (n : ℕ) → p ≡ plain_of b l s n
    → Named z p q f → Same z b q f p
same_at l s n e w = record { installed = l; placed = s; time = n; is = e; named = w }

-- what holds of every machine of the board holds of it
pub same_holds : (z : Size) (b : Board) (q : List ℕ) (f : ℕ → List ℕ) (p : Plain) (P : Plain → Type 0) → Same z b q f p
    → ((l s : List Entry) (n : ℕ) → Named z (plain_of b l s n) q f → P (plain_of b l s n)) → P p
same_holds z b q f p P t g =
    subst P (sym t.is) (g t.installed t.placed t.time (subst (λ (x : Plain). Named z x q f) t.is t.named))

module _ (z : Size) (b : Board) (q : List ℕ) (f : ℕ → List ℕ) (a : Sizes z) (h : Settled z b q f)
    (l s : List Entry) (n : ℕ) (w : Named z (plain_of b l s n) q f) where
  abbrev p : Plain
  p = plain_of b l s n

  task_there : (k : ℕ) → Numbered z.tasks k → Numbered (length b.tasks) k
  task_there k d = rw h.fits.tasks d

  -- ---- flags
  -- one status of task k written or another
  flags_same : (k : ℕ) (t : Bool) (x y : Status) (o : Board) → cond t (flagged p k x) (flagged p k y) ≡ plain_of o l s n
      → Same z o q f (cond t (flagged p k x) (flagged p k y))
  flags_same k t x y o e =
      same_at l s n e
      (cond_holds (λ (r : Plain). Named z r q f) t _ _ (λ i. named-flagged z p q f w k x) (λ i. named-flagged z p q f w k y))

  -- post interrupt
  pub post_same : (k : ℕ) → Numbered z.tasks k → Same z (post b k) q f (plain.post (plain_of b l s n) k)
  post_same k d = flags_same k (has (task b k).stat IWAT) _ _ (post b k) (plain-post l s n b k (task_there k d))

  -- wait for interrupt
  pub wait_same : (c : ℕ) → Numbered z.tasks c → Same z (wait_interrupt b c) q f (plain.wait_interrupt (plain_of b l s n) c)
  wait_same c d = flags_same c (has (task b c).stat INTQ) _ _ (wait_interrupt b c) (plain-wait l s n b c (task_there c d))

  -- ---- messages that stand in no queue
  -- claim
  pub claim_same : (c : ℕ) → lowest_free b ≢ 0
      → let p = plain_of b l s n in Same z (claim b c) q f (plain.claim z p c)
  claim_same c d =
      same_at l s n
      (ap (λ (m : ℕ). with_whose p m (Held c)) (asked_free z b q f h l s n)
      ∙ plain-place l s n b (lowest_free b) (HeldBy (task_no c)) (lowest_free_lem b d).0) w

  module _ (c m : ℕ) (held : place b m ≡ HeldBy (task_no c)) where
    -- a held message stands nowhere
    pub held_apart : (x : Entry) → In x s → x.id ≢ m
    held_apart x i e =
        let d = ap is_queued (sym (entry-queued z b q f a h l s n w x i) ∙ ap (place b) e ∙ held) in
        true≢false d

    message_there : Numbered (length b.messages) m
    message_there = rw h.fits.messages (held_numbered z b q f h m c held)

    -- release
    pub release_same : Same z (release b m) q f (plain.release (plain_of b l s n) m)
    release_same =
        same_at l s n
        (ap (λ (x : Plain). with_whose x m plain.Free) (plain-message l s n b m no_message message_there)
        ∙ plain-place l s n (with_message b m no_message) m Free (rw h.fits.places (held_numbered z b q f h m c held)))
        (named_block z p q f w m no_block held_apart)

    -- prepare
    pub prepare_same : (t prio sptr : ℕ) → Same z (prepare b m t prio sptr) q f (plain.prepare (plain_of b l s n) m t prio sptr)
    prepare_same t prio sptr =
        same_at l s n
        (plain-message l s n b m _ message_there)
        (named_block z p q f w m _ held_apart)

  -- ---- tasks
  -- install
  pub install_same : (k t prio sptr name : ℕ) → Numbered z.tasks k → present b k ≡ false
      → Same z (install z b k t prio sptr name) (order_after b q (IntoOrder k prio)) f
      (plain.install (plain_of b l s n) k t prio sptr name)
  install_same k t prio sptr name d absent =
      same_at (plain.install p k t prio sptr name).installs s (plain.install p k t prio sptr name).clock
      (plain-install z l s n b k (task_there k d) t prio sptr name)
      (named-install z p q f w k t prio sptr name
      (λ x i e. true≢false (sym (entry-present z b q f a h l s n w x i) ∙ ap (present b) e ∙ absent)))

  -- cancel task
  pub cancel_same : (k : ℕ) → Numbered z.tasks k
      → Same z (cancel_task z b k) (order_after b q (OutOfOrder k)) f (plain.cancel_task (plain_of b l s n) k)
  cancel_same k d =
      same_at (plain.cancel_task p k).installs s n
      (plain_cancel z l s n b k (task_there k d))
      (named_cancel z p q f w k)
