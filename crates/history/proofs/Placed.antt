-- Messages placed, on a board and on its machine: as they are, or addressed first; and the wait for one.
-- Assumes nothing.
use mathlib.Core.Path.{◌≡◌, sym, ap, ◌∙◌, subst}
use mathlib.Core.Logic.{◌≢◌}
use mathlib.Core.Bool.{cond}
use mathlib.Core.List.{List}
use Prim.Native.Nat.{ℕ, suc}
use lib.Dec.{eqb}
use lib.ListN.{length}
use Rattle.links.specs.Chain.{In}
use Rattle.board.specs.declared.numbers.Size.{Size}
use Rattle.board.specs.declared.places.Place.TheVariants.{HeldBy}
use Rattle.board.specs.Numbers.{task_no, Numbered}
use Rattle.board.specs.Status.{WAIT, MHBS}
use Rattle.board.specs.Board.{Board, task, message, place}
use Rattle.board.proofs.Numbered.{length-put}
use Rattle.paper.specs.Effects.{place_at, own_prio, addressed, send, waits}
use Rattle.kept.specs.Settled.{Settled}
use Rattle.kept.specs.Touched.{IntoQueue, queues_after}
use Rattle.kept.specs.Claims.{Sizes}
use Rattle.kept.proofs.Holding.{held_numbered}
use Rattle.kept.proofs.Placing.{new_record, addressed-queue}
use Rattle.history.specs.Ranking.{Entry}
use Rattle.history.specs.Machine as plain
use Rattle.history.specs.Machine.{Plain}
use Rattle.history.proofs.Named.{Named, laid, named-flagged, named_block, named-place}
use Rattle.history.proofs.Machines.{plain_of, plain-message, plain-sets, plain_placed}
use Rattle.history.proofs.Asked.{first_mptr}
use Rattle.history.proofs.Same.{Same, same_at, held_apart}

-- ---- placed
-- a message that stands nowhere goes into the queue of r
pub place_same : (z : Size) (b : Board) (q : List ℕ) (f : ℕ → List ℕ) (l s : List Entry) (n : ℕ)
    → Named z (plain_of b l s n) q f → (m r : ℕ) → ((x : Entry) → In x s → x.id ≢ m) → Numbered z.tasks r
    → Numbered (length b.tasks) r → Numbered (length b.messages) m → Numbered (length b.places) m
    → Same z (place_at z b m r) q (queues_after b f (IntoQueue m (message b m).prio r)) (plain.place (plain_of b l s n) m r)
place_same z b q f l s n w m r apart d hr hm hp =
    same_at l (laid (plain_of b l s n) m r).placements (suc n)
    (plain_placed z l s n b m r hr hm hp) (named-place z (plain_of b l s n) q f w m r apart d)

module _ (z : Size) (b : Board) (q : List ℕ) (f : ℕ → List ℕ) (a : Sizes z) (h : Settled z b q f)
    (l s : List Entry) (n : ℕ) (w : Named z (plain_of b l s n) q f) where
  abbrev p : Plain
  p = plain_of b l s n

  module _ (c m r : ℕ) (held : place b m ≡ HeldBy (task_no c)) (d : Numbered z.tasks r) where
    numbered : Numbered z.messages m
    numbered = held_numbered z b q f h m c held

    -- resend, forward, return: a held one, as it is
    pub forward_same : Same z (place_at z b m r) q (queues_after b f (IntoQueue m (message b m).prio r)) (plain.place (plain_of b l s n) m r)
    forward_same =
        place_same z b q f l s n w m r (held_apart z b q f a h l s n w c m held) d (rw h.fits.tasks d)
        (rw h.fits.messages numbered) (rw h.fits.places numbered)

    -- ---- a held one, addressed first
    abbrev e : Board
    e = addressed b c m r

    plain-addressed : plain.addressed p c m r ≡ plain_of e l s n
    plain-addressed = plain-message l s n b m (new_record b c m r) (rw h.fits.messages numbered)

    -- send
    pub send_same : Same z (send z b c m r) q (queues_after b f (IntoQueue m (own_prio (message b m).prio (task b c).prio) r))
        (plain.place (plain.addressed (plain_of b l s n) c m r) m r)
    send_same =
        let apart = held_apart z b q f a h l s n w c m held in
        let v : Named z (plain_of e l s n) q f =
        subst (λ (x : Plain). Named z x q f) plain-addressed (named_block z p q f w m _ apart) in
        subst (λ (g : ℕ → List ℕ). Same z (send z b c m r) q g (plain.place (plain.addressed p c m r) m r)) (addressed-queue z b q f h m r c held d)
        (subst (λ (x : Plain). Same z (send z b c m r) q (queues_after e f (IntoQueue m (message e m).prio r)) (plain.place x m r))
        (sym plain-addressed) (place_same z e q f l s n v m r apart d (rw h.fits.tasks d)
        (rw (length-put b.messages m (new_record b c m r), h.fits.messages) numbered) (rw h.fits.places numbered)))

  -- ---- the wait
  -- for a message, or to be handed one that is queued
  pub waits_same : (c : ℕ) → Numbered z.tasks c → Same z (waits c b) q f (plain.waits c (plain_of b l s n))
  waits_same c d =
      same_at l s n
      (ap (λ (m : ℕ). plain.sets p c (cond (eqb m 0) WAIT MHBS)) (first_mptr z b q f a h l s n w c d)
      ∙ plain-sets l s n b c (rw h.fits.tasks d) _)
      (named-flagged z p q f w c _)
