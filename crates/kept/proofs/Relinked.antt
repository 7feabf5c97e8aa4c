-- The queue of a task linked anew: its MPTR and the LINKs of the members change, and nothing else.
-- Assumes nothing.
use mathlib.Core.Path.{◌≡◌, refl, ap, ◌∙◌, subst}
use mathlib.Core.List.{List, [], ◌∷◌}
use Prim.Native.Nat.{ℕ}
use native.Mathlib.Omega.{arith}
use lib.ListN.{length}
use Rattle.links.specs.Queue.{first_of, relink}
use Rattle.links.specs.Chain.{Out, Once, All, Chain}
use Rattle.links.proofs.Relinks.{relink-chain}
use Rattle.board.specs.declared.numbers.Size.{Size}
use Rattle.board.specs.declared.records.Task.{Task}
use Rattle.board.specs.declared.records.Message.{Message}
use Rattle.board.specs.Numbers.{Numbered}
use Rattle.board.specs.Records.{Word, no_message, task_with_mptr, with_link}
use Rattle.board.specs.Board.{Board, nth, put, task, message, with_messages, with_task}
use Rattle.board.proofs.Numbered.{nth-put, nth-put_other, nth_alike, length-put}
use Rattle.paper.specs.Rules.{next_message}
use Rattle.paper.specs.Changes.{link_message, with_mptr, with_queue}
use Rattle.kept.specs.Settled.{FitsTask, Fits}
use Rattle.kept.proofs.Reading.{task_alike, fits_task, fits_message, relink_keeps, first_holds, relink_holds}

-- ---- the board field by field
abbrev link_in : List Message → ℕ → ℕ → List Message
link_in l x v = put l x (with_link (nth no_message l x) v)

abbrev pub requeued : Board → ℕ → List ℕ → Board
requeued b r q = with_task (with_messages b (relink link_in b.messages q)) r (task_with_mptr (task b r) (first_of q))

-- linking on the board is linking in its messages
relink-board : (b : Board) (q : List ℕ) → relink link_message b q ≡ with_messages b (relink link_in b.messages q)
relink-board b [] = refl
relink-board b (x ∷ q) = ap (λ (s : Board). link_message s x (first_of q)) (relink-board b q)

-- so it is of a task's queue
pub requeued_is : (b : Board) (r : ℕ) (q : List ℕ) → with_queue b r q ≡ requeued b r q
requeued_is b r q = ap (λ (s : Board). with_mptr s r (first_of q)) (relink-board b q)

-- ---- what is read
-- each status is as it was
pub requeued_stat : (b : Board) (r : ℕ) (q : List ℕ) (k : ℕ) → (task (with_queue b r q) k).stat ≡ (task b k).stat
requeued_stat b r q k =
    ap (λ (s : Board). (task s k).stat) (requeued_is b r q) ∙ task_alike (λ (t : Task). t.stat) b r k _ refl

-- a message that is none of the queue is as it was
pub requeued_out : (b : Board) (r : ℕ) (q : List ℕ) (y : ℕ) → Out y q → message (requeued b r q) y ≡ message b y
requeued_out b r q y o = step q o
  where
    step : (q : List ℕ) → Out y q → nth no_message (relink link_in b.messages q) y ≡ message b y
    step [] o = refl
    step (x ∷ q) o = nth-put_other no_message (relink link_in b.messages q) x y _ o.0 ∙ step q o.1

-- each is as it was but for its link
pub requeued_alike : (b : Board) (r : ℕ) (q : List ℕ) (y : ℕ) → with_link (message (requeued b r q) y) 0 ≡ with_link (message b y) 0
requeued_alike b r q y =
    relink_keeps (λ (l : List Message). with_link (nth no_message l y) 0) link_in
    (λ l x v. nth_alike (λ (t : Message). with_link t 0) no_message l x y _ refl) b.messages q

-- the links list the queue
pub requeued_chain : (b : Board) (r : ℕ) (q : List ℕ) → Once q → Out 0 q → All (Numbered (length b.messages)) q
    → Chain (next_message (requeued b r q)) (first_of q) q
requeued_chain b r q d o a =
    relink-chain (λ (l : List Message) (y : ℕ). (nth no_message l y).link) link_in (λ l y. Numbered (length l) y)
    (λ l x v y h. let e = length-put l x (with_link (nth no_message l x) v) in (h.0, omega (arith, h.1)))
    (λ l x v h. ap (λ (t : Message). t.link) (nth-put no_message l x (with_link (nth no_message l x) v) h.0 h.1))
    (λ l x v y h. ap (λ (t : Message). t.link) (nth-put_other no_message l x y (with_link (nth no_message l x) v) h))
    b.messages q d o a

-- ---- the board still fits
module _ (z : Size) (b : Board) (r : ℕ) (q : List ℕ) (fits : Fits z b) (words : All Word q) where
  fits-link : (c : Board) (x v : ℕ) → Word v → Fits z c → Fits z (link_message c x v)
  fits-link c x v h f = let t = f.message x in
      fits_message z c f x _ (record { stat = t.stat; prio = t.prio; link = h; rptr = t.rptr; sptr = t.sptr })

  fits-mptr : (c : Board) → Fits z c → FitsTask (task_with_mptr (task c r) (first_of q))
  fits-mptr c f = let t = f.task r in record {
    stat = t.stat;
    prio = t.prio;
    link = t.link;
    mptr = first_holds Word q (omega arith) words;
    sptr = t.sptr;
    name = t.name;
  }

  -- where the members are words
  pub requeued_fits : Fits z (requeued b r q)
  requeued_fits =
      let f = relink_holds (Fits z) Word link_message fits-link b q (omega arith) words fits in
      subst (Fits z) (requeued_is b r q) (fits_task z (relink link_message b q) f r _ (fits-mptr (relink link_message b q) f))
