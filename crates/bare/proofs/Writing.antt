-- A change of a board and the clearing of DEBUG and MROB go either way round. Where only byte 0, messages or places are written,
-- both ways are the same by computation, and no law is needed.
-- Assumes nothing.
use mathlib.Core.Path.{◌≡◌, refl, sym, ap, ap₂, ◌∙◌, fun_ext}
use mathlib.Core.Bool.{Bool, true, false, cond, ◌&&◌}
use mathlib.Core.List.{List, [], ◌∷◌, map, map-map}
use Prim.Native.Nat.{ℕ, ◌-◌}
use lib.Bits.{bit_and}
use Rattle.links.specs.Queue.{first_of, rest_of, relink}
use Rattle.board.specs.declared.numbers.Size.{Size}
use Rattle.board.specs.declared.records.Task.{Task}
use Rattle.board.specs.Status.{WAIT, IWAT, INTQ, MHBS, TCBB, has, with_bit, without_bit}
use Rattle.board.specs.Records.{task_with_stat, task_with_link, task_with_mptr}
use Rattle.board.specs.Board.{Board, task, with_first, with_tasks, with_task}
use Rattle.board.proofs.Bits.{with_bit_other, without_bit_other}
use Rattle.board.proofs.Numbered.{map-put}
use Rattle.paper.specs.Rules.{queue, empty_queue}
use Rattle.paper.specs.Changes.{sets, clears, link_task, link_message, with_mptr, with_queue, with_order, hold, take_first}
use Rattle.paper.specs.Effects.{woken, emptied, waits, post, wait_interrupt}
use Rattle.bare.specs.Bare.{bare_task, bare_board}
use Rattle.bare.proofs.Bits.{Other, wait, iwat, intq, mhbs}
use Rattle.bare.proofs.Tasks.{bare_task_twice, bare-stat, bare-link, bare-mptr}
use Rattle.bare.proofs.Reading.{task-bare, has-bare, empty_queue-bare, queue-bare}

-- ---- twice
pub bare_board_twice : (b : Board) → bare_board (bare_board b) ≡ bare_board b
bare_board_twice b =
    ap (with_tasks b)
    (map-map bare_task bare_task b.tasks ∙ ap (λ (f : Task → Task). map f b.tasks) (fun_ext bare_task_twice))

-- where the other way round is the same board, it is the same but for the two bits
pub bare_alike : (b d : Board) → bare_board b ≡ d → bare_board d ≡ bare_board b
bare_alike b d e = ap bare_board (sym e) ∙ bare_board_twice b

-- ---- one task
pub bare-with_task : (b : Board) (k : ℕ) (t : Task) → bare_board (with_task b k t) ≡ with_task (bare_board b) k (bare_task t)
bare-with_task b k t = ap (with_tasks b) (map-put bare_task b.tasks k t)

-- changed in a way that leaves the two bits alone
bare_change : (f : Task → Task) → ((t : Task) → bare_task (f t) ≡ f (bare_task t)) → (b : Board) (k : ℕ)
    → bare_board (with_task b k (f (task b k))) ≡ with_task (bare_board b) k (f (task (bare_board b) k))
bare_change f h b k =
    bare-with_task b k (f (task b k)) ∙ ap (with_task (bare_board b) k) (h (task b k) ∙ ap f (sym (task-bare b k)))

-- ---- one bit, not TCBB
module _ (b : Board) (k bit : ℕ) (o : Other bit) where
  bare-sets : bit_and bit TCBB ≡ 0 → bare_board (sets b k bit) ≡ sets (bare_board b) k bit
  bare-sets e =
      bare_change (λ t. task_with_stat t (with_bit t.stat bit))
      (λ t. bare-stat t (λ s. with_bit s bit) o.sets (λ s. with_bit_other s bit TCBB e)) b k

  bare-clears : bit_and (255 - bit) TCBB ≡ TCBB → bare_board (clears b k bit) ≡ clears (bare_board b) k bit
  bare-clears e =
      bare_change (λ t. task_with_stat t (without_bit t.stat bit))
      (λ t. bare-stat t (λ s. without_bit s bit) o.clears (λ s. without_bit_other s bit TCBB e)) b k

-- ---- the links of a queue
bare-relink : (link : Board → ℕ → ℕ → Board) → ((b : Board) (x y : ℕ) → bare_board (link b x y) ≡ link (bare_board b) x y)
    → (b : Board) (q : List ℕ) → bare_board (relink link b q) ≡ relink link (bare_board b) q
bare-relink link h b [] = refl
bare-relink link h b (x ∷ q) =
    h (relink link b q) x (first_of q) ∙ ap (λ (c : Board). link c x (first_of q)) (bare-relink link h b q)

bare-link_task : (b : Board) (k next : ℕ) → bare_board (link_task b k next) ≡ link_task (bare_board b) k next
bare-link_task b k next = bare_change (λ t. task_with_link t next) (λ t. bare-link t next) b k

pub bare-with_order : (b : Board) (q : List ℕ) → bare_board (with_order b q) ≡ with_order (bare_board b) q
bare-with_order b q = ap (λ (c : Board). with_first c (first_of q)) (bare-relink link_task bare-link_task b q)

pub bare-with_queue : (b : Board) (r : ℕ) (q : List ℕ) → bare_board (with_queue b r q) ≡ with_queue (bare_board b) r q
bare-with_queue b r q =
    bare_change (λ t. task_with_mptr t (first_of q)) (λ t. bare-mptr t (first_of q)) (relink link_message b q) r
    ∙ ap (λ (c : Board). with_mptr c r (first_of q)) (bare-relink link_message (λ c x y. refl) b q)

-- ---- the flags of a task
pub bare-cond : (t u : Bool) (x y v w : Board) → u ≡ t → bare_board x ≡ v → bare_board y ≡ w → bare_board (cond t x y) ≡ cond u v w
bare-cond true u x y v w e p q = rw e p
bare-cond false u x y v w e p q = rw e q

module _ (b : Board) (k : ℕ) where
  pub bare-woken : bare_board (woken b k) ≡ woken (bare_board b) k
  bare-woken =
      bare-cond (has (task b k).stat WAIT) _ _ _ _ _ (has-bare b k WAIT wait)
      (bare-sets (clears b k WAIT) k MHBS mhbs refl ∙ ap (λ (c : Board). sets c k MHBS) (bare-clears b k WAIT wait refl)) refl

  pub bare-emptied : bare_board (emptied b k) ≡ emptied (bare_board b) k
  bare-emptied =
      bare-cond (has (task b k).stat MHBS && empty_queue b k) _ _ _ _ _
      (ap₂ ◌&&◌ (has-bare b k MHBS mhbs) (empty_queue-bare b k))
      (bare-sets (clears b k MHBS) k WAIT wait refl ∙ ap (λ (c : Board). sets c k WAIT) (bare-clears b k MHBS mhbs refl)) refl

  pub bare-post : bare_board (post b k) ≡ post (bare_board b) k
  bare-post =
      bare-cond (has (task b k).stat IWAT) _ _ _ _ _ (has-bare b k IWAT iwat) (bare-clears b k IWAT iwat refl)
      (bare-sets b k INTQ intq refl)

  pub bare-wait_interrupt : bare_board (wait_interrupt b k) ≡ wait_interrupt (bare_board b) k
  bare-wait_interrupt =
      bare-cond (has (task b k).stat INTQ) _ _ _ _ _ (has-bare b k INTQ intq) (bare-clears b k INTQ intq refl)
      (bare-sets b k IWAT iwat refl)

  pub bare-waits : bare_board (waits k b) ≡ waits k (bare_board b)
  bare-waits = step (empty_queue b k) (empty_queue-bare b k)
    where
      step : (empty : Bool) → empty_queue (bare_board b) k ≡ empty
          → bare_board (sets b k (cond empty WAIT MHBS)) ≡ waits k (bare_board b)
      step true e = rw e (bare-sets b k WAIT wait refl)
      step false e = rw e (bare-sets b k MHBS mhbs refl)

-- ---- a message taken, and delivered
module _ (z : Size) (b : Board) (c : ℕ) where
  pub bare-take_first : bare_board (take_first z b c) ≡ take_first z (bare_board b) c
  bare-take_first =
      let q = queue z b c in
      ap (λ (x : Board). hold x c (first_of q)) (bare-with_queue b c (rest_of q))
      ∙ ap (λ (p : List ℕ). hold (with_queue (bare_board b) c (rest_of p)) c (first_of p)) (sym (queue-bare z b c))

  pub bare-delivered : bare_board (clears (take_first z b c) c MHBS) ≡ clears (take_first z (bare_board b) c) c MHBS
  bare-delivered = bare-clears (take_first z b c) c MHBS mhbs refl ∙ ap (λ (x : Board). clears x c MHBS) bare-take_first
