-- The walk of the task queue: what a turn makes of it, where it stops, and who is the first ready task on its way.
-- Assumes nothing.
use mathlib.Core.Path.{◌≡◌, refl, sym, ap, ap₂, ◌∙◌}
use mathlib.Core.Bool.{Bool, true, false, cond, ◌&&◌, true≢false}
use mathlib.Core.List.{List}
use Prim.Native.Nat.{ℕ, zero, suc, ◌+◌, ◌-◌, ◌≤◌, ◌<◌}
use native.Mathlib.Omega.{arith}
use lib.ListN.{length}
use lib.Dec.{eqb}
use borrow.Author.Tests.{eqb-true, eqb-false, eq-eqb, ne_eqb}
use Rattle.std.specs.Prelude.{Option, Some, None, Ok, Err, Result}
use Rattle.links.specs.Queue.{walk, first_with}
use Rattle.links.proofs.Bools.{both, and_true}
use Rattle.links.proofs.Chains.{walk_step, walk_end, walk-length}
use Rattle.board.specs.declared.numbers.Size.{Size}
use Rattle.board.specs.declared.numbers.TaskNo.{TaskNo}
use Rattle.board.specs.declared.records.Task.{Task}
use Rattle.board.specs.Numbers.{outside, task_no, task_meant, number_of_task}
use Rattle.board.specs.Status.{is_ready}
use Rattle.board.specs.Records.{no_task}
use Rattle.board.specs.Board.{Board, board_of, task}
use Rattle.board.proofs.Pieces.{nth-outside}
use Rattle.board.proofs.Codec.{length-tasks}
use Rattle.paper.specs.Rules.{present, ready, next_task, task_number, first_ready, rule3}
use Rattle.paper.specs.declared.answer.Rule.TheVariants.{R3}
use Rattle.paper.specs.declared.answer.Rule.{Rule}
use Rattle.queue_rules.specs.declared.walk.Turn.{Turn}
use Rattle.queue_rules.specs.declared.walk.Turn.TheVariants as ts
use Rattle.order_rules.specs.Order.{task_turned, order_visited, with_ready, order_from, listed_by, seen_with}
use Rattle.order_rules.specs.declared.tasks.Seen.{Seen}
use Rattle.queue_rules.specs.Walks.{counted, saw}
use Rattle.queue_rules.proofs.Walking.{end_link, next_link}
use Rattle.order_rules.specs.Tasks.{task_means, task_beyond}
use Rattle.queue_rules.proofs.Lists.{saw-cond, rule3_is}
use Rattle.queue_rules.proofs.Turns.{first_none, first_out, first_found, first_behind}
use Rattle.queue_rules.proofs.Visits.{visited_end, visited_stray, orderly, visited_whole, orderly_moves}

module _ (z : Size) (l : List ℕ) where
  abbrev b : Board
  b = board_of z l

  -- nobody before task k is ready: the first ready one from there on is r
  module _ (most s : ℕ) (k : TaskNo) (low : ℕ) {r : ℕ} (h : s < most) (o : task_meant z k.0 ≡ Some k)
      (inv : first_with (ready b) (walk (next_task b) (most - s) k.0) ≡ r) {turn : Turn TaskNo} (e : turn ≡ task_turned z b k.0 low)
      (n : ready b k.0 ≡ false) where
    rest_first : (v : ℕ) → v ≡ next_task b k.0 → first_with (ready b) (walk (next_task b) (most - s - 1) v) ≡ r
    rest_first v f =
        rw f
        (rw (
          ← inv,
          walk_step (next_task b) (most - s) k.0 (omega arith) (omega (arith, (task_means z k.0 k o).1)),
          first_with,
          n,
        ))

    -- nor is k, which is the last
    pub nobody_ends : turn ≡ ts.End → 0 ≡ r
    nobody_ends f =
        ap (first_with (ready b)) (sym (walk_end (next_task b) (most - s - 1) 0 refl))
        ∙ rest_first 0
        (end_link (λ t. t.0) (task_meant z) (next_task b) (task_number b) (present b) (task_means z) (task_beyond z l) k.0 low e f)

    -- nor is k, and the walk goes on
    pub nobody_yet : (j : TaskNo) (p : ℕ) → turn ≡ ts.Next j p → first_with (ready b) (walk (next_task b) (most - (s + 1)) j.0) ≡ r
    nobody_yet j p f =
        let d : most - (s + 1) ≡ most - s - 1 = omega arith in
        ap (λ (i : ℕ). first_with (ready b) (walk (next_task b) i j.0)) d
        ∙ rest_first j.0
        (next_link (λ t. t.0) (task_meant z) (next_task b) (task_number b) (present b) (task_means z) (task_beyond z l) k.0 low j p e f)

  -- the first ready task of a walk from k on is r: k itself
  pub order-found : (n : ℕ) (k : TaskNo) {r : ℕ} → 0 < n → task_meant z k.0 ≡ Some k → ready b k.0 ≡ true
      → first_with (ready b) (walk (next_task b) n k.0) ≡ r → Some k ≡ task_meant z r
  order-found n k h o f inv =
      sym o ∙ ap (task_meant z) (first_found (ready b) (next_task b) n k.0 inv h (task_means z k.0 k o).1 f)

  -- ---- the first ready task, looked for alone: r is the first from x on
  walk_beyond : (n w : ℕ) → outside z.tasks w ≡ true → first_with (ready b) (walk (next_task b) n w) ≡ 0
  walk_beyond zero w o = sym (first_out (ready b) (next_task b) zero w refl refl)
  walk_beyond (suc n) w o = go (eqb w 0) refl
    where
      t : task b w ≡ no_task
      t = nth-outside no_task b.tasks w (ap (λ (m : ℕ). outside m w) (length-tasks z l) ∙ o)

      go : (u : Bool) → eqb w 0 ≡ u → first_with (ready b) (walk (next_task b) (suc n) w) ≡ 0
      go true e = sym (first_none (ready b) (next_task b) (suc n) w refl (eqb-true w 0 e))
      go false e =
          sym
          (first_none (ready b) (next_task b) (suc n - 1) 0
          (first_behind (ready b) (next_task b) (suc n) w refl (sym (ap (λ (r : Task). r.link) t)) (omega arith) (eqb-false w 0 e)
          (ap (λ (r : Task). is_ready r.stat) t)) refl)

  -- a walk from a word, and from the number of the task that it means
  pub walk-meant : (n w : ℕ) (x : Option TaskNo) → x ≡ task_meant z w
      → first_with (ready b) (walk (next_task b) n (number_of_task x)) ≡ first_with (ready b) (walk (next_task b) n w)
  walk-meant n w x e = ap (λ (y : Option TaskNo). first_with (ready b) (walk (next_task b) n (number_of_task y))) e ∙ go (outside z.tasks w) refl
    where
      go : (t : Bool) → outside z.tasks w ≡ t → first_with (ready b)
          (walk (next_task b) n (number_of_task (cond t None (Some (task_no w))))) ≡ first_with (ready b) (walk (next_task b) n w)
      go true f = sym (first_none (ready b) (next_task b) n 0 refl refl) ∙ sym (walk_beyond n w f)
      go false f = refl

  -- and the number means it again
  pub meant_again : (w : ℕ) (x : Option TaskNo) → x ≡ task_meant z w → task_meant z (number_of_task x) ≡ x
  meant_again w x e = ap (λ (y : Option TaskNo). task_meant z (number_of_task y)) e ∙ go (outside z.tasks w) refl ∙ sym e
    where
      go : (t : Bool) → outside z.tasks w ≡ t
          → task_meant z (number_of_task (cond t None (Some (task_no w)))) ≡ cond t None (Some (task_no w))
      go true f = refl
      go false f = ap (λ (t : Bool). cond t None (Some (task_no w))) f

  module _ (n : ℕ) (x : Option TaskNo) {r : ℕ} (i : task_meant z (number_of_task x) ≡ x)
      (inv : first_with (ready b) (walk (next_task b) n (number_of_task x)) ≡ r) where
    -- the walk is at its end
    pub first_at_end : x ≡ None → None ≡ task_meant z r
    first_at_end e = ap (task_meant z) (first_none (ready b) (next_task b) n (number_of_task x) inv (ap number_of_task e))

    -- no link is left to follow
    pub first_no_link : n ≡ 0 → None ≡ task_meant z r
    first_no_link e = ap (task_meant z) (first_out (ready b) (next_task b) n (number_of_task x) inv e)

    -- it is at task k
    module _ (k : TaskNo) (e : x ≡ Some k) (h : 0 < n) where
      there : task_meant z k.0 ≡ Some k
      there = ap (λ (y : Option TaskNo). task_meant z (number_of_task y)) (sym e) ∙ i ∙ e

      from : first_with (ready b) (walk (next_task b) n k.0) ≡ r
      from = ap (λ (y : Option TaskNo). first_with (ready b) (walk (next_task b) n (number_of_task y))) (sym e) ∙ inv

      pub first_here : ready b k.0 ≡ true → Some k ≡ task_meant z r
      first_here f = order-found n k h there f from

      pub first_behind_it : (y : Option TaskNo) → y ≡ task_meant z (next_task b k.0) → ready b k.0 ≡ false
          → (task_meant z (number_of_task y) ≡ y) × (first_with (ready b) (walk (next_task b) (n - 1) (number_of_task y)) ≡ r)
      first_behind_it y g f = (
        meant_again (next_task b k.0) y g,
        walk-meant (n - 1) (next_task b k.0) y g
            ∙ first_behind (ready b) (next_task b) n k.0 from refl h (task_means z k.0 k there).1 f,
      )

  -- ---- the whole walk, of at most n links, which starts at x
  pub order_empty : (n x : ℕ) → x ≡ 0 → seen_with 0 None ≡ order_from z b n x
  order_empty n x e =
      ap₂ with_ready (sym (visited_end (next_task b) (task_number b) (present b) n x 0 0 e))
      (ap (task_meant z) (first_none (ready b) (next_task b) n x refl e))

  pub order_beyond : (n x : ℕ) → (x ≡ 0 → ⊥) → task_meant z x ≡ None → None ≡ order_from z b n x
  order_beyond n x h e =
      ap (λ (w : Option ℕ). with_ready w (task_meant z (first_with (ready b) (walk (next_task b) n x))))
      (sym (visited_stray (next_task b) (task_number b) (present b) n x 0 0 h (task_beyond z l x e)))

-- ---- R3
-- a walk that saw n, where p are present
module _ (p n : ℕ) (c : Option TaskNo) (w : Option Seen) (e : seen_with n c ≡ w) where
  pub listed_so : n ≡ p → Ok c ≡ listed_by p w
  listed_so h = ap (λ (t : Bool). cond t (Ok c) (Err R3)) (sym (eq-eqb n p h)) ∙ ap (listed_by p) e

  pub listed_not : (n ≡ p → ⊥) → (Err R3) ≡ listed_by p w
  listed_not h = ap (λ (t : Bool). cond t (Ok c) (Err R3)) (sym (ne_eqb n p h)) ∙ ap (listed_by p) e

module _ (z : Size) (l : List ℕ) where
  abbrev board : Board
  board = board_of z l

  -- the walk of at most n links: what it sees, in which order, and the first ready task on its way
  abbrev seen_in : ℕ → Option ℕ
  seen_in n = order_visited board n board.first 0 0

  abbrev walk_in : ℕ → List ℕ
  walk_in n = walk (next_task board) n board.first

  abbrev first_in : ℕ → Option TaskNo
  first_in n = task_meant z (first_with (ready board) (walk_in n))

  told : (p : ℕ) (v : Option ℕ) (c : Option TaskNo) → listed_by p (with_ready v c) ≡ cond (saw v p) (Ok c) (Err R3)
  told p (Some n) c = refl
  told p None c = refl

  -- it saw p
  saw_whole : (p n : ℕ) → saw (seen_in n) p
      ≡ orderly (next_task board) (task_number board) (present board) n board.first 0 && eqb (length (walk_in n)) p
  saw_whole p n =
      ap (λ (v : Option ℕ). saw v p) (visited_whole (next_task board) (task_number board) (present board) n board.first)
      ∙ saw-cond (orderly (next_task board) (task_number board) (present board) n board.first 0) (length (walk_in n)) p

  saw_bound : (p n : ℕ) → saw (seen_in n) p ≡ true → p ≤ n
  saw_bound p n e =
      let s = both (orderly (next_task board) (task_number board) (present board) n board.first 0) (eqb (length (walk_in n)) p)
      (sym (saw_whole p n) ∙ e) in
      omega (arith, eqb-true (length (walk_in n)) p s.1, walk-length (next_task board) n board.first)

  -- then another sees the same, where it may follow as many
  saw_moves : (p n m : ℕ) → p ≤ m → saw (seen_in n) p ≡ true → (saw (seen_in m) p ≡ true) × (walk_in m ≡ walk_in n)
  saw_moves p n m h e =
      let s = both (orderly (next_task board) (task_number board) (present board) n board.first 0) (eqb (length (walk_in n)) p)
      (sym (saw_whole p n) ∙ e) in
      let r =
      orderly_moves (next_task board) (task_number board) (present board) n m board.first 0 s.0
      (omega (arith, eqb-true (length (walk_in n)) p s.1)) in (
        saw_whole p m
            ∙ and_true (orderly (next_task board) (task_number board) (present board) m board.first 0) _ r.0
            (ap (λ (q : List ℕ). eqb (length q) p) r.1 ∙ s.1),
        r.1,
      )

  -- so n links tell of p tasks what more would, where they are no fewer than p
  pub fewer_links : (p n : ℕ) → n ≤ z.messages → (p ≤ z.messages → n ≡ p)
      → listed_by p (order_from z board n board.first) ≡ listed_by p (order_from z board z.messages board.first)
  fewer_links p n h g =
      told p (seen_in n) (first_in n) ∙ go (saw (seen_in n) p) refl (saw (seen_in z.messages) p) refl
      ∙ sym (told p (seen_in z.messages) (first_in z.messages))
    where
      go : (s : Bool) → saw (seen_in n) p ≡ s → (t : Bool) → saw (seen_in z.messages) p ≡ t
          → cond s (Ok (first_in n)) (Err R3) ≡ cond t (Ok (first_in z.messages)) (Err R3)
      go true e true f =
          ap (λ (q : List ℕ). Ok (task_meant z (first_with (ready board) q)))
          (saw_moves p z.messages n (saw_bound p n e) f).1
      go true e false f =
          let k = saw_bound p n e in absurd (true≢false (sym (saw_moves p n z.messages (omega arith) e).0 ∙ f))
      go false e true f =
          let k = g (saw_bound p z.messages f) in absurd (true≢false (sym (saw_moves p z.messages n (omega arith) f).0 ∙ e))
      go false e false f = refl

  -- R3's answer: the task queue is in order and this is its first ready task, or it is broken
  abbrev pub listed : Result (Option TaskNo) Rule
  listed = cond (rule3 z board) (Ok (task_meant z (first_ready z board))) (Err R3)

  -- it saw as many as are present, p: the task queue lists them all
  pub order-counted : (p : ℕ) → p ≡ counted (present board) z.tasks
      → listed_by p (order_from z board z.messages board.first) ≡ listed
  order-counted p g =
      told p (seen_in z.messages) (first_in z.messages)
      ∙ ap (λ (t : Bool). cond t (Ok (task_meant z (first_ready z board))) (Err R3))
      (ap (saw (seen_in z.messages)) g ∙ rule3_is z board (length-tasks z l))
