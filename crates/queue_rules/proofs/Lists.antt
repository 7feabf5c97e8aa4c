-- The counting walks say what R3 and R5 say: links that see only what belongs to a queue, and as many as there are, see exactly
-- those.
-- Assumes nothing.
use mathlib.Core.Path.{◌≡◌, refl, sym, ap, ap₂, ◌∙◌, subst}
use mathlib.Core.Logic.{◌↔◌}
use mathlib.Core.Bool.{Bool, true, false, cond, ◌&&◌, true≢false}
use mathlib.Core.List.{List, [], ◌∷◌, map}
use Prim.Native.Nat.{ℕ, zero, suc, ◌+◌, ◌-◌, ◌≤◌, ◌<◌}
use native.Mathlib.Omega.{arith}
use lib.ListN.{length, get_or}
use lib.Dec.{eqb}
use borrow.Author.Tests.{eqb-true, eqb-false, eq-eqb}
use Rattle.std.specs.Prelude.{Some, None, Option}
use Rattle.links.specs.Queue.{walk, ends, which, rearranged, rising, lists, each}
use Rattle.links.specs.Chain.{In, Once, All}
use Rattle.links.proofs.Bools.{both, and_true, each_at, each_all}
use Rattle.links.proofs.Members.{all_of, once_length}
use Rattle.links.proofs.Chains.{walk-chain, walk-length, chain_once}
use Rattle.links.proofs.Exactly.{one, rearranged_in, rearranged-length, which_once}
use Rattle.links.proofs.Listed.{lists-counted}
use Rattle.board.specs.declared.numbers.Size.{Size}
use Rattle.board.specs.declared.places.Place.{Place}
use Rattle.board.specs.declared.places.Place.TheVariants.{Free, HeldBy, QueuedAt, OnTimer, Nowhere}
use Rattle.board.specs.Numbers.{outside}
use Rattle.board.specs.Records.{no_task}
use Rattle.board.specs.Places.{place_of, place_in, is_queued_at, is_queued}
use Rattle.board.specs.Board.{Board, board_of, place_area, pieces, task}
use Rattle.board.proofs.Codec.{length-places, place-free, place-held, place-receiver, place-timer, place_nowhere}
use Rattle.board.proofs.Pieces.{outside-within}
use Rattle.paper.specs.Rules.{is_there, present, next_task, next_message, task_number, message_number, rule3, rule5_at}
use Rattle.paper.proofs.Which.{which-nth}
use Rattle.queue_rules.specs.Walks.{visited, counted, queued, queued_at, queue_walked, behind, walked_on, walked, saw}
use Rattle.queue_rules.proofs.Visits.{every, orderly, visited_whole, orderly_moves}
use Rattle.queue_rules.proofs.Counting.{sum_to, sum-zero, sum_once, sum_tight, counted_bound, counted-which, counts_add}

-- ---- tests
-- two tests that pass together are one
pub alike : (s t : Bool) → (s ≡ true → t ≡ true) → (t ≡ true → s ≡ true) → s ≡ t
alike true t f g = sym (f refl)
alike false true f g = g refl
alike false false f g = refl

pub saw-cond : (t : Bool) (n m : ℕ) → saw (cond t (Some n) None) m ≡ t && eqb n m
saw-cond true n m = refl
saw-cond false n m = refl

-- ---- one queue
module _ (next number : ℕ → ℕ) (good : ℕ → Bool) (n x : ℕ) (members : List ℕ) (once : Once members)
    (belongs : (y : ℕ) → In y members ↔ (good y ≡ true)) where
  every_all : (q : List ℕ) → every next number good q ≡ true → All (λ y. In y members) q
  every_all [] e = tt
  every_all (y ∷ q) e = let p = both (good y) (every next number good q) e in ((belongs y).1 p.0, every_all q p.1)

  all_every : (q : List ℕ) → All (λ y. In y members) q → every next number good q ≡ true
  all_every [] h = refl
  all_every (y ∷ q) h = and_true (good y) (every next number good q) ((belongs y).0 h.0) (all_every q h.1)

  -- what the orderly walk of a queue tells: it ends, it sees members only, and numbers never fall
  pub orderly_parts : orderly next number good n x 0 ≡ true
      → (ends next n x ≡ true) × All (λ y. In y members) (walk next n x) × (rising number 0 (walk next n x) ≡ true)
  orderly_parts e =
      let p = both (ends next n x) (every next number good (walk next n x) && rising number 0 (walk next n x)) e in
      let r = both (every next number good (walk next n x)) (rising number 0 (walk next n x)) p.1 in
      (p.0, every_all (walk next n x) r.0, r.1)

  -- it sees no more than there are
  pub orderly_bound : orderly next number good n x 0 ≡ true → length (walk next n x) ≤ length members
  orderly_bound e =
      let p = orderly_parts e in
      once_length (walk next n x) members (chain_once next x (walk next n x) (walk-chain next n x p.0)) p.1

  seen-lists : orderly next number good n x 0 && eqb (length (walk next n x)) (length members) ≡ true
      → lists next number n x members ≡ true
  seen-lists e =
      let s = both (orderly next number good n x 0) (eqb (length (walk next n x)) (length members)) e in
      let p = orderly_parts s.0 in
      lists-counted next number n x members p.0 p.1 (eqb-true (length (walk next n x)) (length members) s.1) p.2

  lists-seen : lists next number n x members ≡ true
      → orderly next number good n x 0 && eqb (length (walk next n x)) (length members) ≡ true
  lists-seen e =
      let s = both (ends next n x && rearranged (walk next n x) members) (rising number 0 (walk next n x)) e in
      let p = both (ends next n x) (rearranged (walk next n x) members) s.0 in
      let i = all_of (λ y. In y members) (walk next n x) (λ y. (rearranged_in (walk next n x) members p.1 y).0) in
      and_true (orderly next number good n x 0) (eqb (length (walk next n x)) (length members))
      (and_true (ends next n x) (every next number good (walk next n x) && rising number 0 (walk next n x)) p.0
      (and_true (every next number good (walk next n x)) (rising number 0 (walk next n x)) (all_every (walk next n x) i) s.1))
      (eq-eqb (length (walk next n x)) (length members) (rearranged-length (walk next n x) members p.1))

  -- R3 and R5 of one queue: an orderly walk that saw as many as there are
  pub lists_is : lists next number n x members ≡ orderly next number good n x 0 && eqb (length (walk next n x)) (length members)
  lists_is =
      alike (lists next number n x members) (orderly next number good n x 0 && eqb (length (walk next n x)) (length members))
      lists-seen seen-lists

-- ---- R3
-- the walk of the task queue saw as many as are present
pub rule3_is : (z : Size) (b : Board) → length b.tasks ≡ z.tasks
    → saw (visited (next_task b) (task_number b) (present b) z.messages b.first 0 0) (counted (present b) z.tasks)
    ≡ rule3 z b
rule3_is z b e =
    let q : List ℕ = walk (next_task b) z.messages b.first in
    let m : List ℕ = which is_there 1 b.tasks in
    ap₂ saw (visited_whole (next_task b) (task_number b) (present b) z.messages b.first)
    (ap (counted (present b)) (sym e) ∙ counted-which no_task is_there 1 b.tasks)
    ∙ saw-cond (orderly (next_task b) (task_number b) (present b) z.messages b.first 0) (length q) (length m)
    ∙ sym (lists_is (next_task b) (task_number b) (present b) z.messages b.first m (which_once is_there 1 b.tasks)
    (which-nth no_task is_there b.tasks refl))

-- ---- R5
-- a place that is queued names a task of the board
abbrev pub NamesTask : Size → Place → Type 0
NamesTask z Free = Unit {0}
NamesTask z (HeldBy k) = Unit {0}
NamesTask z (QueuedAt k) = (1 ≤ k.0) × (k.0 ≤ z.tasks)
NamesTask z OnTimer = Unit {0}
NamesTask z (Nowhere p) = Unit {0}

place-named : (z : Size) (p : ℕ) → NamesTask z (place_of z p)
place-named z p = go (eqb p 0) refl (outside z.tasks p) refl (outside z.tasks (p - 64)) refl (eqb p 128) refl
  where
    go : (s : Bool) → eqb p 0 ≡ s → (t : Bool) → outside z.tasks p ≡ t → (u : Bool) → outside z.tasks (p - 64) ≡ u
        → (v : Bool) → eqb p 128 ≡ v → NamesTask z (place_of z p)
    go true e t f u g v i = subst (NamesTask z) (sym (place-free z p (eqb-true p 0 e))) tt
    go false e true f true g true i = subst (NamesTask z) (sym (place-timer z p (eqb-true p 128 i) f g)) tt
    go false e true f true g false i = subst (NamesTask z) (sym (place_nowhere z p (eqb-false p 0 e) (eqb-false p 128 i) f g)) tt
    go false e true f false g v i =
        subst (NamesTask z) (sym (place-receiver z p (p - 64) (eqb-false p 0 e) f refl g)) (outside-within z.tasks (p - 64) g)
    go false e false f u g v i = let r = outside-within z.tasks p f in subst (NamesTask z) (sym (place-held z p r.0 r.1)) tt

mapped_at : {A B : Type 0} (P : B → Type 0) (f : A → B) → ((x : A) → P (f x)) → (l : List A) (i : ℕ) → i < length (map f l)
    → (none : B) → P (get_or (map f l) i none)
mapped_at P f h [] i j none = absurd (omega arith)
mapped_at P f h (x ∷ l) zero j none = h x
mapped_at P f h (x ∷ l) (suc i) j none = mapped_at P f h l i (omega arith) none

-- so it is with every place that is read from bytes
places-named : (z : Size) (l : List ℕ) (i : ℕ) → i < length (board_of z l).places → (none : Place)
    → NamesTask z (get_or (board_of z l).places i none)
places-named z l = mapped_at (NamesTask z) (place_in z) (λ p. place-named z (get_or p 0 0)) (pieces (place_area z) l)

named_once : (z : Size) (p : Place) → NamesTask z p → sum_to (λ k. one (is_queued_at k p)) z.tasks ≡ one (is_queued p)
named_once z Free h = sum-zero z.tasks
named_once z (HeldBy k) h = sum-zero z.tasks
named_once z (QueuedAt k) h = sum_once k.0 z.tasks h.0 h.1
named_once z OnTimer h = sum-zero z.tasks
named_once z (Nowhere p) h = sum-zero z.tasks

module _ (z : Size) (b : Board) where
  abbrev walk_of : ℕ → List ℕ
  walk_of k = walk (next_message b) z.messages (task b k).mptr

  abbrev placed_at : ℕ → List ℕ
  placed_at k = which (is_queued_at k) 1 b.places

  abbrev fine : ℕ → Bool
  fine k = orderly (next_message b) (message_number b) (queued_at b k) z.messages (task b k).mptr 0

  belongs_at : (k y : ℕ) → In y (placed_at k) ↔ (queued_at b k y ≡ true)
  belongs_at k = which-nth Free (is_queued_at k) b.places refl

  -- the rule at one task
  rule5_at_lem : (k : ℕ) → rule5_at z b k ≡ fine k && eqb (length (walk_of k)) (length (placed_at k))
  rule5_at_lem k =
      lists_is (next_message b) (message_number b) (queued_at b k) z.messages (task b k).mptr (placed_at k)
      (which_once (is_queued_at k) 1 b.places) (belongs_at k)

  fine_bound : (k : ℕ) → fine k ≡ true → length (walk_of k) ≤ length (placed_at k)
  fine_bound k =
      orderly_bound (next_message b) (message_number b) (queued_at b k) z.messages (task b k).mptr (placed_at k)
      (which_once (is_queued_at k) 1 b.places) (belongs_at k)

  abbrev seen_at : ℕ → ℕ
  seen_at k = length (walk_of k)

  abbrev at_task : ℕ → ℕ
  at_task k = length (placed_at k)

  -- a walk of at most n links that saw s
  limited : (n k s : ℕ) → queue_walked b n k ≡ Some s → n ≤ z.messages → (fine k ≡ true) × (s ≡ seen_at k)
  limited n k s e h =
      step (orderly next number (queued_at b k) n x 0) refl (sym (visited_whole next number (queued_at b k) n x) ∙ e)
    where
      next : ℕ → ℕ
      next = next_message b

      number : ℕ → ℕ
      number = message_number b

      x : ℕ
      x = (task b k).mptr

      step : (t : Bool) → orderly next number (queued_at b k) n x 0 ≡ t → cond t (Some (length (walk next n x))) None ≡ Some s
          → (fine k ≡ true) × (s ≡ seen_at k)
      step true o q =
          let r = orderly_moves next number (queued_at b k) n z.messages x 0 o (omega (arith, walk-length next n x)) in
          (r.0, (let f : Some (length (walk next n x)) ≡ Some s = q in let g : s ≡ length (walk next n x) = cc in g) ∙ ap length (sym r.1))
      step false o q = let f : ◌≡◌ {A = ℕ} 0 1 = cc in absurd (omega arith)

  -- and the other way round
  enough : (n k : ℕ) → fine k ≡ true → seen_at k ≤ n → queue_walked b n k ≡ Some (seen_at k)
  enough n k e h =
      let r = orderly_moves (next_message b) (message_number b) (queued_at b k) z.messages n (task b k).mptr 0 e h in
      visited_whole (next_message b) (message_number b) (queued_at b k) n (task b k).mptr
      ∙ ap₂ (λ (t : Bool) (q : List ℕ). cond t (Some (length q)) None) r.0 r.1

  -- all walks together
  walked_fine : (most : ℕ) → most ≤ z.messages → (n s : ℕ) → walked b most n ≡ Some s
      → (each fine n ≡ true) × (s ≡ sum_to seen_at n)
  unfolding walked
  walked_fine most h zero s e = (refl, let f : Some 0 ≡ Some s = e in let g : s ≡ 0 = cc in g)
  walked_fine most h (suc n) s e = step (walked b most n) refl e (walked_fine most h n)
    where
      inner : (r : ℕ) (w : Option ℕ) → (each fine n ≡ true) × (r ≡ sum_to seen_at n) → queue_walked b (most - r) (suc n) ≡ w
          → behind r w ≡ Some s → (each fine (suc n) ≡ true) × (s ≡ sum_to seen_at (suc n))
      inner r (Some t) a g q =
          let c = limited (most - r) (suc n) t g (omega arith) in
          let d : s ≡ r + t = (let i : Some (r + t) ≡ Some s = q in let j : s ≡ r + t = cc in j) in
          (and_true (each fine n) (fine (suc n)) a.0 c.0, omega (arith, a.1, c.1))
      inner r None a g q = let i : ◌≡◌ {A = ℕ} 0 1 = cc in absurd (omega arith)

      step : (w : Option ℕ) → walked b most n ≡ w → walked_on w (λ r. queue_walked b (most - r) (suc n)) ≡ Some s
          → ((r : ℕ) → walked b most n ≡ Some r → (each fine n ≡ true) × (r ≡ sum_to seen_at n))
          → (each fine (suc n) ≡ true) × (s ≡ sum_to seen_at (suc n))
      step (Some r) f q ih = inner r (queue_walked b (most - r) (suc n)) (ih r f) refl q
      step None f q ih = let i : ◌≡◌ {A = ℕ} 0 1 = cc in absurd (omega arith)

  -- each queue is right: then they see what is queued, and may
  right_walked : (most n : ℕ) → each (rule5_at z b) n ≡ true → sum_to at_task n ≤ most → walked b most n ≡ Some (sum_to at_task n)
  unfolding walked
  right_walked most zero e h = refl
  right_walked most (suc n) e h =
      let p = both (each (rule5_at z b) n) (rule5_at z b (suc n)) e in
      let r = both (fine (suc n)) (eqb (seen_at (suc n)) (at_task (suc n))) (sym (rule5_at_lem (suc n)) ∙ p.1) in
      let q = eqb-true (seen_at (suc n)) (at_task (suc n)) r.1 in
      ap (λ (w : Option ℕ). walked_on w (λ s. queue_walked b (most - s) (suc n))) (right_walked most n p.0 (omega arith))
      ∙ ap (behind (sum_to at_task n)) (enough (most - sum_to at_task n) (suc n) r.0 (omega arith))
      ∙ ap (λ (m : ℕ). Some (sum_to at_task n + m)) q

  -- they saw as many as are queued: then each saw what is queued there
  sum-each : (n : ℕ) → each fine n ≡ true → sum_to seen_at n ≡ sum_to at_task n → each (rule5_at z b) n ≡ true
  sum-each n e s =
      let t = sum_tight seen_at at_task n (λ k i j. fine_bound k (each_at fine n e k i j)) s in
      each_all (rule5_at z b) n (λ k i j. rule5_at_lem k ∙ and_true (fine k) _ (each_at fine n e k i j) (eq-eqb _ _ (t k i j)))

  -- the walks of all queues together saw as many as are queued
  module _ (m : ℕ) (e : m ≡ sum_to at_task z.tasks) (h : m ≤ z.messages) where
    saw_right : saw (walked b m z.tasks) m ≡ true → each (rule5_at z b) z.tasks ≡ true
    saw_right = step (walked b m z.tasks) refl
      where
        step : (w : Option ℕ) → walked b m z.tasks ≡ w → saw w m ≡ true → each (rule5_at z b) z.tasks ≡ true
        step (Some s) f q =
            let a = walked_fine m h z.tasks s f in
            sum-each z.tasks a.0 (sym a.1 ∙ eqb-true s m q ∙ e)
        step None f q = absurd (true≢false (sym q))

    right_saw : each (rule5_at z b) z.tasks ≡ true → saw (walked b m z.tasks) m ≡ true
    right_saw q =
        ap (λ (w : Option ℕ). saw w m) (right_walked m z.tasks q (omega arith)) ∙ eq-eqb (sum_to at_task z.tasks) m (sym e)

    rule5_is : saw (walked b m z.tasks) m ≡ each (rule5_at z b) z.tasks
    rule5_is = alike (saw (walked b m z.tasks) m) (each (rule5_at z b) z.tasks) saw_right right_saw

-- so of any bytes, where n is how many are queued
pub rule5-counted : (z : Size) (l : List ℕ) (n : ℕ) → n ≡ counted (queued (board_of z l)) z.messages
    → saw (walked (board_of z l) n z.tasks) n ≡ each (rule5_at z (board_of z l)) z.tasks
rule5-counted z l n e =
    let b = board_of z l in
    rule5_is z b n
    (e ∙ ap (counted (queued b)) (sym (length-places z l)) ∙ counted-which Free is_queued 1 b.places
    ∙ sym (counts_add is_queued_at is_queued (NamesTask z) z.tasks 1 (named_once z) b.places (places-named z l)))
    (omega (arith, counted_bound (queued b) z.messages))

-- and of one queue, where n is how many are queued at k
pub rule5_one : (z : Size) (l : List ℕ) (k n : ℕ) → n ≡ counted (queued_at (board_of z l) k) z.messages
    → saw (queue_walked (board_of z l) n k) n ≡ rule5_at z (board_of z l) k
rule5_one z l k n e =
    alike (saw (queue_walked b n k) n) (rule5_at z b k) (saw_one (queue_walked b n k) refl) one_saw
  where
    b : Board
    b = board_of z l

    q : n ≡ at_task z b k
    q = e ∙ ap (counted (queued_at b k)) (sym (length-places z l)) ∙ counted-which Free (is_queued_at k) 1 b.places

    saw_one : (w : Option ℕ) → queue_walked b n k ≡ w → saw w n ≡ true → rule5_at z b k ≡ true
    saw_one (Some s) f g =
        let r = limited z b n k s f (omega (arith, e, counted_bound (queued_at b k) z.messages)) in
        let d = eqb-true s n g in
        rule5_at_lem z b k ∙ and_true (fine z b k) _ r.0 (eq-eqb _ _ (sym r.1 ∙ d ∙ q))
    saw_one None f g = absurd (true≢false (sym g))

    one_saw : rule5_at z b k ≡ true → saw (queue_walked b n k) n ≡ true
    one_saw g =
        let r = both (fine z b k) (eqb (seen_at z b k) (at_task z b k)) (sym (rule5_at_lem z b k) ∙ g) in
        let d = eqb-true (seen_at z b k) (at_task z b k) r.1 in
        ap (λ (w : Option ℕ). saw w n) (enough z b n k r.0 (omega (arith, d, q))) ∙ eq-eqb (seen_at z b k) n (d ∙ sym q)
