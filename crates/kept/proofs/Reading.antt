-- What is read of a board after one change, for every number, and what then stays as it was; what the walks visit; what a row that
-- refuses nothing says.
-- Assumes nothing.
use mathlib.Core.Path.{◌≡◌, refl, sym, ap, ◌∙◌, subst}
use mathlib.Core.Logic.Iff
use mathlib.Core.Logic.{◌≢◌, ◌⊎◌, inl, inr, ◌↔◌}
use mathlib.Core.Bool.{Bool, true, false, not, true≢false}
use mathlib.Core.List.{List, [], ◌∷◌}
use Prim.Native.Nat.{ℕ, zero, suc, ◌≤◌}
use native.Mathlib.Omega.{arith}
use lib.ListN.{length, get_or, set}
use borrow.Author.Tests.{eqb-false, not-false}
use Rattle.links.specs.Queue.{first_of, relink}
use Rattle.links.specs.Chain.{In, All, Sorted, Chain}
use Rattle.links.proofs.Members.{all_of, all_at}
use Rattle.links.proofs.Chains.{chain_frame}
use Rattle.board.specs.declared.numbers.Size.{Size}
use Rattle.board.specs.declared.records.Task.{Task}
use Rattle.board.specs.declared.records.Message.{Message}
use Rattle.board.specs.declared.places.Place.{Place}
use Rattle.board.specs.declared.places.Place.TheVariants.{Free, HeldBy, QueuedAt, OnTimer, Nowhere}
use Rattle.board.specs.Numbers.{outside, task_no, Numbered}
use Rattle.board.specs.Records.{Byte, no_task, no_message}
use Rattle.board.specs.Places.{place_of, place_byte, is_free, is_held_by, is_queued_at, is_on_timer}
use Rattle.board.specs.Board.{Board, nth, put, task, message, place, with_first, with_tasks, with_messages, with_places, with_task, with_message, with_place}
use Rattle.board.proofs.Numbered.{nth-put, nth-put_other, nth_alike, length-put}
use Rattle.board.proofs.Pieces.{outside-within, neither, nth-outside}
use Rattle.paper.specs.Rules.{is_there, present, order, queue}
use Rattle.paper.specs.Effects.{lowest_free}
use Rattle.paper.specs.Refusals.{Test, no3, no4, no5, no6, no7_install, no8, no9, no10, no11, Verdict, Go, Stop, given}
use Rattle.linked.specs.Linked.{Listing}
use Rattle.linked.specs.Sound.{Proper, PlaceGood}
use Rattle.linked.proofs.Tests.{says_is_queued_at, says_is_held_by}
use Rattle.linked.proofs.Listings.{listing_walk}
use Rattle.kept.specs.Settled.{FitsTask, FitsMessage, Fits, Settled}

-- ---- one record written, of any kind
get_d_cases : {A : Type 0} (P : A → Type 0) (none : A) (l : List A) (k j : ℕ) (x : A) → (j ≡ k → P x) → P (get_or l j none)
    → P (get_or (set l k x) j none)
get_d_cases P none [] k j x h g = g
get_d_cases P none (y ∷ l) zero zero x h g = h refl
get_d_cases P none (y ∷ l) zero (suc j) x h g = g
get_d_cases P none (y ∷ l) (suc k) zero x h g = g
get_d_cases P none (y ∷ l) (suc k) (suc j) x h g = get_d_cases P none l k j x (λ e. h (ap suc e)) g

-- what holds of the new record, and held of each, holds of each
pub nth_cases : {A : Type 0} (P : A → Type 0) (none : A) (l : List A) (k j : ℕ) (x : A) → (j ≡ k → P x) → P (nth none l j)
    → P (nth none (put l k x) j)
nth_cases P none l zero j x h g = g
nth_cases P none l (suc k) zero x h g = g
nth_cases P none l (suc k) (suc j) x h g = get_d_cases P none l k j x (λ e. h (ap suc e)) g

-- ---- one task written
-- it reads back
pub task-put : (b : Board) (k : ℕ) (t : Task) → Numbered (length b.tasks) k → task (with_task b k t) k ≡ t
task-put b k t h = nth-put no_task b.tasks k t h.0 h.1

-- others read as before
pub task_other : (b : Board) (k j : ℕ) (t : Task) → j ≢ k → task (with_task b k t) j ≡ task b j
task_other b k j t h = nth-put_other no_task b.tasks k j t h

-- what it has in common with the old one, each has as before
pub task_alike : {A : Type 0} (f : Task → A) (b : Board) (k j : ℕ) (t : Task) → f t ≡ f (task b k)
    → f (task (with_task b k t) j) ≡ f (task b j)
task_alike f b k j t e = nth_alike f no_task b.tasks k j t e

-- ---- one message written, one place written
-- a message reads back
pub message-put : (b : Board) (m : ℕ) (u : Message) → Numbered (length b.messages) m → message (with_message b m u) m ≡ u
message-put b m u h = nth-put no_message b.messages m u h.0 h.1

-- others read as before
pub message_other : (b : Board) (m j : ℕ) (u : Message) → j ≢ m → message (with_message b m u) j ≡ message b j
message_other b m j u h = nth-put_other no_message b.messages m j u h

-- a place reads back
pub place-put : (b : Board) (m : ℕ) (p : Place) → Numbered (length b.places) m → place (with_place b m p) m ≡ p
place-put b m p h = nth-put Free b.places m p h.0 h.1

-- others read as before
pub place_other : (b : Board) (m j : ℕ) (p : Place) → j ≢ m → place (with_place b m p) j ≡ place b j
place_other b m j p h = nth-put_other Free b.places m j p h

-- held is not free
pub held_placed : (b : Board) (m k : ℕ) → place b m ≡ HeldBy (task_no k) → place b m ≢ Free
held_placed b m k e h = true≢false (sym (ap is_free h) ∙ ap is_free e)

-- queued is not free
pub queued_placed : (b : Board) (m k : ℕ) → place b m ≡ QueuedAt (task_no k) → place b m ≢ Free
queued_placed b m k e h = true≢false (sym (ap is_free h) ∙ ap is_free e)

-- ---- the board still fits
-- a place that its byte says
abbrev pub FitsPlace : Size → Place → Type 0
FitsPlace z p = Byte (place_byte p) × (place_of z (place_byte p) ≡ p)

module _ (z : Size) (b : Board) (f : Fits z b) where
  -- byte 0 and the records written, as many as before
  fits_with : (x : ℕ) (ts : List Task) (ms : List Message) (ps : List Place) → Byte x → length ts ≡ length b.tasks
      → length ms ≡ length b.messages → length ps ≡ length b.places → ((k : ℕ) → FitsTask (nth no_task ts k))
      → ((m : ℕ) → FitsMessage (nth no_message ms m)) → ((m : ℕ) → FitsPlace z (nth Free ps m))
      → Fits z (with_first (with_tasks (with_messages (with_places b ps) ms) ts) x)
  fits_with x ts ms ps h n o p t u v = record {
    first = h;
    running = f.running;
    zeros = f.zeros;
    tasks = n ∙ f.tasks;
    messages = o ∙ f.messages;
    places = p ∙ f.places;
    task = t;
    message = u;
    place = v;
  }

  -- byte 0 written
  pub fits_first : (x : ℕ) → Byte x → Fits z (with_first b x)
  fits_first x h = fits_with x b.tasks b.messages b.places h refl refl refl f.task f.message f.place

  -- a task written
  pub fits_task : (k : ℕ) (t : Task) → FitsTask t → Fits z (with_task b k t)
  fits_task k t h =
      fits_with b.first (put b.tasks k t) b.messages b.places f.first (length-put b.tasks k t) refl refl
      (λ j. nth_cases FitsTask no_task b.tasks k j t (λ e. h) (f.task j)) f.message f.place

  -- a message written
  pub fits_message : (m : ℕ) (u : Message) → FitsMessage u → Fits z (with_message b m u)
  fits_message m u h =
      fits_with b.first b.tasks (put b.messages m u) b.places f.first refl (length-put b.messages m u) refl
      f.task (λ j. nth_cases FitsMessage no_message b.messages m j u (λ e. h) (f.message j)) f.place

  -- a place written
  pub fits_place : (m : ℕ) (p : Place) → FitsPlace z p → Fits z (with_place b m p)
  fits_place m p h =
      fits_with b.first b.tasks b.messages (put b.places m p) f.first refl refl (length-put b.places m p)
      f.task f.message (λ j. nth_cases (FitsPlace z) Free b.places m j p (λ e. h) (f.place j))

-- ---- the links of a queue written
-- what each link keeps, they keep
pub relink_keeps : {B A : Type 0} (f : B → A) (link : B → ℕ → ℕ → B) → ((c : B) (x y : ℕ) → f (link c x y) ≡ f c)
    → (b : B) (q : List ℕ) → f (relink link b q) ≡ f b
relink_keeps f link h b [] = refl
relink_keeps f link h b (x ∷ q) = h (relink link b q) x (first_of q) ∙ relink_keeps f link h b q

-- what holds of 0 and of each holds of the first
pub first_holds : (Q : ℕ → Type 0) (q : List ℕ) → Q 0 → All Q q → Q (first_of q)
first_holds Q [] o a = o
first_holds Q (x ∷ q) o a = a.0

-- what each link to such a number upholds, they uphold
pub relink_holds : {B : Type 0} (P : B → Type 0) (Q : ℕ → Type 0) (link : B → ℕ → ℕ → B)
    → ((c : B) (x y : ℕ) → Q y → P c → P (link c x y)) → (b : B) (q : List ℕ) → Q 0 → All Q q → P b → P (relink link b q)
relink_holds P Q link h b [] o a p = p
relink_holds P Q link h b (x ∷ q) o a p =
    h (relink link b q) x (first_of q) (first_holds Q q o a.1) (relink_holds P Q link h b q o a.1 p)

-- ---- a queue that stays
-- priority numbers matter at the members only
pub sorted_stays : (f g : ℕ → ℕ) (q : List ℕ) → ((y : ℕ) → In y q → g y ≡ f y) → Sorted f q → Sorted g q
sorted_stays f g [] h s = tt
sorted_stays f g (x ∷ q) h s = (
  all_of _ q (λ y i. rw (h x (inl refl), h y (inr i)) (all_at (λ y. f x ≤ f y) q s.0 y i)),
  sorted_stays f g q (λ y i. h y (inr i)) s.1,
)

-- links and priority numbers that are the same at the members list the same queue
pub listing_stays : (f g number sort : ℕ → ℕ) (x : ℕ) (q : List ℕ) (M N : ℕ → Type 0) → ((y : ℕ) → In y q → g y ≡ f y)
    → ((y : ℕ) → In y q → sort y ≡ number y) → ((y : ℕ) → M y ↔ N y) → Listing f number x q M → Listing g sort x q N
listing_stays f g number sort x q M N h s e l = record {
  chain = chain_frame f g x q h l.chain;
  exact = λ y. ((λ i. (e y).0 ((l.exact y).0 i)), λ n. (l.exact y).1 ((e y).1 n));
  sorted = sorted_stays number sort q s l.sorted;
}

-- so does a start that is the same
pub listing_start : (f number : ℕ → ℕ) (x y : ℕ) (q : List ℕ) (M : ℕ → Type 0) → y ≡ x → Listing f number x q M
    → Listing f number y q M
listing_start f number x y q M e l =
    record { chain = subst (λ (n : ℕ). Chain f n q) (sym e) l.chain; exact = l.exact; sorted = l.sorted }

-- ---- a task as R2 has it
abbrev pub Lawful : Task → Type 0
Lawful t = (t ≡ no_task) ⊎ Proper t

-- a present one is proper
pub present_proper : (t : Task) → Lawful t → is_there t ≡ true → Proper t
present_proper t (inl e) p = absurd (true≢false (sym p ∙ ap is_there e))
present_proper t (inr h) p = h

-- an absent one is none
pub absent_none : (t : Task) → Lawful t → is_there t ≡ false → t ≡ no_task
absent_none t (inl e) p = e
absent_none t (inr h) p = absurd (true≢false (sym h.there ∙ p))

-- ---- a message that stays
-- one on the timer is one of the board's
pub timed_numbered : (z : Size) (b : Board) → length b.places ≡ z.messages → (m : ℕ) → place b m ≡ OnTimer
    → Numbered z.messages m
timed_numbered z b e m p = go (outside z.messages m) refl
  where
    go : (t : Bool) → outside z.messages m ≡ t → Numbered z.messages m
    go true o = absurd (true≢false (sym (ap is_on_timer p) ∙ ap is_on_timer (nth-outside Free b.places m (rw e o))))
    go false o = outside-within z.messages m o

-- the task that must be there for it: its holder, its receiver, or its SPTR on the timer
pub data Needs (u : Message) (p : Place) (k : ℕ) : Type 0 where
  holder : p ≡ HeldBy (task_no k) → Needs u p k
  receiver : p ≡ QueuedAt (task_no k) → Needs u p k
  sender : p ≡ OnTimer → u.sptr ≡ k → Needs u p k

-- the same record, and its task still present
pub good_stays : (z : Size) (b c : Board) (m : ℕ) (p : Place) → message c m ≡ message b m
    → ((k : ℕ) → Needs (message b m) p k → present b k ≡ true → present c k ≡ true) → PlaceGood z b m p → PlaceGood z c m p
good_stays z b c m Free e h k = e ∙ k
good_stays z b c m (HeldBy k) e h (p, l, t) = rw e (p, l, h k.0 (holder refl) t)
good_stays z b c m (QueuedAt k) e h (p, f, l, t) = rw e (p, f, l, h k.0 (receiver refl) t)
good_stays z b c m OnTimer e h (p, l, t, f) = rw e (p, l, h (message b m).sptr (sender refl refl) t, f)
good_stays z b c m (Nowhere p) e h k = k

-- ---- what the walks visit
module _ (z : Size) (b : Board) (q : List ℕ) (queues : ℕ → List ℕ) (s : Settled z b q queues) where
  -- the walk from byte 0 visits the task queue
  pub order-walked : z.tasks ≤ z.messages → order z b ≡ q
  order-walked l =
      let n : length b.tasks ≤ z.messages = omega (arith, s.fits.tasks) in
      listing_walk no_task is_there b.tasks refl (λ k. Iff.rfl) n q s.regular.linked.tasks

  -- the walk from MPTR visits the queue
  pub queue-walked : (k : ℕ) → Numbered z.tasks k → queue z b k ≡ queues k
  queue-walked k h =
      let n : length b.places ≤ z.messages = omega (arith, s.fits.places) in
      listing_walk Free (is_queued_at k) b.places refl (λ m. says_is_queued_at k (place b m)) n (queues k)
      (s.regular.linked.messages k h)

-- ---- a row that refuses nothing
abbrev stops : Verdict → Bool
stops Go = false
stops (Stop q) = true

-- its first doesn't apply, and neither do the others
pub go_passed : (t : Test) (tests : List Test) → given (t ∷ tests) ≡ Go → (t.applies ≡ false) × (given tests ≡ Go)
go_passed t tests g = step t.applies refl
  where
    step : (a : Bool) → t.applies ≡ a → (t.applies ≡ false) × (given tests ≡ Go)
    step true e = absurd (true≢false (ap stops (rw (e, given) at g)))
    step false e = (e, rw (e, given) at g)

-- 3: somebody runs
pub runner_passed : (c : ℕ) → (no3 c).applies ≡ false → c ≢ 0
runner_passed c e = eqb-false c 0 e

-- 5: the caller holds it
pub held-passed : (b : Board) (c m : ℕ) → (no5 b c m).applies ≡ false → place b m ≡ HeldBy (task_no c)
held-passed b c m e = (says_is_held_by c (place b m)).0 (not-false (is_held_by c (place b m)) e)

-- 3, 4 and 5 before others: the running task holds the message
pub held_row : (z : Size) (b : Board) (c m : ℕ) (tests : List Test) → given (no3 c ∷ no4 z m ∷ no5 b c m ∷ tests) ≡ Go
    → (c ≢ 0) × (place b m ≡ HeldBy (task_no c)) × (given tests ≡ Go)
held_row z b c m tests g =
    let runs = go_passed (no3 c) (no4 z m ∷ no5 b c m ∷ tests) g in
    let holds = go_passed (no5 b c m) tests (go_passed (no4 z m) (no5 b c m ∷ tests) runs.1).1 in
    (runner_passed c runs.0, held-passed b c m holds.0, holds.1)

-- 6: the task meant is one of the board's, and present
pub task-passed : (z : Size) (b : Board) (r : ℕ) → (no6 z b r).applies ≡ false → Numbered z.tasks r × (present b r ≡ true)
task-passed z b r e =
    let n = neither (outside z.tasks r) (not (present b r)) e in
    (outside-within z.tasks r n.0, not-false (present b r) n.1)

-- 7, 8 and 9, the row of install: the task is one of the board's, and absent
pub install-row : (z : Size) (b : Board) (k s p : ℕ) → given (no7_install p ∷ no8 z b k ∷ no9 s ∷ []) ≡ Go
    → ((no7_install p).applies ≡ false) × Numbered z.tasks k × (present b k ≡ false) × ((no9 s).applies ≡ false)
install-row z b k s p g =
    let prio = go_passed (no7_install p) (no8 z b k ∷ no9 s ∷ []) g in
    let room = go_passed (no8 z b k) (no9 s ∷ []) prio.1 in
    let n = neither (outside z.tasks k) (present b k) room.0 in
    (prio.0, outside-within z.tasks k n.0, n.1, (go_passed (no9 s) [] room.1).0)

-- 3, 6 and 10, the row of cancel task: the task is one of the board's, present, and not busy
pub cancel_row : (z : Size) (b : Board) (c k : ℕ) → given (no3 c ∷ no6 z b k ∷ no10 z b k ∷ []) ≡ Go
    → Numbered z.tasks k × (present b k ≡ true) × ((no10 z b k).applies ≡ false)
cancel_row z b c k g =
    let meant = go_passed (no6 z b k) (no10 z b k ∷ []) (go_passed (no3 c) (no6 z b k ∷ no10 z b k ∷ []) g).1 in
    let there = task-passed z b k meant.0 in
    (there.0, there.1, (go_passed (no10 z b k) [] meant.1).0)

-- 3 and 11, the row of claim: somebody runs, and a message is free
pub claim-row : (b : Board) (c : ℕ) → given (no3 c ∷ no11 b ∷ []) ≡ Go → (c ≢ 0) × (lowest_free b ≢ 0)
claim-row b c g =
    let runs = go_passed (no3 c) (no11 b ∷ []) g in
    (runner_passed c runs.0, eqb-false (lowest_free b) 0 (go_passed (no11 b) [] runs.1).0)
