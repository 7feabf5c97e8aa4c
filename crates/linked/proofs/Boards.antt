-- What R1 to R7 say of a board that has as many records as its size says, and where a message is if they hold.
-- Assumes nothing.
use mathlib.Core.Path.{◌≡◌, refl, sym, ◌∙◌}
use mathlib.Core.Logic.Iff
use mathlib.Core.Logic.{◌↔◌}
use mathlib.Core.Bool.{true, false, true≢false}
use mathlib.Core.List.{List}
use Prim.Native.Nat.{ℕ, ◌≤◌}
use native.Mathlib.Omega.{arith}
use lib.ListN.{length}
use borrow.Author.Tests.{eqb-true}
use Rattle.links.specs.Chain.{In, Out, Once}
use Rattle.links.proofs.Members.{not_in_out}
use Rattle.links.proofs.Chains.{chain_once}
use Rattle.board.specs.declared.numbers.Size.{Size}
use Rattle.board.specs.declared.numbers.TaskNo.{TaskNo}
use Rattle.board.specs.declared.places.Place.{Place}
use Rattle.board.specs.declared.places.Place.TheVariants.{Free, HeldBy, QueuedAt, OnTimer, Nowhere}
use Rattle.board.specs.Numbers.{task_no, Numbered}
use Rattle.board.specs.Records.{no_task}
use Rattle.board.specs.Places.{is_queued_at}
use Rattle.board.specs.Board.{Board, task, place}
use Rattle.paper.specs.Rules.{is_there, present, next_task, next_message, task_number, order, queue, rule3, passes}
use Rattle.linked.specs.Linked.{Listing, Linked}
use Rattle.linked.specs.Sound.{PlaceGood, Sound}
use Rattle.linked.specs.Claims.{Whereabouts, free, held, queued, on_timer}
use Rattle.linked.proofs.Says.{Says, ◌&◌, says_zero, says_each}
use Rattle.linked.proofs.Tests.{says_all_zero, says_good_task, says_good_message, says_is_queued_at, says_good_flags}
use Rattle.linked.proofs.Listings.{says_lists, listing_walk}
use Rattle.linked.proofs.Running.{present_numbered}
use Rattle.linked.proofs.Chosen.{says_rule7}

-- the records are as many as the size says, and a walk's limit serves both kinds
module _ (z : Size) (b : Board) (tasks : length b.tasks ≡ z.tasks) (places : length b.places ≡ z.messages)
    (fuel : z.tasks ≤ z.messages) where
  -- ---- the links
  -- a present task is a task of the board
  pub present-within : (k : ℕ) → present b k ≡ true → Numbered z.tasks k
  present-within k e = rw (← tasks) (present_numbered b k e)

  -- a walk has fuel for all tasks
  fuel_tasks : length b.tasks ≤ z.messages
  fuel_tasks = omega arith

  -- and for all messages
  fuel_places : length b.places ≤ z.messages
  fuel_places = omega arith

  -- what links list is what is walked
  pub linked_walks : (q : List ℕ) (queues : ℕ → List ℕ) → Linked z b q queues
      → (order z b ≡ q) × ((k : ℕ) → Numbered z.tasks k → queue z b k ≡ queues k)
  linked_walks q queues h = (
    listing_walk no_task is_there b.tasks refl (λ k. Iff.rfl) fuel_tasks q h.tasks,
    λ k i. listing_walk Free (is_queued_at k) b.places refl (λ m. says_is_queued_at k (place b m)) fuel_places (queues k)
        (h.messages k i),
  )

  -- so links that list anything list what is walked
  linked-walked : (q : List ℕ) (queues : ℕ → List ℕ) → Linked z b q queues → Linked z b (order z b) (queue z b)
  linked-walked q queues h =
      let w = linked_walks q queues h in
      record { tasks = rw w.0 h.tasks; messages = λ k i. rw (w.1 k i) (h.messages k i) }

  -- ---- the rules
  -- R3: the links list the tasks
  pub says_tasks : Says (rule3 z b) (Listing (next_task b) (task_number b) b.first (order z b) (λ k. present b k ≡ true))
  says_tasks = says_lists no_task is_there b.tasks refl (λ k. Iff.rfl) fuel_tasks

  -- all of them, as the papers word them
  pub says_passes : Says (passes z b) (Sound z b)
  says_passes =
      Iff.trans
      (says_all_zero b.zeros
      & (says_each (λ k. says_good_task _) & says_tasks & says_each (λ m. says_good_message z b m (place b m))
      & says_each (λ k. says_lists Free (is_queued_at k) b.places refl (λ m. says_is_queued_at k (place b m)) fuel_places)
      & says_each (λ k. says_good_flags _ _ _ says_zero)) & says_rule7 z b tasks) (
        (λ ((zeros, ((((records, listed), places), lists), flags)), (runs, idle)). record {
          order = order z b;
          queues = queue z b;
          regular = record { zeros = zeros; records = records; linked = record { tasks = listed; messages = lists }; places = places };
          flags = flags;
          runs = runs;
          idle = idle;
        }),
        λ s. let w = linked-walked s.order s.queues s.regular.linked in
            let r = s.regular in
            ((r.zeros, ((((r.records, w.tasks), r.places), w.messages), s.flags)), (s.runs, s.idle)),
      )

  -- ---- a board that passes
  module _ (e : passes z b ≡ true) where
    -- the links list what is walked
    pub passes-linked : Linked z b (order z b) (queue z b)
    passes-linked = let s = says_passes.0 e in linked-walked s.order s.queues s.regular.linked

    -- in the queue of k stands just what is queued at k
    pub in_queue : (m k : ℕ) → Numbered z.tasks k → In m (queue z b k) ↔ (place b m ≡ QueuedAt (task_no k))
    in_queue m k i = (passes-linked.messages k i).exact m

    -- and once
    pub once_queue : (k : ℕ) → Numbered z.tasks k → Once (queue z b k)
    once_queue k i = chain_once (next_message b) (task b k).mptr (queue z b k) (passes-linked.messages k i).chain

    -- where its place is no queue a message is in none
    out_queue : (m : ℕ) (p : Place) → place b m ≡ p → ((k : ℕ) → is_queued_at k p ≡ false)
        → (k : ℕ) → Numbered z.tasks k → Out m (queue z b k)
    out_queue m p d f k i =
        not_in_out m (queue z b k) (λ j. true≢false (sym ((says_is_queued_at k p).1 (sym d ∙ (in_queue m k i).0 j)) ∙ f k))

    -- else in that one only
    one_queue : (m : ℕ) (k : TaskNo) → place b m ≡ QueuedAt k → (j : ℕ) → Numbered z.tasks j → In m (queue z b j) → j ≡ k.0
    one_queue m k d j i h = sym (eqb-true k.0 j ((says_is_queued_at j (QueuedAt k)).1 (sym d ∙ (in_queue m j i).0 h)))

    -- a message is where its place says
    good_whereabouts : (m : ℕ) (p : Place) → place b m ≡ p → PlaceGood z b m p → Whereabouts z b m
    good_whereabouts m Free d k = free d k (out_queue m Free d (λ j. refl))
    good_whereabouts m (HeldBy k) d (r, l, t) = held k.0 d t (out_queue m (HeldBy k) d (λ j. refl))
    good_whereabouts m (QueuedAt k) d (r, o, l, t) =
        let i = present-within k.0 t in
        queued k.0 d t ((in_queue m k.0 i).1 d) (once_queue k.0 i) (one_queue m k d)
    good_whereabouts m OnTimer d k = on_timer d (out_queue m OnTimer d (λ j. refl))
    good_whereabouts m (Nowhere p) d k = absurd k

    -- and each has a place
    pub passes_whereabouts : (m : ℕ) → Numbered z.messages m → Whereabouts z b m
    passes_whereabouts m h = good_whereabouts m (place b m) refl ((says_passes.0 e).regular.places m h)
