-- The board after a placement and after a cancel message: the message, its place, and the status of the task whose queue it is.
-- Assumes nothing.
use mathlib.Core.Path.{◌≡◌, refl, ap, ◌∙◌}
use mathlib.Core.Bool.{Bool, true, false, ◌&&◌}
use mathlib.Core.List.{List}
use Prim.Native.Nat.{ℕ}
use lib.ListN.{length}
use Rattle.links.specs.Queue.{without}
use Rattle.board.specs.declared.numbers.Size.{Size}
use Rattle.board.specs.declared.status.Status.{Status}
use Rattle.board.specs.declared.records.Message.{Message}
use Rattle.board.specs.declared.places.Place.TheVariants.{HeldBy, QueuedAt}
use Rattle.board.specs.Numbers.{task_no, Numbered}
use Rattle.board.specs.Status.{WAIT, MHBS, has, with_bit, without_bit, with_fifo}
use Rattle.board.specs.Records.{with_link, with_prio}
use Rattle.board.specs.Board.{Board, task, message, place, with_message, with_place}
use Rattle.board.proofs.Numbered.{length-put}
use Rattle.paper.specs.Rules.{queue, empty_queue}
use Rattle.paper.specs.Changes.{sets, clears, link_message, with_queue, hold}
use Rattle.paper.specs.Effects.{queue_with, woken, place_at, emptied, cancel_message}
use Rattle.links.proofs.Bools.{cond_holds}
use Rattle.kept.proofs.Reading.{relink_keeps, message-put, place-put}
use Rattle.kept.proofs.Relinked.{requeued_is, requeued_stat, requeued_alike}
use Rattle.kept.proofs.Statuses.{restat_stat}
use Rattle.kept.proofs.SameBoard.{block}

-- ---- a bit cleared and another set
module _ (b : Board) (r x y : ℕ) (n : Numbered (length b.tasks) r) where
  abbrev s : Status
  s = without_bit (task b r).stat x

  changed-stat : (task (sets (clears b r x) r y) r).stat ≡ with_bit (without_bit (task b r).stat x) y
  changed-stat =
      let e = restat_stat b r s n in
      restat_stat (clears b r x) r (with_bit (task (clears b r x) r).stat y) (rw (length-put b.tasks r _) n)
      ∙ ap (λ (t : Status). with_bit t y) e

-- ---- woken or not, emptied or not
pub data Woke (b : Board) (r : ℕ) : Type 0 where
  wakes : has (task b r).stat WAIT ≡ true → (task (woken b r) r).stat ≡ with_bit (without_bit (task b r).stat WAIT) MHBS → Woke b r
  stays : has (task b r).stat WAIT ≡ false → (task (woken b r) r).stat ≡ (task b r).stat → Woke b r

woke : (b : Board) (r : ℕ) → Numbered (length b.tasks) r → Woke b r
woke b r n = step (has (task b r).stat WAIT) refl
  where
    step : (t : Bool) → has (task b r).stat WAIT ≡ t → Woke b r
    step true e = wakes e (rw e (changed-stat b r WAIT MHBS n))
    step false e = stays e (rw e refl)

pub data Waits (b : Board) (r : ℕ) : Type 0 where
  again : has (task b r).stat MHBS ≡ true → empty_queue b r ≡ true
      → (task (emptied b r) r).stat ≡ with_bit (without_bit (task b r).stat MHBS) WAIT → Waits b r
  unchanged : (task (emptied b r) r).stat ≡ (task b r).stat → Waits b r

pub waits_again : (b : Board) (r : ℕ) → Numbered (length b.tasks) r → Waits b r
waits_again b r n = step (has (task b r).stat MHBS) refl (empty_queue b r) refl
  where
    step : (t : Bool) → has (task b r).stat MHBS ≡ t → (u : Bool) → empty_queue b r ≡ u → Waits b r
    step true e true d = again e d (rw (e, d) (changed-stat b r MHBS WAIT n))
    step true e false d = unchanged (rw (e, d) refl)
    step false e u d = unchanged (rw e refl)

-- neither changes messages or places
emptied-message : (b : Board) (r m : ℕ) → message (emptied b r) m ≡ message b m
emptied-message b r m =
    cond_holds (λ (d : Board). message d m ≡ message b m) (has (task b r).stat MHBS && empty_queue b r) _ b (λ e. refl) (λ e. refl)

emptied-place : (b : Board) (r m : ℕ) → place (emptied b r) m ≡ place b m
emptied-place b r m =
    cond_holds (λ (d : Board). place d m ≡ place b m) (has (task b r).stat MHBS && empty_queue b r) _ b (λ e. refl) (λ e. refl)

woken-message : (b : Board) (r m : ℕ) → message (woken b r) m ≡ message b m
woken-message b r m =
    cond_holds (λ (d : Board). message d m ≡ message b m) (has (task b r).stat WAIT) _ b (λ e. refl) (λ e. refl)

woken-place : (b : Board) (r m : ℕ) → place (woken b r) m ≡ place b m
woken-place b r m =
    cond_holds (λ (d : Board). place d m ≡ place b m) (has (task b r).stat WAIT) _ b (λ e. refl) (λ e. refl)

-- ---- the queue of r linked anew
module _ (b : Board) (r : ℕ) (q : List ℕ) where
  queue_block : (m : ℕ) → block (message (with_queue b r q) m) ≡ block (message b m)
  queue_block m = ap (λ (d : Board). block (message d m)) (requeued_is b r q) ∙ requeued_alike b r q m

  queue-places : (with_queue b r q).places ≡ b.places
  queue-places = relink_keeps (λ (d : Board). d.places) link_message (λ d x y. refl) b q

  queue-length : length (with_queue b r q).messages ≡ length b.messages
  queue-length = relink_keeps (λ (d : Board). length d.messages) link_message (λ d x y. length-put d.messages x _) b q

  queue-tasks : length (with_queue b r q).tasks ≡ length b.tasks
  queue-tasks = ap (λ (d : Board). length d.tasks) (requeued_is b r q) ∙ length-put b.tasks r _

-- ---- cancel message
module _ (z : Size) (b : Board) (c m r : ℕ) where
  abbrev q : List ℕ
  q = without m (queue z b r)

  abbrev h : Board
  h = hold (with_queue b r q) c m

  -- it is the same but for its LINK
  pub back_message : Numbered (length b.messages) m → block (message (cancel_message z b c m r) m) ≡ block (message b m)
  back_message n =
      ap block (emptied-message h r m
      ∙ message-put (with_queue b r q) m (with_link (message (with_queue b r q) m) 0) (rw (queue-length b r q) n))
      ∙ queue_block b r q m

  -- and held by c
  pub back_place : Numbered (length b.places) m → place (cancel_message z b c m r) m ≡ HeldBy (task_no c)
  back_place n =
      emptied-place h r m
      ∙ place-put (link_message (with_queue b r q) m 0) m (HeldBy (task_no c)) (rw (queue-places b r q) n)

  -- the status of r
  pub held-stat : (task h r).stat ≡ (task b r).stat
  held-stat = requeued_stat b r q r

  -- and r may wait again
  pub back_waits : Numbered (length b.tasks) r → Waits (hold (with_queue b r (without m (queue z b r))) c m) r
  back_waits n = waits_again h r (rw (queue-tasks b r q) n)

-- ---- a placement
module _ (z : Size) (b : Board) (m r : ℕ) where
  abbrev q' : List ℕ
  q' = queue_with z b m r

  abbrev g : Board
  g = with_place (with_queue b r q') m (QueuedAt (task_no r))

  abbrev h' : Board
  h' = with_message g m (with_prio (message g m) (with_fifo (message b m).prio))

  -- it is the same but for its LINK, and bit 0 of PRIO is set
  pub placed_message : Numbered (length b.messages) m
      → block (message (place_at z b m r) m) ≡ with_prio (block (message b m)) (with_fifo (message b m).prio)
  placed_message n =
      ap block (woken-message h' r m ∙ message-put g m _ (rw (queue-length b r q') n))
      ∙ ap (λ (t : Message). with_prio t (with_fifo (message b m).prio)) (queue_block b r q' m)

  -- it is queued at r
  pub placed_place : Numbered (length b.places) m → place (place_at z b m r) m ≡ QueuedAt (task_no r)
  placed_place n =
      woken-place h' r m ∙ place-put (with_queue b r q') m (QueuedAt (task_no r)) (rw (queue-places b r q') n)

  -- no status changes before r is woken
  pub placed_stat : (task h' r).stat ≡ (task b r).stat
  placed_stat = requeued_stat b r q' r

  abbrev pub placing : Board
  placing = h'

  -- and r may wake
  pub placed_wakes : Numbered (length b.tasks) r → Woke h' r
  placed_wakes n = woke h' r (rw (queue-tasks b r q') n)
