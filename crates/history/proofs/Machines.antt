-- The machine of a board: it has the fields of the board that are no links, and any entries and time. A change of the board makes
-- of its machine what the machine's change of that name makes of it; a change of links makes nothing.
-- Assumes nothing.
use mathlib.Core.Path.{◌≡◌, refl, sym, ap, ◌∙◌, fun_ext}
use mathlib.Core.Bool.{Bool, true, false, cond, ◌&&◌}
use mathlib.Core.List.{List}
use Prim.Native.Nat.{ℕ, suc}
use lib.Dec.{eqb}
use lib.ListN.{length}
use borrow.Author.Tests.{eqb-true, eqb-false}
use Rattle.links.specs.Queue.{goes_before, insert, without, relink}
use Rattle.board.specs.declared.numbers.Size.{Size}
use Rattle.board.specs.declared.records.Task.{Task}
use Rattle.board.specs.declared.records.Message.{Message}
use Rattle.board.specs.declared.places.Place.{Place}
use Rattle.board.specs.declared.places.Place.TheVariants as places
use Rattle.board.specs.Numbers.{task_no, Numbered}
use Rattle.board.specs.Status.{WAIT, IWAT, INTQ, MHBS, has, stored, number, with_fifo}
use Rattle.board.specs.Records.{no_task, no_message, with_prio}
use Rattle.board.specs.Board.{Board, nth, put, task, message, place, with_task, with_message, with_place}
use Rattle.board.proofs.Numbered.{nth-put, nth-put_other, nth_alike, length-put}
use Rattle.paper.specs.Changes.{sets, clears, link_task, link_message, with_queue, with_order, hold}
use Rattle.paper.specs.Rules.{order, empty_queue, task_number}
use Rattle.paper.specs.Effects.{queue_with, woken, place_at, emptied, install, cancel_task, post, wait_interrupt}
use Rattle.kept.proofs.Reading.{relink_keeps}
use Rattle.history.specs.Ranking.{Entry}
use Rattle.history.specs.Machine as plain
use Rattle.history.specs.Machine.{Sheet, Block, Whose, Free, Held, Queued, Plain, no_sheet, machine, upd, with_sheet, with_block, with_whose}
use Rattle.history.specs.Claims.{sheet_of, block_of}
use Rattle.history.proofs.Places.{whose_of}
use Rattle.history.proofs.Named.{laid}

-- ---- the machine of a board
-- with the entries l and s, at the time n
abbrev pub plain_of : Board → List Entry → List Entry → ℕ → Plain
plain_of b l s n = machine (λ k. sheet_of (task b k)) (λ m. block_of (message b m)) (λ m. whose_of (place b m)) l s n b.running

-- a record written is its value changed
upd-put : {A B : Type 0} (f : A → B) (none : A) (r : List A) (k : ℕ) (x : A) → Numbered (length r) k
    → upd (λ j. f (nth none r j)) k (f x) ≡ (λ j. f (nth none (put r k x) j))
upd-put f none r k x h = fun_ext (λ j. step j (eqb j k) refl)
  where
    step : (j : ℕ) (t : Bool) → eqb j k ≡ t → cond t (f x) (f (nth none r j)) ≡ f (nth none (put r k x) j)
    step j true e = sym (ap (λ (i : ℕ). f (nth none (put r k x) i)) (eqb-true j k e) ∙ ap f (nth-put none r k x h.0 h.1))
    step j false e = sym (ap f (nth-put_other none r k j x (eqb-false j k e)))

module _ (l s : List Entry) (n : ℕ) where
  -- ---- one record written
  -- a task
  plain-task : (b : Board) (k : ℕ) (t : Task) → Numbered (length b.tasks) k
      → with_sheet (plain_of b l s n) k (sheet_of t) ≡ plain_of (with_task b k t) l s n
  plain-task b k t h =
      ap (λ (g : ℕ → Sheet). let p = plain_of b l s n in machine g p.blocks p.whose l s n b.running)
      (upd-put sheet_of no_task b.tasks k t h)

  -- a message
  pub plain-message : (b : Board) (m : ℕ) (u : Message) → Numbered (length b.messages) m
      → with_block (plain_of b l s n) m (block_of u) ≡ plain_of (with_message b m u) l s n
  plain-message b m u h =
      ap (λ (g : ℕ → Block). let p = plain_of b l s n in machine p.sheets g p.whose l s n b.running)
      (upd-put block_of no_message b.messages m u h)

  -- a place
  pub plain-place : (b : Board) (m : ℕ) (x : Place) → Numbered (length b.places) m
      → with_whose (plain_of b l s n) m (whose_of x) ≡ plain_of (with_place b m x) l s n
  plain-place b m x h =
      ap (λ (g : ℕ → Whose). let p = plain_of b l s n in machine p.sheets p.blocks g l s n b.running)
      (upd-put whose_of places.Free b.places m x h)

  -- ---- links written: the machine has none
  plain-task_alike : (b : Board) (k : ℕ) (t : Task) → sheet_of t ≡ sheet_of (task b k)
      → plain_of (with_task b k t) l s n ≡ plain_of b l s n
  plain-task_alike b k t e =
      ap (λ (g : ℕ → Sheet). let p = plain_of b l s n in machine g p.blocks p.whose l s n b.running)
      (fun_ext (λ j. nth_alike sheet_of no_task b.tasks k j t e))

  plain-message_alike : (b : Board) (m : ℕ) (u : Message) → block_of u ≡ block_of (message b m)
      → plain_of (with_message b m u) l s n ≡ plain_of b l s n
  plain-message_alike b m u e =
      ap (λ (g : ℕ → Block). let p = plain_of b l s n in machine p.sheets g p.whose l s n b.running)
      (fun_ext (λ j. nth_alike block_of no_message b.messages m j u e))

  -- the queue of a task
  pub plain-queue : (b : Board) (r : ℕ) (q : List ℕ) → plain_of (with_queue b r q) l s n ≡ plain_of b l s n
  plain-queue b r q =
      plain-task_alike (relink link_message b q) r _ refl
      ∙ relink_keeps (λ (c : Board). plain_of c l s n) link_message (λ c x y. plain-message_alike c x _ refl) b q

  -- the task queue
  plain-order : (b : Board) (q : List ℕ) → plain_of (with_order b q) l s n ≡ plain_of b l s n
  plain-order b q = relink_keeps (λ (c : Board). plain_of c l s n) link_task (λ c x y. plain-task_alike c x _ refl) b q

-- ---- how many records a linked board has
-- the queue of a task linked, there are as many tasks
pub length-tasks : (b : Board) (r : ℕ) (q : List ℕ) → length (with_queue b r q).tasks ≡ length b.tasks
length-tasks b r q =
    length-put (relink link_message b q).tasks r _
    ∙ relink_keeps (λ (c : Board). length c.tasks) link_message (λ c x y. refl) b q

length-messages : (b : Board) (r : ℕ) (q : List ℕ) → length (with_queue b r q).messages ≡ length b.messages
length-messages b r q =
    relink_keeps (λ (c : Board). length c.messages) link_message (λ c x y. length-put c.messages x _) b q

length-places : (b : Board) (r : ℕ) (q : List ℕ) → length (with_queue b r q).places ≡ length b.places
length-places b r q = relink_keeps (λ (c : Board). length c.places) link_message (λ c x y. refl) b q

length-order : (b : Board) (q : List ℕ) → length (with_order b q).tasks ≡ length b.tasks
length-order b q = relink_keeps (λ (c : Board). length c.tasks) link_task (λ c x y. length-put c.tasks x _) b q

-- ---- flags
-- of two changes that are the same, the one taken is
cond_maps : {A B : Type 0} (f : A → B) (t : Bool) (x y : B) (v w : A) → x ≡ f v → y ≡ f w → cond t x y ≡ f (cond t v w)
cond_maps f true x y v w e d = e
cond_maps f false x y v w e d = d

module _ (l s : List Entry) (n : ℕ) (b : Board) (k : ℕ) (h : Numbered (length b.tasks) k) where
  -- one set
  pub plain-sets : (bit : ℕ) → plain.sets (plain_of b l s n) k bit ≡ plain_of (sets b k bit) l s n
  plain-sets bit = plain-task l s n b k _ h

  -- one cleared
  pub plain-clears : (bit : ℕ) → plain.clears (plain_of b l s n) k bit ≡ plain_of (clears b k bit) l s n
  plain-clears bit = plain-task l s n b k _ h

  -- one cleared and one set
  plain_turned : (off on : ℕ)
      → plain.sets (plain.clears (plain_of b l s n) k off) k on ≡ plain_of (sets (clears b k off) k on) l s n
  plain_turned off on =
      ap (λ (p : Plain). plain.sets p k on) (plain-clears off)
      ∙ plain-task l s n (clears b k off) k _ (rw (length-put b.tasks k _) h)

  -- post interrupt
  pub plain-post : plain.post (plain_of b l s n) k ≡ plain_of (post b k) l s n
  plain-post =
      cond_maps (λ (c : Board). plain_of c l s n) (has (task b k).stat IWAT) _ _ _ _ (plain-clears IWAT) (plain-sets INTQ)

  -- wait for interrupt
  pub plain-wait : plain.wait_interrupt (plain_of b l s n) k ≡ plain_of (wait_interrupt b k) l s n
  plain-wait =
      cond_maps (λ (c : Board). plain_of c l s n) (has (task b k).stat INTQ) _ _ _ _ (plain-clears INTQ) (plain-sets IWAT)

  -- woken, if it waited for a message
  plain-woken : let p = plain_of b l s n in
      cond (has (task b k).stat WAIT) (plain.sets (plain.clears p k WAIT) k MHBS) p ≡ plain_of (woken b k) l s n
  plain-woken = cond_maps (λ (c : Board). plain_of c l s n) (has (task b k).stat WAIT) _ _ _ _ (plain_turned WAIT MHBS) refl

  -- waiting again, if it was due a message and has none left; m is the first that it has
  pub plain-emptied : (m : ℕ) → m ≡ (task b k).mptr → let p = plain_of b l s n in
      cond (has (task b k).stat MHBS && eqb m 0) (plain.sets (plain.clears p k MHBS) k WAIT) p ≡ plain_of (emptied b k) l s n
  plain-emptied m e =
      let p : Plain = plain_of b l s n in
      ap (λ (x : ℕ). cond (has (task b k).stat MHBS && eqb x 0) (plain.sets (plain.clears p k MHBS) k WAIT) p) e
      ∙ cond_maps (λ (c : Board). plain_of c l s n) (has (task b k).stat MHBS && empty_queue b k) _ _ _ _
      (plain_turned MHBS WAIT) refl

-- ---- a message moved
-- out of a queue, into a task's hands
pub plain-hold : (l s : List Entry) (n : ℕ) (b : Board) (r c m : ℕ) (q : List ℕ) → Numbered (length b.places) m
    → with_whose (plain_of b l s n) m (Held c) ≡ plain_of (hold (with_queue b r q) c m) l s n
plain-hold l s n b r c m q h =
    let d : Board = with_queue b r q in
    ap (λ (p : Plain). with_whose p m (Held c)) (sym (plain-message_alike l s n d m _ refl ∙ plain-queue l s n b r q))
    ∙ plain-place l s n (link_message d m 0) m (places.HeldBy (task_no c)) (rw (length-places b r q) h)

module _ (z : Size) (l s : List Entry) (n : ℕ) (b : Board) (m r : ℕ)
    (hr : Numbered (length b.tasks) r) (hm : Numbered (length b.messages) m) (hp : Numbered (length b.places) m) where
  abbrev q : List ℕ
  q = queue_with z b m r

  abbrev now : List Entry
  now = (laid (plain_of b l s n) m r).placements

  abbrev d : Board
  d = with_place (with_queue b r q) m (places.QueuedAt (task_no r))

  abbrev lying : Board
  lying = with_message d m (with_prio (message d m) (with_fifo (message b m).prio))

  -- before its task is woken
  plain_laid : laid (plain_of b l s n) m r ≡ plain_of lying l now (suc n)
  plain_laid =
      let u = block_of (message b m) in
      let e : plain_of (with_queue b r q) l now (suc n) ≡ plain_of b l now (suc n) = plain-queue l now (suc n) b r q in
      let to : Block → Block = λ g. record { stat = g.stat; prio = with_fifo u.prio; rptr = g.rptr; sptr = g.sptr } in
      ap (λ (p : Plain). with_block (with_whose p m (Queued r)) m (to u)) (sym e)
      ∙ ap (λ (p : Plain). with_block p m (to u))
      (plain-place l now (suc n) (with_queue b r q) m (places.QueuedAt (task_no r)) (rw (length-places b r q) hp))
      ∙ ap (λ (g : Block). with_block (plain_of d l now (suc n)) m (to g)) (sym (ap (λ (p : Plain). p.blocks m) e))
      ∙ plain-message l now (suc n) d m (with_prio (message d m) (with_fifo u.prio)) (rw (length-messages b r q) hm)

  -- into a queue
  pub plain_placed : let p = plain_of b l s n in plain.place p m r ≡ plain_of (place_at z b m r) l (laid p m r).placements (suc n)
  plain_placed =
      ap (λ (p : Plain). cond (has (p.sheets r).stat WAIT) (plain.sets (plain.clears p r WAIT) r MHBS) p) plain_laid
      ∙ plain-woken l now (suc n) lying r (rw (length-tasks b r q) hr)

-- ---- a task more, a task less
module _ (z : Size) (l s : List Entry) (n : ℕ) (b : Board) (k : ℕ) (h : Numbered (length b.tasks) k) where
  -- install
  pub plain-install : (t prio sptr name : ℕ) → let p = plain.install (plain_of b l s n) k t prio sptr name in
      p ≡ plain_of (install z b k t prio sptr name) p.installs s (suc n)
  plain-install t prio sptr name =
      let now : List Entry = (plain.install (plain_of b l s n) k t prio sptr name).installs in
      let new : Task = record { stat = stored t; prio = prio; link = 0; mptr = 0; sptr = sptr; name = name } in
      plain-task now s (suc n) b k new h
      ∙ sym (plain-order now s (suc n) (with_task b k new)
      (insert (λ x. goes_before true (number prio) (task_number b x)) k (order z b)))

  -- cancel task
  pub plain_cancel : let p = plain.cancel_task (plain_of b l s n) k in p ≡ plain_of (cancel_task z b k) p.installs s n
  plain_cancel =
      let now : List Entry = (plain.cancel_task (plain_of b l s n) k).installs in
      let d : Board = with_order b (without k (order z b)) in
      ap (λ (p : Plain). with_sheet p k no_sheet) (sym (plain-order now s n b (without k (order z b))))
      ∙ plain-task now s n d k no_task (rw (length-order b (without k (order z b))) h)
