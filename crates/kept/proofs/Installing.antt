-- One task record written and the task queue relinked: what then is read, and when the board is settled. Install.
-- Assumes nothing.
use mathlib.Core.Path.{◌≡◌, refl, sym, ap, ◌∙◌, subst}
use mathlib.Core.Logic.{◌≢◌, inl, inr, ◌↔◌}
use mathlib.Core.Bool.{Bool, true, false, not, ◌||◌, true≢false}
use mathlib.Core.List.{List, [], ◌∷◌}
use Prim.Native.Nat.{ℕ, ◌≤◌}
use native.Mathlib.Omega.{arith}
use native.Mathlib.Decide.{ℕ_discrete}
use lib.Dec.{lit<}
use lib.ListN.{length}
use borrow.Author.Tests.{not-false}
use Rattle.links.specs.Queue.{first_of, goes_before, insert, relink}
use Rattle.links.specs.Chain.{In, Out, Once, All, Sorted}
use Rattle.links.proofs.Bools.{and_true}
use Rattle.links.proofs.Members.{not_in_out, all_of}
use Rattle.links.proofs.Chains.{chain_once}
use Rattle.links.proofs.Insertion.{insert_stays, in_insert, once_insert, sorted_insert}
use Rattle.links.proofs.Relinks.{relink-chain}
use Rattle.board.specs.declared.numbers.Size.{Size}
use Rattle.board.specs.declared.status.Status.{Status}
use Rattle.board.specs.declared.records.Task.{Task}
use Rattle.board.specs.declared.records.Message.{Message}
use Rattle.board.specs.declared.places.Place.TheVariants.{QueuedAt}
use Rattle.board.specs.Numbers.{task_no, Numbered}
use Rattle.board.specs.Status.{WAIT, IWAT, BIT5, INTQ, MHBS, TCBB, stored, has, number}
use Rattle.board.specs.Records.{Word, no_task, task_with_link}
use Rattle.board.specs.Board.{Board, task, message, place, with_task}
use Rattle.board.proofs.Numbered.{length-put}
use Rattle.board.proofs.Pieces.{neither}
use Rattle.paper.specs.declared.call.Call.TheVariants.{Install}
use Rattle.paper.specs.Rules.{is_there, present, next_task, next_message, task_number, message_number, good_head}
use Rattle.paper.specs.Changes.{link_task, with_order}
use Rattle.paper.specs.Effects.{install}
use Rattle.paper.specs.Refusals.{no9, own_row, Go, given}
use Rattle.linked.specs.Linked.{Listing}
use Rattle.linked.specs.Sound.{Proper, PlaceGood}
use Rattle.linked.proofs.Tests.{says_good_head}
use Rattle.linked.proofs.Running.{present_numbered}
use Rattle.kept.specs.Settled.{FitsTask, Fits, Settled, Fitting}
use Rattle.kept.specs.Touched.{IntoOrder, order_after}
use Rattle.kept.specs.Claims.{Sizes}
use Rattle.kept.proofs.Reading.{nth_cases, task-put, task_other, task_alike, fits_first, fits_task}
use Rattle.kept.proofs.Reading.{relink_keeps, first_holds, relink_holds, sorted_stays, listing_stays, listing_start}
use Rattle.kept.proofs.Reading.{Lawful, absent_none, good_stays, order-walked, install-row}
use Rattle.kept.proofs.Flagging.{Flagged, flags-ready}

-- ---- the task queue relinked
link_numbered : (b : Board) (x v y : ℕ) → Numbered (length b.tasks) y → Numbered (length (link_task b x v).tasks) y
link_numbered b x v y h = rw (length-put b.tasks x (task_with_link (task b x) v)) h

link_read : (b : Board) (x v : ℕ) → Numbered (length b.tasks) x → next_task (link_task b x v) x ≡ v
link_read b x v h = ap (λ (t : Task). t.link) (task-put b x (task_with_link (task b x) v) h)

link_other : (b : Board) (x v y : ℕ) → y ≢ x → next_task (link_task b x v) y ≡ next_task b y
link_other b x v y n = ap (λ (t : Task). t.link) (task_other b x y (task_with_link (task b x) v) n)

link_fits : (z : Size) (b : Board) (x v : ℕ) → Word v → Fits z b → Fits z (link_task b x v)
link_fits z b x v h f =
    let t = f.task x in
    fits_task z b f x (task_with_link (task b x) v)
    (record { stat = t.stat; prio = t.prio; link = h; mptr = t.mptr; sptr = t.sptr; name = t.name })

-- a task that is none of the queue is as before
relink_out : (b : Board) (j : ℕ) (q : List ℕ) → Out j q → task (relink link_task b q) j ≡ task b j
relink_out b j [] o = refl
relink_out b j (x ∷ q) o =
    task_other (relink link_task b q) x j (task_with_link (task (relink link_task b q) x) (first_of q)) o.0
    ∙ relink_out b j q o.1

module _ (b : Board) (q : List ℕ) where
  -- any other has a new LINK at most
  relinked : (j : ℕ) → task (with_order b q) j ≡ task_with_link (task b j) (task (with_order b q) j).link
  relinked j =
      ap (λ (t : Task). task_with_link t (task (with_order b q) j).link)
      (relink_keeps (λ (e : Board). task_with_link (task e j) 0) link_task
      (λ e x y. task_alike (λ (t : Task). task_with_link t 0) e x j (task_with_link (task e x) y) refl) b q)

  same_message : (m : ℕ) → message (with_order b q) m ≡ message b m
  same_message m = relink_keeps (λ (e : Board). message e m) link_task (λ e x y. refl) b q

  same_place : (m : ℕ) → place (with_order b q) m ≡ place b m
  same_place m = relink_keeps (λ (e : Board). place e m) link_task (λ e x y. refl) b q

  -- so a queue of messages is
  same_queue : (x j : ℕ) (l : List ℕ) → Listing (next_message b) (message_number b) x l (λ m. place b m ≡ QueuedAt (task_no j))
      → let e = with_order b q in Listing (next_message e) (message_number e) x l (λ m. place e m ≡ QueuedAt (task_no j))
  same_queue x j l =
      let e : Board = with_order b q in
      listing_stays (next_message b) (next_message e) (message_number b) (message_number e) x l _ _
      (λ y i. ap (λ (u : Message). u.link) (same_message y)) (λ y i. ap (λ (u : Message). number u.prio) (same_message y))
      (λ y. ((λ p. same_place y ∙ p), λ p. sym (same_place y) ∙ p))

-- ---- one task written and the task queue relinked
-- t is the record written at k, q lists the tasks that are then present
module _ (z : Size) (b : Board) (order : List ℕ) (queues : ℕ → List ℕ) (a : Sizes z) (s : Settled z b order queues)
    (k : ℕ) (t : Task) (q : List ℕ)
    (fits : FitsTask t) (lawful : Lawful t) (flagged : Flagged t) (mptr : t.mptr ≡ (task b k).mptr)
    (good : (m : ℕ) → Numbered z.messages m → PlaceGood z (with_task b k t) m (place b m)) (once : Once q)
    (exact : (y : ℕ) → In y q ↔ (present (with_task b k t) y ≡ true))
    (sorted : Sorted (task_number (with_task b k t)) q) where
  abbrev mid : Board
  mid = with_task b k t

  abbrev new : Board
  new = with_order mid q

  fits_mid : Fits z mid
  fits_mid = fits_task z b s.fits k t fits

  listed : (y : ℕ) → In y q → Numbered (length mid.tasks) y
  listed y i = present_numbered mid y ((exact y).0 i)

  listed_small : All (λ y. y ≤ 64) q
  listed_small = all_of _ q (λ y i. omega (arith, (listed y i).1, fits_mid.tasks, a.tasks))

  fits_relinked : Fits z new
  fits_relinked =
      fits_first z (relink link_task mid q)
      (relink_holds (Fits z) (λ y. y ≤ 64) link_task (λ e x y h f. link_fits z e x y (omega arith) f) mid q (omega arith)
      listed_small fits_mid) (first_of q) (let h = first_holds (λ y. y ≤ 64) q (omega arith) listed_small in omega arith)

  lawful_relinked : (j : ℕ) → Lawful (task mid j) → Lawful (task new j)
  lawful_relinked j (inl e) =
      inl (relink_out mid j q (not_in_out j q (λ i. true≢false (sym ((exact j).0 i) ∙ ap is_there e))) ∙ e)
  lawful_relinked j (inr p) =
      inr (subst Proper (sym (relinked mid q j))
      (record { there = p.there; bit5 = p.bit5; odd = p.odd; low = p.low; high = p.high }))

  same_present : (j : ℕ) → present new j ≡ present mid j
  same_present j = ap is_there (relinked mid q j)

  same_mptr : (j : ℕ) → (task new j).mptr ≡ (task b j).mptr
  same_mptr j = ap (λ (x : Task). x.mptr) (relinked mid q j) ∙ task_alike (λ (x : Task). x.mptr) b k j t mptr

  -- the board is settled, and lists the tasks so
  pub settled_order : Settled z (with_order (with_task b k t) q) q queues
  settled_order = record {
    fits = fits_relinked;
    regular = record {
      zeros = subst (All (λ x. x ≡ 0)) (sym (relink_keeps (λ (e : Board). e.zeros) link_task (λ e x y. refl) mid q)) s.regular.zeros;
      records = λ j n. lawful_relinked j (nth_cases Lawful no_task b.tasks k j t (λ e. lawful) (s.regular.records j n));
      linked = record {
        tasks = record {
          chain = relink-chain next_task link_task (λ e y. Numbered (length e.tasks) y) link_numbered link_read link_other mid q
              once (not_in_out 0 q (λ i. omega (arith, (listed 0 i).0))) (all_of _ q listed);
          exact = λ y. ((λ i. same_present y ∙ (exact y).0 i), λ p. (exact y).1 (sym (same_present y) ∙ p));
          sorted = sorted_stays (task_number mid) (task_number new) q
              (λ y i. ap (λ (x : Task). number x.prio) (relinked mid q y)) sorted;
        };
        messages = λ j n.
            listing_start (next_message new) (message_number new) (task b j).mptr (task new j).mptr (queues j) _ (same_mptr j)
            (same_queue mid q (task b j).mptr j (queues j) (s.regular.linked.messages j n));
      };
      places = λ m n.
          subst (PlaceGood z new m) (sym (same_place mid q m))
          (good_stays z mid new m (place b m) (same_message mid q m) (λ j w p. same_present j ∙ p) (good m n));
    };
    flags = λ j n.
        subst Flagged (sym (relinked mid q j)) (nth_cases Flagged no_task b.tasks k j t (λ e. flagged) (s.flags j n));
  }

-- ---- install
-- a status that a task may be installed with: TCBB, and WAIT, IWAT, BIT5 and MHBS clear
status_says : (stat : ℕ) → (no9 stat).applies ≡ false → let s = stored stat in
    (has s TCBB ≡ true) × (has s WAIT ≡ false) × (has s IWAT ≡ false) × (has s BIT5 ≡ false) × (has s MHBS ≡ false)
status_says stat e =
    let s : Status = stored stat in
    let due = neither (not (has s TCBB) || has s WAIT || has s IWAT || has s BIT5 || has s INTQ) (has s MHBS) e in
    let queued = neither (not (has s TCBB) || has s WAIT || has s IWAT || has s BIT5) (has s INTQ) due.0 in
    let fifth = neither (not (has s TCBB) || has s WAIT || has s IWAT) (has s BIT5) queued.0 in
    let parked = neither (not (has s TCBB) || has s WAIT) (has s IWAT) fifth.0 in
    let waits = neither (not (has s TCBB)) (has s WAIT) parked.0 in
    (not-false (has s TCBB) waits.0, waits.1, parked.1, fifth.1, due.1)

module _ (z : Size) (b : Board) (q : List ℕ) (queues : ℕ → List ℕ) (a : Sizes z) (s : Settled z b q queues)
    (k stat p sptr name : ℕ) where
  abbrev installed : Task
  installed = record { stat = stored stat; prio = p; link = 0; mptr = 0; sptr = sptr; name = name }

  abbrev goes : ℕ → Bool
  goes x = goes_before true (number p) (task_number b x)

  module _ (n : Numbered z.tasks k) (absent : present b k ≡ false)
      (fits : FitsTask installed) (proper : Proper installed) where
    abbrev now : Board
    now = with_task b k installed

    reads_back : task now k ≡ installed
    reads_back = task-put b k installed (rw (← s.fits.tasks) at n)

    fresh : (y : ℕ) → In y q → y ≢ k
    fresh y i e = true≢false (sym ((s.regular.linked.tasks.exact y).0 i) ∙ ap (present b) e ∙ absent)

    same_old : (y : ℕ) → In y q → task now y ≡ task b y
    same_old y i = task_other b k y installed (fresh y i)

    in_present : (y : ℕ) → In y (k ∷ q) → present now y ≡ true
    in_present y (inl e) = ap (present now) e ∙ ap is_there reads_back ∙ proper.there
    in_present y (inr i) = ap is_there (same_old y i) ∙ (s.regular.linked.tasks.exact y).0 i

    present_in : (y : ℕ) → Dec (y ≡ k) → present now y ≡ true → In y (k ∷ q)
    present_in y (yes e) h = inl e
    present_in y (no g) h = inr ((s.regular.linked.tasks.exact y).1 (sym (ap is_there (task_other b k y installed g)) ∙ h))

    listed_exact : (y : ℕ) → In y (insert goes k q) ↔ (present now y ≡ true)
    listed_exact y = (
      (λ i. in_present y ((in_insert goes k y q).0 i)),
      λ h. (in_insert goes k y q).1 (present_in y (ℕ_discrete y k) h),
    )

    listed_sorted : Sorted (task_number now) (insert goes k q)
    listed_sorted =
        let numbers : (y : ℕ) → In y q → task_number now y ≡ task_number b y =
        λ y i. ap (λ (x : Task). number x.prio) (same_old y i) in
        subst (Sorted (task_number now)) (insert_stays _ goes k q (λ y i. ap (goes_before true (number p)) (numbers y i)))
        (sorted_insert (task_number now) true (number p) k q (ap (λ (x : Task). number x.prio) reads_back)
        (sorted_stays (task_number b) (task_number now) q numbers s.regular.linked.tasks.sorted))

    good_old : (m : ℕ) → Numbered z.messages m → PlaceGood z now m (place b m)
    good_old m h =
        good_stays z b now m (place b m) refl (λ j w e. in_present j (inr ((s.regular.linked.tasks.exact j).1 e))) (s.regular.places m h)

    -- an absent task gets a proper record that waits for nothing and is due no message
    pub settled_install : has (stored stat) WAIT ≡ false → has (stored stat) IWAT ≡ false → has (stored stat) MHBS ≡ false
        → Settled z (install z b k stat p sptr name) (insert goes k q) queues
    settled_install w i m =
        subst (λ (l : List ℕ). Settled z (with_order now (insert goes k l)) (insert goes k q) queues)
        (sym (order-walked z b q queues s a.limit))
        (settled_order z b q queues a s k installed (insert goes k q) fits (inr proper)
        (flags-ready (stored stat) (0 ≡ 0) w i (λ e. absurd (true≢false (sym e ∙ m))))
        (ap (λ (x : Task). x.mptr) (sym (absent_none (task b k) (s.regular.records k n) absent))) good_old
        (once_insert goes k q (not_in_out k q (λ j. fresh k j refl))
        (chain_once (next_task b) b.first q s.regular.linked.tasks.chain))
        listed_exact listed_sorted)

  -- so its row has it
  pub install_settled : (c : ℕ) → Fitting (Install k stat p sptr name) → given (own_row z b c (Install k stat p sptr name)) ≡ Go
      → Settled z (install z b k stat p sptr name) (order_after b q (IntoOrder k p)) queues
  install_settled c f g =
      let (prio, n, absent, bits) = install-row z b k stat p g in
      let t = status_says stat bits in
      let good : good_head (stored stat) p ≡ true = and_true _ _ (and_true _ _ t.0 (ap not t.3)) (not-false _ prio) in
      settled_install n absent
      (record { stat = f.1.0; prio = f.1.1.0; link = lit< tt; mptr = lit< tt; sptr = f.0.1.0; name = f.0.1.1.0 })
      ((says_good_head installed).0 good) t.1 t.2 t.4
