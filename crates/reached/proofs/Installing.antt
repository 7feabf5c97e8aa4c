-- All are parked, no message is used, and k is the last task: before that it was absent, was installed and parked.
-- Assumes nothing.
use mathlib.Core.Path.{◌≡◌, refl, sym, ap, ◌∙◌, subst}
use mathlib.Core.Logic.{◌≢◌, inl, inr}
use mathlib.Core.Bool.{Bool, true, false, true≢false}
use mathlib.Core.List.{List, [], ◌∷◌, ◌++◌, append-nil}
use Prim.Native.Nat.{ℕ, ◌≤◌}
use native.Mathlib.Omega.{arith}
use native.Mathlib.Decide.{ℕ_discrete}
use borrow.Author.Tests.{le-ltb, le-leb}
use Rattle.links.specs.Queue.{goes_before, insert, without}
use Rattle.links.specs.Chain.{In, Out}
use Rattle.links.proofs.Bools.{refuted}
use Rattle.links.proofs.Members.{out_not_in, in_right, once_middle_out, out_left}
use Rattle.links.proofs.Chains.{chain_once}
use Rattle.links.proofs.Insertion.{insert_end, sorted_last}
use Rattle.links.proofs.Removal.{without_split}
use Rattle.board.specs.declared.numbers.Size.{Size}
use Rattle.board.specs.declared.status.Status.{Status}
use Rattle.board.specs.declared.records.Task.{Task}
use Rattle.board.specs.declared.places.Place.TheVariants.{HeldBy}
use Rattle.board.specs.Numbers.{task_no, Numbered}
use Rattle.board.specs.Status.{WAIT, IWAT, BIT5, INTQ, MHBS, TCBB, has, stored, without_bit, is_ready, number}
use Rattle.board.specs.Places.{is_on_timer}
use Rattle.board.specs.Records.{no_task, task_with_stat}
use Rattle.board.specs.Board.{Board, task, place, with_task, with_running}
use Rattle.board.proofs.Bits.{without_bit_other, without_bit-has, without_bit-small}
use Rattle.paper.specs.declared.call.Call.{Call}
use Rattle.paper.specs.declared.call.Call.TheVariants.{Install, WaitForInterrupt}
use Rattle.paper.specs.Rules.{is_there, present, next_task, task_number, order, ready}
use Rattle.paper.specs.Changes.{clears, with_order}
use Rattle.paper.specs.Effects.{install, cancel_task}
use Rattle.paper.specs.Refusals.{no7_install, no9, own_row, Go, given}
use Rattle.linked.specs.Sound.{Proper}
use Rattle.linked.proofs.Running.{placed_numbered}
use Rattle.linked.proofs.Chosen.{none_runs}
use Rattle.kept.specs.Settled.{Settled, Fitting}
use Rattle.kept.specs.Claims.{Sizes}
use Rattle.kept.proofs.Reading.{present_proper, held_placed, task-put, task_other}
use Rattle.kept.proofs.Waiting.{task_numbered}
use Rattle.kept.proofs.Cancelling.{settled_cancel}
use Rattle.kept.proofs.Installing.{install_settled}
use Rattle.kept.proofs.Dispatching.{settled_running}
use Rattle.past.specs.Past.{installed}
use Rattle.reached.proofs.Making.{Passing, Makes, makes_then, makes_call}
use Rattle.reached.proofs.Sweeping.{Earlier}
use Rattle.reached.proofs.Stages.{Stage, Parked, Unused, parked_still}
use Rattle.kept.proofs.SameBoard.{sheet, block, same_board}
use Rattle.kept.proofs.Crew.{order_sheet, order-mptr, order-message, order-place, order-running, order-length}
use Rattle.kept.proofs.Going.{go_install, task-word}
use Rattle.reached.proofs.Parking.{awoken, woken_only, settled_awoken, passing_awoken, makes_wait}

module _ (z : Size) (a : Sizes z) (q : List ℕ) (k : ℕ) (b : Board) (u : Unused z (q ++ k ∷ []) b) where
  abbrev v : Stage z Parked 0 b
  v = u.stage

  abbrev p : Passing z b 0
  p = v.passing

  abbrev f : ℕ → List ℕ
  f = p.queues

  abbrev whole : List ℕ
  whole = q ++ k ∷ []

  s : Settled z b whole f
  s = subst (λ (l : List ℕ). Settled z b l f) u.order p.settled

  there : present b k ≡ true
  there = (s.regular.linked.tasks.exact k).0 (in_right k q (k ∷ []) (inl refl))

  n : Numbered z.tasks k
  n = task_numbered z b whole f s k there

  parked : has (task b k).stat IWAT ≡ true
  parked = (v.all k n).1 there

  still : (j : ℕ) → ready b j ≡ false
  still = parked_still z 0 b v

  -- ---- k gone
  abbrev l : List ℕ
  l = without k (order z b)

  abbrev y : Board
  y = cancel_task z b k

  out : Out k q
  out = out_left k q [] (once_middle_out k q [] (chain_once (next_task b) b.first whole s.regular.linked.tasks.chain))

  none_held : (m : ℕ) → place b m ≢ HeldBy (task_no k)
  none_held m e =
      let h = held_placed b m k e in
      h (u.free m (rw s.fits.places at (placed_numbered b m h)))

  sy : Settled z y q f
  sy =
      subst (λ (r : List ℕ). Settled z y r f) (without_split k q [] out ∙ append-nil q)
      (settled_cancel z b whole f a s k there (v.all k n).0 none_held
      (λ m e h. true≢false (sym (ap is_on_timer e) ∙ p.untimed m)))

  gone : task y k ≡ no_task
  gone = task-put (with_order b l) k no_task (rw (order-length b l, s.fits.tasks) n)

  others : (j : ℕ) → j ≢ k → sheet (task y j) ≡ sheet (task b j)
  others j h = ap sheet (task_other (with_order b l) k j no_task h) ∙ order_sheet b l j

  other_mptr : (j : ℕ) → j ≢ k → (task y j).mptr ≡ (task b j).mptr
  other_mptr j h = ap (λ (t : Task). t.mptr) (task_other (with_order b l) k j no_task h) ∙ order-mptr b l j

  all_y : (j : ℕ) → Numbered z.tasks j → Dec (j ≡ k) → Parked (task y j)
  all_y j h (yes e) =
      subst (λ (t : Task). Parked t) (sym gone ∙ ap (task y) (sym e)) (refl, λ (g : false ≡ true). absurd (true≢false (sym g)))
  all_y j h (no g) = (
    other_mptr j g ∙ (v.all j h).0,
    λ t. ap (λ (x : Task). has x.stat IWAT) (others j g) ∙ (v.all j h).1 (sym (ap is_there (others j g)) ∙ t),
  )

  still_y : (j : ℕ) → ready y j ≡ false
  still_y j = step (ℕ_discrete j k)
    where
      step : Dec (j ≡ k) → ready y j ≡ false
      step (yes w) = ap (ready y) w ∙ ap (λ (r : Task). is_ready r.stat) gone
      step (no w) = ap (λ (r : Task). is_ready r.stat) (others j w) ∙ still j

  abbrev passing_y : Passing z y 0
  passing_y = record {
    order = q;
    queues = f;
    settled = sy;
    runs = order-running b l ∙ p.runs;
    rightly = none_runs y still_y;
    idle = refl;
    untimed = λ m. ap is_on_timer (order-place b l m) ∙ p.untimed m;
  }

  unused_y : Unused z q y
  unused_y = record {
    stage = record { passing = passing_y; all = λ j h. all_y j h (ℕ_discrete j k) };
    free = λ j h. order-place b l j ∙ u.free j h;
    order = refl;
  }

  -- ---- k installed again
  abbrev t : Task
  t = task b k

  abbrev old : Status
  old = (task b k).stat

  abbrev stat : Status
  stat = without_bit (task b k).stat IWAT

  abbrev call : Call
  call = Install k stat.0 t.prio t.sptr t.name

  proper : Proper t
  proper = present_proper t (s.regular.records k n) there

  fitting : Fitting call
  fitting =
      let w = s.fits.task k in
      ((task-word z a k n, (w.sptr, (w.name, tt))), (without_bit-small old IWAT w.stat, (w.prio, tt)))

  flags : (has stat TCBB ≡ true) × (has stat WAIT ≡ false) × (has stat IWAT ≡ false) × (has stat BIT5 ≡ false) × (has stat INTQ ≡ false)
      × (has stat MHBS ≡ false)
  flags =
      let w = s.flags k n in (
        without_bit_other old IWAT TCBB refl ∙ there,
        without_bit_other old IWAT WAIT refl ∙ refuted (has old WAIT) (λ e. true≢false (sym parked ∙ w.one e)),
        without_bit-has old IWAT refl,
        without_bit_other old IWAT BIT5 refl ∙ proper.bit5,
        without_bit_other old IWAT INTQ refl ∙ (w.parked parked).0,
        without_bit_other old IWAT MHBS refl ∙ (w.parked parked).1,
      )

  goes_through : given (own_row z y 0 call) ≡ Go
  goes_through =
      let prio : (no7_install t.prio).applies ≡ false =
      rw (proper.odd, le-leb 0x03 t.prio proper.low, le-leb t.prio 0xFD proper.high) refl in
      let status : (no9 stat.0).applies ≡ false =
      rw (flags.0, flags.1, flags.2, flags.3, flags.4, flags.5) refl in
      go_install z y k stat.0 t.prio prio n (ap is_there gone) status

  abbrev goes : ℕ → Bool
  goes x = goes_before true (number t.prio) (task_number y x)

  behind : (j : ℕ) → In j q → goes j ≡ false
  behind j i =
      let h : j ≢ k = λ e. out_not_in k q out (subst (λ (w : ℕ). In w q) e i) in
      le-ltb (number t.prio) (task_number y j)
      (subst (λ (w : ℕ). w ≤ number t.prio) (sym (ap (λ (r : Task). number r.prio) (others j h)))
      (sorted_last (task_number b) q k s.regular.linked.tasks.sorted j i))

  abbrev x : Board
  x = install z y k stat.0 t.prio t.sptr t.name

  sx : Settled z x whole f
  sx =
      subst (λ (r : List ℕ). Settled z x r f) (insert_end goes k q behind)
      (install_settled z y q f a sy k stat.0 t.prio t.sptr t.name 0 fitting goes_through)

  -- k awake, with byte 1 still 0
  abbrev d : Board
  d = with_running (clears b k IWAT) 0

  sd : Settled z d whole f
  sd =
      subst (λ (r : List ℕ). Settled z d r f) u.order
      (settled_running z (awoken b k) p.order f 0 (omega arith) (settled_awoken z a b p still k n parked))

  task_d : task d k ≡ task_with_stat (task b k) stat
  task_d = task-put b k (task_with_stat (task b k) stat) (rw s.fits.tasks n)

  abbrev new : Task
  new = record { stat = stored stat.0; prio = t.prio; link = 0; mptr = 0; sptr = t.sptr; name = t.name }

  abbrev l2 : List ℕ
  l2 = insert goes k (order z y)

  sheets : (j : ℕ) → Dec (j ≡ k) → sheet (task x j) ≡ sheet (task d j)
  sheets j (yes e) =
      order_sheet (with_task y k new) l2 j
      ∙ subst (λ (w : ℕ). sheet (task (with_task y k new) w) ≡ sheet (task d w)) (sym e)
      (ap sheet (task-put y k new (rw sy.fits.tasks n)) ∙ sym (ap sheet task_d))
  sheets j (no h) =
      order_sheet (with_task y k new) l2 j ∙ ap sheet (task_other y k j new h) ∙ others j h ∙ sym (ap sheet (task_other b k j _ h))

  same : x ≡ d
  same =
      same_board z x d whole f f sx sd (order-running (with_task y k new) l2 ∙ passing_y.runs) (λ j h. refl)
      (λ j h. sheets j (ℕ_discrete j k))
      (λ m h. ap block (order-message (with_task y k new) l2 m ∙ order-message b l m))
      (λ m h. order-place (with_task y k new) l2 m ∙ order-place b l m)

  makes_install : Makes z y (call ∷ []) (awoken b k)
  makes_install =
      makes_call z a y 0 passing_y call (awoken b k) k (passing_awoken z a b p still k n parked) fitting goes_through same
      (inr (woken_only z a b p still k n parked))

  -- back over k, the last task
  pub back_installed : Earlier z (Unused z q) b (installed z b k)
  back_installed = record {
    inv = unused_y;
    makes = makes_then z y (awoken b k) b (call ∷ []) (WaitForInterrupt ∷ []) makes_install (makes_wait z a b p still k n parked);
  }
