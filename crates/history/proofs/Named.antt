-- The lists that name what a machine has installed and placed, after each change of the machine.
-- Assumes nothing.
use mathlib.Core.Path.{◌≡◌, refl, ap, ◌∙◌}
use mathlib.Core.Logic.{◌≢◌}
use mathlib.Core.Bool.{Bool, true, cond, ◌&&◌}
use mathlib.Core.List.{List}
use Prim.Native.Nat.{ℕ, suc}
use lib.Dec.{eqb}
use borrow.Author.Tests.{eqb-true, eq-eqb, ne_eqb}
use Rattle.links.specs.Chain.{In}
use Rattle.links.specs.Queue.{goes_before, insert, without}
use Rattle.links.proofs.Bools.{cond_holds}
use Rattle.board.specs.declared.numbers.Size.{Size}
use Rattle.board.specs.declared.status.Status.{Status}
use Rattle.board.specs.Numbers.{Numbered}
use Rattle.board.specs.Status.{WAIT, MHBS, has, number, fifo}
use Rattle.board.proofs.Bits.{number-with_fifo}
use Rattle.kept.specs.Touched.{changed}
use Rattle.history.specs.Ranking.{Entry}
use Rattle.history.specs.Machine.{Sheet, Block, Plain, no_sheet, machine, upd, with_block, flagged, sets, clears, first, place, take, cancel_message, install, cancel_task}
use Rattle.history.proofs.Listed.{Lists, lists_stays, lists-install, lists_cancel, lists-place, lists-take}

-- ---- one value changed
-- it reads back
upd_own : {A : Type 0} (g : ℕ → A) (k : ℕ) (x : A) → upd g k x k ≡ x
upd_own g k x = ap (λ (t : Bool). cond t x (g k)) (eq-eqb k k refl)

-- others read as before
upd_other : {A : Type 0} (g : ℕ → A) (k j : ℕ) (x : A) → j ≢ k → upd g k x j ≡ g j
upd_other g k j x d = ap (λ (t : Bool). cond t x (g j)) (ne_eqb j k d)

-- what it has in common with the old one, each has as before
upd_alike : {A B : Type 0} (f : A → B) (g : ℕ → A) (k j : ℕ) (x : A) → f x ≡ f (g k) → f (upd g k x j) ≡ f (g j)
upd_alike f g k j x e =
    cond_holds (λ y. f y ≡ f (g j)) (eqb j k) x (g j) (λ i. rw (eqb-true j k i) e) (λ i. refl)

-- ---- what is installed and placed, and its names
-- the priority number of a task
abbrev pub task_prio : Plain → ℕ → ℕ
task_prio p k = number (p.sheets k).prio

-- the priority number of a message
abbrev pub message_prio : Plain → ℕ → ℕ
message_prio p m = number (p.blocks m).prio

-- q names what p has installed, f k what it has placed at task k
abbrev pub Named : Size → Plain → List ℕ → (ℕ → List ℕ) → Type 0
Named z p q f = Lists z (task_prio p) (message_prio p) p.clock p.installs p.placements q f

module _ (z : Size) (p : Plain) (q : List ℕ) (f : ℕ → List ℕ) (h : Named z p q f) where
  -- a status written
  pub named-flagged : (k : ℕ) (s : Status) → Named z (flagged p k s) q f
  named-flagged k s =
      lists_stays z (task_prio p) (message_prio p) p.clock p.installs p.placements q f h (task_prio (flagged p k s)) _
      (λ x i. upd_alike (λ (t : Sheet). number t.prio) p.sheets k x.id _ refl) (λ x i. refl)

  -- the block of a message written that stands nowhere
  pub named_block : (m : ℕ) (u : Block) → ((x : Entry) → In x p.placements → x.id ≢ m) → Named z (with_block p m u) q f
  named_block m u new =
      lists_stays z (task_prio p) (message_prio p) p.clock p.installs p.placements q f h _ (message_prio (with_block p m u))
      (λ x i. refl) (λ x i. ap (λ (u : Block). number u.prio) (upd_other p.blocks m x.id u (new x i)))

  -- a task installed
  pub named-install : (k s prio sptr name : ℕ) → ((x : Entry) → In x p.installs → x.id ≢ k)
      → Named z (install p k s prio sptr name) (insert (λ y. goes_before true (number prio) (task_prio p y)) k q) f
  named-install k s prio sptr name new =
      lists-install z (task_prio p) (message_prio p) p.clock p.installs p.placements q f h
      (task_prio (install p k s prio sptr name)) _ refl (ap (λ (t : Sheet). number t.prio) (upd_own p.sheets k _)) new
      (λ j d. ap (λ (t : Sheet). number t.prio) (upd_other p.sheets k j _ d))

  -- a task cancelled
  pub named_cancel : (k : ℕ) → Named z (cancel_task p k) (without k q) f
  named_cancel k =
      lists_cancel z (task_prio p) (message_prio p) p.clock p.installs p.placements q f h (task_prio (cancel_task p k)) k
      (λ j d. ap (λ (t : Sheet). number t.prio) (upd_other p.sheets k j _ d))

  -- a message taken that is placed at r if anywhere
  pub named-take : (c m r : ℕ) → ((x : Entry) → In x p.placements → x.id ≡ suc m → x.at ≡ r)
      → Named z (take p c (suc m)) q (changed f r (without (suc m) (f r)))
  named-take c m r home =
      lists-take z (task_prio p) (message_prio p) p.clock p.installs p.placements q f h (suc m) r home

-- ---- a message cancelled
module _ (z : Size) (p : Plain) (q : List ℕ) (f : ℕ → List ℕ) (h : Named z p q f) where
  -- a bit cleared and another set
  named_turned : (k off on : ℕ) → Named z (sets (clears p k off) k on) q f
  named_turned k off on = named-flagged z (clears p k off) q f (named-flagged z p q f h k _) k _

module _ (z : Size) (p : Plain) (q : List ℕ) (f : ℕ → List ℕ) (h : Named z p q f)
    (c m r : ℕ) (home : (x : Entry) → In x p.placements → x.id ≡ suc m → x.at ≡ r) where
  -- one that is placed at r if anywhere
  pub named_cancel_message : Named z (cancel_message p c (suc m) r) q (changed f r (without (suc m) (f r)))
  named_cancel_message =
      let t : Plain = take p c (suc m) in
      let g : ℕ → List ℕ = changed f r (without (suc m) (f r)) in
      let k : Named z t q g = named-take z p q f h c m r home in
      cond_holds (λ (x : Plain). Named z x q g) (has (t.sheets r).stat MHBS && eqb (first t r) 0)
      (sets (clears t r MHBS) r WAIT) t (λ e. named_turned z t q g k r MHBS WAIT) (λ e. k)

-- ---- a message placed
abbrev with_sheets : Plain → (ℕ → Sheet) → Plain
with_sheets p g = machine g p.blocks p.whose p.installs p.placements p.clock p.running

-- it lies there and r isn't woken yet: where there are no tasks a placement wakes nobody
abbrev pub laid : Plain → ℕ → ℕ → Plain
laid p m r = with_sheets (place (with_sheets p (λ k. no_sheet)) m r) p.sheets

module _ (z : Size) (p : Plain) (q : List ℕ) (f : ℕ → List ℕ) (h : Named z p q f)
    (m r : ℕ) (new : (x : Entry) → In x p.placements → x.id ≢ m) (n : Numbered z.tasks r) where
  abbrev prio : ℕ
  prio = (p.blocks m).prio

  abbrev after : ℕ → List ℕ
  after = changed f r (insert (λ y. goes_before (fifo prio) (number prio) (message_prio p y)) m (f r))

  named_laid : Named z (laid p m r) q after
  named_laid =
      lists-place z (task_prio p) (message_prio p) p.clock p.installs p.placements q f h (message_prio (laid p m r)) _ refl
      (ap (λ (u : Block). number u.prio) (upd_own p.blocks m _) ∙ number-with_fifo prio) new
      (λ j d. ap (λ (u : Block). number u.prio) (upd_other p.blocks m j _ d)) n

  -- one that stood nowhere
  pub named-place : let prio = (p.blocks m).prio in
      Named z (place p m r) q (changed f r (insert (λ y. goes_before (fifo prio) (number prio) (message_prio p y)) m (f r)))
  named-place =
      let w : Plain = laid p m r in
      cond_holds (λ (x : Plain). Named z x q after) (has (p.sheets r).stat WAIT) (sets (clears w r WAIT) r MHBS) w
      (λ e. named_turned z w q after named_laid r WAIT MHBS) (λ e. named_laid)
