-- What one change keeps: it alters records of the tasks ts, of their STAT those bits, MPTR of task who, the messages ms and the queue q alone;
-- changes that do so compose.
-- Assumes nothing.
use mathlib.Core.Path.{◌≡◌, refl, sym, ap, ◌∙◌, subst}
use mathlib.Core.Logic.{◌≢◌, ◌⊎◌, inl, inr, ⊎_elim}
use mathlib.Core.Bool.{Bool, true, false, true≢false, ◌&&◌, ◌||◌}
use mathlib.Core.List.{List, [], ◌∷◌}
use Prim.Native.Nat.{ℕ, zero, suc, ◌-◌}
use native.Mathlib.Omega.{arith}
use borrow.Author.Tests.{eqb-true}
use lib.Bits.{bit_and}
use lib.Dec.{eqb}
use Rattle.links.specs.Queue.{first_of, relink}
use Rattle.links.specs.Chain.{In, Out, All}
use Rattle.links.proofs.Bools.{both, every, every_all}
use Rattle.links.proofs.Members.{out_not_in, all_at}
use Rattle.board.specs.declared.status.Status.{Status}
use Rattle.board.specs.declared.records.Task.{Task}
use Rattle.board.specs.declared.records.Message.{Message}
use Rattle.board.specs.declared.places.Place.{Place}
use Rattle.board.specs.declared.places.Place.TheVariants.{Free}
use Rattle.board.specs.Status.{has, with_bit, without_bit}
use Rattle.board.specs.Records.{no_task, no_message, task_with_link, with_link}
use Rattle.board.specs.Board.{Board, nth, put, task, message, place, with_first, with_tasks, with_messages, with_places, with_task, with_message, with_place}
use Rattle.board.proofs.Bits.{with_bit_other, without_bit_other}
use Rattle.board.proofs.Numbered.{nth-put_other, nth_alike}
use Rattle.paper.specs.Changes.{sets, clears, link_task, link_message, with_queue, with_order}
use Rattle.kept.specs.Touched.{every_bit, SameBut, Frame}
use Rattle.kept.proofs.Reading.{task_alike}

-- ---- a record that isn't written
-- where none or one of s is written, who is out of s reads as before
nth_out : {A : Type 0} (none : A) (l : List A) (s : List ℕ) (k y : ℕ) (x : A) → (k ≡ 0) ⊎ In k s → Out y s
    → nth none (put l k x) y ≡ nth none l y
nth_out none l s zero y x i o = refl
nth_out none l s (suc k) y x (inl e) o = absurd (omega arith)
nth_out none l s (suc k) y x (inr i) o =
    nth-put_other none l (suc k) y x (λ e. out_not_in y s o (subst (λ (j : ℕ). In j s) (sym e) i))

-- where who is written, or MPTR is left, MPTR of any other reads as before
mptr_kept : (b : Board) (who k : ℕ) (t : Task) → (k ≡ who) ⊎ (t.mptr ≡ (task b k).mptr) → (j : ℕ) → j ≢ who
    → (task (with_task b k t) j).mptr ≡ (task b j).mptr
mptr_kept b who k t (inl e) j n = ap (λ (x : Task). x.mptr) (nth-put_other no_task b.tasks k j t (λ i. n (i ∙ e)))
mptr_kept b who k t (inr e) j n = task_alike (λ (x : Task). x.mptr) b k j t e

-- ---- a bit of STAT
-- two bits are one, or the mask of one leaves the other alone
abbrev apart : ℕ → ℕ → Bool
apart x y = eqb x y || (eqb (bit_and x y) 0 && eqb (bit_and (255 - x) y) y)

-- computed for each two of the eight
bits_apart : (x y : ℕ) → In x every_bit → In y every_bit → y ≢ x → (bit_and x y ≡ 0) × (bit_and (255 - x) y ≡ y)
bits_apart x y i j n =
    let test : ℕ → Bool = λ x. every (apart x) every_bit in
    let t = all_at (λ x. test x ≡ true) every_bit (every_all test every_bit refl) x i in
    step (eqb x y) refl (all_at (λ y. apart x y ≡ true) every_bit (every_all (apart x) every_bit t) y j)
  where
    step : (e : Bool) → eqb x y ≡ e → e || (eqb (bit_and x y) 0 && eqb (bit_and (255 - x) y) y) ≡ true
        → (bit_and x y ≡ 0) × (bit_and (255 - x) y ≡ y)
    step true e h = absurd (n (sym (eqb-true x y e)))
    step false e h =
        let r = both (eqb (bit_and x y) 0) (eqb (bit_and (255 - x) y) y) h in (eqb-true _ _ r.0, eqb-true _ _ r.1)

-- x is one of the eight, and one of these
abbrev pub Bit : List ℕ → ℕ → Type 0
Bit bits x = In x every_bit × In x bits

module _ (bits : List ℕ) (s : Status) (x : ℕ) (i : Bit bits x) where
  -- a bit that stays is another
  other : (y : ℕ) → Out y bits → y ≢ x
  other y u q = out_not_in y bits u (subst (λ (k : ℕ). In k bits) (sym q) i.1)

  -- the bit x set or cleared, the others stay
  same_set : SameBut bits (with_bit s x) s
  same_set y j u = with_bit_other s x y (bits_apart x y i.0 j (other y u)).0

  same_cleared : SameBut bits (without_bit s x) s
  same_cleared y j u = without_bit_other s x y (bits_apart x y i.0 j (other y u)).1

-- ---- frames compose
module _ {ts bits ms : List ℕ} {who : ℕ} {q : List ℕ} {o : Bool} where
  -- nothing but messages and places changes
  frame_mail : (b : Board) (l : List Message) (p : List Place)
      → ((m : ℕ) → Out m ms → let r = nth no_message l m in r ≡ with_link (message b m) r.link)
      → ((m : ℕ) → Out m ms → Out m q → nth no_message l m ≡ message b m)
      → ((m : ℕ) → Out m ms → nth Free p m ≡ place b m)
      → Frame b (with_places (with_messages b l) p) ts bits ms who q o
  frame_mail b l p f g h = record {
    running = refl;
    zeros = refl;
    first = λ w. refl;
    tasks = λ k u. refl;
    links = λ w k. refl;
    fields = λ w k. (refl, refl, refl);
    mptr = λ w k n. refl;
    stat = λ k x i u. refl;
    messages = f;
    queue = g;
    places = h;
  }

  -- nothing changes
  pub frame_none : (b : Board) → Frame b b ts bits ms who q o
  frame_none b = frame_mail b b.messages b.places (λ m u. refl) (λ m u v. refl) (λ m u. refl)

  -- one change after another
  pub frame_then : {b d e : Board} → Frame b d ts bits ms who q o → Frame d e ts bits ms who q o → Frame b e ts bits ms who q o
  frame_then {b} {d} {e} f g = record {
    running = g.running ∙ f.running;
    zeros = g.zeros ∙ f.zeros;
    first = λ w. g.first w ∙ f.first w;
    tasks = λ k u. g.tasks k u ∙ ap (λ (t : Task). task_with_link t (task e k).link) (f.tasks k u);
    links = λ w k. g.links w k ∙ f.links w k;
    fields = λ w k. let (p, s, n) = f.fields w k in let (p', s', n') = g.fields w k in (p' ∙ p, s' ∙ s, n' ∙ n);
    mptr = λ w k n. g.mptr w k n ∙ f.mptr w k n;
    stat = λ k x i u. g.stat k x i u ∙ f.stat k x i u;
    messages = λ m u. g.messages m u ∙ ap (λ (r : Message). with_link r (message e m).link) (f.messages m u);
    queue = λ m u v. g.queue m u v ∙ f.queue m u v;
    places = λ m u. g.places m u ∙ f.places m u;
  }

-- ---- one record, with the order as it was
-- a message whose LINK may change
abbrev pub Linkable : List ℕ → List ℕ → ℕ → Type 0
Linkable ms q x = In x ms ⊎ In x q

module _ {ts bits ms : List ℕ} {who : ℕ} {q : List ℕ} where
  -- a task of ts is written, with LINK, PRIO, SPTR and NAME as before
  frame_task : (b : Board) (k : ℕ) (t : Task) → In k ts → let s = task b k in
      (t.link ≡ s.link) × (t.prio ≡ s.prio) × (t.sptr ≡ s.sptr) × (t.name ≡ s.name) → SameBut bits t.stat s.stat
      → (k ≡ who) ⊎ (t.mptr ≡ s.mptr) → Frame b (with_task b k t) ts bits ms who q false
  frame_task b k t i (l, p, s, n) g m = record {
    running = refl;
    zeros = refl;
    first = λ w. refl;
    tasks = λ j u.
        ap (λ (x : Task). task_with_link x (task (with_task b k t) j).link) (nth_out no_task b.tasks ts k j t (inr i) u);
    links = λ w j. task_alike (λ (x : Task). x.link) b k j t l;
    fields = λ w j. (
      task_alike (λ (x : Task). x.prio) b k j t p,
      task_alike (λ (x : Task). x.sptr) b k j t s,
      task_alike (λ (x : Task). x.name) b k j t n,
    );
    mptr = λ w j. mptr_kept b who k t m j;
    stat = λ j x i u. task_alike (λ (x' : Task). has x'.stat x) b k j t (g x i u);
    messages = λ m u. refl;
    queue = λ m u v. refl;
    places = λ m u. refl;
  }

  -- a bit of STAT is set, cleared
  pub frame_set : (b : Board) (k x : ℕ) → In k ts → Bit bits x → Frame b (sets b k x) ts bits ms who q false
  frame_set b k x i j = frame_task b k _ i (refl, refl, refl, refl) (same_set bits (task b k).stat x j) (inr refl)

  pub frame_clear : (b : Board) (k x : ℕ) → In k ts → Bit bits x → Frame b (clears b k x) ts bits ms who q false
  frame_clear b k x i j = frame_task b k _ i (refl, refl, refl, refl) (same_cleared bits (task b k).stat x j) (inr refl)

  -- a message is written: none or one of ms
  pub frame_message : (b : Board) (m : ℕ) (r : Message) → (m ≡ 0) ⊎ In m ms → Frame b (with_message b m r) ts bits ms who q false
  frame_message b m r i =
      let same : (y : ℕ) → Out y ms → message (with_message b m r) y ≡ message b y =
      λ y u. nth_out no_message b.messages ms m y r i u in
      frame_mail b (put b.messages m r) b.places
      (λ y u. ap (λ (x : Message). with_link x (message (with_message b m r) y).link) (same y u)) (λ y u v. same y u) (λ y u. refl)

  -- a place is written: of none or of one of ms
  pub frame_place : (b : Board) (m : ℕ) (p : Place) → (m ≡ 0) ⊎ In m ms → Frame b (with_place b m p) ts bits ms who q false
  frame_place b m p i =
      frame_mail b b.messages (put b.places m p) (λ y u. refl) (λ y u v. refl)
      (λ y u. nth_out Free b.places ms m y p i u)

  -- ---- the queue of a task
  -- a message is linked
  frame_link : (b : Board) (x v : ℕ) → Linkable ms q x → Frame b (link_message b x v) ts bits ms who q false
  frame_link b x v i =
      let r : Message = with_link (message b x) v in
      frame_mail b (put b.messages x r) b.places
      (λ y u. ap (λ (t : Message). with_link t (message (link_message b x v) y).link)
      (nth_alike (λ (t : Message). with_link t 0) no_message b.messages x y r refl))
      (λ y u w. ⊎_elim (λ j. nth_out no_message b.messages ms x y r (inr j) u)
      (λ j. nth_out no_message b.messages q x y r (inr j) w) i) (λ y u. refl)

  frame_links : (b : Board) (l : List ℕ) → All (Linkable ms q) l → Frame b (relink link_message b l) ts bits ms who q false
  frame_links b [] h = frame_none b
  frame_links b (x ∷ l) h = frame_then (frame_links b l h.1) (frame_link (relink link_message b l) x (first_of l) h.0)

  -- ---- tasks, and their order
  -- nothing but byte 0 and tasks changes
  frame_crew : (b : Board) (x : ℕ) (l : List Task)
      → ((k : ℕ) → Out k ts → let t = nth no_task l k in t ≡ task_with_link (task b k) t.link)
      → ((k : ℕ) → SameBut bits (nth no_task l k).stat (task b k).stat)
      → Frame b (with_first (with_tasks b l) x) ts bits ms who q true
  frame_crew b x l h g = record {
    running = refl;
    zeros = refl;
    first = λ w. absurd (true≢false w);
    tasks = h;
    links = λ w. absurd (true≢false w);
    fields = λ w. absurd (true≢false w);
    mptr = λ w. absurd (true≢false w);
    stat = g;
    messages = λ m u. refl;
    queue = λ m u v. refl;
    places = λ m u. refl;
  }

  -- a task is linked
  frame_next : (b : Board) (x v : ℕ) → Frame b (link_task b x v) ts bits ms who q true
  frame_next b x v =
      let s : Task = task_with_link (task b x) v in
      frame_crew b b.first (put b.tasks x s)
      (λ k u. ap (λ (t : Task). task_with_link t (task (link_task b x v) k).link)
      (task_alike (λ (t : Task). task_with_link t 0) b x k s refl))
      (λ k y e u. task_alike (λ (t : Task). has t.stat y) b x k s refl)

  frame_nexts : (b : Board) (l : List ℕ) → Frame b (relink link_task b l) ts bits ms who q true
  frame_nexts b [] = frame_none b
  frame_nexts b (x ∷ l) = frame_then (frame_nexts b l) (frame_next (relink link_task b l) x (first_of l))

  -- the tasks are relinked
  pub frame_order : (b : Board) (l : List ℕ) → Frame b (with_order b l) ts bits ms who q true
  frame_order b l =
      let d : Board = relink link_task b l in
      frame_then (frame_nexts b l) (frame_crew d (first_of l) d.tasks (λ k u. refl) (λ k x e u. refl))

-- ---- the queue of a task, and all of a task
-- the queue of one of ts is relinked: its MPTR may change
pub frame_queue : {ts bits ms q : List ℕ} (b : Board) (r : ℕ) (l : List ℕ) → In r ts → All (Linkable ms q) l
    → Frame b (with_queue b r l) ts bits ms r q false
frame_queue b r l i h =
    frame_then (frame_links b l h) (frame_task (relink link_message b l) r _ i (refl, refl, refl, refl) (λ x e u. refl) (inl refl))

-- a task of ts is written anew: all of it may change
pub frame_record : {ts ms : List ℕ} {who : ℕ} {q : List ℕ} (b : Board) (k : ℕ) (t : Task) → In k ts
    → Frame b (with_task b k t) ts every_bit ms who q true
frame_record {ts} b k t i =
    frame_crew b b.first (put b.tasks k t)
    (λ j u. ap (λ (x : Task). task_with_link x (task (with_task b k t) j).link) (nth_out no_task b.tasks ts k j t (inr i) u))
    (λ j x e u. absurd (out_not_in x every_bit u e))
