-- The two kinds of queues as stores: links of different numbers may be stored in any order, and storing what is there changes
-- nothing. A record that is written and then changed is written once.
--   queue_store r      the queue of task r: MPTR and the LINKs of messages
--   order_store        the task queue: byte 0 and the LINKs of tasks
-- Assumes nothing.
use mathlib.Core.Path.{◌≡◌, refl, sym, ap, ◌∙◌, subst}
use mathlib.Core.Logic.{◌≢◌}
use mathlib.Core.List.{List, [], ◌∷◌}
use Prim.Native.Nat.{ℕ, zero, suc}
use native.Mathlib.Decide.{ℕ_discrete}
use lib.ListN.{get_or, set}
use Rattle.links.specs.Queue.{first_of, relink}
use Rattle.board.specs.declared.records.Task.{Task}
use Rattle.board.specs.declared.records.Message.{Message}
use Rattle.board.specs.Records.{no_task, no_message, task_with_link, task_with_mptr, with_link, with_prio}
use Rattle.board.specs.Board.{Board, nth, put, task, message, with_first, with_tasks, with_messages, with_task, with_message}
use Rattle.board.proofs.Numbered.{nth-put_other, put-nth, put_comm}
use Rattle.paper.specs.Rules.{next_task, next_message}
use Rattle.paper.specs.Changes.{link_task, link_message, with_mptr, with_queue}
use Rattle.stored.proofs.Behind.{Store}

-- ---- record x of many, changed by f
abbrev change : {A : Type 0} → A → List A → ℕ → (A → A) → List A
change none l x f = put l x (f (nth none l x))

module _ {A : Type 0} (none : A) where
  -- at different numbers
  change_comm : (l : List A) (x y : ℕ) (f g : A → A) → x ≢ y
      → change none (change none l x f) y g ≡ change none (change none l y g) x f
  change_comm l x y f g h =
      let u : A = f (nth none l x) in
      let v : A = g (nth none l y) in
      ap (λ (r : A). put (put l x u) y (g r)) (nth-put_other none l x y u (λ e. h (sym e))) ∙ put_comm l x y u v h
      ∙ ap (λ (r : A). put (put l y v) x (f r)) (sym (nth-put_other none l y x v h))

  -- as it is
  change_same : (l : List A) (x : ℕ) (r : A) → r ≡ nth none l x → put l x r ≡ l
  change_same l x r e = ap (put l x) e ∙ put-nth none l x

  set_again : (l : List A) (i : ℕ) (f : A → A) (r : A) → set (set l i r) i (f (get_or (set l i r) i none)) ≡ set l i (f r)
  set_again [] i f r = refl
  set_again (y ∷ l) zero f r = refl
  set_again (y ∷ l) (suc i) f r = ap (λ (k : List A). y ∷ k) (set_again l i f r)

  -- just written
  change_put : (l : List A) (x : ℕ) (f : A → A) (r : A) → change none (put l x r) x f ≡ put l x (f r)
  change_put l zero f r = refl
  change_put l (suc i) f r = set_again l i f r

  -- twice, by changes that do not touch one another
  change_both : (l : List A) (x y : ℕ) (f g : A → A) → ((r : A) → g (f r) ≡ f (g r))
      → change none (change none l x f) y g ≡ change none (change none l y g) x f
  change_both l x y f g h = go (ℕ_discrete x y)
    where
      both : (w : ℕ) → Type 0
      both w = change none (change none l x f) w g ≡ change none (change none l w g) x f

      go : Dec (x ≡ y) → both y
      go (yes e) =
          subst both e
          (change_put l x g (f (nth none l x)) ∙ ap (put l x) (h (nth none l x)) ∙ sym (change_put l x f (g (nth none l x))))
      go (no n) = change_comm l x y f g n

-- ---- messages
-- LINK of two messages
pub link-message_comm : (b : Board) (x y u v : ℕ) → x ≢ y → link_message (link_message b x u) y v ≡ link_message (link_message b y v) x u
link-message_comm b x y u v h = ap (with_messages b) (change_comm no_message b.messages x y (λ r. with_link r u) (λ r. with_link r v) h)

-- the record that is there
pub message_same : (b : Board) (m : ℕ) (u : Message) → u ≡ message b m → with_message b m u ≡ b
message_same b m u e = ap (with_messages b) (change_same no_message b.messages m u e)

-- the LINK that is there
pub link-message_same : (b : Board) (x v : ℕ) → next_message b x ≡ v → link_message b x v ≡ b
link-message_same b x v e = message_same b x (with_link (message b x) v) (ap (with_link (message b x)) (sym e))

-- a message just written and changed
pub message_again : (b : Board) (m : ℕ) (f : Message → Message) (u : Message)
    → with_message (with_message b m u) m (f (message (with_message b m u) m)) ≡ with_message b m (f u)
message_again b m f u = ap (with_messages b) (change_put no_message b.messages m f u)

-- PRIO of message m is p
abbrev pub marked : ℕ → ℕ → Board → Board
marked m p b = with_message b m (with_prio (message b m) p)

-- it may be written before the links of a queue or behind them
pub marked_queue : (b : Board) (m p r : ℕ) (q : List ℕ) → marked m p (with_queue b r q) ≡ with_queue (marked m p b) r q
marked_queue b m p r q = ap (λ (x : Board). with_mptr x r (first_of q)) (links q)
  where
    links : (q : List ℕ) → marked m p (relink link_message b q) ≡ relink link_message (marked m p b) q
    links [] = refl
    links (x ∷ q) =
        let l : List Message = (relink link_message b q).messages in
        ap (with_messages (relink link_message b q)) (change_both no_message l x m (λ u. with_link u (first_of q)) (λ u. with_prio u p) (λ u. refl))
        ∙ ap (λ (y : Board). link_message y x (first_of q)) (links q)

-- ---- tasks
-- LINK of two tasks
pub link-task_comm : (b : Board) (x y u v : ℕ) → x ≢ y → link_task (link_task b x u) y v ≡ link_task (link_task b y v) x u
link-task_comm b x y u v h = ap (with_tasks b) (change_comm no_task b.tasks x y (λ t. task_with_link t u) (λ t. task_with_link t v) h)

-- the record that is there
task_same : (b : Board) (k : ℕ) (t : Task) → t ≡ task b k → with_task b k t ≡ b
task_same b k t e = ap (with_tasks b) (change_same no_task b.tasks k t e)

-- the LINK that is there
pub link-task_same : (b : Board) (x v : ℕ) → next_task b x ≡ v → link_task b x v ≡ b
link-task_same b x v e = task_same b x (task_with_link (task b x) v) (ap (task_with_link (task b x)) (sym e))

-- the MPTR that is there
pub mptr_same : (b : Board) (k v : ℕ) → (task b k).mptr ≡ v → with_mptr b k v ≡ b
mptr_same b k v e = task_same b k (task_with_mptr (task b k) v) (ap (task_with_mptr (task b k)) (sym e))

-- a task just written and changed
pub task_again : (b : Board) (k : ℕ) (f : Task → Task) (t : Task)
    → with_task (with_task b k t) k (f (task (with_task b k t) k)) ≡ with_task b k (f t)
task_again b k f t = ap (with_tasks b) (change_put no_task b.tasks k f t)

-- ---- the stores
-- the queue of task r
abbrev pub queue_store : ℕ → Store Board
queue_store r = record {
  next = next_message;
  link = link_message;
  start = λ b. (task b r).mptr;
  head = λ b. with_mptr b r;
  comm = link-message_comm;
  same = link-message_same;
  again = λ b. mptr_same b r;
  stays = λ b x v. refl;
}

-- the task queue
abbrev pub order_store : Store Board
order_store = record {
  next = next_task;
  link = link_task;
  start = λ b. b.first;
  head = with_first;
  comm = link-task_comm;
  same = link-task_same;
  again = λ b v e. ap (with_first b) (sym e);
  stays = λ b x v. refl;
}
