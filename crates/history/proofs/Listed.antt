-- What is installed and what is placed, and the lists of numbers that name their rankings: with a task more, a task less, a
-- message placed and a message taken.
-- Assumes nothing.
use mathlib.Core.Path.{◌≡◌, refl, sym, ap, ◌∙◌, subst}
use mathlib.Core.Logic.{◌≢◌, ⊎_elim}
use mathlib.Core.Bool.{Bool, true, false, cond, not}
use mathlib.Core.List.{List, [], ◌∷◌, ◌++◌, append-nil}
use Prim.Native.Nat.{ℕ, suc}
use native.Mathlib.Omega.{arith}
use lib.Dec.{eqb}
use borrow.Author.Tests.{eqb-true, eqb-false, eq-eqb, ne_eqb}
use Rattle.links.specs.Chain.{In}
use Rattle.links.proofs.Members.{in_add}
use Rattle.links.specs.Queue.{goes_before, insert, without}
use Rattle.board.specs.declared.numbers.Size.{Size}
use Rattle.board.specs.Numbers.{Numbered}
use Rattle.kept.specs.Touched.{changed}
use Rattle.history.specs.Ranking.{Entry, keep, DifferentTimes, Names}
use Rattle.history.proofs.Entries.{times-keep, in_keep, keep-keep, keep_add, keep_all}
use Rattle.history.proofs.Names.{names_add, names_without}
use Rattle.history.proofs.Rolls.{Roll, others, roll_stays, roll_without, roll_add}

-- placed at task k
abbrev pub is_at : ℕ → Entry → Bool
is_at k e = eqb e.at k

-- t and m read the priority numbers of tasks and messages; l is installed and s placed; q names the tasks, f k the messages at k
pub record Lists (z : Size) (t m : ℕ → ℕ) (now : ℕ) (l s : List Entry) (q : List ℕ) (f : ℕ → List ℕ) : Type 0 where
  pub tasks : Roll t now l
  pub messages : Roll m now s
  pub homes : (x : Entry) → In x s → Numbered z.tasks x.at
  pub order : Names l q
  pub queues : (k : ℕ) → Numbered z.tasks k → Names (keep (is_at k) s) (f k)

module _ (z : Size) (tasks messages : ℕ → ℕ) (now : ℕ) (l s : List Entry) (order : List ℕ) (queues : ℕ → List ℕ)
    (h : Lists z tasks messages now l s order queues) where
  -- numbers that are the same for all who stand there
  pub lists_stays : (tasks' messages' : ℕ → ℕ) → ((x : Entry) → In x l → tasks' x.id ≡ tasks x.id)
      → ((x : Entry) → In x s → messages' x.id ≡ messages x.id) → Lists z tasks' messages' now l s order queues
  lists_stays tasks' messages' f g = record {
    tasks = roll_stays tasks tasks' now l h.tasks now (omega arith) f;
    messages = roll_stays messages messages' now s h.messages now (omega arith) g;
    homes = h.homes;
    order = h.order;
    queues = h.queues;
  }

  -- ---- tasks
  -- one more, installed now
  pub lists-install : (tasks' : ℕ → ℕ) (e : Entry) → e.time ≡ now → tasks' e.id ≡ e.number
      → ((x : Entry) → In x l → x.id ≢ e.id) → ((k : ℕ) → k ≢ e.id → tasks' k ≡ tasks k)
      → Lists z tasks' messages (suc now) (l ++ (e ∷ [])) s
      (insert (λ y. goes_before e.fifo e.number (tasks y)) e.id order) queues
  lists-install tasks' e made own new same = record {
    tasks = roll_add tasks tasks' now l h.tasks e made own new same;
    messages = roll_stays messages messages now s h.messages (suc now) (omega arith) (λ x i. refl);
    homes = h.homes;
    order = names_add l order e tasks h.tasks.times (λ x i. omega (arith, h.tasks.past x i)) h.tasks.numbers h.order;
    queues = h.queues;
  }

  -- one less
  pub lists_cancel : (tasks' : ℕ → ℕ) (k : ℕ) → ((j : ℕ) → j ≢ k → tasks' j ≡ tasks j)
      → Lists z tasks' messages now (keep (others k) l) s (without k order) queues
  lists_cancel tasks' k same = record {
    tasks = roll_without tasks tasks' now l h.tasks k same;
    messages = h.messages;
    homes = h.homes;
    order = names_without l order k h.order h.tasks.single;
    queues = h.queues;
  }

  -- ---- messages
  times_at : (k : ℕ) → DifferentTimes (keep (is_at k) s)
  times_at k = times-keep (is_at k) s h.messages.times

  from : (k : ℕ) (x : Entry) → In x (keep (is_at k) s) → In x s
  from k x i = ((in_keep (is_at k) x s).0 i).0

  -- ---- one more, placed now
  module _ (messages' : ℕ → ℕ) (e : Entry) (made : e.time ≡ now) (own : messages' e.id ≡ e.number)
      (new : (x : Entry) → In x s → x.id ≢ e.id) (same : (m : ℕ) → m ≢ e.id → messages' m ≡ messages m)
      (home : Numbered z.tasks e.at) where
    abbrev with : List ℕ → List ℕ
    with q = insert (λ y. goes_before e.fifo e.number (messages y)) e.id q

    -- the queue of its task, and of another
    names_at : Names (keep (is_at e.at) (s ++ (e ∷ []))) (with (queues e.at))
    names_at =
        let k : ℕ = e.at in
        subst (λ (x : List Entry). Names x (with (queues k)))
        (sym (keep_add (is_at k) s e ∙ ap (λ (t : Bool). keep (is_at k) s ++ cond t (e ∷ []) []) (eq-eqb k k refl)))
        (names_add (keep (is_at k) s) (queues k) e messages (times_at k) (λ x i. omega (arith, h.messages.past x (from k x i)))
        (λ x i. h.messages.numbers x (from k x i)) (h.queues k home))

    names_apart : (k : ℕ) → Numbered z.tasks k → k ≢ e.at → Names (keep (is_at k) (s ++ (e ∷ []))) (queues k)
    names_apart k n d =
        subst (λ (x : List Entry). Names x (queues k))
        (sym (keep_add (is_at k) s e ∙ ap (λ (t : Bool). keep (is_at k) s ++ cond t (e ∷ []) []) (ne_eqb e.at k (λ i. d (sym i)))
        ∙ append-nil (keep (is_at k) s))) (h.queues k n)

    queues_add : (k : ℕ) → Numbered z.tasks k → (t : Bool) → eqb k e.at ≡ t
        → Names (keep (is_at k) (s ++ (e ∷ []))) (cond t (with (queues e.at)) (queues k))
    queues_add k n true i =
        subst (λ (j : ℕ). Names (keep (is_at j) (s ++ (e ∷ []))) (with (queues e.at))) (sym (eqb-true k e.at i)) names_at
    queues_add k n false i = names_apart k n (eqb-false k e.at i)

    homes_add : (x : Entry) → In x (s ++ (e ∷ [])) → Numbered z.tasks x.at
    homes_add x i =
        ⊎_elim (h.homes x) (λ p. subst (λ (y : Entry). Numbered z.tasks y.at) (sym p) home) ((in_add x e s).0 i)

    -- its task has it where its priority puts it
    pub lists-place : Lists z tasks messages' (suc now) l (s ++ (e ∷ [])) order (changed queues e.at
        (insert (λ y. goes_before e.fifo e.number (messages y)) e.id (queues e.at)))
    lists-place = record {
      tasks = roll_stays tasks tasks now l h.tasks (suc now) (omega arith) (λ x i. refl);
      messages = roll_add messages messages' now s h.messages e made own new same;
      homes = homes_add;
      order = h.order;
      queues = λ k n. queues_add k n (eqb k e.at) refl;
    }

  -- ---- one less, that is placed at r if anywhere
  module _ (m r : ℕ) (home : (x : Entry) → In x s → x.id ≡ m → x.at ≡ r) where
    -- the queue of r, and of another
    names_less : Numbered z.tasks r → Names (keep (is_at r) (keep (others m) s)) (without m (queues r))
    names_less n =
        subst (λ (x : List Entry). Names x (without m (queues r))) (keep-keep (others m) (is_at r) s)
        (names_without (keep (is_at r) s) (queues r) m (h.queues r n)
        (λ x y i j. h.messages.single x y (from r x i) (from r y j)))

    names_left : (k : ℕ) → Numbered z.tasks k → k ≢ r → Names (keep (is_at k) (keep (others m) s)) (queues k)
    names_left k n d =
        subst (λ (x : List Entry). Names x (queues k))
        (sym (keep-keep (is_at k) (others m) s ∙ keep_all (others m) (keep (is_at k) s) another)) (h.queues k n)
      where
        another : (x : Entry) → In x (keep (is_at k) s) → others m x ≡ true
        another x i =
            let t = (in_keep (is_at k) x s).0 i in
            ap not (ne_eqb x.id m (λ g. d (sym (eqb-true x.at k t.1) ∙ home x t.0 g)))

    queues_less : (k : ℕ) → Numbered z.tasks k → (t : Bool) → eqb k r ≡ t
        → Names (keep (is_at k) (keep (others m) s)) (cond t (without m (queues r)) (queues k))
    queues_less k n true i =
        let e = eqb-true k r i in
        subst (λ (j : ℕ). Names (keep (is_at j) (keep (others m) s)) (without m (queues r))) (sym e)
        (names_less (subst (Numbered z.tasks) e n))
    queues_less k n false i = names_left k n (eqb-false k r i)

    -- r has it no more
    pub lists-take : Lists z tasks messages now l (keep (others m) s) order (changed queues r (without m (queues r)))
    lists-take = record {
      tasks = h.tasks;
      messages = roll_without messages messages now s h.messages m (λ k d. refl);
      homes = λ x i. h.homes x ((in_keep (others m) x s).0 i).0;
      order = h.order;
      queues = λ k n. queues_less k n (eqb k r) refl;
    }
