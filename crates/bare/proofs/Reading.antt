-- What is read of a board without DEBUG and MROB is what is read of the board: who runs, the queues, the rules one by one, and which is broken.
-- Assumes nothing.
use mathlib.Core.Path.{◌≡◌, refl, ap, ap₂, ◌∙◌, fun_ext}
use mathlib.Core.Bool.{Bool, cond, not, ◌&&◌}
use mathlib.Core.List.{List, [], ◌∷◌, map}
use Prim.Native.Nat.{ℕ, suc}
use lib.Dec.{eqb, ltb}
use Rattle.links.specs.Queue.{walk, which, lists, first_with, cons_if, each}
use Rattle.board.specs.declared.numbers.Size.{Size}
use Rattle.board.specs.declared.records.Task.{Task}
use Rattle.board.specs.Status.{MHBS, has, is_ready, number}
use Rattle.board.specs.Records.{no_task, task_with_stat}
use Rattle.board.specs.Places.{is_queued_at}
use Rattle.board.specs.Board.{Board, task, message, place}
use Rattle.board.proofs.Numbered.{nth-map}
use Rattle.paper.specs.Rules.{is_there, present, next_task, next_message, order, queue, empty_queue, task_number, message_number, ready}
use Rattle.paper.specs.Rules.{may_run, first_ready, runs_next, good_task, good_flags, good_message, rule2_at, rule3, rule4_at, rule5_at, rule6_at, rule7, passes}
use Rattle.paper.specs.Named.{broken_rule}
use Rattle.paper.specs.Effects.{find}
use Rattle.bare.specs.Bare.{bare, bare_task, bare_board}
use Rattle.bare.proofs.Bits.{Other, mhbs, tcbb}
use Rattle.bare.proofs.Tasks.{is_ready-bare, good_flags-bare, same_bare, is_there-bare, good_task-bare}

module _ (b : Board) where
  -- ---- a task by its number
  pub task-bare : (k : ℕ) → task (bare_board b) k ≡ bare_task (task b k)
  task-bare k = nth-map bare_task no_task no_task b.tasks k refl

  -- what the two bits don't matter to
  read_bare : {A : Type 0} (f : Task → A) → ((t : Task) → f (task_with_stat t (bare t.stat)) ≡ f t) → (k : ℕ)
      → f (task (bare_board b) k) ≡ f (task b k)
  read_bare f h k = ap f (task-bare k) ∙ same_bare (task b k) f (h (task b k))

  pub has-bare : (k bit : ℕ) → Other bit → has (task (bare_board b) k).stat bit ≡ has (task b k).stat bit
  has-bare k bit o = read_bare (λ t. has t.stat bit) (λ t. o.reads t.stat) k

  pub present-bare : (k : ℕ) → present (bare_board b) k ≡ present b k
  present-bare = read_bare is_there (λ t. tcbb.reads t.stat)

  ready-bare : (k : ℕ) → ready (bare_board b) k ≡ ready b k
  ready-bare = read_bare (λ t. is_ready t.stat) (λ t. is_ready-bare t.stat)

  pub prio-bare : (k : ℕ) → (task (bare_board b) k).prio ≡ (task b k).prio
  prio-bare = read_bare (λ t. t.prio) (λ t. refl)

  pub task_number-bare : (k : ℕ) → task_number (bare_board b) k ≡ task_number b k
  task_number-bare = read_bare (λ t. number t.prio) (λ t. refl)

  next_task-bare : (k : ℕ) → next_task (bare_board b) k ≡ next_task b k
  next_task-bare = read_bare (λ t. t.link) (λ t. refl)

  mptr-bare : (k : ℕ) → (task (bare_board b) k).mptr ≡ (task b k).mptr
  mptr-bare = read_bare (λ t. t.mptr) (λ t. refl)

  pub empty_queue-bare : (k : ℕ) → empty_queue (bare_board b) k ≡ empty_queue b k
  empty_queue-bare = read_bare (λ t. eqb t.mptr 0) (λ t. refl)

module _ (z : Size) (b : Board) where
  -- ---- the queues, who runs, who has a name
  pub order-bare : order z (bare_board b) ≡ order z b
  order-bare = ap (λ (next : ℕ → ℕ). walk next z.messages b.first) (fun_ext (next_task-bare b))

  pub queue-bare : (k : ℕ) → queue z (bare_board b) k ≡ queue z b k
  queue-bare k = ap (walk (next_message b) z.messages) (mptr-bare b k)

  first_ready-bare : first_ready z (bare_board b) ≡ first_ready z b
  first_ready-bare = ap₂ first_with (fun_ext (ready-bare b)) order-bare

  may_run-bare : (c : ℕ) → may_run z (bare_board b) c ≡ may_run z b c
  may_run-bare c = λ i. let f = fun_ext (ready-bare b) i in let number = fun_ext (task_number-bare b) i in
      f c && each (λ k. not (f k && ltb (number k) (number c))) z.tasks

  pub runs_next-bare : runs_next z (bare_board b) ≡ runs_next z b
  runs_next-bare = ap₂ (λ (t : Bool) (k : ℕ). cond t b.running k) (may_run-bare b.running) first_ready-bare

  pub find-bare : (name : ℕ) → find z (bare_board b) name ≡ find z b name
  find-bare name = ap₂ first_with (fun_ext (read_bare b (λ t. eqb t.name name) (λ t. refl))) order-bare

  -- ---- the rules
  rule2_bare : (k : ℕ) → rule2_at (bare_board b) k ≡ rule2_at b k
  rule2_bare k = ap good_task (task-bare b k) ∙ good_task-bare (task b k)

  which-bare : (l : List Task) (n : ℕ) → which is_there n (map bare_task l) ≡ which is_there n l
  which-bare [] n = refl
  which-bare (t ∷ l) n = ap₂ (λ (there : Bool) (q : List ℕ). cons_if there n q) (is_there-bare t) (which-bare l (suc n))

  rule3-bare : rule3 z (bare_board b) ≡ rule3 z b
  rule3-bare = λ i.
      lists (fun_ext (next_task-bare b) i) (fun_ext (task_number-bare b) i) z.messages b.first (which-bare b.tasks 1 i)

  rule4_bare : (m : ℕ) → rule4_at z (bare_board b) m ≡ rule4_at z b m
  rule4_bare m = ap (λ (there : ℕ → Bool). good_message z there (message b m) (place b m)) (fun_ext (present-bare b))

  rule5-bare : (k : ℕ) → rule5_at z (bare_board b) k ≡ rule5_at z b k
  rule5-bare k =
      ap (λ (m : ℕ). lists (next_message b) (message_number b) z.messages m (which (is_queued_at k) 1 b.places)) (mptr-bare b k)

  rule6_bare : (k : ℕ) → rule6_at (bare_board b) k ≡ rule6_at b k
  rule6_bare = read_bare b (λ t. good_flags t.stat (eqb t.mptr 0)) (λ t. good_flags-bare t.stat (eqb t.mptr 0))

  rule7-bare : rule7 z (bare_board b) ≡ rule7 z b
  rule7-bare =
      let c : ℕ = b.running in λ i.
      cond (each (λ k. not (fun_ext (ready-bare b) i k)) z.tasks) (eqb c 0) (may_run-bare c i && not (has-bare b c MHBS mhbs i))

  pub passes-bare : passes z (bare_board b) ≡ passes z b
  passes-bare = rw (fun_ext rule2_bare, rule3-bare, fun_ext rule4_bare, fun_ext rule5-bare, fun_ext rule6_bare, rule7-bare)

  pub broken_bare : broken_rule z (bare_board b) ≡ broken_rule z b
  broken_bare = rw (fun_ext rule2_bare, rule3-bare, fun_ext rule4_bare, fun_ext rule5-bare, fun_ext rule6_bare)
