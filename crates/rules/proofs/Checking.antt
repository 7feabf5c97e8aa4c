-- R2 to R6 together: the first rule that fails is the one that is named, and where all hold R3's walk met the first ready task.
-- Assumes nothing.
use mathlib.Core.Path.{◌≡◌, refl, sym, ap, ◌∙◌}
use mathlib.Core.Bool.{Bool, true, false, cond, not}
use mathlib.Core.List.{List}
use Prim.Native.Nat.{ℕ}
use Rattle.std.specs.Prelude.{Option, Some, None, Result, Err, Ok}
use Rattle.links.specs.Queue.{each, smallest_failing}
use Rattle.links.proofs.Bools.{cond_holds}
use Rattle.links.proofs.Smallest.{smallest_none}
use Rattle.board.specs.declared.numbers.Size.{Size}
use Rattle.board.specs.declared.numbers.TaskNo.{TaskNo}
use Rattle.board.specs.declared.numbers.MsgNo.{MsgNo}
use Rattle.board.specs.Numbers.{task_no, msg_no, task_meant, message_meant}
use Rattle.board.specs.Board.{Board, board_of}
use Rattle.paper.specs.declared.answer.Rule.TheVariants.{R3, R4, R5, R6}
use Rattle.paper.specs.Rules.{first_ready, rule2_at, rule3, rule5_at, rule6_at}
use Rattle.paper.specs.declared.answer.Rule.{Rule}
use Rattle.order_rules.specs.Order.{order_from, listed_by}
use Rattle.order_rules.proofs.OrderTurns.{listed, order-counted}
use Rattle.queue_rules.specs.Walks.{walked, saw, breaking}
use Rattle.queue_rules.proofs.Lists.{rule5-counted}
use Rattle.queue_rules.proofs.Breaking.{breaking_none, breaking-task, breaking-nobody, breaking-message, breaking-nothing}
use Rattle.rules.specs.declared.records.Tasks.{Tasks}
use Rattle.rules.specs.declared.records.Messages.{Messages}
use Rattle.rules.specs.declared.Edition.{Edition}
use Rattle.rules.specs.Checked.{rule4_of, messages_if, messages_seen, tasks_if, tasks_seen, between_of}

-- ---- R3's answer
-- is it broken
abbrev is_broken : Result (Option TaskNo) Rule → Bool
is_broken (Err r) = true
is_broken (Ok c) = false

-- the first ready task, d where it is broken
abbrev first_or : Option TaskNo → Result (Option TaskNo) Rule → Option TaskNo
first_or d (Err r) = d
first_or d (Ok c) = c

answer_broken : (t : Bool) (c : Option TaskNo) → is_broken (cond t (Ok c) (Err R3)) ≡ not t
answer_broken true c = refl
answer_broken false c = refl

answer_first : (t : Bool) (c : Option TaskNo) → first_or c (cond t (Ok c) (Err R3)) ≡ c
answer_first true c = refl
answer_first false c = refl

not_back : (s t : Bool) → not s ≡ t → s ≡ not t
not_back true t e = ap not e
not_back false t e = ap not e

-- ---- the board l
module _ (edition : Edition) (z : Size) (l : List ℕ) where
  abbrev b : Board
  b = board_of z l

  abbrev r2 : Bool
  r2 = each (rule2_at b) z.tasks

  abbrev r4 : Bool
  r4 = each (rule4_of edition z b) z.messages

  abbrev r5 : Bool
  r5 = each (rule5_at z b) z.tasks

  abbrev r6 : Bool
  r6 = each (rule6_at b) z.tasks

  -- ---- R2 to R6: the first that fails, with the record
  module _ (h2 : r2 ≡ true) where
    pub breaks3 : rule3 z b ≡ false → Err R3 ≡ between_of edition z b
    breaks3 e = rw (h2, e)

    module _ (h3 : rule3 z b ≡ true) where
      pub breaks4 : {m : MsgNo} → r4 ≡ false → m ≡ msg_no (smallest_failing (rule4_of edition z b) z.messages) → Err (R4 m) ≡ between_of edition z b
      breaks4 e n = rw (h2, h3, e, n)

      module _ (h4 : r4 ≡ true) where
        pub breaks5 : {k : TaskNo} → r5 ≡ false → k ≡ task_no (smallest_failing (rule5_at z b) z.tasks) → Err (R5 k) ≡ between_of edition z b
        breaks5 e n = rw (h2, h3, h4, e, n)

        module _ (h5 : r5 ≡ true) where
          pub breaks6 : {k : TaskNo} → r6 ≡ false → k ≡ task_no (smallest_failing (rule6_at b) z.tasks) → Err (R6 k) ≡ between_of edition z b
          breaks6 e n = rw (h2, h3, h4, h5, e, n)

          pub all_hold : {f : Option TaskNo} → r6 ≡ true → f ≡ task_meant z (first_ready z b) → Ok f ≡ between_of edition z b
          all_hold e n = rw (h2, h3, h4, h5, e, n)

  -- ---- what the look at the tasks tells
  module _ {x : Tasks} (ex : x ≡ tasks_seen z b) where
    seen2 : x.breaks2 ≡ breaking z (rule2_at b)
    seen2 =
        ap (λ (t : Tasks). t.breaks2) ex
        ∙ cond_holds (λ (t : Tasks). t.breaks2 ≡ breaking z (rule2_at b)) r2 _ _ (breaking_none z (rule2_at b)) (λ e. refl)

    module _ (e : x.breaks2 ≡ None) where
      pub kept2 : r2 ≡ true
      kept2 = breaking-nobody z (rule2_at b) (sym seen2 ∙ e)

      -- so R3 is asked with the number of those present
      pub order_asked : {o : Result (Option TaskNo) Rule} → o ≡ listed_by x.present (order_from z b z.messages b.first) → o ≡ listed z l
      order_asked eo = eo ∙ order-counted z l x.present (ap (λ (t : Tasks). t.present) ex ∙ ap (λ (t : Bool). (tasks_if z b t).present) kept2)

      seen6 : x.breaks6 ≡ breaking z (rule6_at b)
      seen6 = ap (λ (t : Tasks). t.breaks6) ex ∙ ap (λ (t : Bool). (tasks_if z b t).breaks6) kept2

      pub broken6 : {k : TaskNo} → x.breaks6 ≡ Some k → (r6 ≡ false) × (k ≡ task_no (smallest_failing (rule6_at b) z.tasks))
      broken6 d = breaking-task z (rule6_at b) (sym seen6 ∙ d)

      pub kept6 : x.breaks6 ≡ None → r6 ≡ true
      kept6 d = breaking-nobody z (rule6_at b) (sym seen6 ∙ d)

  -- ---- and the look at the messages
  module _ {y : Messages} (ey : y ≡ messages_seen edition z b) where
    seen4 : y.breaks4 ≡ message_meant z (smallest_failing (rule4_of edition z b) z.messages)
    seen4 =
        ap (λ (t : Messages). t.breaks4) ey
        ∙ cond_holds (λ (t : Messages). t.breaks4 ≡ message_meant z (smallest_failing (rule4_of edition z b) z.messages)) r4 _ _
        (λ e. sym (ap (message_meant z) (smallest_none (rule4_of edition z b) z.messages e))) (λ e. refl)

    pub broken4 : {m : MsgNo} → y.breaks4 ≡ Some m → (r4 ≡ false) × (m ≡ msg_no (smallest_failing (rule4_of edition z b) z.messages))
    broken4 e = breaking-message z (rule4_of edition z b) (sym seen4 ∙ e)

    module _ (e : y.breaks4 ≡ None) where
      pub kept4 : r4 ≡ true
      kept4 = breaking-nothing z (rule4_of edition z b) (sym seen4 ∙ e)

      -- so R5 is asked with the number of those queued
      module _ {t : Option TaskNo} (et : t ≡ cond (saw (walked b y.queued z.tasks) y.queued) None (breaking z (rule5_at z b))) where
        seen5 : t ≡ breaking z (rule5_at z b)
        seen5 =
            et
            ∙ ap (λ (s : Bool). cond s None (breaking z (rule5_at z b)))
            (rule5-counted z l y.queued (ap (λ (t : Messages). t.queued) ey ∙ ap (λ (t : Bool). (messages_if edition z b t).queued) kept4))
            ∙ cond_holds (λ (t : Option TaskNo). t ≡ breaking z (rule5_at z b)) r5 None _ (breaking_none z (rule5_at z b)) (λ e. refl)

        pub broken5 : {k : TaskNo} → t ≡ Some k → (r5 ≡ false) × (k ≡ task_no (smallest_failing (rule5_at z b) z.tasks))
        broken5 d = breaking-task z (rule5_at z b) (sym seen5 ∙ d)

        pub kept5 : t ≡ None → r5 ≡ true
        kept5 d = breaking-nobody z (rule5_at z b) (sym seen5 ∙ d)

  -- ---- R3's walk
  pub out_of_order : {r : Rule} → Err r ≡ listed z l
      → (rule3 z b ≡ false) × (◌≡◌ {A = Result (Option TaskNo) Rule} (Err r) (Err R3))
  out_of_order {r = r} e = go (rule3 z b) refl e
    where
      go : (t : Bool) → rule3 z b ≡ t → Err r ≡ cond t (Ok (task_meant z (first_ready z b))) (Err R3)
          → (rule3 z b ≡ false) × (◌≡◌ {A = Result (Option TaskNo) Rule} (Err r) (Err R3))
      go true h f = let i : ⊥ = cc in absurd i
      go false h f = (h, f)

  module _ {c : Option TaskNo} (e : Ok c ≡ listed z l) where
    pub in_order : rule3 z b ≡ true
    in_order = not_back (rule3 z b) false (sym (answer_broken (rule3 z b) _) ∙ ap is_broken (sym e))

    pub first_met : c ≡ task_meant z (first_ready z b)
    first_met = ap (first_or (task_meant z (first_ready z b))) e ∙ answer_first (rule3 z b) (task_meant z (first_ready z b))
