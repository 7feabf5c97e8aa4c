-- The claims of specs/Claims on the rule and the record that refusal 2 names, proved. Assumes nothing.
use mathlib.Core.Path.{◌≡◌, refl, sym, ap, ◌∙◌, subst}
use mathlib.Core.Logic.{inl, inr, ◌↔◌}
use mathlib.Core.Bool.{Bool, true, false, ◌&&◌, true≢false}
use mathlib.Core.List.{List, [], ◌∷◌}
use Prim.Native.Nat.{ℕ, suc, ◌-◌, ◌≤◌, ◌<◌}
use native.Mathlib.Omega.{arith}
use native.Mathlib.Decide.{ℕ_discrete}
use lib.ListN.{length, get_or}
use lib.Dec.{leb, lit≤}
use borrow.Author.Tests.{leb-true, leb-false, eqb-true, not-false, not-true}
use Rattle.std.specs.Prelude.{Err, Ok}
use Rattle.links.specs.Queue.{ends, which, rearranged, rising, each, smallest_failing}
use Rattle.links.specs.Chain.{In, Out, All}
use Rattle.links.proofs.Bools.{refuted, and_true, cond_holds, each_at, each_fails}
use Rattle.links.proofs.Smallest.{smallest_one, smallest_fails, smallest_least}
use Rattle.links.proofs.Members.{out_not_in}
use Rattle.links.proofs.Exactly.{rearranged_in, which_once}
use Rattle.links.proofs.Listed.{lists_parts, lists_fails}
use Rattle.board.specs.declared.numbers.Size.{Size}
use Rattle.board.specs.declared.places.Place.TheVariants.{Free}
use Rattle.board.specs.Numbers.{Numbered}
use Rattle.board.specs.Places.{is_queued_at}
use Rattle.board.specs.Board.{Board, total, board_of, task, place}
use Rattle.paper.specs.declared.answer.Rule.{Rule}
use Rattle.paper.specs.declared.answer.Rule.TheVariants.{R1, R2, R3, R4, R5, R6, R7}
use Rattle.paper.specs.declared.answer.Refusal.{Refusal}
use Rattle.paper.specs.declared.answer.Refusal.TheVariants.{RuleBroken}
use Rattle.paper.specs.Answers.{rule_number, record_number, told, number_of, handed, Answer, accepts}
use Rattle.paper.specs.Rules.{next_message, message_number, queue, rules2to6, passes}
use Rattle.paper.specs.Rules.{rule2_at, rule3, rule5_at, rule6_at}
use Rattle.paper.specs.Named.{unless, broken2to6, broken_rule}
use Rattle.paper.specs.Refusals.{Test, no1, no2_by, own_row, Verdict, given}
use Rattle.paper.specs.Outcomes.{Outcome, accepted, judge, dispatch, body}
use Rattle.paper.specs.Conversion.{old_passes, old_broken, converted}
use Rattle.paper.specs.Claims.{First, Given, Names, VerdictStays, Edition, today, old, BrokenAt, NoLater, Lowest, LowestIsNamed}
use Rattle.paper.specs.Claims.{Fault, NoEnd, Meets, Misses, Falls, WrongQueue, RuleOnlyWith2}
use Rattle.paper.proofs.Rows.{rules_kept, rule_broken}
use Rattle.paper.proofs.Theorems.{first_above_lem, own_above, first_is_given, rule_at, at_rule, number_2, others_told}
use Rattle.paper.proofs.Which.{which-nth}

-- ---- 2 is given where the length is right and a rule is broken, and nowhere else
module _ (z : Size) (l : List ℕ) (r : Rule) (passed : Bool) (tests : List Test) where
  -- the tests of a call, of the check or of the conversion, and the answer where the outcome is o if none applies
  abbrev all : List Test
  all = no1 z l ∷ no2_by r passed ∷ tests

  abbrev answered : Outcome → Answer
  answered o = (judge l (given all) o).answer

  -- there it is given, and names the rule
  gives_2 : (o : Outcome) → length l ≡ total z → passed ≡ false → answered o ≡ Err (RuleBroken r)
  gives_2 o long broken = ap (λ (v : Verdict). (judge l v o).answer) (rule_broken z l r passed tests long broken)

  -- it is given nowhere else, where the tests behind it are above 2
  only_there : All (λ t. 2 < number_of t.refusal) tests → (a : Answer) → Given a all → (handed a).number ≡ 2
      → (length l ≡ total z) × (passed ≡ false)
  only_there above (Ok a) g n = absurd (omega arith)
  only_there above (Err q) g n = go (g (λ e. let k = ap number_of e in omega arith))
    where
      go : First q all → (length l ≡ total z) × (passed ≡ false)
      go (inl (a, e)) = let k = ap number_of e in absurd (omega arith)
      go (inr (a, inl (b, e))) = (eqb-true (length l) (total z) (not-false _ a), not-true _ b)
      go (inr (a, inr (b, f))) = let k = first_above_lem 2 q tests above f in absurd (omega arith)

  pub names : All (λ t. 2 < number_of t.refusal) tests → (o : Outcome) → Given (answered o) all → Names z l r passed (answered o)
  names above o g =
      let there = only_there above (answered o) g in
      ((there, λ h. ap (λ (a : Answer). (handed a).number) (gives_2 o h.0 h.1)), λ n. gives_2 o (there n).0 (there n).1)

pub verdict_stays : VerdictStays
verdict_stays z l =
    let b = board_of z l in
    let c = b.running in
    let (calls, checks, freshes, converts) = first_is_given z l in (
      (λ call. names z l (broken_rule z b) (passes z b) (own_row z b c call) (own_above z l b c call) (dispatch z l (body z b c call)) (calls call)),
      names z l (broken_rule z b) (passes z b) [] tt (accepted 0 c 0 l) checks,
      names z l (old_broken z b) (old_passes z b) [] tt (converted z l) converts,
      λ long sound. ap (λ (v : Verdict). (judge l v (accepted 0 c 0 l)).answer) (rules_kept z l (broken_rule z b) (passes z b) [] long sound),
    )

-- ---- the lowest rule is named, with the smallest record
-- a rule has a number from 1 to 7
pub rule_number_lem : (r : Rule) → Numbered 7 (rule_number r)
rule_number_lem R1 = (lit≤ tt, lit≤ tt)
rule_number_lem (R2 k) = (lit≤ tt, lit≤ tt)
rule_number_lem R3 = (lit≤ tt, lit≤ tt)
rule_number_lem (R4 m) = (lit≤ tt, lit≤ tt)
rule_number_lem (R5 k) = (lit≤ tt, lit≤ tt)
rule_number_lem (R6 k) = (lit≤ tt, lit≤ tt)
rule_number_lem (R7 c) = (lit≤ tt, lit≤ tt)

module _ (by : Edition) (z : Size) (b : Board) where
  -- the rules as tests, by their numbers
  abbrev rule : ℕ → Bool
  rule i =
      get_or (by.first ∷ each (rule2_at b) z.tasks ∷ rule3 z b ∷ each by.fourth z.messages ∷ each (rule5_at z b) z.tasks
      ∷ each (rule6_at b) z.tasks ∷ by.last ∷ []) (i - 1) true

  -- one that is broken at a record fails
  broken_fails : (r : Rule) → BrokenAt by z b r → rule (rule_number r) ≡ false
  broken_fails R1 h = h
  broken_fails (R2 k) ((l, u), e) = each_fails (rule2_at b) z.tasks k.0 l u e
  broken_fails R3 h = h
  broken_fails (R4 m) ((l, u), e) = each_fails by.fourth z.messages m.0 l u e
  broken_fails (R5 k) ((l, u), e) = each_fails (rule5_at z b) z.tasks k.0 l u e
  broken_fails (R6 k) ((l, u), e) = each_fails (rule6_at b) z.tasks k.0 l u e
  broken_fails (R7 c) (w, e) = e

  -- r is broken, and of those of its number at the smallest record
  abbrev Smallest : Rule → Type 0
  Smallest r = BrokenAt by z b r × ((n : ℕ) → BrokenAt by z b (rule_at (rule_number r) n) → record_number r ≤ n)

  -- where the rules before it hold it is the lowest
  lowest_of : (r : Rule) → each rule (rule_number r - 1) ≡ true → Smallest r → Lowest by z b r
  lowest_of r h (e, least) = (e, later)
    where
      later : (s : Rule) → BrokenAt by z b s → NoLater r s
      later s g = step (ℕ_discrete (rule_number r) (rule_number s)) (leb (rule_number s) (rule_number r - 1)) refl
        where
          step : Dec (rule_number r ≡ rule_number s) → (t : Bool) → leb (rule_number s) (rule_number r - 1) ≡ t → NoLater r s
          step (yes i) t k =
              let here : BrokenAt by z b (rule_at (rule_number s) (record_number s)) = subst (BrokenAt by z b) (sym (at_rule s)) g in
              inr (i, least (record_number s) (subst (λ (n : ℕ). BrokenAt by z b (rule_at n (record_number s))) (sym i) here))
          step (no i) true k =
              let holds = each_at rule (rule_number r - 1) h (rule_number s) (rule_number_lem s).0 (leb-true _ _ k) in
              absurd (true≢false (sym holds ∙ broken_fails s g))
          step (no i) false k = let j = leb-false (rule_number s) (rule_number r - 1) k in inl (omega arith)

  -- the rules in order: r where it is broken, else one of those behind it
  lowest_unless : (n : ℕ) (r s : Rule) → each rule n ≡ true → rule_number r ≡ suc n → (rule (suc n) ≡ false → Smallest r)
      → (each rule (suc n) ≡ true → Lowest by z b s) → Lowest by z b (unless (rule (suc n)) r s)
  lowest_unless n r s h i here behind =
      cond_holds (Lowest by z b) (rule (suc n)) s r (λ e. behind (and_true (each rule n) (rule (suc n)) h e))
      (λ e. let j : n ≡ rule_number r - 1 = omega arith in lowest_of r (rw (← j) h) (here e))

-- R2, R4, R5 and R6 alike
smallest : (f : ℕ → Bool) (n : ℕ) → each f n ≡ false → let k = smallest_failing f n in
    (Numbered n k × (f k ≡ false)) × ((i : ℕ) → Numbered n i × (f i ≡ false) → k ≤ i)
smallest f n e = ((smallest_one f n e, smallest_fails f n e), λ i (w, g). smallest_least f n e i w.0 g)

-- the first six tests in a row are the first and the others together
regrouped : (a b c d e f : Bool) → a && b && c && d && e && f ≡ true → a && (b && c && d && e && f) ≡ true
regrouped true b c d e f h = h
regrouped false b c d e f h = h

-- and so are the rules that they name
in_a_row : (b c d e f : Bool) (r s t u v w : Rule)
    → unless (b && c && d && e && f) (unless b r (unless c s (unless d t (unless e u v)))) w
    ≡ unless b r (unless c s (unless d t (unless e u (unless f v w))))
in_a_row true true true true f r s t u v w = refl
in_a_row true true true false f r s t u v w = refl
in_a_row true true false e f r s t u v w = refl
in_a_row true false d e f r s t u v w = refl
in_a_row false c d e f r s t u v w = refl

-- R1, R4 and R7 by the rules of today or by the old ones
named : (by : Edition) (z : Size) (b : Board) → let r4 = by.fourth in by.first && rules2to6 z b r4 && by.last ≡ false
    → Lowest by z b (unless by.first R1 (unless (rules2to6 z b r4) (broken2to6 z b r4) (R7 by.told)))
named by z b broken =
    let r2 = each (rule2_at b) z.tasks in
    let r4 = each by.fourth z.messages in
    let r5 = each (rule5_at z b) z.tasks in
    let r6 = each (rule6_at b) z.tasks in
    lowest_unless by z b 0 R1 _ refl refl (λ e. (e, λ n h. omega arith))
    (λ h. subst (Lowest by z b) (sym (in_a_row r2 (rule3 z b) r4 r5 r6 _ _ _ _ _ (R7 by.told)))
    (lowest_unless by z b 1 (R2 _) _ h refl (smallest (rule2_at b) z.tasks)
    (λ h. lowest_unless by z b 2 R3 _ h refl (λ e. (e, λ n h. omega arith))
    (λ h. lowest_unless by z b 3 (R4 _) _ h refl (smallest by.fourth z.messages)
    (λ h. lowest_unless by z b 4 (R5 _) _ h refl (smallest (rule5_at z b) z.tasks)
    (λ h. lowest_unless by z b 5 (R6 _) _ h refl (smallest (rule6_at b) z.tasks)
    (λ h. let six = regrouped by.first r2 (rule3 z b) r4 r5 r6 h in
    let e = refuted by.last (λ e. true≢false (sym (and_true (by.first && rules2to6 z b by.fourth) by.last six e) ∙ broken)) in
    lowest_of by z b (R7 _) h ((refl, e), λ n (w, g). omega arith))))))))

pub lowest_is_named : LowestIsNamed
lowest_is_named z b = (named (today z b) z b, named (old z b) z b)

-- ---- R5 at task k, in words
module _ (z : Size) (b : Board) (k : ℕ) where
  -- the messages queued there
  abbrev own : List ℕ
  own = which (is_queued_at k) 1 b.places

  own_queued : (m : ℕ) → In m own ↔ (is_queued_at k (place b m) ≡ true)
  own_queued = which-nth Free (is_queued_at k) b.places refl

  not_queued : (m : ℕ) → Out m own → is_queued_at k (place b m) ≡ false
  not_queued m o = refuted _ (λ e. out_not_in m own o ((own_queued m).1 e))

  -- where it is broken there is a fault
  faulty : rule5_at z b k ≡ false → Fault z b k
  faulty =
      lists_fails (next_message b) (message_number b) z.messages (task b k).mptr own (Fault z b k)
      (which_once (is_queued_at k) 1 b.places) NoEnd (λ m i o. Meets m i (not_queued m o))
      (λ m i. Misses m ((own_queued m).0 i)) Falls

  -- where it holds, its parts do, and there is none
  parts : rule5_at z b k ≡ true
      → (ends (next_message b) z.messages (task b k).mptr ≡ true) × (rearranged (queue z b k) own ≡ true)
      × (rising (message_number b) 0 (queue z b k) ≡ true)
  parts = lists_parts (next_message b) (message_number b) z.messages (task b k).mptr own

  visits_own : rule5_at z b k ≡ true → (m : ℕ) → In m (queue z b k) ↔ In m own
  visits_own e = rearranged_in (queue z b k) own (parts e).1

  faultless : rule5_at z b k ≡ true → Fault z b k → ⊥
  faultless e (NoEnd h) = true≢false (sym (parts e).0 ∙ h)
  faultless e (Meets m i h) = true≢false (sym ((own_queued m).0 ((visits_own e m).0 i)) ∙ h)
  faultless e (Misses m h o) = out_not_in m (queue z b k) o ((visits_own e m).1 ((own_queued m).1 h))
  faultless e (Falls h) = true≢false (sym (parts e).2 ∙ h)

pub wrong_queue : WrongQueue
wrong_queue z b k = (faulty z b k, λ f. refuted (rule5_at z b k) (λ e. faultless z b k e f))

-- ---- a rule only with 2
-- what a refusal names where the rule of its number names none
no_record : (q : Refusal) (i : ℕ) → ((n : ℕ) → record_number (rule_at i n) ≡ 0) → (told q).rule ≡ i → (told q).record_no ≡ 0
no_record q i none e = step (ℕ_discrete (number_of q) 2)
  where
    step : Dec (number_of q ≡ 2) → (told q).record_no ≡ 0
    step (yes two) =
        let (r, is) = number_2 q two in
        let number : rule_number r ≡ i = sym (ap (λ (x : Refusal). (told x).rule) is) ∙ e in
        ap (λ (x : Refusal). (told x).record_no) is ∙ ap record_number (sym (at_rule r))
        ∙ ap (λ (j : ℕ). record_number (rule_at j (record_number r))) number ∙ none (record_number r)
    step (no other) = (others_told q other).1

pub rule_only_with_2 : RuleOnlyWith2
rule_only_with_2 (Ok a) = ((λ e. absurd (omega arith)), (λ n. refl), (λ e. refl), (λ e. refl), λ e. refl)
rule_only_with_2 (Err q) = (
  (λ two. let (r, is) = number_2 q two in subst (λ (x : Refusal). Numbered 7 (told x).rule) (sym is) (rule_number_lem r)),
  (λ other. (others_told q other).0),
  no_record q 0 (λ n. refl),
  no_record q 1 (λ n. refl),
  no_record q 3 (λ n. refl),
)
