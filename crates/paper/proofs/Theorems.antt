-- The claims of specs/Claims, proved. Assumes nothing.
use mathlib.Core.Path.{◌≡◌, refl, sym, ap, ◌∙◌, subst}
use mathlib.Core.Logic.{◌≢◌, inl, inr}
use mathlib.Core.Bool.{Bool, true, false, cond, ◌&&◌, ◌||◌}
use mathlib.Core.List.{List, [], ◌∷◌}
use Prim.Native.Nat.{ℕ, zero, suc, ◌-◌, ◌<◌}
use native.Mathlib.Omega.{arith}
use lib.ListN.{get_or}
use lib.Dec.{eqb, ltb}
use borrow.Author.Tests.{ltb-true, eqb-true, ne_eqb, not-false}
use Rattle.std.specs.Prelude.{Err, Ok}
use Rattle.links.specs.Chain.{All}
use Rattle.links.proofs.Bools.{both, cond_holds, every}
use Rattle.links.proofs.Members.{all_map}
use Rattle.board.specs.declared.numbers.Size.{Size}
use Rattle.board.specs.Numbers.{task_no, msg_no}
use Rattle.board.specs.Status.{MHBS, has}
use Rattle.board.specs.Board.{Board, board_of, bytes_of, task}
use Rattle.paper.specs.declared.call.Call.{Call}
use Rattle.paper.specs.declared.call.Call.TheVariants.{Find}
use Rattle.paper.specs.Arguments.{calls_of, arguments_of}
use Rattle.paper.specs.declared.answer.Rule.{Rule}
use Rattle.paper.specs.declared.answer.Rule.TheVariants.{R1, R2, R3, R4, R5, R6, R7}
use Rattle.paper.specs.declared.answer.Refusal.{Refusal}
use Rattle.paper.specs.declared.answer.Refusal.TheVariants.{WrongLength, RuleBroken, NobodyRuns, NoSuchMessage, NotHeld, NoSuchTask}
use Rattle.paper.specs.declared.answer.Refusal.TheVariants.{BadPriority, NotInstallable, BadStatus, TaskBusy, NoneFree, NotQueued}
use Rattle.paper.specs.declared.answer.Refusal.TheVariants.{NotItsSender, BadSender, NothingToDeliver, NoDelay, NoTimerFree, BadTimer}
use Rattle.paper.specs.Answers.{rule_number, record_number, Told, told, number_of, Handed, handed, Answer, accepts}
use Rattle.paper.specs.Rules.{empty_queue, runs_next, passes}
use Rattle.paper.specs.Named.{broken_rule}
use Rattle.paper.specs.Refusals.{Test, no1, no2_by, no2, own_row, row, Verdict, Go, Stop, given}
use Rattle.paper.specs.Outcomes.{Outcome, Undispatched, accepted, refused, judge, deliver, dispatch_to, dispatch, body, blank, effect, check}
use Rattle.paper.specs.Conversion.{old_passes, old_broken, old_no2, converted, convert}
use Rattle.paper.specs.Claims.{NoSecondOutcome, Unchanged, RefusalChangesNothing, Only, AcceptedPassed, First, Given, FirstIsGiven, Ascends, RowsAscend, HandedTells}
use Rattle.paper.specs.Claims.{FreshInstallAccepted, AnswersDiffer, InstallWrites}

pub no_second_outcome : NoSecondOutcome
no_second_outcome o a e l m h i = (h.answers ∙ sym i.answers, h.leaves ∙ sym i.leaves)

-- ---- a refusal changes no byte
unchanged_accepted : (v c m : ℕ) (l k : List ℕ) → Unchanged l (accepted v c m k)
unchanged_accepted v c m l k q e = let z : ◌≡◌ {A = ℕ} 0 1 = cc in absurd (omega arith)

unchanged_cond : (t : Bool) (l : List ℕ) (o p : Outcome) → Unchanged l o → Unchanged l p → Unchanged l (cond t o p)
unchanged_cond true l o p h i = h
unchanged_cond false l o p h i = i

pub unchanged_judge : (l : List ℕ) (v : Verdict) (o : Outcome) → Unchanged l o → Unchanged l (judge l v o)
unchanged_judge l Go o h = h
unchanged_judge l (Stop q) o h = λ k e. refl

unchanged_deliver : (z : Size) (l : List ℕ) (d : Undispatched) (c : ℕ) → Unchanged l (deliver z l d c)
unchanged_deliver z l d c =
    unchanged_cond (empty_queue d.board c) l (refused l NothingToDeliver) _ (λ k e. refl) (unchanged_accepted _ _ _ l _)

pub unchanged_dispatch : (z : Size) (l : List ℕ) (d : Undispatched) (c : ℕ) → Unchanged l (dispatch_to z l d c)
unchanged_dispatch z l d c =
    unchanged_cond (has (task d.board c).stat MHBS) l (deliver z l d c) (accepted d.value c 0 (bytes_of d.board))
    (unchanged_deliver z l d c) (unchanged_accepted d.value c 0 l (bytes_of d.board))

pub refusal_changes_nothing : RefusalChangesNothing
refusal_changes_nothing z l = let b = board_of z l in let c = b.running in (
  (λ call. unchanged_judge l (given (row z l b c call)) (dispatch z l (body z b c call))
      (unchanged_dispatch z l _ (runs_next z (body z b c call).board))),
  unchanged_judge l (given (no1 z l ∷ no2 z b ∷ [])) (accepted 0 c 0 l) (unchanged_accepted 0 c 0 l l),
  unchanged_judge l (given (no1 z l ∷ [])) (accepted 0 0 0 (blank z)) (unchanged_accepted 0 0 0 l (blank z)),
  unchanged_judge l (given (no1 z l ∷ old_no2 z b ∷ [])) (converted z l) (unchanged_accepted _ _ _ l _),
)

-- ---- the first of the row is given
-- what a verdict on tests says
abbrev pub Decided : Verdict → List Test → Type 0
Decided Go tests = All (λ t. t.applies ≡ false) tests
Decided (Stop q) tests = First q tests

decided : (tests : List Test) → Decided (given tests) tests
decided [] = tt
decided (t ∷ tests) = go t.applies refl (decided tests)
  where
    behind : (v : Verdict) → t.applies ≡ false → Decided v tests → Decided v (t ∷ tests)
    behind Go e h = (e, h)
    behind (Stop q) e h = inr (e, h)

    go : (v : Bool) → t.applies ≡ v → Decided (given tests) tests
        → Decided (elim v [ true ↦ Stop t.refusal | false ↦ given tests ]) (t ∷ tests)
    go true e h = inl (e, refl)
    go false e h = behind (given tests) e h

-- where none is given none applies, and one that is given is the first that applies
pub go_none : (tests : List Test) → given tests ≡ Go → All (λ t. t.applies ≡ false) tests
go_none tests g = subst (λ (v : Verdict). Decided v tests) g (decided tests)

pub stop_first : (tests : List Test) (q : Refusal) → given tests ≡ Stop q → First q tests
stop_first tests q g = subst (λ (v : Verdict). Decided v tests) g (decided tests)

-- what holds of each refusal of a row holds of the first that applies
pub first_holds : (P : Refusal → Type 0) (q : Refusal) (tests : List Test) → All (λ t. P t.refusal) tests → First q tests → P q
first_holds P q [] h f = absurd f
first_holds P q (t ∷ tests) h (inl (a, e)) = subst P e h.0
first_holds P q (t ∷ tests) h (inr (a, f)) = first_holds P q tests h.1 f

-- ---- the rows ascend
-- the numbers of the tests ascend from above n, and stay below 15
abbrev ascends : ℕ → List Test → Bool
ascends n [] = ltb n 15
ascends n (t ∷ tests) = ltb n (number_of t.refusal) && ascends (number_of t.refusal) tests

-- so the first is above n, and the others ascend from it
ascends_on : (n : ℕ) (t : Test) (tests : List Test) → ascends n (t ∷ tests) ≡ true
    → (n < number_of t.refusal) × (ascends (number_of t.refusal) tests ≡ true)
ascends_on n t tests h =
    let r = both (ltb n (number_of t.refusal)) (ascends (number_of t.refusal) tests) h in (ltb-true n _ r.0, r.1)

-- so each is above n
all_above : (n : ℕ) (tests : List Test) → ascends n tests ≡ true → All (λ t. n < number_of t.refusal) tests
all_above n [] h = tt
all_above n (t ∷ tests) h =
    let k = ascends_on n t tests h in
    (k.0, all_map (λ u i. omega (arith, i, k.0)) tests (all_above (number_of t.refusal) tests k.1))

-- and so is the first of them that applies
pub first_above_lem : (n : ℕ) (q : Refusal) (tests : List Test) → All (λ t. n < number_of t.refusal) tests → First q tests
    → n < number_of q
first_above_lem n = first_holds (λ q. n < number_of q)

ascending : (n : ℕ) (tests : List Test) → ascends n tests ≡ true → Ascends tests
ascending n [] h = tt
ascending n (t ∷ tests) h =
    let k = (ascends_on n t tests h).1 in (all_above _ tests k, ascending (number_of t.refusal) tests k)

-- what each of a list passes, and any other, the one at i passes
every_at : {A : Type 0} (test : A → Bool) (l : List A) (other : A) → test other ≡ true → every test l ≡ true → (i : ℕ)
    → test (get_or l i other) ≡ true
every_at test [] other o h i = o
every_at test (x ∷ l) other o h zero = (both (test x) (every test l) h).0
every_at test (x ∷ l) other o h (suc i) = every_at test l other o (both (test x) (every test l) h).1 i

-- every row of the table of calls ascends: computed for the calls of all kinds, and a call is one of them
row_ascends : (z : Size) (l : List ℕ) (b : Board) (c : ℕ) (call : Call) → ascends 0 (row z l b c call) ≡ true
row_ascends z l b c call =
    let test : Call → Bool = λ x. ascends 0 (row z l b c x) in
    let a = arguments_of call in
    subst (λ (x : Call). test x ≡ true) a.again (every_at test (calls_of _ _ _ _ _) (Find 0) refl refl (a.kind - 1))

-- those of a call's own are above 2
pub own_above : (z : Size) (l : List ℕ) (b : Board) (c : ℕ) (call : Call) → All (λ t. 2 < number_of t.refusal) (own_row z b c call)
own_above z l b c call = all_above 2 (own_row z b c call) (row_ascends z l b c call)

-- ---- no row gives 15
ascend_below : (n : ℕ) (tests : List Test) → ascends n tests ≡ true → n < 15
ascend_below n [] h = ltb-true n 15 h
ascend_below n (t ∷ tests) h = let k = ascends_on n t tests h in let q = ascend_below _ tests k.1 in omega (arith, k.0)

stop_below : (n : ℕ) (tests : List Test) → ascends n tests ≡ true → (q : Refusal) → given tests ≡ Stop q → number_of q < 15
stop_below n [] h q = λ e. let z : ◌≡◌ {A = ℕ} 0 1 = cc in absurd (omega arith)
stop_below n (t ∷ tests) h q = go t.applies (stop_below _ tests (ascends_on n t tests h).1 q)
  where
    go : (v : Bool) → (given tests ≡ Stop q → number_of q < 15)
        → elim v [ true ↦ Stop t.refusal | false ↦ given tests ] ≡ Stop q → number_of q < 15
    go true ih e = let p : t.refusal ≡ q = cc in subst (λ (r : Refusal). number_of r < 15) p (ascend_below _ tests (ascends_on n t tests h).1)
    go false ih e = ih e

pub row_below : (z : Size) (l : List ℕ) (b : Board) (c : ℕ) (call : Call) (q : Refusal) → given (row z l b c call) ≡ Stop q
    → number_of q < 15
row_below z l b c call = stop_below 0 (row z l b c call) (row_ascends z l b c call)

-- what the verdict says, the answer says; where none applies dispatch answers, and its refusal is 15
module _ (tests : List Test) where
  pub given-judged : (l : List ℕ) (o : Outcome) → (Decided Go tests → Given o.answer tests)
      → Given (judge l (given tests) o).answer tests
  given-judged l o h = step (given tests) (decided tests)
    where
      step : (v : Verdict) → Decided v tests → Given (judge l v o).answer tests
      step Go d = h d
      step (Stop q) d = λ n. d

  pub given_dispatched : (z : Size) (l : List ℕ) (d : Undispatched) (c : ℕ) → Decided Go tests → Given (dispatch_to z l d c).answer tests
  given_dispatched z l d c h =
      cond_holds (λ (o : Outcome). Given o.answer tests) (has (task d.board c).stat MHBS) _ _
      (λ e. cond_holds (λ (o : Outcome). Given o.answer tests) (empty_queue d.board c) _ _ (λ i n. absurd (n refl)) (λ i. h)) (λ e. h)

pub first_is_given : FirstIsGiven
first_is_given z l = let b = board_of z l in let c = b.running in (
  (λ call. let d = body z b c call in
      given-judged (row z l b c call) l (dispatch z l d) (given_dispatched (row z l b c call) z l _ (runs_next z d.board))),
  given-judged (no1 z l ∷ no2 z b ∷ []) l (accepted 0 c 0 l) (λ h. h),
  given-judged (no1 z l ∷ []) l (accepted 0 0 0 (blank z)) (λ h. h),
  given-judged (no1 z l ∷ old_no2 z b ∷ []) l (converted z l) (λ h. h),
)

pub rows_ascend : RowsAscend
rows_ascend z l b = (
  (λ c call. ascending 0 (row z l b c call) (row_ascends z l b c call)),
  ascending 0 (no1 z l ∷ no2 z b ∷ []) refl,
  ascending 0 (no1 z l ∷ []) refl,
  ascending 0 (no1 z l ∷ old_no2 z b ∷ []) refl,
)

-- ---- accepted means that the board passed: 1 and 2 did not apply
only_passing : (z : Size) (l : List ℕ) (test : Size → Board → Bool) (r : Rule) (tests : List Test) (o : Outcome)
    → Given o.answer (no1 z l ∷ no2_by r (test z (board_of z l)) ∷ tests) → Only test z l o
only_passing z l test r tests o g v c m e =
    let second : Test = no2_by r (test z (board_of z l)) in
    let none = subst (λ (a : Answer). Given a (no1 z l ∷ second ∷ tests)) e g in
    (eqb-true _ _ (not-false _ none.0), not-false _ none.1.0)

pub accepted_passed : AcceptedPassed
accepted_passed z l = let b = board_of z l in let (calls, checks, freshes, converts) = first_is_given z l in (
  (λ call. only_passing z l passes (broken_rule z b) (own_row z b b.running call) (effect z l call) (calls call)),
  only_passing z l passes (broken_rule z b) [] (check z l) checks,
  only_passing z l old_passes (old_broken z b) [] (convert z l) converts,
)

-- ---- the papers' numbers and values tell the answer
-- the rule of each number, where it names n; the refusal of each number, where it comes with the rule r
abbrev rules : ℕ → List Rule
rules n = R1 ∷ R2 (task_no n) ∷ R3 ∷ R4 (msg_no n) ∷ R5 (task_no n) ∷ R6 (task_no n) ∷ R7 n ∷ []

abbrev pub rule_at : ℕ → ℕ → Rule
rule_at i n = get_or (rules n) (i - 1) R1

abbrev refusals : Rule → List Refusal
refusals r =
    WrongLength ∷ RuleBroken r ∷ NobodyRuns ∷ NoSuchMessage ∷ NotHeld ∷ NoSuchTask ∷ BadPriority ∷ NotInstallable ∷ BadStatus ∷ TaskBusy
    ∷ NoneFree ∷ NotQueued ∷ NotItsSender ∷ BadSender ∷ NothingToDeliver ∷ NoDelay ∷ NoTimerFree ∷ BadTimer ∷ []

abbrev refusal_of : Told → Refusal
refusal_of t = get_or (refusals (rule_at t.rule t.record_no)) (t.number - 1) WrongLength

-- each rule and each refusal stands at its number
pub at_rule : (r : Rule) → rule_at (rule_number r) (record_number r) ≡ r
at_rule R1 = refl
at_rule (R2 k) = refl
at_rule R3 = refl
at_rule (R4 m) = refl
at_rule (R5 k) = refl
at_rule (R6 k) = refl
at_rule (R7 c) = refl

at_number : (q : Refusal) → refusal_of (told q) ≡ q
at_number WrongLength = refl
at_number (RuleBroken r) = ap RuleBroken (at_rule r)
at_number NobodyRuns = refl
at_number NoSuchMessage = refl
at_number NotHeld = refl
at_number NoSuchTask = refl
at_number BadPriority = refl
at_number NotInstallable = refl
at_number BadStatus = refl
at_number TaskBusy = refl
at_number NoneFree = refl
at_number NotQueued = refl
at_number NotItsSender = refl
at_number BadSender = refl
at_number NothingToDeliver = refl
at_number NoDelay = refl
at_number NoTimerFree = refl
at_number BadTimer = refl

-- so what is computed of each is so of any
every_refusal : (test : Refusal → Bool) → ((r : Rule) → every test (refusals r) ≡ true) → (q : Refusal) → test q ≡ true
every_refusal test h q =
    let l = h (rule_at (told q).rule (told q).record_no) in
    subst (λ (x : Refusal). test x ≡ true) (at_number q)
    (every_at test (refusals _) WrongLength (both _ _ l).0 l (number_of q - 1))

-- its number is from 1 to 18
pub refusal-number : (q : Refusal) → (0 < number_of q) × (number_of q < 19)
refusal-number q =
    let t = every_refusal (λ r. ltb 0 (number_of r) && ltb (number_of r) 19) (λ r. refl) q in
    let r = both (ltb 0 (number_of q)) (ltb (number_of q) 19) t in
    (ltb-true 0 (number_of q) r.0, ltb-true (number_of q) 19 r.1)

-- 2 is a broken rule
pub number_2 : (q : Refusal) → number_of q ≡ 2 → (r : Rule) × (q ≡ RuleBroken r)
number_2 q e =
    let r = rule_at (told q).rule (told q).record_no in
    (r, sym (at_number q) ∙ ap (λ (n : ℕ). get_or (refusals r) (n - 1) WrongLength) e)

-- any other is told by its number alone
pub others_told : (q : Refusal) → number_of q ≢ 2 → ((told q).rule ≡ 0) × ((told q).record_no ≡ 0)
others_told q n =
    let t = every_refusal (λ r. eqb (number_of r) 2 || (eqb (told r).rule 0 && eqb (told r).record_no 0)) (λ r. refl) q in
    let r = both (eqb (told q).rule 0) (eqb (told q).record_no 0) (rw (ne_eqb (number_of q) 2 n) at t) in
    (eqb-true (told q).rule 0 r.0, eqb-true (told q).record_no 0 r.1)

abbrev answer_of : Handed → Answer
answer_of h =
    cond (eqb h.number 0) (accepts h.value h.running h.delivered)
    (Err (refusal_of (record { number = h.number; rule = h.rule; record_no = h.record_no })))

handed_back : (a : Answer) → answer_of (handed a) ≡ a
handed_back (Ok a) = refl
handed_back (Err q) =
    let n : number_of q ≢ 0 = λ e. let r = (refusal-number q).0 in absurd (omega arith) in
    ap (λ (t : Bool). cond t (accepts 0 0 0) (Err (refusal_of (told q)))) (ne_eqb (number_of q) 0 n)
    ∙ ap Err (at_number q)

pub handed_tells : HandedTells
handed_tells a e h = sym (handed_back a) ∙ ap answer_of h ∙ handed_back e

-- ---- not a definition that refuses all, answers always the same, or writes nothing
pub fresh_install_accepted : FreshInstallAccepted
fresh_install_accepted = refl

pub answers_differ : AnswersDiffer
answers_differ e = let z : ◌≡◌ {A = ℕ} 1 0 = ap (λ (a : Answer). (handed a).value) e in absurd (omega arith)

pub install_writes : InstallWrites
install_writes e = let z : ◌≡◌ {A = ℕ} 1 0 = ap (λ (l : List ℕ). get_or l 0 0) e in absurd (omega arith)
