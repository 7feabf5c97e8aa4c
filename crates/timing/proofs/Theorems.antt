-- The claims of specs/Claims, proved, and the rows of start and tick, test by test. Assumes nothing.
use mathlib.Core.Path.{◌≡◌, refl, sym, ap, ◌∙◌, subst}
use mathlib.Core.Logic.{◌≢◌}
use mathlib.Core.Bool.{true, false, not}
use mathlib.Core.List.{List, [], ◌∷◌}
use Prim.Native.Nat.{ℕ, ◌<◌}
use lib.ListN.{length}
use lib.Dec.{eqb, ltb}
use borrow.Author.Tests.{ltb-true, eqb-true, eqb-false, not-false, not-true}
use Rattle.links.specs.Chain.{All}
use Rattle.links.proofs.Bools.{every, every_all}
use Rattle.links.proofs.Members.{all_map}
use Rattle.board.specs.declared.numbers.Size.{Size}
use Rattle.board.specs.Board.{Board, total, board_of}
use Rattle.timer.specs.Timer.{Timer, timer_of, timer_bytes, is_due}
use Rattle.paper.specs.declared.answer.Refusal.{Refusal}
use Rattle.paper.specs.declared.answer.Refusal.TheVariants.{NothingToDeliver}
use Rattle.paper.specs.Answers.{number_of, Answer, accepts}
use Rattle.paper.specs.Rules.{passes, runs_next}
use Rattle.paper.specs.Named.{broken_rule}
use Rattle.paper.specs.Refusals.{Test, no1, no2, Go, Stop, given}
use Rattle.paper.specs.Outcomes.{Outcome, undispatched, judge, dispatch}
use Rattle.paper.specs.Claims.{Unchanged as BoardUnchanged, Given}
use Rattle.paper.proofs.Rows.{given_on, rules_kept}
use Rattle.paper.proofs.Theorems.{unchanged_judge, unchanged_dispatch, go_none, stop_first, first_holds}
use Rattle.paper.proofs.Theorems.{given-judged, given_dispatched}
use Rattle.paper.proofs.Naming.{names}
use Rattle.timing.specs.Timing.{good_timer, no18, start_own, start_row, tick_row, started, started_timer}
use Rattle.timing.specs.Timing.{next_now, returned, ticked, accepting, timed, start, tick}
use Rattle.timing.specs.Claims.{NoSecondOutcome, Unchanged, RefusalChangesNeither, AcceptedPassed, FirstIsGiven}
use Rattle.timing.specs.Claims.{RulesAreNamed, FreeNeverFires}

pub no_second_outcome : NoSecondOutcome
no_second_outcome o a e l m s t h i =
    (h.answers ∙ sym i.answers, h.board ∙ sym i.board, h.timer ∙ sym i.timer)

-- ---- start and tick alike: where the row lets it go on the board d is dispatched, and the timer is t
module _ (z : Size) (l s : List ℕ) (tests : List Test) (d : Board) where
  abbrev outcome : Outcome
  outcome = judge l (given tests) (dispatch z l (undispatched 0 d))

  unchanged : (t : Timer) → Unchanged l s (timed outcome s t)
  unchanged t q e =
      let board : BoardUnchanged l outcome =
      unchanged_judge l (given tests) (dispatch z l (undispatched 0 d)) (unchanged_dispatch z l _ (runs_next z d)) in
      (board q e, ap (λ (a : Answer). accepting a s (timer_bytes t)) e)

  first : Given outcome.answer tests
  first = given-judged tests l (dispatch z l (undispatched 0 d)) (given_dispatched tests z l _ (runs_next z d))

pub refusal_changes_neither : RefusalChangesNeither
refusal_changes_neither z l s = let b = board_of z l in let t = timer_of s in (
  (λ m delay. unchanged z l s (start_row z l b b.running s m delay) (started b m) (started_timer t m delay)),
  unchanged z l s (tick_row z l b s) (returned z (next_now t) t.entries b) (ticked t),
)

pub first_is_given : FirstIsGiven
first_is_given z l s = let b = board_of z l in let t = timer_of s in (
  (λ m delay. first z l s (start_row z l b b.running s m delay) (started b m)),
  first z l s (tick_row z l b s) (returned z (next_now t) t.entries b),
)

-- ---- 1, 2 and 18
module _ (z : Size) (l : List ℕ) (b : Board) (s : List ℕ) where
  -- they are passed where the board has its length and passes and the timer is good
  on : (tests : List Test) → length l ≡ total z → passes z b ≡ true → good_timer b s ≡ true
      → given (no1 z l ∷ no2 z b ∷ no18 b s ∷ tests) ≡ given tests
  on tests long sound good =
      rules_kept z l (broken_rule z b) (passes z b) (no18 b s ∷ tests) long sound ∙ given_on (no18 b s) tests (ap not good)

  -- and only there
  passed : (tests : List Test) → All (λ t. t.applies ≡ false) (no1 z l ∷ no2 z b ∷ no18 b s ∷ tests)
      → (length l ≡ total z) × (passes z b ≡ true) × (good_timer b s ≡ true)
  passed tests none = (eqb-true _ _ (not-false _ none.0), not-false _ none.1.0, not-false _ none.1.1.0)

  pub start_own_lem : (c m delay : ℕ) → length l ≡ total z → passes z b ≡ true → good_timer b s ≡ true
      → given (start_row z l b c s m delay) ≡ given (start_own z b c (timer_of s) m delay)
  start_own_lem c m delay = on (start_own z b c (timer_of s) m delay)

  pub tick_goes : length l ≡ total z → passes z b ≡ true → good_timer b s ≡ true → given (tick_row z l b s) ≡ Go
  tick_goes = on []

  pub start-passed : (c m delay : ℕ) → given (start_row z l b c s m delay) ≡ Go
      → (length l ≡ total z) × (passes z b ≡ true) × (good_timer b s ≡ true) × (given (start_own z b c (timer_of s) m delay) ≡ Go)
  start-passed c m delay g =
      let (long, sound, good) = passed (start_own z b c (timer_of s) m delay) (go_none (start_row z l b c s m delay) g) in
      (long, sound, good, sym (start_own_lem c m delay long sound good) ∙ g)

  pub tick-passed : given (tick_row z l b s) ≡ Go → (length l ≡ total z) × (passes z b ≡ true) × (good_timer b s ≡ true)
  tick-passed g = passed [] (go_none (tick_row z l b s) g)

-- ---- accepted means that the board passed, and that the timer was good
only : (z : Size) (l s : List ℕ) (tests : List Test) (a : Answer) → let b = board_of z l in
    Given a (no1 z l ∷ no2 z b ∷ no18 b s ∷ tests) → (v c m : ℕ) → a ≡ accepts v c m
    → (length l ≡ total z) × (passes z b ≡ true) × (good_timer b s ≡ true)
only z l s tests a g v c m e = let b = board_of z l in
    passed z l b s tests (subst (λ (a : Answer). Given a (no1 z l ∷ no2 z b ∷ no18 b s ∷ tests)) e g)

pub accepted_passed : AcceptedPassed
accepted_passed z l s = let b = board_of z l in let (starts, ticks) = first_is_given z l s in (
  (λ m delay. only z l s (start_own z b b.running (timer_of s) m delay) (start z l s m delay).answer (starts m delay)),
  only z l s [] (tick z l s).answer ticks,
)

-- ---- the refusals behind 1 and 2: none of them is 2, and no row gives 15
above_2 : (tests : List Test) → every (λ t. ltb 2 (number_of t.refusal)) tests ≡ true
    → All (λ t. 2 < number_of t.refusal) tests
above_2 tests h = all_map (λ t. ltb-true 2 (number_of t.refusal)) tests (every_all _ tests h)

pub rules_are_named : RulesAreNamed
rules_are_named z l s =
    let b = board_of z l in
    let t = timer_of s in
    let (starts, ticks) = first_is_given z l s in (
      (λ m delay. let tests = no18 b s ∷ start_own z b b.running t m delay in
          names z l (broken_rule z b) (passes z b) tests (above_2 tests refl) (dispatch z l (undispatched 0 (started b m)))
          (starts m delay)),
      names z l (broken_rule z b) (passes z b) (no18 b s ∷ []) (above_2 (no18 b s ∷ []) refl)
          (dispatch z l (undispatched 0 (returned z (next_now t) t.entries b))) ticks,
    )

not_15 : (tests : List Test) → every (λ t. not (eqb (number_of t.refusal) 15)) tests ≡ true → (q : Refusal)
    → given tests ≡ Stop q → q ≢ NothingToDeliver
not_15 tests h q g e =
    let all = every_all (λ t. not (eqb (number_of t.refusal) 15)) tests h in
    let other = first_holds (λ q. not (eqb (number_of q) 15) ≡ true) q tests all (stop_first tests q g) in
    eqb-false (number_of q) 15 (not-true _ other) (ap number_of e)

pub start_below : (z : Size) (l : List ℕ) (b : Board) (c : ℕ) (s : List ℕ) (m delay : ℕ) (q : Refusal)
    → given (start_row z l b c s m delay) ≡ Stop q → q ≢ NothingToDeliver
start_below z l b c s m delay = not_15 (start_row z l b c s m delay) refl

pub tick_below : (z : Size) (l : List ℕ) (b : Board) (s : List ℕ) (q : Refusal) → given (tick_row z l b s) ≡ Stop q
    → q ≢ NothingToDeliver
tick_below z l b s = not_15 (tick_row z l b s) refl

-- ---- a free entry is never due
pub free_never_fires : FreeNeverFires
free_never_fires at e free = let none : is_due at e ≡ false = rw free in (none, rw none)
