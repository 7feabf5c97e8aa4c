-- What start and tick answer and leave of both buffers: 1, 2, 18, or what was made of a board that passes with a buffer that is good for it.
-- Assumes nothing.
use mathlib.Core.Path.{◌≡◌, refl, sym, ap, ◌∙◌, subst}
use mathlib.Core.Bool.{Bool, true, false, not}
use mathlib.Core.List.{List, [], ◌∷◌}
use Prim.Native.Nat.{ℕ, ◌<◌, ◌≤◌}
use native.Mathlib.Omega.{arith}
use lib.ListN.{length, get_or}
use lib.Dec.{eqb}
use Rattle.std.specs.Prelude.{Option, Result, Err, Ok}
use Rattle.board.specs.declared.numbers.TaskNo.{TaskNo}
use Rattle.board.specs.Numbers.{small, task_meant, number_of_task}
use Rattle.board.specs.Board.{Board, board_of, total}
use Rattle.board.proofs.Codec.{Small, small_bytes}
use Rattle.timer.specs.Timer.{Timer, timer_length, timer_of}
use Rattle.paper.specs.declared.answer.Rule.{Rule}
use Rattle.paper.specs.declared.answer.Refusal.{Refusal}
use Rattle.paper.specs.declared.answer.Refusal.TheVariants.{WrongLength, RuleBroken, BadTimer}
use Rattle.paper.specs.Rules.{passes}
use Rattle.paper.specs.Named.{broken_rule}
use Rattle.paper.specs.Refusals.{no1, no2, Verdict, Go, Stop, given}
use Rattle.paper.specs.Outcomes.{Outcome, judge, undispatched, dispatch}
use Rattle.paper.proofs.Rows.{given_stop, given-more, rules_kept, rule_broken}
use Rattle.paper.specs.Answers.{Answer}
use Rattle.timing.specs.Timing.{good_timer, no18, start_own, tick_row, started, started_timer, next_now, returned, ticked}
use Rattle.timing.specs.Timing.{Timed, timed, EndsTimed, start, tick}
use Rattle.timing.proofs.Theorems.{tick_goes, tick-passed}
use Rattle.ticked.specs.Claims.{Passing}
use Rattle.ticked.proofs.Buffers.{says_good_timer}
use Rattle.ticked.proofs.Theorems.{small-timer-sizes}
use Rattle.stores.specs.Answers.{Runs as Asks}
use Rattle.timer_calls.specs.Stores.{start_called, tick_called}
use Rattle.timer_stored.proofs.Theorems.{start-effect, tick-effect}
use Rattle.rules.specs.declared.Edition.TheVariants.{Today}
use Rattle.rules.specs.Checked.{checked_of, Checked}
use Rattle.station.specs.BothPass.{unless_stopped, both_pass}
use Rattle.station.proofs.Answers.{sized_not, sized-long, today_broken, today_kept, runs-named}

-- ---- 1, 2 and 18: s is the test of the length
module _ (l buffer : List ℕ) {s : Bool} (es : s ≡ eqb (length l) (total small)) where
  abbrev b : Board
  b = board_of small l

  -- the answer by the verdict of a tick's row
  abbrev by : Verdict → Result (Option TaskNo) Refusal
  by v = unless_stopped v (task_meant small b.running)

  pub both_length : s ≡ false → Err WrongLength ≡ both_pass l buffer
  both_length h = sym (ap by (given_stop (no1 small l) (no2 small b ∷ no18 b buffer ∷ []) (ap not (sized_not l es h))))

  -- it is right, and x is what the check of the rules says
  module _ (h : s ≡ true) {x : Checked} (ex : x ≡ checked_of Today small b) where
    pub both_broken : {r : Rule} → x ≡ Err r → Err (RuleBroken r) ≡ both_pass l buffer
    both_broken p =
        let (broken, named) = today_broken l ex p in
        let stops = rule_broken small l (broken_rule small b) (passes small b) (no18 b buffer ∷ []) (sized-long l es h) broken in
        ap (λ (r : Rule). Err (RuleBroken r)) named ∙ sym (ap by stops)

    -- the board passes, w runs, and g is the test of the buffer
    module _ {w : Option TaskNo} (p : x ≡ Ok w) {g : Bool} (eg : g ≡ good_timer b buffer) where
      pub both_bad : g ≡ false → Err BadTimer ≡ both_pass l buffer
      both_bad n =
          let on = rules_kept small l (broken_rule small b) (passes small b) (no18 b buffer ∷ []) (sized-long l es h) (today_kept l ex p).0 in
          sym (ap by (on ∙ given_stop (no18 b buffer) [] (ap not (sym eg ∙ n))))

      pub both_run : g ≡ true → Ok w ≡ both_pass l buffer
      both_run n =
          let (kept, named) = today_kept l ex p in
          ap Ok named ∙ sym (ap by (tick_goes small l b buffer (sized-long l es h) kept (sym eg ∙ n)))

-- ---- what that says of a tick's row
says_not : (v : Verdict) (c : Option TaskNo) (q : Refusal) → unless_stopped v c ≡ Err q → v ≡ Stop q
says_not Go c q e = absurd (let y : ◌≡◌ {A = ℕ} 0 1 = cc in omega arith)
says_not (Stop r) c q e = cc

says_runs : (v : Verdict) (c w : Option TaskNo) → unless_stopped v c ≡ Ok w → (v ≡ Go) × (w ≡ c)
says_runs Go c w e = (refl, cc)
says_runs (Stop r) c w e = absurd (let y : ◌≡◌ {A = ℕ} 0 1 = cc in omega arith)

-- a row that stops leaves both buffers: o and t are what would have been
stopped : (l buffer : List ℕ) (o : Outcome) (t : Timer) (q : Refusal) {v : Verdict} → v ≡ Stop q
    → EndsTimed (Err q) l buffer (timed (judge l v o) buffer t)
stopped l buffer o t q e = let out = ap (λ (v : Verdict). timed (judge l v o) buffer t) e in record {
  answers = sym (ap (λ (x : Timed). x.answer) out);
  board = sym (ap (λ (x : Timed). x.board) out);
  timer = sym (ap (λ (x : Timed). x.timer) out);
}

-- ---- start and tick, where x is what was said
module _ (l buffer : List ℕ) {x : Result (Option TaskNo) Refusal} (ex : x ≡ both_pass l buffer) where
  abbrev board : Board
  board = board_of small l

  abbrev runner : Option TaskNo
  runner = task_meant small board.running

  module _ {q : Refusal} (e : x ≡ Err q) where
    stops : given (tick_row small l board buffer) ≡ Stop q
    stops = says_not (given (tick_row small l board buffer)) runner q (sym ex ∙ e)

    pub start-refused : (m delay : ℕ) → EndsTimed (Err q) l buffer (start small l buffer m delay)
    start-refused m delay = let t = timer_of buffer in
        stopped l buffer (dispatch small l (undispatched 0 (started board m))) (started_timer t m delay) q
        (given-more (tick_row small l board buffer) (start_own small board board.running t m delay) q stops)

    pub tick-refused : {a : Answer} → a ≡ Err q → EndsTimed a l buffer (tick small l buffer)
    tick-refused ea = let t = timer_of buffer in
        subst (λ (a : Answer). EndsTimed a l buffer (tick small l buffer)) (sym ea)
        (stopped l buffer (dispatch small l (undispatched 0 (returned small (next_now t) t.entries board))) (ticked t) q stops)

  module _ {w : Option TaskNo} (e : x ≡ Ok w) where
    goes : (given (tick_row small l board buffer) ≡ Go) × (w ≡ runner)
    goes = says_runs (given (tick_row small l board buffer)) runner w (sym ex ∙ e)

    passed : (length l ≡ total small) × (passes small board ≡ true) × (good_timer board buffer ≡ true)
    passed = tick-passed small l board buffer goes.0

    -- what they ask for
    pub timed_asks : Asks small l w × (length buffer ≡ timer_length)
    timed_asks =
        let (long, kept, good) = passed in
        let whole : total small ≤ length l = omega (arith, long) in
        ((whole, (goes.1, ap number_of_task goes.1 ∙ runs-named l kept)), ((says_good_timer board buffer).0 good).0)

    -- and what was made
    module _ (n : (i : ℕ) → get_or l i 0 < 256) (k : (i : ℕ) → get_or buffer i 0 < 256) where
      passing : Passing small l buffer
      passing = record {
        bytes = record { long = passed.0; bytes = n };
        sound = passed.1;
        timer_bytes = record { long = timed_asks.1; bytes = k };
        good = passed.2;
      }

      pub start-made : (m delay : ℕ) {a : Answer} {d e : List ℕ}
          → EndsTimed a d e (start_called small l buffer m delay) → ((i : ℕ) → get_or d i 0 < 256) → EndsTimed a d e (start small l buffer m delay)
      start-made m delay {a = a} {d = d} {e = e} made f =
          let bytes : Small (start_called small l buffer m delay).board = subst Small made.board (small_bytes d f) in
          subst (EndsTimed a d e) (start-effect small l buffer small-timer-sizes passing m delay bytes) made

      pub tick-made : {a : Answer} {d e : List ℕ}
          → EndsTimed a d e (tick_called small l buffer) → ((i : ℕ) → get_or d i 0 < 256) → EndsTimed a d e (tick small l buffer)
      tick-made {a = a} {d = d} {e = e} made f =
          let bytes : Small (tick_called small l buffer).board = subst Small made.board (small_bytes d f) in
          subst (EndsTimed a d e) (tick-effect small l buffer small-timer-sizes passing bytes) made
