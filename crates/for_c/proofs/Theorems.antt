-- The claims of specs/Claims, proved. Assumes nothing.
use mathlib.Core.Path.{◌≡◌, refl, ap}
use mathlib.Core.Bool.{Bool, false}
use mathlib.Core.List.{List}
use Prim.Native.Nat.{ℕ, ◌+◌, ◌*◌, ◌<◌}
use native.Mathlib.Omega.{arith}
use native.Mathlib.Decide.{ℕ_discrete}
use lib.Dec.{lit<}
use lib.ListN.{get_or}
use borrow.Author.Tests.{not-false}
use Rattle.std.specs.Prelude.{Err, Ok}
use Rattle.board.specs.Numbers.{small}
use Rattle.board.specs.Status.{MHBS, has}
use Rattle.board.specs.Records.{Byte, no_task}
use Rattle.board.specs.Board.{Board, board_of}
use Rattle.board.proofs.Codec.{length-tasks}
use Rattle.paper.specs.declared.answer.Rule.{Rule}
use Rattle.paper.specs.declared.answer.Rule.TheVariants.{R1, R2, R3, R4, R5, R6, R7}
use Rattle.paper.specs.Answers.{record_number, told, Handed, handed, Answer}
use Rattle.paper.specs.Rules.{first_ready, passes}
use Rattle.paper.specs.Named.{broken_rule}
use Rattle.paper.specs.Outcomes.{effect, check}
use Rattle.paper.specs.Conversion.{old_rule7, old_passes, old_broken, convert}
use Rattle.paper.specs.Claims.{Names, Edition, today, old, BrokenAt}
use Rattle.paper.proofs.Theorems.{handed_tells, refusal-number}
use Rattle.paper.proofs.Which.{nth_numbered}
use Rattle.paper.proofs.Naming.{verdict_stays, lowest_is_named, rule_only_with_2}
use Rattle.for_c.specs.Claims.{Words, RecordFits, PackedTells, NoAnswerIs255}

-- the number is 0 to 18
number_small : (a : Answer) → (handed a).number < 19
number_small (Ok a) = lit< tt
number_small (Err q) = (refusal-number q).1

-- the rule is 0 to 7
rule-small : (a : Answer) → (handed a).rule < 8
rule-small a = step (ℕ_discrete (handed a).number 2)
  where
    step : Dec ((handed a).number ≡ 2) → (handed a).rule < 8
    step (yes e) = let r = (rule_only_with_2 a).0 e in omega (arith, r.1)
    step (no n) = let r = (rule_only_with_2 a).1 n in omega arith

-- the record is a number of the board, 0, or what R7 is told with
record-small : (by : Edition) (b : Board) → (by.last ≡ false → by.told < 256) → (r : Rule) → BrokenAt by small b r
    → record_number r < 256
record-small by b f R1 h = lit< tt
record-small by b f (R2 k) h = omega (arith, h.0.1)
record-small by b f R3 h = lit< tt
record-small by b f (R4 m) h = omega (arith, h.0.1)
record-small by b f (R5 k) h = omega (arith, h.0.1)
record-small by b f (R6 k) h = omega (arith, h.0.1)
record-small by b f (R7 c) h = let e = f h.1 in omega (arith, h.0)

-- the task that the old R7 is told with is due a message, so it is one of the board's
due-small : (l : List ℕ) → let b = board_of small l in old_rule7 small b ≡ false → first_ready small b < 256
due-small l e =
    let b = board_of small l in
    let k = nth_numbered no_task (λ t. has t.stat MHBS) b.tasks refl (first_ready small b) (not-false _ e) in
    omega (arith, k.1, length-tasks small l)

-- by the rules of today R7 is told with byte 1
named_small : (l : List ℕ) → Byte (get_or l 1 0) → let b = board_of small l in
    (passes small b ≡ false → record_number (broken_rule small b) < 256)
    × (old_passes small b ≡ false → record_number (old_broken small b) < 256)
named_small l h = let b = board_of small l in let named = lowest_is_named small b in (
  (λ e. record-small (today small b) b (λ s. h) (broken_rule small b) (named.0 e).0),
  λ e. record-small (old small b) b (due-small l) (old_broken small b) (named.1 e).0,
)

-- what is told is the record of the rule named, or 0
named-fits : (l : List ℕ) (r : Rule) (passed : Bool) (a : Answer) → Names small l r passed a
    → (passed ≡ false → record_number r < 256) → (handed a).record_no < 256
named-fits l r passed a n fits = step (ℕ_discrete (handed a).number 2)
  where
    step : Dec ((handed a).number ≡ 2) → (handed a).record_no < 256
    step (yes two) =
        let e = ap (λ (x : Answer). (handed x).record_no) (n.1 two) in
        let f = fits (n.0.0 two).1 in
        omega arith
    step (no other) = let t = rule_only_with_2 a in let z = t.2 (t.1 other) in omega arith

pub record_fits : RecordFits
record_fits l h =
    let b = board_of small l in
    let (calls, checks, converts, sound) = verdict_stays small l in
    let (now, before) = named_small l (h 1) in (
      (λ call. named-fits l (broken_rule small b) (passes small b) (effect small l call).answer (calls call) now),
      named-fits l (broken_rule small b) (passes small b) (check small l).answer checks now,
      named-fits l (old_broken small b) (old_passes small b) (convert small l).answer converts before,
    )

-- the lower part of a sum and the higher one are told by it
byte-told : (a e x y : ℕ) → a < 256 → e < 256 → a + 256 * x ≡ e + 256 * y → (a ≡ e) × (x ≡ y)
byte-told a e x y h g q = let same : a ≡ e = omega arith in (same, omega arith)

word-told : (a e x y : ℕ) → a < 65536 → e < 65536 → a + 65536 * x ≡ e + 65536 * y → (a ≡ e) × (x ≡ y)
word-told a e x y h g q = let same : a ≡ e = omega arith in (same, omega arith)

-- the sixteen bits behind the number: the value, or the rule and the record
abbrev middle : Handed → ℕ
middle h = h.value + h.rule + 256 * h.record_no

middle_small : (a : Answer) → Words a → middle (handed a) < 65536
middle_small (Ok a) w = let h = w.value in omega arith
middle_small (Err q) w = let h = rule-small (Err q) in let r = w.record_no in omega arith

-- where the numbers are the same they tell which
middle_told : (a e : Answer) → Words a → Words e → (handed a).number ≡ (handed e).number → middle (handed a) ≡ middle (handed e)
    → ((handed a).value ≡ (handed e).value) × ((handed a).rule ≡ (handed e).rule) × ((handed a).record_no ≡ (handed e).record_no)
middle_told (Ok a) (Ok e) w u i j = (omega arith, refl, refl)
middle_told (Ok a) (Err q) w u i j = let k = (refusal-number q).0 in absurd (omega arith)
middle_told (Err q) (Ok e) w u i j = let k = (refusal-number q).0 in absurd (omega arith)
middle_told (Err q) (Err r) w u i j =
    let k = rule-small (Err q) in
    let l = rule-small (Err r) in
    let (rule, record_no) = byte-told (told q).rule (told r).rule (told q).record_no (told r).record_no
    (omega arith) (omega arith) (omega arith) in
    (refl, rule, record_no)

-- so the number, the middle, running and delivered, one after the other
pub packed_tells : PackedTells
packed_tells a e w u q =
    let h = handed a in
    let g = handed e in
    let n = number_small a in
    let m = number_small e in
    let (number, rest) = byte-told h.number g.number (middle h + 65536 * (h.running + 65536 * h.delivered))
    (middle g + 65536 * (g.running + 65536 * g.delivered)) (omega arith) (omega arith) (omega arith) in
    let (second, last) = word-told (middle h) (middle g) (h.running + 65536 * h.delivered) (g.running + 65536 * g.delivered)
    (middle_small a w) (middle_small e u) rest in
    let (running, delivered) = word-told h.running g.running h.delivered g.delivered w.running u.running last in
    let (value, rule, record_no) = middle_told a e w u number second in
    handed_tells a e (λ i. record {
      number = number i;
      value = value i;
      running = running i;
      delivered = delivered i;
      rule = rule i;
      record_no = record_no i;
    })

pub no_answer_is_255 : NoAnswerIs255
no_answer_is_255 a q = let n = number_small a in absurd (omega arith)
