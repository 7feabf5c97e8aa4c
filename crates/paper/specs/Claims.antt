-- What holds of every call whatever its row says, as statements; their proofs are in proofs/Theorems. A reader must believe this file.
--   NoSecondOutcome     a contract that says Ends .. o fixes the answer and all bytes
--   RefusalChangesNothing   a refused call, check, fresh or conversion leaves every byte
--   AcceptedPassed      a call or a check is accepted only of bytes of the board's length whose board passes; a conversion only of such
--                       bytes whose board passes the old rules
--   FirstIsGiven        the refusal that a call, check, fresh or conversion gives is the first of its row that applies; none is given
--                       only where none applies
--   RowsAscend          the numbers of each of these rows ascend, so that the first that applies is the lowest
--   VerdictStays        2 is given exactly where the length is right and a rule is broken, and names what broken_rule says, by the conversion
--                       what old_broken says; a board that passes is accepted, with byte 1 as the running task
--   BrokenAt by z b r   the rule r is broken at the record that it names, by the rules of today or by the old ones; NoLater r s: r is a
--                       lower rule than s, or the same with no greater record; Lowest by z b r: it is broken, and none is lower
--   LowestIsNamed       the rule named is broken at the record named; no lower rule is broken, and no smaller record breaks that one
--   Fault z b k         what is wrong with the queue of task k
--   WrongQueue          R5 at task k, in words: its own walk does not end, meets a message that is not queued there or misses one that
--                       is, or a priority number falls
--   RuleOnlyWith2       a rule, 1 to 7, comes with 2 alone, and no record but with a rule; none with R1 and R3
--   HandedTells         the papers' numbers and values tell the answer
--   FreshInstallAccepted, AnswersDiffer, InstallWrites   the definitions refuse not all, answer not always the same, and do write
-- Assumes nothing.
use Rattle.std.specs.Prelude.{◌≡◌, ◌≢◌, ◌⊎◌, ◌↔◌, Bool, true, false, List, [], ◌∷◌, ℕ, ◌≤◌, ◌<◌, length, Err, Ok}
use Rattle.links.specs.Queue.{ends, rising}
use Rattle.links.specs.Chain.{In, Out, All}
use Rattle.board.specs.declared.numbers.Size.{Size}
use Rattle.board.specs.Numbers.{small, Numbered}
use Rattle.board.specs.Places.{is_queued_at}
use Rattle.board.specs.Board.{Board, total, board_of, task, place}
use Rattle.paper.specs.declared.call.Call.{Call}
use Rattle.paper.specs.declared.call.Call.TheVariants.{Install, Claim, Receive}
use Rattle.paper.specs.declared.answer.Rule.{Rule}
use Rattle.paper.specs.declared.answer.Rule.TheVariants.{R1, R2, R3, R4, R5, R6, R7}
use Rattle.paper.specs.declared.answer.Refusal.{Refusal}
use Rattle.paper.specs.declared.answer.Refusal.TheVariants.{RuleBroken, NothingToDeliver}
use Rattle.paper.specs.Answers.{rule_number, record_number, number_of, handed, Answer, accepts}
use Rattle.paper.specs.Rules.{next_message, message_number, queue, first_ready, passes}
use Rattle.paper.specs.Rules.{rule1, rule2_at, rule3, rule4_at, rule5_at, rule6_at, rule7}
use Rattle.paper.specs.Named.{broken_rule}
use Rattle.paper.specs.Refusals.{Test, no1, no2, row}
use Rattle.paper.specs.Outcomes.{Outcome, Ends, effect, fresh, check, blank}
use Rattle.paper.specs.Conversion.{old_rule1, old_rule4_at, old_rule7, old_passes, old_broken, old_no2, convert}

abbrev pub NoSecondOutcome : Type 0
NoSecondOutcome = (o : Outcome) (a e : Answer) (l m : List ℕ) → Ends a l o → Ends e m o → (a ≡ e) × (l ≡ m)

-- ---- a refusal changes no byte
abbrev pub Unchanged : List ℕ → Outcome → Type 0
Unchanged l o = (q : Refusal) → o.answer ≡ Err q → o.after ≡ l

abbrev pub RefusalChangesNothing : Type 0
RefusalChangesNothing =
    (z : Size) (l : List ℕ)
    → ((call : Call) → Unchanged l (effect z l call)) × Unchanged l (check z l) × Unchanged l (fresh z l) × Unchanged l (convert z l)

-- ---- accepted means that the board passed
abbrev pub Only : (Size → Board → Bool) → Size → List ℕ → Outcome → Type 0
Only test z l o = (v c m : ℕ) → o.answer ≡ accepts v c m → (length l ≡ total z) × (test z (board_of z l) ≡ true)

abbrev pub AcceptedPassed : Type 0
AcceptedPassed =
    (z : Size) (l : List ℕ)
    → ((call : Call) → Only passes z l (effect z l call)) × Only passes z l (check z l) × Only old_passes z l (convert z l)

-- ---- the first of the row is given; 15 is found at dispatch and stands in no row
-- q is the first of these that applies
abbrev pub First : Refusal → List Test → Type 0
First q [] = ⊥
First q (t ∷ tests) = ((t.applies ≡ true) × (t.refusal ≡ q)) ⊎ ((t.applies ≡ false) × First q tests)

abbrev pub Given : Answer → List Test → Type 0
Given (Ok a) tests = All (λ t. t.applies ≡ false) tests
Given (Err q) tests = q ≢ NothingToDeliver → First q tests

abbrev pub FirstIsGiven : Type 0
FirstIsGiven =
    (z : Size) (l : List ℕ) → let b = board_of z l in
    ((call : Call) → Given (effect z l call).answer (row z l b b.running call))
    × Given (check z l).answer (no1 z l ∷ no2 z b ∷ [])
    × Given (fresh z l).answer (no1 z l ∷ [])
    × Given (convert z l).answer (no1 z l ∷ old_no2 z b ∷ [])

abbrev pub Ascends : List Test → Type 0
Ascends [] = Unit {0}
Ascends (t ∷ tests) = All (λ u. number_of t.refusal < number_of u.refusal) tests × Ascends tests

abbrev pub RowsAscend : Type 0
RowsAscend =
    (z : Size) (l : List ℕ) (b : Board)
    → ((c : ℕ) (call : Call) → Ascends (row z l b c call))
    × Ascends (no1 z l ∷ no2 z b ∷ []) × Ascends (no1 z l ∷ []) × Ascends (no1 z l ∷ old_no2 z b ∷ [])

-- ---- which rule, and at which record
-- 2 is given exactly where the length is right and the board does not pass, and it names r
abbrev pub Names : Size → List ℕ → Rule → Bool → Answer → Type 0
Names z l r passed a =
    (((handed a).number ≡ 2) ↔ ((length l ≡ total z) × (passed ≡ false))) × ((handed a).number ≡ 2 → a ≡ Err (RuleBroken r))

abbrev pub VerdictStays : Type 0
VerdictStays =
    (z : Size) (l : List ℕ) → let b = board_of z l in
    ((call : Call) → Names z l (broken_rule z b) (passes z b) (effect z l call).answer)
    × Names z l (broken_rule z b) (passes z b) (check z l).answer
    × Names z l (old_broken z b) (old_passes z b) (convert z l).answer
    × (length l ≡ total z → passes z b ≡ true → (check z l).answer ≡ accepts 0 b.running 0)

-- R1, R4 and R7 and the record that R7 is told with, in an edition of the rules: today's, and the old one of saved boards
pub record Edition : Type 0 where
  pub first : Bool
  pub fourth : ℕ → Bool
  pub last : Bool
  pub told : ℕ

abbrev pub today : Size → Board → Edition
today z b = record { first = rule1 b; fourth = rule4_at z b; last = rule7 z b; told = b.running }

abbrev pub old : Size → Board → Edition
old z b = record { first = old_rule1 b; fourth = old_rule4_at z b; last = old_rule7 z b; told = first_ready z b }

abbrev pub BrokenAt : Edition → Size → Board → Rule → Type 0
BrokenAt by z b R1 = by.first ≡ false
BrokenAt by z b (R2 k) = Numbered z.tasks k.0 × (rule2_at b k.0 ≡ false)
BrokenAt by z b R3 = rule3 z b ≡ false
BrokenAt by z b (R4 m) = Numbered z.messages m.0 × (by.fourth m.0 ≡ false)
BrokenAt by z b (R5 k) = Numbered z.tasks k.0 × (rule5_at z b k.0 ≡ false)
BrokenAt by z b (R6 k) = Numbered z.tasks k.0 × (rule6_at b k.0 ≡ false)
BrokenAt by z b (R7 c) = (c ≡ by.told) × (by.last ≡ false)

abbrev pub NoLater : Rule → Rule → Type 0
NoLater r s = (rule_number r < rule_number s) ⊎ ((rule_number r ≡ rule_number s) × (record_number r ≤ record_number s))

abbrev pub Lowest : Edition → Size → Board → Rule → Type 0
Lowest by z b r = BrokenAt by z b r × ((s : Rule) → BrokenAt by z b s → NoLater r s)

abbrev pub LowestIsNamed : Type 0
LowestIsNamed =
    (z : Size) (b : Board)
    → (passes z b ≡ false → Lowest (today z b) z b (broken_rule z b)) × (old_passes z b ≡ false → Lowest (old z b) z b (old_broken z b))

pub data Fault (z : Size) (b : Board) (k : ℕ) : Type 0 where
  NoEnd : ends (next_message b) z.messages (task b k).mptr ≡ false → Fault z b k
  Meets : (m : ℕ) → In m (queue z b k) → is_queued_at k (place b m) ≡ false → Fault z b k
  Misses : (m : ℕ) → is_queued_at k (place b m) ≡ true → Out m (queue z b k) → Fault z b k
  Falls : rising (message_number b) 0 (queue z b k) ≡ false → Fault z b k

abbrev pub WrongQueue : Type 0
WrongQueue = (z : Size) (b : Board) (k : ℕ) → (rule5_at z b k ≡ false) ↔ Fault z b k

abbrev pub RuleOnlyWith2 : Type 0
RuleOnlyWith2 =
    (a : Answer) → let h = handed a in
    (h.number ≡ 2 → (1 ≤ h.rule) × (h.rule ≤ 7)) × (h.number ≢ 2 → h.rule ≡ 0)
    × (h.rule ≡ 0 → h.record_no ≡ 0) × (h.rule ≡ 1 → h.record_no ≡ 0) × (h.rule ≡ 3 → h.record_no ≡ 0)

abbrev pub HandedTells : Type 0
HandedTells = (a e : Answer) → handed a ≡ handed e → a ≡ e

-- ---- not a definition that refuses all, answers always the same, or writes nothing
abbrev pub FreshInstallAccepted : Type 0
FreshInstallAccepted = (effect small (blank small) (Install 1 0x01 0x33 0 0)).answer ≡ accepts 0 1 0

abbrev pub AnswersDiffer : Type 0
AnswersDiffer = let l = (effect small (blank small) (Install 1 0x01 0x33 0 0)).after in
    (effect small l Claim).answer ≢ (effect small l Receive).answer

abbrev pub InstallWrites : Type 0
InstallWrites = (effect small (blank small) (Install 1 0x01 0x33 0 0)).after ≢ blank small
