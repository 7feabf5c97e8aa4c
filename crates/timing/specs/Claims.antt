-- What holds of start and tick whatever their rows say, as statements; their proofs are in proofs/Theorems. A reader must believe this file.
--   NoSecondOutcome         a contract that says EndsTimed .. o fixes the answer and all bytes of both buffers
--   RefusalChangesNeither   a refused start or tick leaves every byte of both buffers
--   AcceptedPassed          a start or tick is accepted only of a board that passes and of a buffer that is good for it
--   FirstIsGiven            the refusal that it gives is the first of its row that applies; none is given only where none applies
--   RulesAreNamed           2 is given exactly where the length is right and a rule is broken, and names what broken_rule says
--   FreeNeverFires          a free entry is never due, also when now becomes 0, and a tick leaves it as it is
-- Assumes nothing.
use Rattle.std.specs.Prelude.{◌≡◌, true, false, List, ℕ, length, Err}
use Rattle.board.specs.declared.numbers.Size.{Size}
use Rattle.board.specs.Board.{total, board_of}
use Rattle.timer.specs.declared.entry.Entry.{Entry}
use Rattle.timer.specs.Timer.{is_used, is_due}
use Rattle.paper.specs.declared.answer.Refusal.{Refusal}
use Rattle.paper.specs.Rules.{passes}
use Rattle.paper.specs.Named.{broken_rule}
use Rattle.paper.specs.Claims.{Given, Names}
use Rattle.paper.specs.Answers.{Answer, accepts}
use Rattle.timing.specs.Timing.{good_timer, start_row, tick_row, freed, Timed, EndsTimed, start, tick}

abbrev pub NoSecondOutcome : Type 0
NoSecondOutcome =
    (o : Timed) (a e : Answer) (l m s t : List ℕ) → EndsTimed a l s o → EndsTimed e m t o → (a ≡ e) × (l ≡ m) × (s ≡ t)

abbrev pub Unchanged : List ℕ → List ℕ → Timed → Type 0
Unchanged l s o = (q : Refusal) → o.answer ≡ Err q → (o.board ≡ l) × (o.timer ≡ s)

abbrev pub RefusalChangesNeither : Type 0
RefusalChangesNeither =
    (z : Size) (l s : List ℕ) → ((m delay : ℕ) → Unchanged l s (start z l s m delay)) × Unchanged l s (tick z l s)

abbrev pub Only : Size → List ℕ → List ℕ → Timed → Type 0
Only z l s o =
    (v c m : ℕ) → o.answer ≡ accepts v c m → let b = board_of z l in
    (length l ≡ total z) × (passes z b ≡ true) × (good_timer b s ≡ true)

abbrev pub AcceptedPassed : Type 0
AcceptedPassed = (z : Size) (l s : List ℕ) → ((m delay : ℕ) → Only z l s (start z l s m delay)) × Only z l s (tick z l s)

abbrev pub FirstIsGiven : Type 0
FirstIsGiven =
    (z : Size) (l s : List ℕ) → let b = board_of z l in
    ((m delay : ℕ) → Given (start z l s m delay).answer (start_row z l b b.running s m delay))
    × Given (tick z l s).answer (tick_row z l b s)

abbrev pub RulesAreNamed : Type 0
RulesAreNamed =
    (z : Size) (l s : List ℕ) → let b = board_of z l in
    ((m delay : ℕ) → Names z l (broken_rule z b) (passes z b) (start z l s m delay).answer)
    × Names z l (broken_rule z b) (passes z b) (tick z l s).answer

abbrev pub FreeNeverFires : Type 0
FreeNeverFires = (at : ℕ) (e : Entry) → is_used e ≡ false → (is_due at e ≡ false) × (freed at e ≡ e)
