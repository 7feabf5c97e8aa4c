-- 128 claims by a law: what a claim does on the board of a lone task whose messages are zero and free or held by it.
-- Assumes nothing.
use mathlib.Core.Path.{◌≡◌, refl, sym, ap, ap₂, ◌∙◌}
use mathlib.Core.Bool.{Bool, true, false, not, ◌&&◌}
use mathlib.Core.List.{List, [], ◌∷◌, ◌++◌, map}
use Prim.Native.Nat.{ℕ, zero, suc, ◌+◌}
use native.Mathlib.Omega.{arith}
use lib.ListN.{length, get_or, set, replicate, length-append}
use lib.Dec.{eqb}
use borrow.Author.Tests.{ne_eqb}
use Rattle.links.specs.Queue.{first_of, cons_if, which, each, lists}
use Rattle.board.specs.declared.records.Task.{Task}
use Rattle.board.specs.declared.records.Message.{Message}
use Rattle.board.specs.declared.places.Place.{Place}
use Rattle.board.specs.declared.places.Place.TheVariants.{Free, HeldBy, QueuedAt, OnTimer, Nowhere}
use Rattle.board.specs.Numbers.{small, task_no}
use Rattle.board.specs.Status.{stored}
use Rattle.board.specs.Records.{no_task, no_message}
use Rattle.board.specs.Places.{place_in, place_bytes, is_free, is_queued_at}
use Rattle.board.specs.Board.{Board, board, board_of, bytes_of, cut, join, nth, with_place}
use Rattle.paper.specs.declared.call.Call.{Call}
use Rattle.paper.specs.declared.call.Call.TheVariants.{Claim}
use Rattle.paper.specs.declared.answer.Refusal.TheVariants.{WrongLength, RuleBroken, NoneFree}
use Rattle.paper.specs.Answers.{Handed, handed}
use Rattle.paper.specs.Rules.{present, next_message, message_number, good_message, rule4_at, rule5_at, passes}
use Rattle.paper.specs.Effects.{lowest_free}
use Rattle.paper.specs.Named.{broken_rule}
use Rattle.paper.specs.Refusals.{no3, test, given}
use Rattle.paper.specs.Outcomes.{Outcome, accepted, undispatched, dispatch, judge, called, effect}
use Rattle.paper.specs.History.{run}
use Rattle.starred.specs.Table.{accepts, claimed}

-- ---- the boards
abbrev lone_task : Task
lone_task = record { stat = stored 0x01; prio = 0x33; link = 0; mptr = 0; sptr = 0; name = 0 }

abbrev held : Place
held = HeldBy (task_no 1)

abbrev lone : List Place → Board
lone ps = board 1 1 (0 ∷ 0 ∷ []) (lone_task ∷ replicate 31 no_task) (replicate 128 no_message) ps

abbrev pub bytes : List Place → List ℕ
bytes ps = bytes_of (lone ps)

-- j messages held, n free
abbrev pub spread : ℕ → ℕ → List Place
spread j n = replicate j held ++ replicate n Free

-- every message is free or held by task 1
abbrev FewAt : Place → Type 0
FewAt Free = Unit {0}
FewAt (HeldBy k) = k.0 ≡ 1
FewAt (QueuedAt k) = ⊥
FewAt OnTimer = ⊥
FewAt (Nowhere p) = ⊥

abbrev Few : List Place → Type 0
Few [] = Unit {0}
Few (p ∷ ps) = FewAt p × Few ps

spread_few : (j n : ℕ) → Few (spread j n)
spread_few zero zero = tt
spread_few zero (suc n) = (tt, spread_few zero n)
spread_few (suc j) n = (refl, spread_few j n)

spread_length : (j n : ℕ) → length (spread j n) ≡ j + n
spread_length zero zero = refl
spread_length zero (suc n) = let e = spread_length zero n in omega arith
spread_length (suc j) n = let e = spread_length j n in omega arith

-- ---- such a board passes
zeros_at : {A : Type 0} (x : A) (n i : ℕ) → get_or (replicate n x) i x ≡ x
zeros_at x zero i = refl
zeros_at x (suc n) zero = refl
zeros_at x (suc n) (suc i) = zeros_at x n i

zero-message : (m : ℕ) → nth no_message (replicate 128 no_message) m ≡ no_message
zero-message zero = refl
zero-message (suc m) = zeros_at no_message 128 m

no_queue : (k : ℕ) → (nth no_task (lone_task ∷ replicate 31 no_task) k).mptr ≡ 0
no_queue zero = refl
no_queue (suc zero) = refl
no_queue (suc (suc k)) = ap (λ (t : Task). t.mptr) (zeros_at no_task 31 k)

few_at : (ps : List Place) → Few ps → (i : ℕ) → FewAt (get_or ps i Free)
few_at [] h i = tt
few_at (p ∷ ps) h zero = h.0
few_at (p ∷ ps) h (suc i) = few_at ps h.1 i

few-place : (ps : List Place) → Few ps → (m : ℕ) → FewAt (nth Free ps m)
few-place ps h zero = tt
few-place ps h (suc m) = few_at ps h m

free_or_held : (ps : List Place) (p : Place) → FewAt p → good_message small (present (lone ps)) no_message p ≡ true
free_or_held ps Free h = refl
free_or_held ps (HeldBy k) h = ap (present (lone ps)) h
free_or_held ps (QueuedAt k) h = absurd h
free_or_held ps OnTimer h = absurd h
free_or_held ps (Nowhere p) h = absurd h

rule4_holds : (ps : List Place) → Few ps → (m : ℕ) → rule4_at small (lone ps) m ≡ true
rule4_holds ps h m =
    ap (λ (u : Message). good_message small (present (lone ps)) u (nth Free ps m)) (zero-message m)
    ∙ free_or_held ps (nth Free ps m) (few-place ps h m)

not_queued : (k : ℕ) (p : Place) → FewAt p → is_queued_at k p ≡ false
not_queued k Free h = refl
not_queued k (HeldBy j) h = refl
not_queued k (QueuedAt j) h = absurd h
not_queued k OnTimer h = absurd h
not_queued k (Nowhere p) h = absurd h

none_queued : (ps : List Place) → Few ps → (k n : ℕ) → which (is_queued_at k) n ps ≡ []
none_queued [] h k n = refl
none_queued (p ∷ ps) h k n =
    ap₂ (λ (t : Bool) (l : List ℕ). cons_if t n l) (not_queued k p h.0) (none_queued ps h.1 k (suc n))

rule5_holds : (ps : List Place) → Few ps → (k : ℕ) → rule5_at small (lone ps) k ≡ true
rule5_holds ps h k =
    ap₂ (λ (x : ℕ) (l : List ℕ). lists (next_message (lone ps)) (message_number (lone ps)) 128 x l) (no_queue k) (none_queued ps h k 1)

each-true : (f : ℕ → Bool) → ((m : ℕ) → f m ≡ true) → (n : ℕ) → each f n ≡ true
each-true f h zero = refl
each-true f h (suc n) = ap₂ (λ (s t : Bool). s && t) (each-true f h n) (h (suc n))

lone-passes : (ps : List Place) → Few ps → passes small (lone ps) ≡ true
lone-passes ps h =
    ap₂ (λ (s t : Bool). true && (s && t && true) && true) (each-true (rule4_at small (lone ps)) (rule4_holds ps h) 128)
    (each-true (rule5_at small (lone ps)) (rule5_holds ps h) 32)

-- ---- its bytes are that board
place_back : (p : Place) → FewAt p → place_in small (place_bytes p) ≡ p
place_back Free h = refl
place_back (HeldBy k) h =
    ap (λ (n : ℕ). place_in small (place_bytes (HeldBy (task_no n)))) h ∙ ap (λ (n : ℕ). HeldBy (task_no n)) (sym h)
place_back (QueuedAt k) h = absurd h
place_back OnTimer h = absurd h
place_back (Nowhere p) h = absurd h

places_back : (n : ℕ) (ps : List Place) → length ps ≡ n → Few ps → map (place_in small) (cut n 1 (join (map place_bytes ps))) ≡ ps
places_back zero [] e h = refl
places_back zero (p ∷ ps) e h = absurd (omega arith)
places_back (suc n) [] e h = absurd (omega arith)
places_back (suc n) (p ∷ ps) e h =
    ap₂ (λ (x : Place) (l : List Place). x ∷ l) (place_back p h.0) (places_back n ps (omega arith) h.1)

reads : (ps : List Place) → length ps ≡ 128 → Few ps → board_of small (bytes ps) ≡ lone ps
reads ps n h = ap lone (places_back 128 ps n h)

places-length : (ps : List Place) → length (join (map place_bytes ps)) ≡ length ps
places-length [] = refl
places-length (p ∷ ps) = let e = places-length ps in omega arith

right_length : (ps : List Place) → length ps ≡ 128 → eqb (length (bytes ps)) 1476 ≡ true
right_length ps n =
    ap (λ (k : ℕ). eqb k 1476) (length-append (bytes []) (join (map place_bytes ps)) ∙ ap (λ (k : ℕ). 1348 + k) (places-length ps ∙ n))

-- ---- a claim on it
-- the claim's outcome, by its tests and the lowest free message
abbrev claimed_by : List Place → Bool → Bool → Bool → ℕ → Outcome
claimed_by ps t u w m =
    judge (bytes ps)
    (given (test WrongLength (not t) ∷ test (RuleBroken (broken_rule small (lone ps))) (not u) ∷ no3 1 ∷ test NoneFree w ∷ []))
    (dispatch small (bytes ps) (undispatched m (with_place (lone ps) m held)))

claim_gives : (ps : List Place) (i : ℕ) → length ps ≡ 128 → Few ps → lowest_free (lone ps) ≡ suc i
    → effect small (bytes ps) Claim ≡ accepted (suc i) 1 0 (bytes (set ps i held))
claim_gives ps i n h e =
    ap (λ (b : Board). called small (bytes ps) b b.running Claim) (reads ps n h)
    ∙ (λ j. claimed_by ps (right_length ps n j) (lone-passes ps h j) (eqb (e j) 0) (e j))
    ∙ ap (λ (w : Bool). claimed_by ps true true w (suc i)) (ne_eqb (suc i) 0 (λ q. omega arith))

-- the lowest free one, counted from s
spread_first : (j n s : ℕ) → first_of (which is_free s (spread j (suc n))) ≡ s + j
spread_first zero n s = omega arith
spread_first (suc j) n s = spread_first j n (suc s) ∙ omega arith

spread_set : (j n : ℕ) → set (spread j (suc n)) j held ≡ spread (suc j) n
spread_set zero n = refl
spread_set (suc j) n = ap (λ (l : List Place). held ∷ l) (spread_set j n)

claim-next : (j n : ℕ) → j + suc n ≡ 128
    → effect small (bytes (spread j (suc n))) Claim ≡ accepted (suc j) 1 0 (bytes (spread (suc j) n))
claim-next j n e =
    claim_gives (spread j (suc n)) j (spread_length j (suc n) ∙ e) (spread_few j (suc n)) (spread_first j n 1 ∙ omega arith)
    ∙ ap (λ (l : List Place). accepted (suc j) 1 0 (bytes l)) (spread_set j n)

-- n claims, and what follows them
pub claims-run : (n j : ℕ) (calls : List Call) → j + n ≡ 128
    → map handed (run small (bytes (spread j n)) (replicate n Claim ++ calls)).answers
    ≡ claimed n (suc j) ++ map handed (run small (bytes (spread 128 0)) calls).answers
claims-run zero j calls e =
    ap (λ (i : ℕ). map handed (run small (bytes (spread i 0)) calls).answers) (let f : j ≡ 128 = omega arith in f)
claims-run (suc n) j calls e =
    ap (λ (o : Outcome). handed o.answer ∷ map handed (run small o.after (replicate n Claim ++ calls)).answers) (claim-next j n e)
    ∙ ap (λ (l : List Handed). accepts (suc j) 1 0 ∷ l) (claims-run n (suc j) calls (omega arith))
