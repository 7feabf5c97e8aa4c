-- Start, in plain variables, in the order in which the code meets it: the lowest free entry, each refusal of the row behind 18,
-- and what is stored in both buffers. And dispatch behind a body that was lent both.
--   Looked t i    the search for the lowest free entry has come to entry i
-- Assumes nothing.
use Rattle.std.proofs.Common.{◌≡◌, ℕ, ◌+◌, ◌%◌, ◌<◌, ◌≤◌, Bool, true, false, cond, not, ◌≢◌, List, [], ◌∷◌, sym, refl, ap, ◌∙◌, subst, arith, eq-eqb, ne_eqb, eqb}
use Rattle.std.proofs.lemmas.Bool.{eqb-false}
use Rattle.std.specs.Prelude.{Option, Some, None, Err, Result}
use Rattle.board.specs.declared.numbers.Size.{Size}
use Rattle.board.specs.declared.numbers.TaskNo.{TaskNo}
use Rattle.board.specs.declared.numbers.MsgNo.{MsgNo}
use Rattle.board.specs.declared.records.Message.{Message}
use Rattle.board.specs.declared.places.Place.TheVariants.{OnTimer}
use Rattle.board.specs.Status.{number}
use Rattle.board.specs.Board.{Board, board_of, message}
use Rattle.board.specs.Writes.{put_place}
use Rattle.timer.specs.declared.entry.Entry.{Entry}
use Rattle.timer.specs.Timer.{Timer, timer_of, no_entry, is_used, entry}
use Rattle.timer.specs.Writes.{put_entry}
use Rattle.timer.proofs.Codec.{length-entries}
use Rattle.paper.specs.declared.answer.Refusal.{Refusal}
use Rattle.paper.specs.declared.answer.Refusal.TheVariants.{NoSuchTask, BadPriority, NoDelay, NoTimerFree}
use Rattle.paper.specs.Refusals.{Test, no6, no7, Verdict, Go, Stop, given}
use Rattle.paper.specs.Outcomes.{Ends}
use Rattle.paper.proofs.Rows.{given_stop, given_on}
use Rattle.paper.specs.Answers.{Answer}
use Rattle.timing.specs.Timing.{no16, no17, lowest_entry, wrapped, EndsTimed}
use Rattle.lent.specs.declared.bytes.LentMut.{LentMut}
use Rattle.lent.specs.Lent.{Becomes}
use Rattle.stores.specs.Answers as stores
use Rattle.stores.specs.Answers.{held_of, present_meant, done, Body, holds}
use Rattle.stores.specs.Calls.{finish}
use Rattle.stores.specs.declared.Held.{Held}
use Rattle.inner.proofs.Rows.{held_row, not_held_row, task_row, no_task_row}
use Rattle.inner.proofs.Searching.{first_above, first_here, first_above_lem, first_none}
use Rattle.timer_calls.specs.Stores.{entry_meant, Reply, Makes, Made, Ended, behind, start_by, starting_held, starting}

-- ---- the lowest free entry
-- the search has come to entry i: the lowest free one above it is the lowest of all
abbrev pub Looked : Timer → ℕ → Type 0
Looked t i = first_above (λ e. not (is_used e)) t.entries i ≡ lowest_entry t

module _ (s : List ℕ) (i : ℕ) (inv : Looked (timer_of s) i) where
  -- e is the next one, and u the test that it is used
  module _ (h : i < 16) {e : Entry} (ee : e ≡ entry (timer_of s) (i + 1)) {u : Bool} (eu : u ≡ is_used e) where
    is_free : not (is_used (entry (timer_of s) (i + 1))) ≡ not u
    is_free = ap (λ (x : Entry). not (is_used x)) (sym ee) ∙ ap not (sym eu)

    -- it is free
    pub entry_free : u ≡ false → Some (i + 1) ≡ entry_meant (lowest_entry (timer_of s))
    entry_free f =
        ap (λ (t : Bool). cond t None (Some (i + 1))) (sym (ne_eqb (i + 1) 0 (λ (e : i + 1 ≡ 0). omega arith)))
        ∙ ap entry_meant (first_here (λ x. x) no_entry (λ x. not (is_used x)) (timer_of s).entries i inv (omega (arith, length-entries s))
        (is_free ∙ ap not f))

    -- it is used
    pub entry-used : u ≡ true → Looked (timer_of s) (i + 1)
    entry-used f =
        first_above_lem (λ x. x) no_entry (λ x. not (is_used x)) (timer_of s).entries i inv (omega (arith, length-entries s))
        (is_free ∙ ap not f)

  -- there is no other: all are in use
  pub all_used : 16 ≤ i → None ≡ entry_meant (lowest_entry (timer_of s))
  all_used h = ap entry_meant (first_none (λ x. x) no_entry (λ x. not (is_used x)) (timer_of s).entries i inv (omega (arith, length-entries s)))

-- the entry that a number means is that
pub meant_entry : (n : ℕ) {i : ℕ} → entry_meant n ≡ Some i → (i ≡ n) × (i ≢ 0)
meant_entry n {i = i} e = go (eqb n 0) refl e
  where
    go : (t : Bool) → eqb n 0 ≡ t → cond t None (Some n) ≡ Some i → (i ≡ n) × (i ≢ 0)
    go true p q = absurd (let f : ◌≡◌ {A = ℕ} 0 1 = cc in omega arith)
    go false p q = let f : i ≡ n = cc in (f, λ h. eqb-false n 0 p (sym f ∙ h))

-- ---- on a board on lent bytes
-- nothing was written to it
pub unmoved : {A : Type 0} {a : A} {l : LentMut} {s : List ℕ} {o : Reply A} → Makes a l.bytes.now s o → Made a l l s o
unmoved m = record { answers = m.answers; becomes = record { bytes = m.board; size = refl; loan = refl }; timer = m.timer }

-- l has become d
pub made : {A : Type 0} {a : A} {l d : LentMut} {x s : List ℕ} {o : Reply A} → Becomes l d x → Makes a d.bytes.now s o → Made a l d s o
made b m = record { answers = m.answers; becomes = record { bytes = m.board; size = b.size; loan = b.loan }; timer = m.timer }

-- ---- by a verdict v
module _ (z : Size) (l s : List ℕ) (m delay : ℕ) {v : Verdict} where
  -- start is refused: both buffers are as they were
  pub start_stops : {q : Refusal} → v ≡ Stop q → Makes (Err q) l s (start_by v z l s m delay)
  start_stops {q = q} e =
      subst (λ (x : Verdict). Makes (Err q) l s (start_by x z l s m delay)) (sym e)
      (record { answers = refl; board = refl; timer = refl })

  -- it is done
  start_does : {d e : List ℕ} → v ≡ Go → d ≡ (start_by Go z l s m delay).board → e ≡ (start_by Go z l s m delay).timer
      → Makes (done 0 None) d e (start_by v z l s m delay)
  start_does {d = d} {e = e} g ed ee =
      subst (λ (x : Verdict). Makes (done 0 None) d e (start_by x z l s m delay)) (sym g)
      (record { answers = refl; board = ed; timer = ee })

-- ---- the held message m, of record u; back is the task that its SPTR means
module _ (z : Size) (l s : List ℕ) (m delay : ℕ) {u : Message} (eu : u ≡ message (board_of z l) m) {back : Option TaskNo}
    (eb : back ≡ present_meant z (board_of z l) u.sptr) where
  abbrev b : Board
  b = board_of z l

  abbrev sixth : Test
  sixth = no6 z b (message b m).sptr

  abbrev last : List Test
  last = no16 delay ∷ no17 (timer_of s) ∷ []

  means : present_meant z b (message b m).sptr ≡ back
  means = (λ i. present_meant z b (sym eu i).sptr) ∙ sym eb

  -- 6: none
  pub start_no_task : back ≡ None → Makes (Err NoSuchTask) l s (starting_held z l s m delay)
  start_no_task e =
      start_stops z l s m delay (given_stop sixth (no7 b m ∷ last) (no_task_row z b (message b m).sptr (means ∙ e)))

  -- it is r; p is the priority number of m
  module _ {r : TaskNo} (er : back ≡ Some r) {p : ℕ} (ep : p ≡ number u.prio) where
    prio : p ≡ number (message b m).prio
    prio = ep ∙ (λ i. number (eu i).prio)

    there : given (sixth ∷ no7 b m ∷ last) ≡ given (no7 b m ∷ last)
    there = given_on sixth (no7 b m ∷ last) (task_row z b (message b m).sptr r (means ∙ er)).0

    -- 7: it is 127
    pub start_bad_priority : p ≡ 127 → Makes (Err BadPriority) l s (starting_held z l s m delay)
    start_bad_priority e =
        start_stops z l s m delay
        (there ∙ given_stop (no7 b m) last (eq-eqb (number (message b m).prio) 127 (sym prio ∙ e)))

    module _ (h : p ≢ 127) where
      good : given (sixth ∷ no7 b m ∷ last) ≡ given last
      good = there ∙ given_on (no7 b m) last (ne_eqb (number (message b m).prio) 127 (λ e. h (prio ∙ e)))

      -- 16: the delay is 0
      pub start_no_delay : delay ≡ 0 → Makes (Err NoDelay) l s (starting_held z l s m delay)
      start_no_delay e =
          start_stops z l s m delay (good ∙ given_stop (no16 delay) (no17 (timer_of s) ∷ []) (eq-eqb delay 0 e))

      -- it isn't; i is the lowest free entry
      module _ (k : delay ≢ 0) {i : ℕ} (ei : i ≡ lowest_entry (timer_of s)) where
        later : given (sixth ∷ no7 b m ∷ last) ≡ given (no17 (timer_of s) ∷ [])
        later = good ∙ given_on (no16 delay) (no17 (timer_of s) ∷ []) (ne_eqb delay 0 k)

        -- 17: none
        pub start_no_entry : i ≡ 0 → Makes (Err NoTimerFree) l s (starting_held z l s m delay)
        start_no_entry e =
            start_stops z l s m delay
            (later ∙ given_stop (no17 (timer_of s)) [] (eq-eqb (lowest_entry (timer_of s)) 0 (sym ei ∙ e)))

        -- there is one: the message is on the timer, and w being now, it is due at the word `at`
        pub starts : {d e : List ℕ} {w at n : ℕ} → i ≢ 0 → d ≡ put_place z l m OnTimer → w ≡ (timer_of s).ticks
            → at ≡ wrapped (w + delay) → n ≡ m → e ≡ put_entry s i (record { message = n % 256; due = at })
            → Makes (done 0 None) d e (starting_held z l s m delay)
        starts g ed ew ea en ee =
            start_does z l s m delay
            (later ∙ given_on (no17 (timer_of s)) [] (ne_eqb (lowest_entry (timer_of s)) 0 (λ x. g (ei ∙ x)))) ed
            (ee
            ∙ (λ x. put_entry s (ei x) (record { message = en x % 256; due = (ea ∙ (λ y. wrapped (ew y + delay))) x })))

-- ---- any message w: h is what is held
module _ (z : Size) (l s : List ℕ) (w delay : ℕ) {h : Result Held Refusal} (eh : h ≡ held_of z (board_of z l) (board_of z l).running w) where
  abbrev rest : List Test
  rest = no6 z (board_of z l) (message (board_of z l) w).sptr ∷ no7 (board_of z l) w ∷ no16 delay ∷ no17 (timer_of s) ∷ []

  -- 3, 4 or 5: it is not
  pub start_not_held : {q : Refusal} → h ≡ Err q → Makes (Err q) l s (starting z l s w delay)
  start_not_held {q = q} e =
      start_stops z l s w delay (not_held_row z (board_of z l) (board_of z l).running w q rest (sym eh ∙ e))

  -- it is
  pub start_of_held : {k : TaskNo} {one : MsgNo} {x : Body} {old new : LentMut} {e : List ℕ} → h ≡ holds k one
      → Made x old new e (starting_held z l s one.0 delay) → Made x old new e (starting z l s w delay)
  start_of_held {k = k} {one = one} {x = x} {old = old} {new = new} {e = e} by =
      let g = held_row z (board_of z l) (board_of z l).running w k one rest (sym eh ∙ by) in
      subst (Made x old new e) ((λ i. starting_held z l s (g.2 i).0 delay) ∙ (λ i. start_by (sym g.0 i) z l s w delay))

-- ---- dispatch behind a body that comes to o of both buffers, c having run before it: old was the board, and mid is it behind the body
pub dispatched : (z : Size) (c : ℕ) (o : Reply Body) {n : ℕ} {y : Body} {old mid new : LentMut} {e : List ℕ} → z ≡ old.size → n ≡ c
    → Made y old mid e o → {a : Answer} → stores.Ended a mid new (finish mid.size n y mid.bytes.now)
    → Ended a old new e (behind (finish z c o.answer o.board) o.timer)
dispatched z c o {n = n} {y = y} {mid = mid} q r made h =
    let b = made.becomes in
    let e : finish mid.size n y mid.bytes.now ≡ finish z c o.answer o.board =
    λ i. finish ((b.size ∙ sym q) i) (r i) (made.answers i) (b.bytes i) in
    record {
      answers = h.answers ∙ (λ i. (e i).answer);
      becomes = record {
        bytes = h.becomes.bytes ∙ (λ i. (e i).after);
        size = h.becomes.size ∙ b.size;
        loan = h.becomes.loan ∙ b.loan;
      };
      timer = made.timer;
    }
