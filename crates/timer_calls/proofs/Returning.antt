-- A tick, in plain variables, in the order in which the code meets it: one message goes back, the loop over the entries, and now.
--   freed_to at i es    the entries, the first i of them freed where they are due
--   Going ..            the loop has come to entry i
-- Assumes nothing.
use Rattle.std.proofs.Common.{◌≡◌, ℕ, zero, suc, ◌+◌, ◌<◌, ◌≤◌, Bool, true, false, cond, ◌||◌, List, [], ◌∷◌, map, length, get_or, drop, set, sym, refl, ap, ◌∙◌, subst, arith, drop_of_length-le, drop-cons}
use mathlib.Core.Bool.{or-true, or-false}
use lib.Seq.{set-get_or}
use Rattle.std.specs.Prelude.{Option, Some, None}
use Rattle.board.specs.declared.numbers.Size.{Size}
use Rattle.board.specs.declared.numbers.TaskNo.{TaskNo}
use Rattle.board.specs.declared.numbers.MsgNo.{MsgNo}
use Rattle.board.specs.declared.records.Message.{Message}
use Rattle.board.specs.Numbers.{outside, task_meant, message_meant}
use Rattle.board.specs.Records.{Byte}
use Rattle.board.specs.Board.{Board, board_of, message}
use Rattle.board.proofs.Meant.{task_meant-task, task_meant_none, message_meant-message, message_meant_none}
use Rattle.timer.specs.declared.entry.Entry.{Entry}
use Rattle.timer.specs.Timer.{timer, timer_length, timer_of, timer_bytes, no_entry, is_due, entry, with_entry}
use Rattle.timer.specs.Writes.{put_now, put_entry}
use Rattle.timer.specs.Claims.{TimerBytes}
use Rattle.timer.proofs.Codec.{length-entries, writing_back_changes_nothing}
use Rattle.timer.proofs.Written.{length-put_entry, timer-put_now, timer-put-entry}
use Rattle.paper.specs.Rules.{first_ready}
use Rattle.paper.specs.Outcomes.{Ends}
use Rattle.paper.specs.Answers.{Answer}
use Rattle.timing.specs.Timing.{wrapped, next_now, freed, EndsTimed}
use Rattle.stores.specs.Effects.{place_at, pass_on}
use Rattle.stores.specs.Calls.{finish}
use Rattle.lent.specs.declared.bytes.LentMut.{LentMut}
use Rattle.stores.specs.Answers as stores
use Rattle.stores.specs.Answers.{done}
use Rattle.timer_calls.specs.Stores.{Makes, Made, Ended, given_back, returned_bytes, any_due, returning, ticking, tick_called}
use Rattle.timer_calls.proofs.Starting.{dispatched}

-- ---- message m goes back: x is the message meant
module _ (z : Size) (l : List ℕ) (m : ℕ) {x : Option MsgNo} (ex : x ≡ message_meant z m) where
  abbrev b : Board
  b = board_of z l

  back_by : (t v : Bool) → outside z.messages m ≡ t → outside z.tasks (message b m).sptr ≡ v
      → cond (t || v) l (pass_on z l m (message b m).sptr) ≡ given_back z l m
  back_by t v e f = λ i. cond (sym e i || sym f i) l (pass_on z l m (message b m).sptr)

  -- the board has no such message
  pub back_none : x ≡ None → l ≡ given_back z l m
  back_none e = back_by true _ (message_meant_none z m (sym ex ∙ e)) refl

  -- it is `one`, of record u, and y is the task that its SPTR means
  module _ {one : MsgNo} (eo : x ≡ Some one) {u : Message} (eu : u ≡ message b one.0) {y : Option TaskNo}
      (ey : y ≡ task_meant z u.sptr) where
    found : (outside z.messages m ≡ false) × (one ≡ record { 0 = m })
    found = message_meant-message z m one (sym ex ∙ eo)

    reads : u ≡ message b m
    reads = eu ∙ (λ i. message b (found.1 i).0)

    sender : task_meant z (message b m).sptr ≡ y
    sender = (λ i. task_meant z (sym reads i).sptr) ∙ sym ey

    -- nor such a task
    pub back_nobody : y ≡ None → l ≡ given_back z l m
    back_nobody e = back_by false true found.0 (task_meant_none z (message b m).sptr (sender ∙ e))

    -- it is r: the message is placed there as it is
    pub back_at : {r : TaskNo} {d : List ℕ} → y ≡ Some r → d ≡ place_at z l one.0 u r.0 → d ≡ given_back z l m
    back_at {r = r} e ed =
        let t = task_meant-task z (message b m).sptr r (sender ∙ e) in
        ed ∙ (λ i. place_at z l (found.1 i).0 (reads i) (t.1 i).0) ∙ back_by false false found.0 t.0

-- ---- the entries, freed one after another
abbrev pub freed_to : ℕ → ℕ → List Entry → List Entry
freed_to at zero es = es
freed_to at (suc i) [] = []
freed_to at (suc i) (e ∷ es) = freed at e ∷ freed_to at i es

-- the next one is as it was
freed-next : (at i : ℕ) (es : List Entry) → get_or (freed_to at i es) i no_entry ≡ get_or es i no_entry
freed-next at zero es = refl
freed-next at (suc i) [] = refl
freed-next at (suc i) (e ∷ es) = freed-next at i es

-- it is freed too
freed-more : (at i : ℕ) (es : List Entry) → set (freed_to at i es) i (freed at (get_or es i no_entry)) ≡ freed_to at (suc i) es
freed-more at zero [] = refl
freed-more at zero (e ∷ es) = refl
freed-more at (suc i) [] = refl
freed-more at (suc i) (e ∷ es) = ap (λ (q : List Entry). freed at e ∷ q) (freed-more at i es)

-- it stays
freed_same : (at i : ℕ) (es : List Entry) → is_due at (get_or es i no_entry) ≡ false → freed_to at (suc i) es ≡ freed_to at i es
freed_same at i es e =
    sym (freed-more at i es)
    ∙ ap (set (freed_to at i es) i)
    (ap (λ (t : Bool). cond t no_entry (get_or es i no_entry)) e ∙ sym (freed-next at i es))
    ∙ set-get_or (freed_to at i es) i no_entry

-- once all were looked at, each that is due is freed
freed_all : (at i : ℕ) (es : List Entry) → length es ≤ i → freed_to at i es ≡ map (freed at) es
freed_all at zero [] h = refl
freed_all at zero (e ∷ es) h = absurd (omega arith)
freed_all at (suc i) [] h = refl
freed_all at (suc i) (e ∷ es) h = ap (λ (q : List Entry). freed at e ∷ q) (freed_all at i es (omega arith))

-- ---- the loop
-- from the buffers l₀ and s₀ it has come to entry i, with l and s: the entries up to it are freed where they were due, and what
-- is left to do makes of l, and of any, what there was to do from the start
pub record Going (z : Size) (at : ℕ) (l₀ s₀ l s : List ℕ) (i : ℕ) (any : Bool) : Type 0 where
  pub sound : TimerBytes s
  pub entries : timer_of s ≡ timer (timer_of s₀).ticks (freed_to at i (timer_of s₀).entries)
  pub board : returned_bytes z at (drop i (timer_of s₀).entries) l ≡ returned_bytes z at (timer_of s₀).entries l₀
  pub told : any || any_due at (drop i (timer_of s₀).entries) ≡ any_due at (timer_of s₀).entries

module _ (z : Size) (at : ℕ) (l₀ s₀ : List ℕ) where
  abbrev es : List Entry
  es = (timer_of s₀).entries

  pub going_begins : TimerBytes s₀ → Going z at l₀ s₀ l₀ s₀ 0 false
  going_begins h = record { sound = h; entries = refl; board = refl; told = refl }

  module _ (l s : List ℕ) (i : ℕ) {any : Bool} (g : Going z at l₀ s₀ l s i any) where
    -- e is the next entry, and t the test that it is due
    module _ (h : i < 16) {e : Entry} (ee : e ≡ entry (timer_of s) (i + 1)) {t : Bool} (et : t ≡ is_due at e) where
      next : i + 1 ≡ suc i
      next = omega arith

      old : e ≡ get_or es i no_entry
      old = ee ∙ (λ x. entry (g.entries x) (next x)) ∙ freed-next at i es

      due : is_due at (get_or es i no_entry) ≡ t
      due = ap (is_due at) (sym old) ∙ sym et

      left : drop i es ≡ get_or es i no_entry ∷ drop (i + 1) es
      left = drop-cons es i no_entry (omega (arith, length-entries s₀)) ∙ (λ x. get_or es i no_entry ∷ drop (sym next x) es)

      board-next : (v : Bool) → t ≡ v → returned_bytes z at (drop (i + 1) es) (cond v (given_back z l e.message) l)
          ≡ returned_bytes z at es l₀
      board-next v ev =
          (λ x. returned_bytes z at (drop (i + 1) es) (cond (sym (due ∙ ev) x) (given_back z l (old x).message) l))
          ∙ (λ x. returned_bytes z at (sym left x) l) ∙ g.board

      any_next : (v : Bool) → t ≡ v → any || (v || any_due at (drop (i + 1) es)) ≡ any_due at es
      any_next v ev =
          (λ x. any || (sym (due ∙ ev) x || any_due at (drop (i + 1) es)))
          ∙ (λ x. any || any_due at (sym left x)) ∙ g.told

      -- it is freed, which leaves the buffer f
      entries_next : t ≡ true → {f : List ℕ} {n : Entry} → n ≡ no_entry → f ≡ put_entry s (i + 1) n
          → timer_of f ≡ timer (timer_of s₀).ticks (freed_to at (i + 1) es)
      entries_next y {n = n} en ef =
          let none : n ≡ freed at (get_or es i no_entry) = en ∙ (λ x. cond (sym (due ∙ y) x) no_entry (get_or es i no_entry)) in
          ap timer_of ef ∙ timer-put-entry s g.sound.long (i + 1) n
          ∙ (λ x. with_entry (g.entries x) (next x) (none x))
          ∙ ap (timer (timer_of s₀).ticks) (freed-more at i es ∙ (λ x. freed_to at (sym next x) es))

      -- it is due: its message went back, and it is freed; the buffer f is of bytes still
      pub going_back : t ≡ true → {d f : List ℕ} {n : Entry} → d ≡ given_back z l e.message → n ≡ no_entry
          → f ≡ put_entry s (i + 1) n → ((j : ℕ) → Byte (get_or f j 0)) → Going z at l₀ s₀ d f (i + 1) true
      going_back y {n = n} ed en ef small =
          let long = ap length ef ∙ length-put_entry s (i + 1) n ∙ g.sound.long in
          record {
            sound = record { long = long; bytes = small };
            entries = entries_next y en ef;
            board = (λ x. returned_bytes z at (drop (i + 1) es) (ed x)) ∙ board-next true y;
            told = sym (or-true any) ∙ any_next true y;
          }

      -- it isn't
      pub going_on : t ≡ false → Going z at l₀ s₀ l s (i + 1) any
      going_on n = record {
        sound = g.sound;
        entries = g.entries
            ∙ ap (timer (timer_of s₀).ticks) (sym (freed_same at i es (due ∙ n)) ∙ (λ x. freed_to at (sym next x) es));
        board = board-next false n;
        told = any_next false n;
      }

    -- there is no other
    pub going_ends : 16 ≤ i → Makes any l s (returning z l₀ s₀ at)
    going_ends h =
        let long : length es ≤ i = omega (arith, length-entries s₀) in
        let none = drop_of_length-le es {i = i} long in
        record {
          answers = sym (or-false any) ∙ (λ x. any || any_due at (sym none x)) ∙ g.told;
          board = (λ x. returned_bytes z at (sym none x) l) ∙ g.board;
          timer = sym (writing_back_changes_nothing s g.sound)
              ∙ ap timer_bytes (g.entries ∙ ap (timer (timer_of s₀).ticks) (freed_all at i es long));
        }

-- ---- a tick: w is now before it and `at` now, f is the buffer with that, and any, d and e are what came of the loop
module _ (z : Size) (l s : List ℕ) (h : length s ≡ timer_length) {w at : ℕ} (ew : w ≡ (timer_of s).ticks)
    (ea : at ≡ wrapped (w + 1)) {f : List ℕ} (ef : f ≡ put_now s at)
    {any : Bool} {d e : List ℕ} (made : Makes any d e (returning z l f at)) where
  is_now : at ≡ next_now (timer_of s)
  is_now = ea ∙ (λ i. wrapped (ew i + 1))

  stepped : timer_of f ≡ timer at (timer_of s).entries
  stepped = ap timer_of ef ∙ timer-put_now s (omega arith) at

  tick_by : (v : Bool) → any ≡ v
      → Makes (cond v (task_meant z (first_ready z (board_of z d))) None) d e (ticking z l s)
  tick_by v ev =
      let a : any ≡ any_due (next_now (timer_of s)) (timer_of s).entries =
      made.answers ∙ (λ i. any_due (is_now i) (stepped i).entries) in
      let b : d ≡ returned_bytes z (next_now (timer_of s)) (timer_of s).entries l =
      made.board ∙ (λ i. returned_bytes z (is_now i) (stepped i).entries l) in
      record {
        answers = λ i. cond ((sym ev ∙ a) i) (task_meant z (first_ready z (board_of z (b i)))) None;
        board = b;
        timer = made.timer
            ∙ (λ i. timer_bytes (timer (stepped i).ticks (map (freed at) (stepped i).entries)))
            ∙ (λ i. timer_bytes (timer (is_now i) (map (freed (is_now i)) (timer_of s).entries)));
      }

  -- a message went back: x is the first ready task
  pub tick-stirs : any ≡ true → {x : Option TaskNo} → x ≡ task_meant z (first_ready z (board_of z d)) → Makes x d e (ticking z l s)
  tick-stirs y ex = subst (λ (x : Option TaskNo). Makes x d e (ticking z l s)) (sym ex) (tick_by true y)

  -- none did
  pub tick-rests : any ≡ false → Makes None d e (ticking z l s)
  tick-rests n = tick_by false n

-- ---- and dispatch behind it: n ran before, and x is whoever may have become ready
pub tick-made : (s : List ℕ) {n : ℕ} {x : Option TaskNo} {old mid new : LentMut} {e : List ℕ}
    → n ≡ (board_of old.size old.bytes.now).running → Made x old mid e (ticking old.size old.bytes.now s) → {a : Answer}
    → stores.Ended a mid new (finish mid.size n (done 0 x) mid.bytes.now) → Ended a old new e (tick_called old.size old.bytes.now s)
unfolding tick_called
tick-made s {old = old} r made =
    let o = ticking old.size old.bytes.now s in
    dispatched old.size (board_of old.size old.bytes.now).running
    (record { answer = done 0 o.answer; board = o.board; timer = o.timer }) refl r
    (record { answers = ap (done 0) made.answers; becomes = made.becomes; timer = made.timer })
