-- What each turn of a loop over the entries, and each way out of a look at them, makes of the definitions: a hypothesis for each
-- test and each callee's contract.
-- Assumes nothing.
use mathlib.Core.Path.{◌≡◌, sym, ap, ◌∙◌}
use mathlib.Core.Bool.{Bool, true, false, not, cond}
use mathlib.Core.List.{List}
use Prim.Native.Nat.{ℕ, ◌+◌, ◌-◌, ◌≤◌, ◌<◌}
use native.Mathlib.Omega.{arith}
use lib.ListN.{length}
use borrow.Author.Tests.{eq-eqb, ne_eqb}
use Rattle.std.specs.Prelude.{None, Some, Option}
use Rattle.links.specs.Queue.{each}
use Rattle.links.proofs.Bools.{each_at, each_all, each_next, each_fails}
use Rattle.board.specs.declared.numbers.Size.{Size}
use Rattle.board.specs.Board.{Board, board_of}
use Rattle.board.proofs.Codec.{length-places}
use Rattle.timer.specs.declared.entry.Entry.{Entry}
use Rattle.timer.specs.Timer.{Timer, timer_length, timer_of, is_used, entry}
use Rattle.timing.specs.Timing.{good_timer}
use Rattle.queue_rules.specs.Walks.{counted}
use Rattle.timer_rules.specs.Buffer.{timed_of, named_before, good_as, good_entry, used_of}
use Rattle.timer_rules.proofs.Buffers.{other, as_many, good-timer_is}

-- ---- the search for an entry that names m
module _ (t : Timer) (m : ℕ) where
  -- none up to entry j does
  abbrev pub unnamed : ℕ → Bool
  unnamed j = each (other t m) j

  -- entry j is e
  module _ (j : ℕ) {e : Entry} (h : 1 ≤ j) (s : e ≡ entry t j) where
    tells : e.message ≡ (entry t j).message
    tells = ap (λ (x : Entry). x.message) s

    -- it does
    pub named_here : (i : ℕ) → j < i → e.message ≡ m → true ≡ named_before t i m
    named_here i g d =
        let f : other t m j ≡ false = ap not (eq-eqb (entry t j).message m (sym tells ∙ d)) in
        ap not (sym (each_fails (other t m) (i - 1) j h (omega arith) f))

    -- it does not
    pub named-later : unnamed (j - 1) ≡ true → (e.message ≡ m → ⊥) → unnamed (j + 1 - 1) ≡ true
    named-later inv d =
        let p : j - 1 + 1 ≡ j = omega arith in
        let q : j + 1 - 1 ≡ j - 1 + 1 = omega arith in
        let f : other t m j ≡ true = ap not (ne_eqb (entry t j).message m (λ x. d (tells ∙ x))) in
        ap unnamed q ∙ each_next (other t m) (j - 1) inv (ap (other t m) p ∙ f)

  -- all before entry i were looked at
  pub named_none : (i j : ℕ) → unnamed (j - 1) ≡ true → i ≤ j → false ≡ named_before t i m
  named_none i j inv h = ap not (sym (each_all (other t m) (i - 1) (λ k g n. each_at (other t m) (j - 1) inv k g (omega arith))))

-- ---- all entries
module _ (b : Board) (t : Timer) where
  -- entry i + 1 is e, and g whether it is good
  module _ (i : ℕ) {e : Entry} {g : Bool} (s : e ≡ entry t (i + 1)) (d : g ≡ good_as b t (i + 1) e) where
    told : good_entry b t (i + 1) ≡ g
    told = ap (good_as b t (i + 1)) (sym s) ∙ sym d

    -- it is not
    pub entries_bad : i < 16 → g ≡ false → None ≡ used_of b t
    entries_bad h n =
        let f = each_fails (good_entry b t) 16 (i + 1) (omega arith) (omega arith) (told ∙ n) in
        ap (λ (x : Bool). cond x (Some (counted (λ i. is_used (entry t i)) 16)) None) (sym f)

    -- it is
    pub entries-good : each (good_entry b t) i ≡ true → g ≡ true → each (good_entry b t) (i + 1) ≡ true
    entries-good inv y = each_next (good_entry b t) i inv (told ∙ y)

  -- each is, and n are used
  pub entries-counted : (n : ℕ) → each (good_entry b t) 16 ≡ true → n ≡ counted (λ i. is_used (entry t i)) 16 → Some n ≡ used_of b t
  entries-counted n e d = ap Some d ∙ ap (λ (x : Bool). cond x (Some (counted (λ i. is_used (entry t i)) 16)) None) (sym e)

-- ---- the buffer
module _ (z : Size) (l s : List ℕ) where
  -- its length is right, u is what the look at the entries told, and k messages are on the timer
  pub timer-told : {u : Option ℕ} {k : ℕ} → length s ≡ timer_length → u ≡ used_of (board_of z l) (timer_of s)
      → k ≡ timed_of z (board_of z l) → as_many u k ≡ good_timer (board_of z l) s
  timer-told h e d = let p = good-timer_is z (board_of z l) s (length-places z l) in rw (p, eq-eqb (length s) timer_length h, e, d)
