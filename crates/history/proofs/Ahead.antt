-- Who goes ahead of whom: what the relation says in each case, and that it puts any two entries made at different times in order.
-- Assumes nothing.
use mathlib.Core.Path.{◌≡◌, refl, sym, ap, ◌∙◌}
use mathlib.Core.Logic.{◌≢◌}
use mathlib.Core.Bool.{Bool, true, false, not, true≢false, or-false, not-not}
use Prim.Native.Nat.{ℕ, ◌<◌}
use native.Mathlib.Omega.{arith}
use lib.Dec.{ltb}
use borrow.Author.Tests.{ltb-true, ltb-false, lt-ltb, le-ltb, le-leb, lt-leb, eq-eqb, ne_eqb, not-true}
use Rattle.links.specs.Queue.{goes_before}
use Rattle.history.specs.Ranking.{Entry, ahead}

-- ---- what it says in each case
-- the lower number goes ahead
ahead_lower : (x y : Entry) → x.number < y.number → ahead x y ≡ true
ahead_lower x y h = simp (lt-ltb x.number y.number h)

-- the higher number doesn't
ahead_higher : (x y : Entry) → y.number < x.number → ahead x y ≡ false
ahead_higher x y h = simp (le-ltb x.number y.number (omega arith), ne_eqb x.number y.number (λ e. omega arith))

-- the later of two equals goes ahead if it is LIFO
ahead-later : (x y : Entry) → x.number ≡ y.number → y.time < x.time → ahead x y ≡ not x.fifo
ahead-later x y e t =
    simp (
      le-ltb x.number y.number (omega arith),
      eq-eqb x.number y.number e,
      lt-ltb y.time x.time t,
      le-ltb x.time y.time (omega arith),
      or-false,
    )

-- the earlier of two equals goes ahead if the later is FIFO
ahead-earlier : (x y : Entry) → x.number ≡ y.number → x.time < y.time → ahead x y ≡ y.fifo
ahead-earlier x y e t =
    simp (
      le-ltb x.number y.number (omega arith),
      eq-eqb x.number y.number e,
      le-ltb y.time x.time (omega arith),
      lt-ltb x.time y.time t,
    )

-- of two equals made at one time neither goes ahead
ahead_same : (x y : Entry) → x.number ≡ y.number → x.time ≡ y.time → ahead x y ≡ false
ahead_same x y e t =
    simp (
      le-ltb x.number y.number (omega arith),
      eq-eqb x.number y.number e,
      le-ltb y.time x.time (omega arith),
      le-ltb x.time y.time (omega arith),
    )

-- ---- the cases apart
-- which of two numbers is less
data Order (a b : ℕ) : Type 0 where
  less : a < b → Order a b
  same : a ≡ b → Order a b
  more : b < a → Order a b

-- one of the three holds
compare : (a b : ℕ) → Order a b
compare a b = step (ltb a b) refl (ltb b a) refl
  where
    step : (s : Bool) → ltb a b ≡ s → (t : Bool) → ltb b a ≡ t → Order a b
    step true p t q = less (ltb-true a b p)
    step false p true q = more (ltb-true b a q)
    step false p false q = same (omega (arith, ltb-false))

-- why x goes ahead of y
data Reason (x y : Entry) : Type 0 where
  lower : x.number < y.number → Reason x y
  pushed : x.number ≡ y.number → y.time < x.time → x.fifo ≡ false → Reason x y
  queued : x.number ≡ y.number → x.time < y.time → y.fifo ≡ true → Reason x y

-- there is a reason
reason : (x y : Entry) → ahead x y ≡ true → Reason x y
reason x y e = step (compare x.number y.number) (compare x.time y.time)
  where
    step : Order x.number y.number → Order x.time y.time → Reason x y
    step (less h) o = lower h
    step (more h) o = absurd (true≢false (sym e ∙ ahead_higher x y h))
    step (same d) (less t) = queued d t (sym (ahead-earlier x y d t) ∙ e)
    step (same d) (same t) = absurd (true≢false (sym e ∙ ahead_same x y d t))
    step (same d) (more t) = pushed d t (not-true x.fifo (sym (ahead-later x y d t) ∙ e))

-- any reason will do
reason_ahead : (x y : Entry) → Reason x y → ahead x y ≡ true
reason_ahead x y (lower h) = ahead_lower x y h
reason_ahead x y (pushed d t f) = ahead-later x y d t ∙ ap not f
reason_ahead x y (queued d t f) = ahead-earlier x y d t ∙ f

-- ---- it is an order
-- none goes ahead of itself
pub ahead_irreflexive : (x : Entry) → ahead x x ≡ false
ahead_irreflexive x = ahead_same x x refl refl

-- of two not each goes ahead of the other
pub ahead_asymmetric : (x y : Entry) → ahead x y ≡ true → ahead y x ≡ false
ahead_asymmetric x y e = step (reason x y e)
  where
    step : Reason x y → ahead y x ≡ false
    step (lower h) = ahead_higher y x h
    step (pushed d t f) = ahead-earlier y x (sym d) t ∙ f
    step (queued d t f) = ahead-later y x (sym d) t ∙ ap not f

-- what goes ahead of one goes ahead of those behind that one
pub ahead_transitive : (x y z : Entry) → x.time ≢ z.time → ahead x y ≡ true → ahead y z ≡ true → ahead x z ≡ true
ahead_transitive x y z n e u = reason_ahead x z (step (reason x y e) (reason y z u))
  where
    between : x.number ≡ z.number → x.fifo ≡ false → z.fifo ≡ true → Order x.time z.time → Reason x z
    between d f g (less t) = queued d t g
    between d f g (same t) = absurd (n t)
    between d f g (more t) = pushed d t f

    step : Reason x y → Reason y z → Reason x z
    step (lower h) (lower k) = lower (omega arith)
    step (lower h) (pushed d t f) = lower (omega arith)
    step (lower h) (queued d t f) = lower (omega arith)
    step (pushed d t f) (lower k) = lower (omega arith)
    step (pushed d t f) (pushed i s g) = pushed (d ∙ i) (omega arith) f
    step (pushed d t f) (queued i s g) = between (d ∙ i) f g (compare x.time z.time)
    step (queued d t f) (lower k) = lower (omega arith)
    step (queued d t f) (pushed i s g) = absurd (true≢false (sym f ∙ g))
    step (queued d t f) (queued i s g) = queued (d ∙ i) (omega arith) g

-- of two made at different times exactly one goes ahead of the other
pub ahead-total : (x y : Entry) → x.time ≢ y.time → ahead y x ≡ not (ahead x y)
ahead-total x y n = step (compare x.number y.number) (compare x.time y.time)
  where
    step : Order x.number y.number → Order x.time y.time → ahead y x ≡ not (ahead x y)
    step (less h) o = ahead_higher y x h ∙ sym (ap not (ahead_lower x y h))
    step (more h) o = ahead_lower y x h ∙ sym (ap not (ahead_higher x y h))
    step (same d) (less t) = ahead-later y x (sym d) t ∙ sym (ap not (ahead-earlier x y d t))
    step (same d) (same t) = absurd (n t)
    step (same d) (more t) = ahead-earlier y x (sym d) t ∙ sym (not-not x.fifo) ∙ sym (ap not (ahead-later x y d t))

-- ---- the newest
-- insertion puts it before a higher number
goes_higher : (f : Bool) (p x : ℕ) → p < x → goes_before f p x ≡ true
goes_higher true p x h = lt-ltb p x h
goes_higher false p x h = le-leb p x (omega arith)

-- before an equal if it is LIFO
goes_equal : (f : Bool) (p x : ℕ) → p ≡ x → goes_before f p x ≡ not f
goes_equal true p x e = le-ltb p x (omega arith)
goes_equal false p x e = le-leb p x (omega arith)

-- never before a lower number
goes_lower : (f : Bool) (p x : ℕ) → x < p → goes_before f p x ≡ false
goes_lower true p x h = le-ltb p x (omega arith)
goes_lower false p x h = lt-leb p x h

-- one later than another goes ahead of it just where insertion puts it before it
pub ahead_newest : (e x : Entry) → x.time < e.time → ahead e x ≡ goes_before e.fifo e.number x.number
ahead_newest e x t = step (compare e.number x.number)
  where
    step : Order e.number x.number → ahead e x ≡ goes_before e.fifo e.number x.number
    step (less h) = ahead_lower e x h ∙ sym (goes_higher e.fifo e.number x.number h)
    step (same d) = ahead-later e x d t ∙ sym (goes_equal e.fifo e.number x.number d)
    step (more h) = ahead_higher e x h ∙ sym (goes_lower e.fifo e.number x.number h)
