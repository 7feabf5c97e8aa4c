-- The fields that send writes, in plain variables. Assumes nothing.
use mathlib.Core.Path.{◌≡◌, sym, ap, ◌∙◌}
use mathlib.Core.Logic.{◌≢◌}
use mathlib.Core.Bool.{Bool, cond}
use Prim.Native.Nat.{ℕ, ◌+◌, ◌*◌, ◌%◌}
use lib.Dec.{eqb}
use borrow.Author.Tests.{eq-eqb, ne_eqb}
use Rattle.board.specs.declared.records.Message.{Message}
use Rattle.board.specs.Status.{number}
use Rattle.board.specs.Records.{with_prio, with_rptr, with_sptr}
use Rattle.paper.specs.Effects.{own_prio}
use Rattle.stores.specs.Effects.{addressed_as}

-- x or y by the test that code made
chosen : {A : Type 0} (a b : ℕ) (x y : A) → a ≡ b → x ≡ cond (eqb a b) x y
chosen a b x y e = ap (λ (t : Bool). cond t x y) (sym (eq-eqb a b e))

left : {A : Type 0} (a b : ℕ) (x y : A) → a ≢ b → y ≡ cond (eqb a b) x y
left a b x y n = ap (λ (t : Bool). cond t x y) (sym (ne_eqb a b n))

-- 127 gives the sender's own number; n and k are the numbers read
pub own_prio-given : (p own : ℕ) {n k : ℕ} → n ≡ number p → n ≡ 127 → k ≡ number own → 2 * k + p % 2 ≡ own_prio p own
own_prio-given p own en e ek =
    (λ i. 2 * ek i + p % 2) ∙ chosen (number p) 127 (2 * number own + p % 2) p (sym en ∙ e)

-- another number stays
pub own_prio_left : (p own : ℕ) {n : ℕ} → n ≡ number p → n ≢ 127 → p ≡ own_prio p own
own_prio_left p own en h = left (number p) 127 (2 * number own + p % 2) p (λ e. h (en ∙ e))

-- no sender: it is c
pub sender-given : (sptr c : ℕ) {n : ℕ} → sptr ≡ 0 → n ≡ c → n ≡ cond (eqb sptr 0) c sptr
sender-given sptr c e en = en ∙ chosen sptr 0 c sptr e

-- a sender stays
pub sender_left : (sptr c : ℕ) → sptr ≢ 0 → sptr ≡ cond (eqb sptr 0) c sptr
sender_left sptr c = left sptr 0 c sptr

-- the message with three fields changed
pub addresses : (u : Message) (own c r : ℕ) {p s : ℕ} {x y v : Message} → p ≡ own_prio u.prio own
    → s ≡ cond (eqb u.sptr 0) c u.sptr → x ≡ with_prio u p → y ≡ with_rptr x r → v ≡ with_sptr y s → v ≡ addressed_as u own c r
addresses u own c r ep es ex ey ev =
    ev ∙ (λ i. with_sptr ((ey ∙ (λ j. with_rptr ((ex ∙ (λ k. with_prio u (ep k))) j) r)) i) (es i))
