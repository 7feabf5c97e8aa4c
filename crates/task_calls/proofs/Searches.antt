-- A search of all messages by a test, as the definitions say it: `holds_one` lists those that pass, `is_awaited` asks that each fails.
-- Assumes nothing.
use mathlib.Core.Path.{◌≡◌, sym, ap, ◌∙◌, subst}
use mathlib.Core.Bool.{Bool, true, false, not, true≢false}
use mathlib.Core.List.{List}
use Prim.Native.Nat.{ℕ, ◌-◌, ◌≤◌}
use native.Mathlib.Omega.{arith}
use native.Mathlib.Decide.{ℕ_discrete}
use lib.Dec.{eqb}
use borrow.Author.Tests.{eq-eqb, ne_eqb}
use denote.Param.Members.{Mut, Called}
use Rattle.std.specs.Prelude.{Option, Some, None, IsSomeAnd, IfSome}
use Rattle.std.specs.Option.{option_map, unwrap_or}
use Rattle.std.proofs.lemmas.Option.{none-some}
use Rattle.std.specs.Bool.{MatchBool}
use Rattle.std.specs.declared.ops.RangeInclusive.{RangeInclusive}
use Rattle.std.specs.Range.{range_inclusive_start, range_inclusive_end, range_inclusive_exhausted}
use Rattle.std.specs.Iterator.Runs.{Run, CallKeepsClosure, AnyItemGives, AllItemsGive}
use Rattle.std.proofs.iter.runs.Sources.{nat_range_inclusive_steps, inclusive_listed}
use Rattle.links.specs.Queue.{each, which, first_of}
use Rattle.links.proofs.Bools.{each_all, each_fails}
use Rattle.board.specs.declared.numbers.Size.{Size}
use Rattle.board.specs.declared.places.Place.{Place}
use Rattle.board.specs.declared.places.Place.TheVariants.{Free}
use Rattle.board.specs.Board.{board_of, place}
use Rattle.board.proofs.Codec.{length-places}
use Rattle.linked.proofs.Running.{which_first, which_none}

-- r says whether one of the numbers from 1 to n passes
abbrev pub SaysAny : (ℕ → Bool) → ℕ → Bool → Type 0
SaysAny f n r = MatchBool r ((m : ℕ) × (1 ≤ m) × (m ≤ n) × (f m ≡ true)) ((m : ℕ) → 1 ≤ m → m ≤ n → f m ≡ false)

pub any_each : (f : ℕ → Bool) (n : ℕ) (r : Bool) → SaysAny f n r → r ≡ not (each (λ m. not (f m)) n)
any_each f n true (m, h, g, e) = sym (ap not (each_fails (λ m. not (f m)) n m h g (ap not e)))
any_each f n false h = sym (ap not (each_all (λ m. not (f m)) n (λ m a b. ap not (h m a b))))

pub any_place : (z : Size) (l : List ℕ) (test : Place → Bool) → test Free ≡ false → (r : Bool)
    → SaysAny (λ m. test (place (board_of z l) m)) z.messages r
    → r ≡ not (eqb (first_of (which test 1 (board_of z l).places)) 0)
any_place z l test none true (m, h, g, e) =
    sym (ap not (ne_eqb _ 0 (λ q. which_none Free test (board_of z l).places none q m e)))
any_place z l test none false h = sym (ap not (eq-eqb first 0 (zero (ℕ_discrete first 0))))
  where
    first : ℕ
    first = first_of (which test 1 (board_of z l).places)

    zero : Dec (first ≡ 0) → first ≡ 0
    zero (yes p) = p
    zero (no q) =
        let r = which_first Free test (board_of z l).places q in
        absurd (true≢false (sym r.1 ∙ h first r.0.0 (let s = length-places z l in omega (arith, r.0.1))))

found : {P Q : ℕ → Type 0} (o : Option ℕ) → IsSomeAnd o P → IfSome o Q → (x : ℕ) × P x × Q x
found (Some x) h g = (x, h, g)
found None h g = absurd h

read : (P : ℕ → Type 0) (o : Option ℕ) (x : ℕ) → option_map (λ y. y) o ≡ Some x → IfSome o P → P x
read P (Some y) x e h = subst P (ap (λ (o : Option ℕ). unwrap_or o x) e) h
read P None x e h = absurd (none-some x e)

-- `any` over q, which is 1..=n, asks f of each number
module _ {F : Type 0} {g : Mut F (ℕ × Unit {0}) Bool} {s : F} (keeps : CallKeepsClosure g s) (f : ℕ → Bool)
    (told : (x : ℕ) (t : Bool) → Called g s (x, tt) t s → t ≡ f x) {q : RangeInclusive ℕ} {n : ℕ}
    (a : range_inclusive_start q ≡ 1) (b : range_inclusive_end q ≡ n) (c : range_inclusive_exhausted q ≡ false) where
  pub any_says : (r : Bool) (p : Run nat_range_inclusive_steps) → p.from ≡ q
      → MatchBool r (AnyItemGives p g s true) ((p.whole ≡ true) × AllItemsGive p g s false) → SaysAny f n r
  any_says true p e h =
      let i = h keeps in
      let l = inclusive_listed p p.seen in
      let x = found (p.at i.0) i.2 ((l.4 (ap range_inclusive_exhausted e ∙ c)).0.2 i.0) in
      let first = ap range_inclusive_start e ∙ a in
      let last = ap range_inclusive_end e ∙ b in
      (x.0, omega (arith, x.2.0, l.2, first), omega (arith, x.2.1, l.3, last), sym (told x.0 true x.1))
  any_says false p e h = λ m low high.
      let l = inclusive_listed p p.seen in
      let first = ap range_inclusive_start e ∙ a in
      let last = ap range_inclusive_end e ∙ b in
      let up = (l.4 (ap range_inclusive_exhausted e ∙ c)).0 in
      let at = up.3 (m - 1) (omega (arith, up.1 h.0, l.2, l.3, first, last, low, high)) in
      let called = read (λ x. Called g s (x, tt) false s) (p.at (m - 1)) _ at (h.1 keeps (m - 1)) in
      sym (told _ false called ∙ ap f (omega (arith, l.2, first, low)))
