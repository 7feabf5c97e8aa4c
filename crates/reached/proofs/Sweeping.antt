-- Going back over numbers and over lists: what each line does, the whole way does.
-- Assumes nothing.
use mathlib.Core.Path.{◌≡◌, sym, subst}
use mathlib.Core.List.{List, [], ◌∷◌, ◌++◌, append-nil, append_assoc}
use Prim.Native.Nat.{ℕ, zero, suc, ◌≤◌, ◌<◌}
use native.Mathlib.Omega.{arith}
use native.Mathlib.Decide.{ℕ_discrete}
use Rattle.board.specs.declared.numbers.Size.{Size}
use Rattle.board.specs.Numbers.{Numbered}
use Rattle.board.specs.Board.{Board}
use Rattle.past.specs.Past.{Back, here, further, sweep, unlist}
use Rattle.reached.proofs.Making.{Makes, makes_none, makes_then}

-- ---- an earlier board, at which Inv holds, and the calls that lead from it to b
pub record Earlier (z : Size) (Inv : Board → Type 0) (b : Board) (y : Back) : Type 0 where
  pub inv : Inv y.board
  pub makes : Makes z y.board y.calls b

-- b itself
pub is_here : (z : Size) (Inv : Board → Type 0) (b : Board) → Inv b → Earlier z Inv b (here b)
is_here z Inv b v = record { inv = v; makes = makes_none z b }

-- and further back
pub is_further : (z : Size) (Inv Then : Board → Type 0) (b : Board) (y : Back) (f : Board → Back) → Earlier z Inv b y
    → ((d : Board) → Inv d → Earlier z Then d (f d)) → Earlier z Then b (further y f)
is_further z Inv Then b y f e h =
    let x = f y.board in
    let g = h y.board e.inv in
    record { inv = g.inv; makes = makes_then z x.board y.board b x.calls y.calls g.makes e.makes }

-- ---- over numbers
-- at the number k the earlier board is simple, and at the greater ones it is as simple as b
pub record Turned (z : Size) (Inv : Board → Type 0) (P : Board → ℕ → Type 0) (b : Board) (k : ℕ) (y : Back) : Type 0 where
  pub earlier : Earlier z Inv b y
  pub simple : P y.board k
  pub keeps : (j : ℕ) → k < j → P b j → P y.board j

-- nothing to do at k
pub turned_here : (z : Size) (Inv : Board → Type 0) (P : Board → ℕ → Type 0) (b : Board) (k : ℕ) → Inv b → P b k
    → Turned z Inv P b k (here b)
turned_here z Inv P b k v p = record { earlier = is_here z Inv b v; simple = p; keeps = λ j h g. g }

-- simple at every number above i
abbrev pub Above : (Board → ℕ → Type 0) → ℕ → ℕ → Board → Type 0
Above P n i b = (j : ℕ) → i < j → j ≤ n → P b j

module _ (z : Size) (Inv : Board → Type 0) (P : Board → ℕ → Type 0) (n : ℕ) (line : Board → ℕ → Back)
    (turn : (k : ℕ) (b : Board) → Numbered n k → Inv b → Above P n k b → Turned z Inv P b k (line b k)) where
  -- back over the numbers that are left
  down : (i : ℕ) → i ≤ n → (b : Board) → Inv b × Above P n i b → Earlier z (λ d. Inv d × Above P n 0 d) b (sweep line i b)
  down zero h b v = is_here z _ b v
  down (suc i) h b v =
      let t = turn (suc i) b (omega arith, h) v.0 v.1 in
      is_further z (λ d. Inv d × Above P n i d) _ b (line b (suc i)) (sweep line i)
      (record {
        inv = (t.earlier.inv, λ j g e. more j g t.simple (λ k. t.keeps j k (v.1 j k e)) (ℕ_discrete j (suc i)));
        makes = t.earlier.makes;
      })
      (λ d w. down i (omega arith) d w)
    where
      more : (j : ℕ) → i < j → P (line b (suc i)).board (suc i) → (suc i < j → P (line b (suc i)).board j) → Dec (j ≡ suc i)
          → P (line b (suc i)).board j
      more j g p k (yes e) = subst (P (line b (suc i)).board) (sym e) p
      more j g p k (no e) = k (omega arith)

  -- back over all of them: simple at each
  pub swept : (b : Board) → Inv b → Earlier z (λ d. Inv d × ((k : ℕ) → Numbered n k → P d k)) b (sweep line n b)
  swept b v =
      let r = down n (omega arith) b (v, λ j g e. absurd (omega arith)) in
      record { inv = (r.inv.0, λ k g. r.inv.1 k (omega (arith, g.0)) g.1); makes = r.makes }

-- ---- over a list: at each board the rest of the list is still to be gone over
module _ (z : Size) (Inv : List ℕ → Board → Type 0) (line : Board → ℕ → Back)
    (turn : (q : List ℕ) (x : ℕ) (b : Board) → Inv (q ++ x ∷ []) b → Earlier z (Inv q) b (line b x)) where
  back_to : (p q : List ℕ) (b : Board) → Inv (p ++ q) b → Earlier z (Inv p) b (unlist line q b)
  back_to p [] b v = is_here z (Inv p) b (subst (λ (l : List ℕ). Inv l b) (append-nil p) v)
  back_to p (x ∷ q) b v =
      is_further z (Inv (p ++ x ∷ [])) (Inv p) b (unlist line q b) (λ y. line y x)
      (back_to (p ++ x ∷ []) q b (subst (λ (l : List ℕ). Inv l b) (sym (append_assoc p (x ∷ []) q)) v)) (λ d w. turn p x d w)

  -- back over all of it
  pub unlisted : (q : List ℕ) (b : Board) → Inv q b → Earlier z (Inv []) b (unlist line q b)
  unlisted = back_to []
