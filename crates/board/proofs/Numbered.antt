-- Records by number, over any element type: what a list reads as when one of its records is written, and when it is mapped; and
-- that a list is known by what it reads as.
-- Assumes nothing.
use mathlib.Core.Path.{◌≡◌, refl, sym, ap, ◌∙◌}
use mathlib.Core.Logic.{◌≢◌}
use mathlib.Core.List.{List, [], ◌∷◌, map}
use Prim.Native.Nat.{ℕ, zero, suc, ◌≤◌, ◌<◌}
use native.Mathlib.Omega.{arith}
use lib.ListN.{length, get_or, set, length-set, get_or-map, get_or-eq_default}
use lib.Seq.{get_or-set_same, get_or-set_other, set-get_or, set_comm, set_out, ext_get_or}
use Rattle.board.specs.Numbers.{Numbered}
use Rattle.board.specs.Board.{nth, put}

module _ {A : Type 0} where
  -- ---- one record written
  -- what was written reads back
  pub nth-put : (none : A) (l : List A) (k : ℕ) (x : A) → 1 ≤ k → k ≤ length l → nth none (put l k x) k ≡ x
  nth-put none l zero x h e = absurd (omega arith)
  nth-put none l (suc i) x h e = get_or-set_same l i x none (omega arith)

  -- none written reads as none, whatever the number
  pub nth-put_none : (none : A) (l : List A) (k : ℕ) → nth none (put l k none) k ≡ none
  nth-put_none none l zero = refl
  nth-put_none none l (suc i) = at l i
    where
      at : (l : List A) (i : ℕ) → get_or (set l i none) i none ≡ none
      at [] i = refl
      at (x ∷ l) zero = refl
      at (x ∷ l) (suc i) = at l i

  -- any other number reads as before
  pub nth-put_other : (none : A) (l : List A) (k j : ℕ) (x : A) → j ≢ k → nth none (put l k x) j ≡ nth none l j
  nth-put_other none l zero j x h = refl
  nth-put_other none l (suc k) zero x h = refl
  nth-put_other none l (suc k) (suc j) x h = get_or-set_other l k j x none (λ e. h (ap suc e))

  -- writing back what is there changes nothing
  pub put-nth : (none : A) (l : List A) (k : ℕ) → put l k (nth none l k) ≡ l
  put-nth none l zero = refl
  put-nth none l (suc i) = set-get_or l i none

  -- of two writes of one number the second counts
  pub put-put : (l : List A) (k : ℕ) (x y : A) → put (put l k x) k y ≡ put l k y
  put-put l zero x y = refl
  put-put l (suc i) x y = at l i
    where
      at : (l : List A) (i : ℕ) → set (set l i x) i y ≡ set l i y
      at [] i = refl
      at (e ∷ l) zero = refl
      at (e ∷ l) (suc i) = ap (λ (r : List A). e ∷ r) (at l i)

  -- writes of two numbers go either way round
  pub put_comm : (l : List A) (k j : ℕ) (x y : A) → k ≢ j → put (put l k x) j y ≡ put (put l j y) k x
  put_comm l zero zero x y h = refl
  put_comm l zero (suc j) x y h = refl
  put_comm l (suc k) zero x y h = refl
  put_comm l (suc k) (suc j) x y h = set_comm l k j x y (λ e. h (ap suc e))

  -- a write keeps the length
  pub length-put : (l : List A) (k : ℕ) (x : A) → length (put l k x) ≡ length l
  length-put l zero x = refl
  length-put l (suc i) x = length-set l i x

  -- ---- a number beyond the last
  -- it reads as none
  pub nth_beyond : (none : A) (l : List A) (k : ℕ) → length l < k → nth none l k ≡ none
  nth_beyond none l zero h = refl
  nth_beyond none l (suc i) h = get_or-eq_default l none (omega arith)

  -- writing it changes nothing
  pub put_beyond : (l : List A) (k : ℕ) (x : A) → length l < k → put l k x ≡ l
  put_beyond l zero x h = refl
  put_beyond l (suc i) x h = set_out l i x (omega arith)

  -- ---- lists record by record
  -- lists of one length that read the same at every number are the same
  pub nth_ext : (none : A) (n : ℕ) (l m : List A) → length l ≡ n → length m ≡ n
      → ((k : ℕ) → Numbered n k → nth none l k ≡ nth none m k) → l ≡ m
  nth_ext none n l m e d h = ext_get_or none l m (e ∙ sym d) (λ i g. h (suc i) (omega arith, omega arith))

-- ---- records mapped
-- a record of the mapped list is the record mapped
pub nth-map : {A B : Type 0} (f : A → B) (none : A) (none' : B) (l : List A) (k : ℕ) → f none ≡ none'
    → nth none' (map f l) k ≡ f (nth none l k)
nth-map f none none' l zero e = sym e
nth-map f none none' l (suc i) e = ap (get_or (map f l) i) (sym e) ∙ get_or-map f l i none

map-set : {A B : Type 0} (f : A → B) (l : List A) (i : ℕ) (x : A) → map f (set l i x) ≡ set (map f l) i (f x)
map-set f [] i x = refl
map-set f (y ∷ l) zero x = refl
map-set f (y ∷ l) (suc i) x = ap (λ (r : List _). f y ∷ r) (map-set f l i x)

-- a record written and the list mapped, either way round
pub map-put : {A B : Type 0} (f : A → B) (l : List A) (k : ℕ) (x : A) → map f (put l k x) ≡ put (map f l) k (f x)
map-put f l zero x = refl
map-put f l (suc i) x = map-set f l i x

get_d_alike : {A B : Type 0} (f : A → B) (none : A) (l : List A) (k j : ℕ) (x : A) → f x ≡ f (get_or l k none)
    → f (get_or (set l k x) j none) ≡ f (get_or l j none)
get_d_alike f none [] k j x e = refl
get_d_alike f none (y ∷ l) zero zero x e = e
get_d_alike f none (y ∷ l) zero (suc j) x e = refl
get_d_alike f none (y ∷ l) (suc k) zero x e = refl
get_d_alike f none (y ∷ l) (suc k) (suc j) x e = get_d_alike f none l k j x e

-- what the written record has in common with the old one, every record has after as before
pub nth_alike : {A B : Type 0} (f : A → B) (none : A) (l : List A) (k j : ℕ) (x : A) → f x ≡ f (nth none l k)
    → f (nth none (put l k x) j) ≡ f (nth none l j)
nth_alike f none l zero j x e = refl
nth_alike f none l (suc k) zero x e = refl
nth_alike f none l (suc k) (suc j) x e = get_d_alike f none l k j x e
