-- Records that lie one behind the other, over any area (its base, its stride, its count): each is read where it lies, and writing
-- one changes that one and nothing before or behind the area.
-- Assumes nothing.
use mathlib.Core.Path.{◌≡◌, refl, sym, ap, ap₂, ◌∙◌}
use mathlib.Core.Bool.{Bool, true, false, true≢false, ◌||◌, or-true}
use mathlib.Core.Logic.{◌≢◌}
use mathlib.Core.List.{List, [], ◌∷◌}
use Prim.Native.Nat.{ℕ, zero, suc, ◌+◌, ◌-◌, ◌*◌, ◌≤◌, ◌<◌}
use native.Mathlib.Nat.{mul-le-mul_right, suc-mul, zero-mul}
use native.Mathlib.Omega.{arith}
use borrow.Author.Tests.{ltb-true, ltb-false, lt-ltb, le-ltb, eqb-false, eq-eqb, ne_eqb}
use lib.Dec.{eqb, ltb, eqb-suc-zero}
use lib.ListN.{length, get_or, set, take, drop, length-drop}
use lib.Seq.{sets, length-sets, sets-eq, take_at, get_or-take, get_or-drop, take-set-le, drop-set-lt, drop-set-add}
use Rattle.board.specs.Numbers.{outside}
use Rattle.board.specs.Board.{Area, cut, pieces, nth, put}
use Rattle.board.specs.Writes.{start, put_in}
use Rattle.board.proofs.Numbered.{nth_beyond, put_beyond}

-- ---- the test of a number
-- of two tests neither passes
pub neither : (s t : Bool) → (s || t) ≡ false → (s ≡ false) × (t ≡ false)
neither true t e = absurd (true≢false e)
neither false t e = (refl, e)

-- a number that isn't outside is from 1 to the last
pub outside-within : (n k : ℕ) → outside n k ≡ false → (1 ≤ k) × (k ≤ n)
outside-within n k e =
    let b = neither (eqb k 0) (ltb n k) e in
    let h : k ≢ 0 = eqb-false k 0 b.0 in
    (omega arith, ltb-false n k b.1)

-- so it isn't 0
pub not_none : (n k : ℕ) → outside n k ≡ false → k ≡ 0 → ⊥
not_none n k o e = let b = outside-within n k o in omega (arith, b.0)

-- a number from 1 to the last isn't outside
pub within-outside : (n k : ℕ) → 1 ≤ k → k ≤ n → outside n k ≡ false
within-outside n k h l = ap₂ ◌||◌ (ne_eqb k 0 (λ (e : k ≡ 0). omega arith)) (le-ltb n k l)

-- 0 is outside
pub outside-zero : (n k : ℕ) → k ≡ 0 → outside n k ≡ true
outside-zero n k e = ap (λ (t : Bool). t || ltb n k) (eq-eqb k 0 e)

-- a number above the last is outside
pub outside_above : (n k : ℕ) → n < k → outside n k ≡ true
outside_above n k h = ap (λ (t : Bool). eqb k 0 || t) (lt-ltb n k h) ∙ or-true (eqb k 0)

outside_beyond : (n i : ℕ) → outside n (suc i) ≡ true → n < suc i
outside_beyond n i e = ltb-true n (suc i) (ap (λ (t : Bool). t || ltb n (suc i)) (sym (eqb-suc-zero i)) ∙ e)

-- a number outside reads as none
pub nth-outside : {A : Type 0} (none : A) (l : List A) (k : ℕ) → outside (length l) k ≡ true → nth none l k ≡ none
nth-outside none l zero e = refl
nth-outside none l (suc i) e = nth_beyond none l (suc i) (outside_beyond (length l) i e)

-- writing it changes nothing
pub put-outside : {A : Type 0} (l : List A) (k : ℕ) (x : A) → outside (length l) k ≡ true → put l k x ≡ l
put-outside l zero x e = refl
put-outside l (suc i) x e = put_beyond l (suc i) x (outside_beyond (length l) i e)

-- ---- runs of stores before and behind a cut
drop-set_behind : (n j v : ℕ) (l : List ℕ) → n ≤ j → drop n (set l j v) ≡ set (drop n l) (j - n) v
drop-set_behind n j v l h =
    let e : j ≡ n + (j - n) = omega arith in
    ap (λ (x : ℕ). drop n (set l x v)) e ∙ drop-set-add n l (j - n) v

drop-sets_behind : (n o : ℕ) (l vs : List ℕ) → n ≤ o → drop n (sets l o vs) ≡ sets (drop n l) (o - n) vs
drop-sets_behind n o l [] h = refl
drop-sets_behind n o l (v ∷ vs) h =
    let e : suc o - n ≡ suc (o - n) = omega arith in
    drop-sets_behind n (suc o) (set l o v) vs (omega arith)
    ∙ ap₂ (λ (r : List ℕ) (x : ℕ). sets r x vs) (drop-set_behind n o v l h) e

drop-sets_before : (n o : ℕ) (l vs : List ℕ) → o + length vs ≤ n → drop n (sets l o vs) ≡ drop n l
drop-sets_before n o l [] h = refl
drop-sets_before n o l (v ∷ vs) h = drop-sets_before n (suc o) (set l o v) vs (omega arith) ∙ drop-set-lt n l o v (omega arith)

take-sets_behind : (n o : ℕ) (l vs : List ℕ) → n ≤ o → take n (sets l o vs) ≡ take n l
take-sets_behind n o l [] h = refl
take-sets_behind n o l (v ∷ vs) h = take-sets_behind n (suc o) (set l o v) vs (omega arith) ∙ take-set-le n l o v h

take-sets : (w : ℕ) (l vs : List ℕ) → length vs ≡ w → w ≤ length l → take w (sets l 0 vs) ≡ vs
take-sets w l vs e h = ap (take w) (sets-eq vs l 0 (omega arith)) ∙ take_at vs (drop (0 + length vs) l) w e

-- ---- n pieces of w bytes
length_cut : (n w : ℕ) (l : List ℕ) → length (cut n w l) ≡ n
length_cut zero w l = refl
length_cut (suc n) w l = ap suc (length_cut n w (drop w l))

cut-byte : (n w i d : ℕ) (l : List ℕ) → i < n → d < w → get_or (get_or (cut n w l) i []) d 0 ≡ get_or l (i * w + d) 0
cut-byte zero w i d l h k = absurd (omega arith)
cut-byte (suc n) w zero d l h k =
    let e : d ≡ 0 * w + d = omega (arith, zero-mul w) in
    get_or-take w l d 0 k ∙ ap (λ (x : ℕ). get_or l x 0) e
cut-byte (suc n) w (suc i) d l h k =
    let e : w + (i * w + d) ≡ suc i * w + d = omega (arith, suc-mul i w) in
    cut-byte n w i d (drop w l) (omega arith) k ∙ get_or-drop w l (i * w + d) 0 ∙ ap (λ (x : ℕ). get_or l x 0) e

cut-sets_behind : (n w o : ℕ) (l vs : List ℕ) → n * w ≤ o → cut n w (sets l o vs) ≡ cut n w l
cut-sets_behind zero w o l vs h = refl
cut-sets_behind (suc n) w o l vs h =
    let s : suc n * w ≡ n * w + w = suc-mul n w in
    ap₂ (λ (p : List ℕ) (q : List (List ℕ)). p ∷ q) (take-sets_behind w o l vs (omega arith))
    (ap (cut n w) (drop-sets_behind w o l vs (omega arith)) ∙ cut-sets_behind n w (o - w) (drop w l) vs (omega arith))

cut-sets : (n w i o : ℕ) (l vs : List ℕ) → o ≡ i * w → i < n → length vs ≡ w → n * w ≤ length l
    → cut n w (sets l o vs) ≡ set (cut n w l) i vs
cut-sets zero w i o l vs e h v b = absurd (omega arith)
cut-sets (suc n) w zero o l vs e h v b =
    let s : suc n * w ≡ n * w + w = suc-mul n w in
    let z : o ≡ 0 = e ∙ zero-mul w in
    ap (λ (x : ℕ). cut (suc n) w (sets l x vs)) z
    ∙ ap₂ (λ (p q : List ℕ). p ∷ cut n w q) (take-sets w l vs v (omega arith)) (drop-sets_before w 0 l vs (omega arith))
cut-sets (suc n) w (suc i) o l vs e h v b =
    let s : suc n * w ≡ n * w + w = suc-mul n w in
    let t : suc i * w ≡ i * w + w = suc-mul i w in
    let d : length (drop w l) ≡ length l - w = length-drop w l in
    ap₂ (λ (p : List ℕ) (q : List (List ℕ)). p ∷ q) (take-sets_behind w o l vs (omega arith))
    (ap (cut n w) (drop-sets_behind w o l vs (omega arith))
    ∙ cut-sets n w i (o - w) (drop w l) vs (omega arith) (omega arith) v (omega arith))

-- ---- the records of an area
module _ (a : Area) where
  -- there are as many as the area has
  pub length-pieces : (l : List ℕ) → length (pieces a l) ≡ a.count
  length-pieces l = length_cut a.count a.stride (drop a.base l)

  -- a byte of a record lies at its place in the bytes
  pub piece_byte : (l : List ℕ) (k i : ℕ) → outside a.count k ≡ false → i < a.stride
      → get_or (nth [] (pieces a l) k) i 0 ≡ get_or l (start a k + i) 0
  piece_byte l zero i e h = absurd (true≢false e)
  piece_byte l (suc j) i e h =
      let b = outside-within a.count (suc j) e in
      let p : suc j - 1 ≡ j = omega arith in
      let q : a.base + (j * a.stride + i) ≡ start a (suc j) + i = rw p (omega arith) in
      cut-byte a.count a.stride j i (drop a.base l) (omega arith) h ∙ get_or-drop a.base l (j * a.stride + i) 0
      ∙ ap (λ (x : ℕ). get_or l x 0) q

  -- a record that isn't outside lies within the area
  pub piece_within : (k : ℕ) → outside a.count k ≡ false → start a k + a.stride ≤ a.base + a.count * a.stride
  piece_within k e =
      let b = outside-within a.count k e in
      let m : suc (k - 1) * a.stride ≤ a.count * a.stride = mul-le-mul_right a.stride (omega arith) in
      omega (arith, suc-mul (k - 1) a.stride)

  -- ---- one record's bytes written
  -- nothing at a number outside
  pub put_in_outside : (l : List ℕ) (k : ℕ) (vs : List ℕ) → outside a.count k ≡ true → put_in a l k vs ≡ l
  put_in_outside l k vs e = rw e

  -- one behind the other from where the record starts
  pub put_in_within : (l : List ℕ) (k : ℕ) (vs : List ℕ) → outside a.count k ≡ false → put_in a l k vs ≡ sets l (start a k) vs
  put_in_within l k vs e = rw e

  -- what the stores at the record leave alone, the write leaves alone
  put_in_keeps : {A : Type 0} (f : List ℕ → A) (l : List ℕ) (k : ℕ) (vs : List ℕ)
      → (outside a.count k ≡ false → f (sets l (start a k) vs) ≡ f l) → f (put_in a l k vs) ≡ f l
  put_in_keeps f l k vs h = go (outside a.count k) refl
    where
      go : (t : Bool) → outside a.count k ≡ t → f (put_in a l k vs) ≡ f l
      go true e = ap f (put_in_outside l k vs e)
      go false e = ap f (put_in_within l k vs e) ∙ h e

  -- the bytes keep their length
  pub length_put_in : (l : List ℕ) (k : ℕ) (vs : List ℕ) → length (put_in a l k vs) ≡ length l
  length_put_in l k vs = put_in_keeps length l k vs (λ e. length-sets l (start a k) vs)

  put-within : (l : List ℕ) (k : ℕ) (vs : List ℕ) → a.base + a.count * a.stride ≤ length l → length vs ≡ a.stride
      → outside a.count k ≡ false → pieces a (sets l (start a k) vs) ≡ put (pieces a l) k vs
  put-within l zero vs h v e = absurd (true≢false e)
  put-within l (suc i) vs h v e =
      let b = outside-within a.count (suc i) e in
      let p : suc i - 1 ≡ i = omega arith in
      let q : start a (suc i) - a.base ≡ i * a.stride = rw p (omega arith) in
      ap (cut a.count a.stride) (drop-sets_behind a.base (start a (suc i)) l vs (omega arith))
      ∙ cut-sets a.count a.stride i (start a (suc i) - a.base) (drop a.base l) vs q (omega arith) v
      (omega (arith, length-drop a.base l))

  -- the list of records has that record so
  pub pieces-put : (l : List ℕ) (k : ℕ) (vs : List ℕ) → a.base + a.count * a.stride ≤ length l → length vs ≡ a.stride
      → pieces a (put_in a l k vs) ≡ put (pieces a l) k vs
  pieces-put l k vs h v = go (outside a.count k) refl
    where
      go : (t : Bool) → outside a.count k ≡ t → pieces a (put_in a l k vs) ≡ put (pieces a l) k vs
      go true e =
          ap (pieces a) (put_in_outside l k vs e)
          ∙ sym (put-outside (pieces a l) k vs (ap (λ (n : ℕ). outside n k) (length-pieces l) ∙ e))
      go false e = ap (pieces a) (put_in_within l k vs e) ∙ put-within l k vs h v e

  -- the bytes before the area stay
  pub take_put_in : (n : ℕ) (l : List ℕ) (k : ℕ) (vs : List ℕ) → n ≤ a.base → take n (put_in a l k vs) ≡ take n l
  take_put_in n l k vs h = put_in_keeps (take n) l k vs (λ e. take-sets_behind n (start a k) l vs (omega arith))

  -- each of them reads as before
  pub get_d_put_in : (l : List ℕ) (k : ℕ) (vs : List ℕ) (i : ℕ) → i < a.base → get_or (put_in a l k vs) i 0 ≡ get_or l i 0
  get_d_put_in l k vs i h =
      sym (get_or-take (suc i) (put_in a l k vs) i 0 (omega arith)) ∙ ap (λ (r : List ℕ). get_or r i 0) (take_put_in (suc i) l k vs h)
      ∙ get_or-take (suc i) l i 0 (omega arith)

  -- an area before this one stays
  pub pieces_before : (c : Area) (l : List ℕ) (k : ℕ) (vs : List ℕ) → c.base + c.count * c.stride ≤ a.base
      → pieces c (put_in a l k vs) ≡ pieces c l
  pieces_before c l k vs h =
      put_in_keeps (pieces c) l k vs
      (λ e. ap (cut c.count c.stride) (drop-sets_behind c.base (start a k) l vs (omega arith))
      ∙ cut-sets_behind c.count c.stride (start a k - c.base) (drop c.base l) vs (omega arith))

  -- an area behind this one stays
  pub pieces_behind : (c : Area) (l : List ℕ) (k : ℕ) (vs : List ℕ) → length vs ≡ a.stride
      → a.base + a.count * a.stride ≤ c.base → pieces c (put_in a l k vs) ≡ pieces c l
  pieces_behind c l k vs v h =
      put_in_keeps (pieces c) l k vs
      (λ e. ap (cut c.count c.stride) (drop-sets_before c.base (start a k) l vs (omega (arith, piece_within k e))))
