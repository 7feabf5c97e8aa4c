-- Code stores at most two links where the definitions relink the whole queue: the same store comes of it. And its links list the
-- queue that was given, while other queues stay. For any store b of links; what is asked of it are the sections' parameters.
-- Assumes nothing.
use mathlib.Core.Path.{◌≡◌, refl, sym, ap, ap₂, ◌∙◌, subst}
use mathlib.Core.Logic.{◌≢◌}
use mathlib.Core.Bool.{Bool}
use mathlib.Core.List.{List, [], ◌∷◌, ◌++◌}
use Prim.Native.Nat.{ℕ}
use lib.Dec.{eqb}
use Rattle.links.specs.Queue.{first_of, rest_of, insert, without, relink}
use Rattle.links.specs.Chain.{In, Out, Once, All, Chain}
use Rattle.links.proofs.Members.{out_not_in, once_insert_middle, once_remove_middle}
use Rattle.links.proofs.Chains.{chain_first, chain_out_zero, chain_from, chain_once, chain_frame}
use Rattle.links.proofs.Insertion.{before, after, last0, before_after, insert_split, insert_first}
use Rattle.links.proofs.Removal.{without_found, chain_without_first}

-- ---- few stores for many
-- links of different numbers may be stored in any order, and storing a link that is there changes nothing
module _ {B : Type 0} (next : B → ℕ → ℕ) (link : B → ℕ → ℕ → B)
    (comm : (b : B) (x y u v : ℕ) → x ≢ y → link (link b x u) y v ≡ link (link b y v) x u)
    (b : B) (same : (x v : ℕ) → next b x ≡ v → link b x v ≡ b) where
  -- links that list the queue already
  pub relink_same : (x : ℕ) (q : List ℕ) → Chain (next b) x q → relink link b q ≡ b
  relink_same x [] c = refl
  relink_same x (y ∷ q) c =
      ap (λ (s : B). link s y (first_of q)) (relink_same (next b y) q c.2)
      ∙ same y (first_of q) (chain_first (next b) (next b y) q c.2)

  -- a link that was there before, of a number that is none of q
  relink-past : (y v : ℕ) (q : List ℕ) → Out y q → next b y ≡ v → link (relink link b q) y v ≡ relink link b q
  relink-past y v [] o e = same y v e
  relink-past y v (z ∷ q) o e =
      comm (relink link b q) z y (first_of q) v (λ d. o.0 (sym d))
      ∙ ap (λ (s : B). link s z (first_of q)) (relink-past y v q o.1 e)

  -- links that were there before, but for the last of a: it is linked to what now follows
  relink_behind : (x : ℕ) (a c d : List ℕ) → Chain (next b) x (a ++ c) → Once (a ++ d) → last0 a ≢ 0
      → relink link b (a ++ d) ≡ link (relink link b d) (last0 a) (first_of d)
  relink_behind x [] c d h o z = absurd (z refl)
  relink_behind x (y ∷ []) c d h o z = refl
  relink_behind x (y ∷ u ∷ a) c d h o z =
      relink-past y u ((u ∷ a) ++ d) o.0 h.2.0 ∙ relink_behind (next b y) (u ∷ a) c d h.2 o.1 z

  -- m behind the last of a
  relink-put : (x m : ℕ) (a c : List ℕ) → Chain (next b) x (a ++ c) → Out m (a ++ c) → last0 a ≢ 0
      → relink link b (a ++ m ∷ c) ≡ link (link b m (first_of c)) (last0 a) m
  relink-put x m a c h o z =
      relink_behind x a c (m ∷ c) h (once_insert_middle m a c o (chain_once (next b) x (a ++ c) h)) z
      ∙ ap (λ (s : B). link (link s m (first_of c)) (last0 a) m) (relink_same (first_of c) c (chain_from (next b) x a c h))

  -- m, behind the last of a, passed by
  relink-cut : (x m : ℕ) (a c : List ℕ) → Chain (next b) x (a ++ m ∷ c) → last0 a ≢ 0
      → relink link b (a ++ c) ≡ link b (last0 a) (next b m)
  relink-cut x m a c h z =
      let t = (chain_from (next b) x a (m ∷ c) h).2 in
      relink_behind x a (m ∷ c) c h (once_remove_middle m a c (chain_once (next b) x (a ++ m ∷ c) h)) z
      ∙ ap₂ (λ (s : B) (v : ℕ). link s (last0 a) v) (relink_same (next b m) c t) (sym (chain_first (next b) (next b m) c t))

  -- one goes in first: one store
  pub relink-insert_first : (goes : ℕ → Bool) (x m : ℕ) (q : List ℕ) → Chain (next b) x q → last0 (before goes q) ≡ 0
      → relink link b (insert goes m q) ≡ link b m (first_of q)
  relink-insert_first goes x m q c e =
      ap (relink link b) (insert_first goes m q (chain_out_zero (next b) x q c) e)
      ∙ ap (λ (s : B). link s m (first_of q)) (relink_same x q c)

  -- one goes in behind p: two stores
  pub relink-insert_behind : (goes : ℕ → Bool) (x m p : ℕ) (q : List ℕ) → Chain (next b) x q → Out m q
      → p ≡ last0 (before goes q) → p ≢ 0 → relink link b (insert goes m q) ≡ link (link b m (first_of (after goes q))) p m
  relink-insert_behind goes x m p q c o e h =
      let w = sym (before_after goes q) in
      ap (relink link b) (insert_split goes m q)
      ∙ relink-put x m (before goes q) (after goes q) (subst (Chain (next b) x) w c) (subst (Out m) w o) (λ z. h (e ∙ z))
      ∙ ap (λ (y : ℕ). link (link b m (first_of (after goes q))) y m) (sym e)

  -- the first is taken out: no store
  pub relink_without_first : (x m : ℕ) (q : List ℕ) → Chain (next b) x q → In m q → last0 (before (λ y. eqb y m) q) ≡ 0
      → relink link b (without m q) ≡ b
  relink_without_first x m q c i e = relink_same (next b m) (without m q) (chain_without_first (next b) x m q c i e)

  -- one behind p is taken out: one store
  pub relink_without_behind : (x m p : ℕ) (q : List ℕ) → Chain (next b) x q → In m q
      → p ≡ last0 (before (λ y. eqb y m) q) → p ≢ 0 → relink link b (without m q) ≡ link b p (next b m)
  relink_without_behind x m p q c i e h =
      let a : List ℕ = before (λ y. eqb y m) q in
      let r = without_found m q i in
      let w : q ≡ a ++ m ∷ rest_of (after (λ y. eqb y m) q) =
      sym (before_after (λ y. eqb y m) q) ∙ ap (λ (l : List ℕ). a ++ l) r.0 in
      ap (relink link b) r.1
      ∙ relink-cut x m a (rest_of (after (λ y. eqb y m) q)) (subst (Chain (next b) x) w c) (λ z. h (e ∙ z))
      ∙ ap (λ (y : ℕ). link b y (next b m)) (sym e)

-- ---- the links that are stored
-- a link that fits is read back, others stay, and what fits stays so
module _ {B : Type 0} (next : B → ℕ → ℕ) (link : B → ℕ → ℕ → B) (fits : B → ℕ → Type 0)
    (kept : (b : B) (x v y : ℕ) → fits b y → fits (link b x v) y)
    (got : (b : B) (x v : ℕ) → fits b x → next (link b x v) x ≡ v)
    (other : (b : B) (x v y : ℕ) → y ≢ x → next (link b x v) y ≡ next b y) (b : B) where
  -- what fits still does
  relink-fits : (y : ℕ) (q : List ℕ) → fits b y → fits (relink link b q) y
  relink-fits y [] h = h
  relink-fits y (x ∷ q) h = kept (relink link b q) x (first_of q) y (relink-fits y q h)

  -- the links list the queue
  pub relink-chain : (q : List ℕ) → Once q → Out 0 q → All (fits b) q → Chain (next (relink link b q)) (first_of q) q
  relink-chain [] d o h = refl
  relink-chain (x ∷ q) d o h =
      let s : B = relink link b q in (
        refl,
        (λ e. o.0 (sym e)),
        rw (got s x (first_of q) (relink-fits x q h.0))
            (chain_frame (next s) (next (link s x (first_of q))) (first_of q) q
            (λ y i. other s x (first_of q) y (λ e. out_not_in x q d.0 (rw e at i))) (relink-chain q d.1 o.1 h.1)),
      )
