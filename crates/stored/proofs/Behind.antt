-- A queue as a start and links in a store: what code stores when one goes in or is taken out comes to the whole queue relinked.
-- One argument for tasks and messages. Code reads a link that leaves the board as none; members of a queue are on the board.
--   Store B                what is asked of a store: LINK read and written, and so the start of the queue
--   behind s n b prev x    b with x behind prev, or first where prev is no number up to n
--   listing s b q          b with the start and all links so that they list q
--   spot_in goes q         the last of q before the first that goes is true of, and that one
-- Assumes nothing.
use mathlib.Core.Path.{◌≡◌, refl, sym, ap, ap₂, ◌∙◌, subst}
use mathlib.Core.Logic.{◌≢◌}
use mathlib.Core.Bool.{Bool, true, false, cond, true≢false}
use mathlib.Core.List.{List, [], ◌∷◌, ◌++◌}
use Prim.Native.Nat.{ℕ, ◌≤◌}
use lib.Dec.{eqb}
use lib.ListN.{length}
use Rattle.links.specs.Queue.{walk, first_of, rest_of, insert, without, relink}
use Rattle.links.specs.Chain.{In, Out, All, Chain}
use Rattle.links.specs.Seek.{Spot, seek}
use Rattle.links.proofs.Members.{in_left, all_at, all_of}
use Rattle.links.proofs.Chains.{chain_first, chain_out_zero, chain-within, chain_next, chain-walk}
use Rattle.links.proofs.Insertion.{before, after, last_or, last0, before_after, before_none, insert_first, first_insert_behind}
use Rattle.links.proofs.Removal.{first_without_first, first_without_behind, chain-rest}
use Rattle.links.proofs.Relinks.{relink_same, relink-insert_first, relink-insert_behind, relink_without_first, relink_without_behind}
use Rattle.links.proofs.Seeking.{seek_is}
use Rattle.board.specs.Numbers.{outside, on_board}
use Rattle.board.proofs.Pieces.{outside-zero}

pub record Store (B : Type 0) : Type 0 where
  pub next : B → ℕ → ℕ
  pub link : B → ℕ → ℕ → B
  pub start : B → ℕ
  pub head : B → ℕ → B
  pub comm : (b : B) (x y u v : ℕ) → x ≢ y → link (link b x u) y v ≡ link (link b y v) x u  -- in any order
  pub same : (b : B) (x v : ℕ) → next b x ≡ v → link b x v ≡ b  -- the LINK that is there
  pub again : (b : B) (v : ℕ) → start b ≡ v → head b v ≡ b  -- the start that is there
  pub stays : (b : B) (x v : ℕ) → start (link b x v) ≡ start b

abbrev pub behind : {B : Type 0} → Store B → ℕ → B → ℕ → ℕ → B
behind s n b prev x = cond (outside n prev) (s.head b x) (s.link b prev x)

abbrev pub listing : {B : Type 0} → Store B → B → List ℕ → B
listing s b q = s.head (relink s.link b q) (first_of q)

abbrev pub spot_in : (ℕ → Bool) → List ℕ → Spot
spot_in goes q = record { prev = last0 (before goes q); cur = first_of (after goes q) }

-- ---- lists
-- none before the new one: it goes before the whole queue
after_all : (goes : ℕ → Bool) (q : List ℕ) → Out 0 q → last0 (before goes q) ≡ 0 → after goes q ≡ q
after_all goes q o e = sym (ap (λ (l : List ℕ). l ++ after goes q) (before_none goes q o e)) ∙ before_after goes q

last_all : (P : ℕ → Type 0) (x : ℕ) (q : List ℕ) → P x → All P q → P (last_or x q)
last_all P x [] h a = h
last_all P x (y ∷ q) h a = last_all P y q a.0 a.1

-- what holds of 0 and of each holds of the one before
prev_all : (P : ℕ → Type 0) (goes : ℕ → Bool) (q : List ℕ) → P 0 → All P q → P (last0 (before goes q))
prev_all P goes q h a =
    last_all P 0 (before goes q) h (all_of P (before goes q)
    (λ x i. all_at P q a x (subst (In x) (before_after goes q) (in_left x (before goes q) (after goes q) i))))

module _ {B : Type 0} (s : Store B) (b : B) where
  start-relink : (q : List ℕ) → s.start (relink s.link b q) ≡ s.start b
  start-relink [] = refl
  start-relink (x ∷ q) = s.stays (relink s.link b q) x (first_of q) ∙ start-relink q

  -- where the first stays first, links alone list the queue
  relink_listing : (q : List ℕ) → s.start b ≡ first_of q → relink s.link b q ≡ listing s b q
  relink_listing q e = sym (s.again (relink s.link b q) (first_of q) (start-relink q ∙ e))

  -- the links list q, whose members are numbers up to n
  module _ (n : ℕ) (q : List ℕ) (c : Chain (s.next b) (s.start b) q) (on : All (λ y. on_board n y ≡ y) q) where
    abbrev within : Chain (λ y. on_board n (s.next b y)) (on_board n (s.start b)) q
    within = chain-within (on_board n) (s.next b) (s.start b) q refl on c

    -- ---- what is read
    pub start_read : on_board n (s.start b) ≡ first_of q
    start_read = chain_first _ (on_board n (s.start b)) q within

    pub next_read : (m : ℕ) → In m q → on_board n (s.next b m) ≡ s.next b m
    next_read m i = chain_next (λ y. on_board n y ≡ y) (s.next b) (s.start b) m q refl on c i

    pub spot_read : (goes : ℕ → Bool) (fuel : ℕ) → length q ≤ fuel
        → seek goes (λ y. on_board n (s.next b y)) fuel 0 (on_board n (s.start b)) ≡ spot_in goes q
    spot_read goes fuel h = seek_is goes _ fuel (on_board n (s.start b)) q within h

    pub walk_read : (fuel : ℕ) → length q ≤ fuel → walk (λ y. on_board n (s.next b y)) fuel (on_board n (s.start b)) ≡ q
    walk_read fuel h = (chain-walk _ fuel (on_board n (s.start b)) q within h).0

    first : s.start b ≡ first_of q
    first = chain_first (s.next b) (s.start b) q c

    -- ---- the one before
    -- no number: there is none
    prev_none : (goes : ℕ → Bool) → outside n (last0 (before goes q)) ≡ true → last0 (before goes q) ≡ 0
    prev_none goes t =
        sym (prev_all (λ y. on_board n y ≡ y) goes q refl on) ∙ ap (λ (x : Bool). cond x 0 (last0 (before goes q))) t

    prev_one : (goes : ℕ → Bool) → outside n (last0 (before goes q)) ≡ false → last0 (before goes q) ≢ 0
    prev_one goes t e = true≢false (sym (outside-zero n (last0 (before goes q)) e) ∙ t)

    -- ---- what is stored
    -- one goes in where it was found to go: two stores
    pub behind_insert : (goes : ℕ → Bool) (m : ℕ) (at : Spot) → Out m q → at ≡ spot_in goes q
        → behind s n (s.link b m at.cur) at.prev m ≡ listing s b (insert goes m q)
    behind_insert goes m at o e = (λ i. behind s n (s.link b m (e i).cur) (e i).prev m) ∙ go (outside n p) refl
      where
        p : ℕ
        p = last0 (before goes q)

        d : B
        d = s.link b m (first_of (after goes q))

        go : (t : Bool) → outside n p ≡ t → cond t (s.head d m) (s.link d p m) ≡ listing s b (insert goes m q)
        go true t =
            let none = prev_none goes t in
            let z : Out 0 q = chain_out_zero (s.next b) (s.start b) q c in
            let one = relink-insert_first s.next s.link s.comm b (s.same b) goes (s.start b) m q c none in
            ap₂ s.head (ap (λ (l : List ℕ). s.link b m (first_of l)) (after_all goes q z none) ∙ sym one)
            (ap first_of (sym (insert_first goes m q z none)))
        go false t =
            sym (relink-insert_behind s.next s.link s.comm b (s.same b) goes (s.start b) m p q c o refl (prev_one goes t))
            ∙ relink_listing (insert goes m q) (first ∙ sym (first_insert_behind goes m q (prev_one goes t)))

    -- one is taken out where it was found: one store
    pub behind_without : (m : ℕ) (at : Spot) → In m q → at ≡ spot_in (λ y. eqb y m) q
        → behind s n b at.prev (on_board n (s.next b m)) ≡ listing s b (without m q)
    behind_without m at i e = (λ j. behind s n b (e j).prev (next_read m i j)) ∙ go (outside n p) refl
      where
        p : ℕ
        p = last0 (before (λ y. eqb y m) q)

        go : (t : Bool) → outside n p ≡ t → cond t (s.head b (s.next b m)) (s.link b p (s.next b m)) ≡ listing s b (without m q)
        go true t =
            let none = prev_none (λ y. eqb y m) t in
            ap₂ s.head (sym (relink_without_first s.next s.link s.comm b (s.same b) (s.start b) m q c i none))
            (sym (first_without_first (s.next b) (s.start b) m q c i none))
        go false t =
            let one = prev_one (λ y. eqb y m) t in
            sym (relink_without_behind s.next s.link s.comm b (s.same b) (s.start b) m p q c i refl one)
            ∙ relink_listing (without m q) (first ∙ sym (first_without_behind m q one))

    -- the first is passed by: one store
    pub head_rest : In (s.start b) q → s.head b (on_board n (s.next b (s.start b))) ≡ listing s b (rest_of q)
    head_rest i =
        let d = chain-rest (s.next b) (s.start b) q c in
        ap₂ s.head (sym (relink_same s.next s.link s.comm b (s.same b) (first_of (rest_of q)) (rest_of q) d))
        (next_read (s.start b) i ∙ next_start q c i)
      where
        -- the link of the first leads to the first of the rest
        next_start : (q : List ℕ) → Chain (s.next b) (s.start b) q → In (s.start b) q → s.next b (s.start b) ≡ first_of (rest_of q)
        next_start [] c i = absurd i
        next_start (y ∷ q) c i = ap (s.next b) c.0 ∙ chain_first (s.next b) (s.next b y) q c.2
