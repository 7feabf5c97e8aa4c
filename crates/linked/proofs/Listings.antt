-- Links that list the records that pass a test: the test of R3 and R5 says so, for tasks and messages alike.
-- Assumes nothing.
use mathlib.Core.Path.{◌≡◌}
use mathlib.Core.Logic.Iff
use mathlib.Core.Logic.{◌↔◌}
use mathlib.Core.Bool.{Bool, true, false}
use mathlib.Core.List.{List}
use Prim.Native.Nat.{ℕ, ◌≤◌}
use native.Mathlib.Omega.{arith}
use lib.ListN.{length}
use Rattle.links.specs.Queue.{walk, which, lists}
use Rattle.links.specs.Chain.{In}
use Rattle.links.proofs.Members.{all_of, pigeon}
use Rattle.links.proofs.Chains.{chain_once}
use Rattle.links.proofs.Exactly.{rearranged_in, once_rearranged, which_once}
use Rattle.links.proofs.Listed.{lists-chain, chain-lists}
use Rattle.board.specs.Board.{nth}
use Rattle.paper.proofs.Which.{nth_numbered, which-nth}
use Rattle.linked.specs.Linked.{Listing}
use Rattle.linked.proofs.Says.{Says}

-- records numbered from 1 and a test that the record none fails
module _ {A : Type 0} (none : A) (f : A → Bool) (l : List A) (fails : f none ≡ false) where
  -- no more than there are records
  which-length : length (which f 1 l) ≤ length l
  which-length =
      pigeon (length l) (which f 1 l) (which_once f 1 l) (all_of _ (which f 1 l) (λ y i. nth_numbered none f l fails y ((which-nth none f l fails y).0 i)))

  -- ---- links that list them, where Member says what the test says of a record
  module _ {Member : ℕ → Type 0} (same : (y : ℕ) → Says (f (nth none l y)) (Member y)) where
    -- `which` has just the members
    which_member : (y : ℕ) → In y (which f 1 l) ↔ Member y
    which_member y = Iff.trans (which-nth none f l fails y) (same y)

    -- where the test passes, they list what is walked
    pub lists_listing : (next number : ℕ → ℕ) (n x : ℕ) → lists next number n x (which f 1 l) ≡ true
        → Listing next number x (walk next n x) Member
    lists_listing next number n x e =
        let (c, r, s) = lists-chain next number n x (which f 1 l) e in
        let i = rearranged_in (walk next n x) (which f 1 l) r in
        record { chain = c; exact = λ y. Iff.trans (i y) (which_member y); sorted = s }

    -- with fuel for all records
    module _ {next number : ℕ → ℕ} {n x : ℕ} (fuel : length l ≤ n) where
      -- where they list anything, it passes, and that is what is walked
      listing_lists : (q : List ℕ) → Listing next number x q Member
          → (lists next number n x (which f 1 l) ≡ true) × (walk next n x ≡ q)
      listing_lists q g =
          let r = once_rearranged q (which f 1 l) (chain_once next x q g.chain) (which_once f 1 l)
          (λ y. Iff.trans (g.exact y) (Iff.symm (which_member y))) in
          chain-lists next number n x (which f 1 l) q g.chain r g.sorted (omega (arith, which-length))

      -- the test says that they list what is walked
      pub says_lists : Says (lists next number n x (which f 1 l)) (Listing next number x (walk next n x) Member)
      says_lists = (lists_listing next number n x, λ g. (listing_lists (walk next n x) g).0)

      -- what they list is what is walked
      pub listing_walk : (q : List ℕ) → Listing next number x q Member → walk next n x ≡ q
      listing_walk q g = (listing_lists q g).1
