-- Where the search meets no free message, 11 applies. Assumes nothing.
use mathlib.Core.Path.{◌≡◌, sym, ◌∙◌}
use mathlib.Core.Bool.{true, true≢false}
use mathlib.Core.List.{List}
use Prim.Native.Nat.{ℕ}
use native.Mathlib.Omega.{arith}
use native.Mathlib.Decide.{ℕ_discrete}
use lib.Dec.{eqb}
use borrow.Author.Tests.{eq-eqb}
use Rattle.std.specs.Prelude.{None}
use Rattle.board.specs.declared.numbers.Size.{Size}
use Rattle.board.specs.Numbers.{message_meant}
use Rattle.board.specs.Board.{board_of}
use Rattle.board.proofs.Pieces.{within-outside}
use Rattle.board.proofs.Meant.{message_meant_none}
use Rattle.board.proofs.Codec.{length-places}
use Rattle.paper.specs.Effects.{lowest_free}
use Rattle.linked.proofs.Running.{lowest_free_lem}

pub none_is_free : (z : Size) (l : List ℕ) → message_meant z (lowest_free (board_of z l)) ≡ None
    → eqb (lowest_free (board_of z l)) 0 ≡ true
none_is_free z l e = go (ℕ_discrete m 0)
  where
    m : ℕ
    m = lowest_free (board_of z l)

    go : Dec (m ≡ 0) → eqb m 0 ≡ true
    go (yes p) = eq-eqb m 0 p
    go (no n) =
        let h = (lowest_free_lem (board_of z l) n).0 in
        let i = within-outside z.messages m h.0 (let s = length-places z l in omega (arith, h.1)) in
        absurd (true≢false (sym (message_meant_none z m e) ∙ i))
