-- Worked cases on boards of three tasks and four messages: what life says of the boards one notch off a rule (Rattle.paper, proofs/Notches),
-- by the claim.
-- Assumes nothing.
use mathlib.Core.Path.{◌≡◌, refl, sym, ◌∙◌}
use mathlib.Core.Bool.{true, false, true≢false}
use mathlib.Core.List.{List, [], ◌∷◌}
use Prim.Native.Nat.{ℕ}
use lib.Dec.{ltb, lit<, lit≤}
use lib.ListN.{length}
use borrow.Author.Tests.{ltb-true}
use Rattle.links.specs.Queue.{first_of, which}
use Rattle.links.proofs.Bools.{refuted, both, every}
use Rattle.board.specs.declared.places.Place.TheVariants.{Free}
use Rattle.board.specs.Places.{is_on_timer}
use Rattle.board.specs.Board.{Board, total, board_of, bytes_of}
use Rattle.board.proofs.Codec.{Small, small_at}
use Rattle.paper.specs.Rules.{passes}
use Rattle.paper.proofs.Slips.{tiny}
use Rattle.paper.proofs.Notches.{held_with_link, waits_with_queue, even_in_queue, parked_with_interrupt, later_runs}
use Rattle.paper.proofs.Notches.{sender_absent, even_held, parked_with_queue, earlier_equal_due}
use Rattle.linked.proofs.Running.{which_none}
use Rattle.kept.specs.Claims.{Sizes}
use Rattle.reached.specs.Claims.{Reached}
use Rattle.reached.proofs.Theorems.{has_past}

tiny_sizes : Sizes tiny
tiny_sizes = record { tasks = lit≤ tt; limit = lit≤ tt; links = lit< tt }

-- ---- boards that no calls make
abbrev Unmade : Board → Type 0
Unmade b = Reached tiny (bytes_of b) → ⊥

unmade : (b : Board) → passes tiny (board_of tiny (bytes_of b)) ≡ false → Unmade b
unmade b e r = true≢false (sym ((has_past tiny tiny_sizes (bytes_of b)).1 r).1 ∙ e)

case_unmade_held_with_link : Unmade held_with_link
case_unmade_held_with_link = unmade held_with_link refl

case_unmade_waits_with_queue : Unmade waits_with_queue
case_unmade_waits_with_queue = unmade waits_with_queue refl

case_unmade_even_in_queue : Unmade even_in_queue
case_unmade_even_in_queue = unmade even_in_queue refl

case_unmade_parked_with_interrupt : Unmade parked_with_interrupt
case_unmade_parked_with_interrupt = unmade parked_with_interrupt refl

case_unmade_later_runs : Unmade later_runs
case_unmade_later_runs = unmade later_runs refl

-- ---- boards that calls make
abbrev Made : Board → Type 0
Made b = Reached tiny (bytes_of b)

small : (l : List ℕ) → every (λ x. ltb x 256) l ≡ true → Small l
small [] e = tt
small (x ∷ l) e = let r = both (ltb x 256) (every (λ x. ltb x 256) l) e in (ltb-true x 256 r.0, small l r.1)

made : (b : Board) → length (bytes_of b) ≡ total tiny → every (λ x. ltb x 256) (bytes_of b) ≡ true
    → passes tiny (board_of tiny (bytes_of b)) ≡ true → first_of (which is_on_timer 1 (board_of tiny (bytes_of b)).places) ≡ 0 → Made b
made b n e p t =
    (has_past tiny tiny_sizes (bytes_of b)).0 (
      record {
        long = n;
        bytes = λ i. small_at (bytes_of b) i (small (bytes_of b) e);
      },
      p,
      λ m. refuted _ (which_none Free is_on_timer (board_of tiny (bytes_of b)).places refl t m),
    )

case_made_sender_absent : Made sender_absent
case_made_sender_absent = made sender_absent refl refl refl refl

case_made_even_held : Made even_held
case_made_even_held = made even_held refl refl refl refl

case_made_parked_with_queue : Made parked_with_queue
case_made_parked_with_queue = made parked_with_queue refl refl refl refl

case_made_earlier_equal_due : Made earlier_equal_due
case_made_earlier_equal_due = made earlier_equal_due refl refl refl refl
