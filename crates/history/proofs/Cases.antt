-- Worked cases on a board of three tasks and four messages: demand 3 rejects a version that links the first message of a queue and only claims
-- to link the rest; who runs on the plain machine, as document 02, Ask 3, has it; and what its timer does, as Ask 5 has it.
-- Assumes nothing.
use mathlib.Core.Path.{◌≡◌, refl, sym, ap, ◌∙◌, subst}
use mathlib.Core.Logic.{inl, inr}
use mathlib.Core.Bool.{true}
use mathlib.Core.List.{List, [], ◌∷◌, map}
use Prim.Native.Nat.{ℕ}
use native.Mathlib.Omega.{arith}
use lib.Dec.{lit≤}
use lib.ListN.{drop}
use Rattle.links.specs.Chain.{In, Chain}
use Rattle.board.specs.Board.{board_of, bytes_of}
use Rattle.paper.specs.declared.call.Call.{Call}
use Rattle.paper.specs.declared.call.Call.TheVariants.{Install, PostInterrupt, Claim, Prepare, Send, ReceiveAndWait, WaitForInterrupt}
use Rattle.paper.specs.Rules.{next_message}
use Rattle.paper.specs.Changes.{link_message}
use Rattle.paper.specs.Outcomes.{blank}
use Rattle.paper.specs.History.{run}
use Rattle.paper.proofs.Slips.{tiny, ok}
use Rattle.paper.specs.Answers.{Answer, accepts}
use Rattle.history.specs.Ranking.{Entry, Ranking}
use Rattle.timing.specs.Events.{Event, Called, Started, Ticked}
use Rattle.history.specs.Machine.{Plain}
use Rattle.history.specs.Clockwork.{begin}
use Rattle.history.specs.Claims.{Agrees, plain_run}

-- ---- only the first linked
-- task 1 sends itself messages 1 and 2, the first the more urgent
abbrev calls : List Call
calls =
    Install 1 0x01 0x31 0 0 ∷ Claim ∷ Claim ∷ Prepare 1 0 0x15 0 ∷ Prepare 2 0 0x17 0 ∷ Send 1 1 ∷ Send 2 1 ∷ []

abbrev machine : Plain
machine = (plain_run tiny begin (map Called calls)).machine.plain

-- the bytes afterwards, but for LINK of message 1: MPTR leads to it, and it leads to no other
abbrev only_first : List ℕ
only_first = bytes_of (link_message (board_of tiny (run tiny (blank tiny) calls).after) 1 0)

-- the two placements of the machine
abbrev placed : ℕ → ℕ → ℕ → Entry
placed m number time = record { id = m; at = 1; number = number; fifo = true; time = time }

abbrev both : List Entry
both = placed 1 10 1 ∷ placed 2 11 2 ∷ []

-- links that end at message 1 aren't the ranking of both
alone : (next : ℕ → ℕ) → next 1 ≡ 0 → (q : List Entry) → Ranking both q → Chain next 1 (map (λ e. e.id) q) → ⊥
alone next end [] r c = absurd (omega arith)
alone next end (x ∷ []) r c = second ((r.same (placed 2 11 2)).1 (inr (inl refl)))
  where
    second : In (placed 2 11 2) (x ∷ []) → ⊥
    second (inl e) = let i : 2 ≡ x.id = ap (λ (y : Entry). y.id) e in absurd (omega arith)
    second (inr i) = elim i [ ]
alone next end (x ∷ y ∷ q) r (e, n, (f, o, c)) = o (sym f ∙ ap next (sym e) ∙ end)

case_only_the_first_linked : Agrees tiny only_first machine → ⊥
case_only_the_first_linked h =
    let r = h.queues 1 (lit≤ tt, lit≤ tt) in
    let next : ℕ → ℕ = next_message (board_of tiny only_first) in
    alone next refl r.names.list r.names.ranking (subst (Chain next 1) r.names.names r.chain)

-- ---- who runs
-- task 1 with this PRIO byte and then task 2 with 31H are installed; 1 waits for an interrupt, so 2 runs, and 1 is posted one
abbrev posted : ℕ → List Answer
posted prio =
    (plain_run tiny begin (map Called (Install 1 0x01 prio 0 0 ∷ Install 2 0x01 0x31 0 0 ∷ WaitForInterrupt ∷ PostInterrupt 1 ∷ []))).answers

-- of equals the one that runs goes on, though the other is the earlier installed
case_equal_goes_on : posted 0x31 ≡ ok ∷ ok ∷ accepts 0 2 0 ∷ accepts 0 2 0 ∷ []
case_equal_goes_on = refl

-- one of a smaller number runs at once
case_smaller_runs_at_once : posted 0x2F ≡ ok ∷ ok ∷ accepts 0 2 0 ∷ accepts 0 1 0 ∷ []
case_smaller_runs_at_once = refl

-- ---- the timer
-- task 1 starts messages 1 and 2, to come back to itself, for these delays, and waits for a message; then so many ticks
abbrev watched : ℕ → ℕ → List Event → List Event
watched d e rest =
    Called (Install 1 0x01 0x31 0 0) ∷ Called Claim ∷ Called Claim ∷ Called (Prepare 1 0 0x17 1) ∷ Called (Prepare 2 0 0x15 1)
    ∷ Started 1 d ∷ Started 2 e ∷ Called ReceiveAndWait ∷ rest

abbrev fired : ℕ → ℕ → List Answer
fired d e = drop 8 (plain_run tiny begin (watched d e (Ticked ∷ Ticked ∷ Ticked ∷ []))).answers

-- one comes back at the tick that is due, and not before
case_comes_back : fired 2 3 ≡ accepts 0 0 0 ∷ accepts 0 1 1 ∷ accepts 0 1 0 ∷ []
case_comes_back = refl

-- of two that are due at one tick the more urgent is handed over, though the other has the earlier entry
case_first_by_rank : fired 2 2 ≡ accepts 0 0 0 ∷ accepts 0 1 2 ∷ accepts 0 1 0 ∷ []
case_first_by_rank = refl

-- of equals, FIFO, the one of the earlier entry
case_equals_in_entry_order :
    drop 8 (plain_run tiny begin (Called (Install 1 0x01 0x31 0 0) ∷ Called Claim ∷ Called Claim ∷ Called (Prepare 1 0 0x15 1)
    ∷ Called (Prepare 2 0 0x15 1) ∷ Started 2 1 ∷ Started 1 1 ∷ Called ReceiveAndWait ∷ Ticked ∷ [])).answers ≡ accepts 0 1 2 ∷ []
case_equals_in_entry_order = refl
