-- Install, the one call that brings a status: on a board with DEBUG and MROB cleared before, and with a status that is the same
-- but for them.
-- Assumes nothing.
use mathlib.Core.Path.{◌≡◌, refl, sym, ap, ap₂, ◌∙◌, fun_ext}
use mathlib.Core.Bool.{Bool, true, false, true≢false}
use mathlib.Core.List.{List, [], ◌∷◌}
use Prim.Native.Nat.{ℕ}
use Rattle.links.specs.Queue.{goes_before, insert}
use Rattle.board.specs.declared.numbers.Size.{Size}
use Rattle.board.specs.declared.status.Status.{Status}
use Rattle.board.specs.declared.records.Task.{Task}
use Rattle.board.specs.Status.{stored, is_present, number}
use Rattle.board.specs.Records.{task_with_stat}
use Rattle.board.specs.Board.{Board, with_task}
use Rattle.paper.specs.declared.call.Call.TheVariants.{Install}
use Rattle.paper.specs.Rules.{order, task_number}
use Rattle.paper.specs.Changes.{with_order}
use Rattle.paper.specs.Effects.{install}
use Rattle.paper.specs.Refusals.{no7_install, no8, no9, own_row}
use Rattle.bare.specs.Bare.{bare, bare_task, bare_board}
use Rattle.bare.proofs.Bits.{wait, iwat, bit5, intq, mhbs, tcbb}
use Rattle.bare.proofs.Reading.{task_number-bare, order-bare}
use Rattle.bare.proofs.Writing.{bare_board_twice, bare-with_task, bare-with_order}

-- ---- a task of any status is queued
bare-queued : (b : Board) (k : ℕ) (t : Task) (q : List ℕ)
    → bare_board (with_order (with_task b k t) q) ≡ with_order (with_task (bare_board b) k (bare_task t)) q
bare-queued b k t q = bare-with_order (with_task b k t) q ∙ ap (λ (c : Board). with_order c q) (bare-with_task b k t)

-- boards, tasks and queues that are the same but for the two bits leave boards that are
queued_alike : (b d : Board) (k : ℕ) (t u : Task) (q r : List ℕ) → bare_board b ≡ bare_board d → bare_task t ≡ bare_task u → q ≡ r
    → bare_board (with_order (with_task b k t) q) ≡ bare_board (with_order (with_task d k u) r)
queued_alike b d k t u q r e f g =
    bare-queued b k t q ∙ (λ i. with_order (with_task (e i) k (f i)) (g i)) ∙ sym (bare-queued d k u r)

-- ---- a status to install
no9-bare : (s : Status) → no9 (bare s).0 ≡ no9 s.0
no9-bare s = rw (tcbb.reads s, wait.reads s, iwat.reads s, bit5.reads s, intq.reads s, mhbs.reads s)

no9-present : (s : ℕ) → (no9 s).applies ≡ false → is_present (stored s) ≡ true
no9-present s h = step (is_present (stored s)) refl
  where
    step : (t : Bool) → is_present (stored s) ≡ t → is_present (stored s) ≡ true
    step true e = e
    step false e = absurd (true≢false (rw e at h))

module _ (z : Size) (b : Board) (k p sptr name : ℕ) where
  abbrev installed : ℕ → Task
  installed s = record { stat = stored s; prio = p; link = 0; mptr = 0; sptr = sptr; name = name }

  abbrev queued : (ℕ → ℕ) → List ℕ → List ℕ
  queued number_of_lem q = insert (λ x. goes_before true (number p) (number_of_lem x)) k q

  -- ---- the two bits of the board
  pub install_alike : (s : ℕ) → bare_board (install z (bare_board b) k s p sptr name) ≡ bare_board (install z b k s p sptr name)
  install_alike s =
      queued_alike (bare_board b) b k (installed s) (installed s) _ _ (bare_board_twice b) refl
      (ap₂ queued (fun_ext (task_number-bare b)) (order-bare z b))

  -- ---- the two bits of the status
  module _ (s t : ℕ) (e : bare (stored s) ≡ bare (stored t)) where
    -- the same refusals
    pub own_row_status : (c : ℕ) → own_row z b c (Install k s p sptr name) ≡ own_row z b c (Install k t p sptr name)
    own_row_status c =
        ap (λ x. no7_install p ∷ no8 z b k ∷ x ∷ [])
        (sym (no9-bare (stored s)) ∙ ap (λ (x : Status). no9 x.0) e ∙ no9-bare (stored t))

    -- where they don't apply the task will be present, so the two bits are cleared in it
    installed_alike : (no9 s).applies ≡ false → bare_task (installed s) ≡ bare_task (installed t)
    installed_alike g =
        let here = no9-present s g in
        let there = sym (tcbb.reads (stored t)) ∙ ap is_present (sym e) ∙ tcbb.reads (stored s) ∙ here in
        rw (here, there) (ap (task_with_stat (installed s)) e)

    pub install_status : (no9 s).applies ≡ false → bare_board (install z b k s p sptr name) ≡ bare_board (install z b k t p sptr name)
    install_status g =
        let q = queued (task_number b) (order z b) in
        queued_alike b b k (installed s) (installed t) q q refl (installed_alike g) refl
