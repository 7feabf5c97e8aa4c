-- DEBUG and MROB cleared before the body of a call: messages placed and taken back, tasks cancelled; and what of a call is the same, or the
-- same but for the two bits.
-- Assumes nothing.
use mathlib.Core.Path.{◌≡◌, refl, sym, ap, ◌∙◌}
use mathlib.Core.List.{List}
use Prim.Native.Nat.{ℕ}
use Rattle.links.specs.Queue.{insert, without}
use Rattle.board.specs.declared.numbers.Size.{Size}
use Rattle.board.specs.declared.places.Place.TheVariants.{QueuedAt}
use Rattle.board.specs.Numbers.{task_no}
use Rattle.board.specs.Status.{with_fifo}
use Rattle.board.specs.Records.{no_task, with_prio}
use Rattle.board.specs.Board.{Board, message, with_task, with_message, with_place}
use Rattle.paper.specs.declared.call.Call.{Call}
use Rattle.paper.specs.declared.call.Call.TheVariants.{Send, SendAndWait, Forward, ForwardAndWait}
use Rattle.paper.specs.Rules.{order, queue}
use Rattle.paper.specs.Changes.{with_queue, with_order, hold}
use Rattle.paper.specs.Effects.{queue_with, woken, place_at, addressed, send, waits, emptied, cancel_message, cancel_task}
use Rattle.paper.specs.Refusals.{own_row}
use Rattle.paper.specs.Outcomes.{body}
use Rattle.bare.specs.Bare.{bare_board}
use Rattle.bare.proofs.Reading.{present-bare, prio-bare, order-bare, queue-bare}
use Rattle.bare.proofs.Writing.{bare_alike, bare-with_task, bare-with_order, bare-with_queue, bare-woken}
use Rattle.bare.proofs.Writing.{bare-emptied, bare-waits}

-- ---- a message is placed
module _ (z : Size) (b : Board) (m r : ℕ) where
  queue_with-bare : queue_with z (bare_board b) m r ≡ queue_with z b m r
  queue_with-bare = ap (insert _ m) (queue-bare z b r)

  bare-place_at : bare_board (place_at z b m r) ≡ place_at z (bare_board b) m r
  bare-place_at =
      let placed : Board → Board = λ c. let d = with_place c m (QueuedAt (task_no r)) in
      with_message d m (with_prio (message d m) (with_fifo (message b m).prio)) in
      bare-woken (placed (with_queue b r (queue_with z b m r))) r
      ∙ ap (λ (c : Board). woken (placed c) r)
      (bare-with_queue b r (queue_with z b m r) ∙ ap (with_queue (bare_board b) r) (sym queue_with-bare))

module _ (z : Size) (b : Board) (c m r : ℕ) where
  bare-place_at-waits : bare_board (waits c (place_at z b m r)) ≡ waits c (place_at z (bare_board b) m r)
  bare-place_at-waits = bare-waits (place_at z b m r) c ∙ ap (waits c) (bare-place_at z b m r)

  bare-addressed : bare_board (addressed b c m r) ≡ addressed (bare_board b) c m r
  bare-addressed = rw (prio-bare b c)

  bare-send : bare_board (send z b c m r) ≡ send z (bare_board b) c m r
  bare-send = bare-place_at z (addressed b c m r) m r ∙ ap (λ (x : Board). place_at z x m r) bare-addressed

  bare-send-waits : bare_board (waits c (send z b c m r)) ≡ waits c (send z (bare_board b) c m r)
  bare-send-waits = bare-waits (send z b c m r) c ∙ ap (waits c) bare-send

  -- ---- a message is taken back
  pub bare-cancel_message : bare_board (cancel_message z b c m r) ≡ cancel_message z (bare_board b) c m r
  bare-cancel_message =
      let q = without m (queue z b r) in
      bare-emptied (hold (with_queue b r q) c m) r
      ∙ ap (λ (x : Board). emptied (hold x c m) r)
      (bare-with_queue b r q ∙ ap (λ (p : List ℕ). with_queue (bare_board b) r (without m p)) (sym (queue-bare z b r)))

-- ---- a task goes
pub bare-cancel_task : (z : Size) (b : Board) (k : ℕ) → bare_board (cancel_task z b k) ≡ cancel_task z (bare_board b) k
bare-cancel_task z b k =
    let q = without k (order z b) in
    bare-with_task (with_order b q) k no_task
    ∙ ap (λ (x : Board). with_task x k no_task)
    (bare-with_order b q ∙ ap (λ (p : List ℕ). with_order (bare_board b) (without k p)) (sym (order-bare z b)))

-- ---- a call
module _ (z : Size) (b : Board) (c : ℕ) where
  -- the same refusals, the same value, and the same board but for the two bits
  abbrev pub Blind : Call → Type 0
  Blind call =
      (own_row z (bare_board b) c call ≡ own_row z b c call) × ((body z (bare_board b) c call).value ≡ (body z b c call).value)
      × (bare_board (body z (bare_board b) c call).board ≡ bare_board (body z b c call).board)

  -- a message sent, and with the wait; so forward, and with it resend and return
  pub blind_send : (m r : ℕ) → Blind (Send m r)
  blind_send m r = (rw (present-bare b r), refl, bare_alike (send z b c m r) _ (bare-send z b c m r))

  pub blind_send-wait : (m r : ℕ) → Blind (SendAndWait m r)
  blind_send-wait m r = (rw (present-bare b r), refl, bare_alike (waits c (send z b c m r)) _ (bare-send-waits z b c m r))

  pub blind_forward : (m r : ℕ) → Blind (Forward m r)
  blind_forward m r = (rw (present-bare b r), refl, bare_alike (place_at z b m r) _ (bare-place_at z b m r))

  pub blind_forward-wait : (m r : ℕ) → Blind (ForwardAndWait m r)
  blind_forward-wait m r = (rw (present-bare b r), refl, bare_alike (waits c (place_at z b m r)) _ (bare-place_at-waits z b c m r))
