-- The body of each call, one row a call: what it keeps of the board, that DEBUG and MROB don't matter to it, and that it leaves R1 to R6. The
-- claims about bodies and frames, proved.
-- Assumes nothing.
use mathlib.Core.Path.{◌≡◌, refl, ap}
use mathlib.Core.Logic.{inl, inr}
use mathlib.Core.Bool.{false}
use mathlib.Core.List.{List, []}
use Prim.Native.Nat.{ℕ}
use Rattle.links.specs.Queue.{first_of}
use Rattle.links.proofs.Members.{is_in_in}
use Rattle.board.specs.declared.numbers.Size.{Size}
use Rattle.board.specs.Status.{IWAT, INTQ, MHBS, has}
use Rattle.board.specs.Board.{Board, task, message}
use Rattle.paper.specs.declared.call.Call.{Call}
use Rattle.paper.specs.declared.call.Call.TheVariants.{Install, PostInterrupt, Find, CancelTask, Claim, Prepare, Release, Send}
use Rattle.paper.specs.declared.call.Call.TheVariants.{SendAndWait, Resend, ResendAndWait, Forward, ForwardAndWait, Return, ReturnAndWait}
use Rattle.paper.specs.declared.call.Call.TheVariants.{Receive, ReceiveAndWait, CancelMessage, WaitForInterrupt}
use Rattle.paper.specs.Changes.{take_first}
use Rattle.paper.specs.Effects.{waits, cancel_message, cancel_task, post, wait_interrupt, claim, release, prepare}
use Rattle.paper.specs.Refusals.{own_row, Go, given}
use Rattle.paper.specs.Outcomes.{body}
use Rattle.bare.proofs.Bits.{iwat}
use Rattle.bare.proofs.Reading.{has-bare, present-bare, empty_queue-bare, queue-bare, find-bare}
use Rattle.bare.proofs.Writing.{bare_board_twice, bare_alike, bare-post, bare-wait_interrupt, bare-waits, bare-take_first}
use Rattle.bare.proofs.Installing.{install_alike}
use Rattle.bare.proofs.Calls.{bare-cancel_message, bare-cancel_task, Blind, blind_send, blind_send-wait, blind_forward, blind_forward-wait}
use Rattle.kept.specs.Settled.{Settled, Awake, Fitting}
use Rattle.kept.specs.Touched.{touched, every_bit, for_interrupts, order_after, queues_after}
use Rattle.kept.specs.Claims.{Sizes, BodySettles, BodyFrame}
use Rattle.kept.proofs.Framing.{Bit, frame_none, frame_message, frame_place}
use Rattle.kept.proofs.Framed.{Framed, frame_flag, frame_waits, framed_install, framed_cancel, framed_release, framed_send, framed_send-wait}
use Rattle.kept.proofs.Framed.{framed_forward, framed_forward-wait, frame_take, framed_back}
use Rattle.kept.proofs.Flagging.{post_settled, wait_settled}
use Rattle.kept.proofs.Holding.{claim_settled, release_settled, prepare_settled}
use Rattle.kept.proofs.Installing.{install_settled}
use Rattle.kept.proofs.Cancelling.{cancel_settled}
use Rattle.kept.proofs.Waiting.{receive_and_wait_settled}
use Rattle.kept.proofs.Placing.{send_settled, resend_settled, forward_settled, return_settled}
use Rattle.kept.proofs.Taking.{receive_settled, cancel_message_settled}

-- the bits of interrupts
posted : Bit for_interrupts IWAT
posted = (is_in_in IWAT every_bit refl, is_in_in IWAT for_interrupts refl)

queued : Bit for_interrupts INTQ
queued = (is_in_in INTQ every_bit refl, is_in_in INTQ for_interrupts refl)

module _ (z : Size) (b : Board) (c : ℕ) (q : List ℕ) (f : ℕ → List ℕ) where
  -- where no refusal of its row applies, the body leaves R1 to R6, with the lists that its move says
  abbrev Settles : Call → Type 0
  Settles call =
      Sizes z → Fitting call → Settled z b q f → Awake b c → has (task b c).stat MHBS ≡ false → given (own_row z b c call) ≡ Go
      → let move = (touched b c call).move in Settled z (body z b c call).board (order_after b q move) (queues_after b f move)

  -- each call: what it changes at all, what it leaves where DEBUG and MROB are cleared before, and that
  keeps : (call : Call) → Framed z b c call × Blind z b c call × Settles call
  keeps (Install k s p sptr name) = (
    framed_install z b c k s p sptr name,
    (rw (present-bare b k), refl, install_alike z b k p sptr name s),
    λ a w h u m g. install_settled z b q f a h k s p sptr name c w g,
  )
  keeps (PostInterrupt k) = (
    frame_flag b k IWAT INTQ (inl refl) posted queued,
    (rw (present-bare b k), refl, bare_alike (post b k) _ (bare-post b k)),
    λ a w h u m g. post_settled z b q f h c k g,
  )
  keeps (Find name) = (
    frame_none b,
    (refl, find-bare z b name, bare_board_twice b),
    λ a w h u m g. h,
  )
  keeps (CancelTask k) = (
    framed_cancel z b c k,
    (rw (present-bare b k, empty_queue-bare b k, has-bare b k IWAT iwat), refl, bare_alike (cancel_task z b k) _ (bare-cancel_task z b k)),
    λ a w h u m g. cancel_settled z b q f a h k c g,
  )
  keeps Claim = (
    frame_place b _ _ (inr (inl refl)),
    (refl, refl, bare_board_twice (claim b c)),
    λ a w h u m g. claim_settled z b q f a h c u g,
  )
  keeps (Prepare n s p sptr) = (
    frame_message b n _ (inr (inl refl)),
    (refl, refl, bare_board_twice (prepare b n s p sptr)),
    λ a w h u m g. prepare_settled z b q f h c n s p sptr w g,
  )
  keeps (Release n) = (
    framed_release z b c n,
    (refl, refl, bare_board_twice (release b n)),
    λ a w h u m g. release_settled z b q f h c n g,
  )
  keeps (Send n r) = (
    framed_send z b c n r,
    blind_send z b c n r,
    λ a w h u m g. (send_settled z b q f a h c u n r g).0,
  )
  keeps (SendAndWait n r) = (
    framed_send-wait z b c n r,
    blind_send-wait z b c n r,
    λ a w h u m g. (send_settled z b q f a h c u n r g).1 m,
  )
  keeps (Resend n) = (
    framed_forward z b c n _,
    blind_forward z b c n (message b n).rptr,
    λ a w h u m g. (resend_settled z b q f a h c u n g).0,
  )
  keeps (ResendAndWait n) = (
    framed_forward-wait z b c n (message b n).rptr,
    blind_forward-wait z b c n (message b n).rptr,
    λ a w h u m g. (resend_settled z b q f a h c u n g).1 m,
  )
  keeps (Forward n r) = (
    framed_forward z b c n r,
    blind_forward z b c n r,
    λ a w h u m g. (forward_settled z b q f a h c u n r g).0,
  )
  keeps (ForwardAndWait n r) = (
    framed_forward-wait z b c n r,
    blind_forward-wait z b c n r,
    λ a w h u m g. (forward_settled z b q f a h c u n r g).1 m,
  )
  keeps (Return n) = (
    framed_forward z b c n _,
    blind_forward z b c n (message b n).sptr,
    λ a w h u m g. (return_settled z b q f a h c u n g).0,
  )
  keeps (ReturnAndWait n) = (
    framed_forward-wait z b c n (message b n).sptr,
    blind_forward-wait z b c n (message b n).sptr,
    λ a w h u m g. (return_settled z b q f a h c u n g).1 m,
  )
  keeps Receive = (
    frame_take z b c,
    (refl, ap first_of (queue-bare z b c), bare_alike (take_first z b c) _ (bare-take_first z b c)),
    λ a w h u m g. receive_settled z b q f a h c u m g,
  )
  keeps ReceiveAndWait = (
    frame_waits b c (inl refl),
    (refl, refl, bare_alike (waits c b) _ (bare-waits b c)),
    λ a w h u m g. receive_and_wait_settled z b q f h c u m g,
  )
  keeps (CancelMessage n r) = (
    framed_back z b c n r,
    (rw (present-bare b r), refl, bare_alike (cancel_message z b c n r) _ (bare-cancel_message z b c n r)),
    λ a w h u m g. cancel_message_settled z b q f a h c u n r g,
  )
  keeps WaitForInterrupt = (
    frame_flag b c INTQ IWAT (inl refl) queued posted,
    (refl, refl, bare_alike (wait_interrupt b c) _ (bare-wait_interrupt b c)),
    λ a w h u m g. wait_settled z b q f h c u m g,
  )

-- ---- the claims
-- a body leaves R1 to R6, and the lists that its move says
pub body_settles : BodySettles
body_settles z b q f c call a w h u m g = (keeps z b c q f call).2 a w h u m g

-- it changes only the records that the call touches
pub body_frame : BodyFrame
body_frame z b c call = (keeps z b c [] (λ k. []) call).0

-- what it reads and leaves is the same, or the same but for DEBUG and MROB, where these are cleared before
pub body_blind : (z : Size) (b : Board) (c : ℕ) (call : Call) → Blind z b c call
body_blind z b c call = (keeps z b c [] (λ k. []) call).1
