-- What each body keeps, whoever runs and whether or not the board is settled.
-- Assumes nothing.
use mathlib.Core.Path.{◌≡◌, refl, sym, subst, fun_ext}
use mathlib.Core.Logic.{◌⊎◌, inl, inr}
use mathlib.Core.Bool.{Bool, true, false, cond, ◌&&◌}
use mathlib.Core.List.{List, [], ◌∷◌}
use Prim.Native.Nat.{ℕ, zero, suc}
use Rattle.links.specs.Queue.{walk, first_of, rest_of, goes_before, insert, without}
use Rattle.links.specs.Chain.{In, All}
use Rattle.links.proofs.Bools.{cond_holds}
use Rattle.links.proofs.Members.{is_in_in, all_of}
use Rattle.links.proofs.Insertion.{all_insert}
use Rattle.links.proofs.Removal.{all_without, all_rest}
use Rattle.board.specs.declared.numbers.Size.{Size}
use Rattle.board.specs.declared.records.Message.{Message}
use Rattle.board.specs.declared.places.Place.TheVariants.{Free}
use Rattle.board.specs.Status.{WAIT, MHBS, has, number}
use Rattle.board.specs.Records.{no_task, no_message}
use Rattle.board.specs.Board.{Board, task}
use Rattle.board.proofs.Numbered.{nth_alike}
use Rattle.paper.specs.declared.call.Call.{Call}
use Rattle.paper.specs.declared.call.Call.TheVariants.{Install, CancelTask, Release, Send, SendAndWait, Forward, ForwardAndWait, CancelMessage}
use Rattle.paper.specs.Rules.{order, queue, empty_queue, next_message, task_number}
use Rattle.paper.specs.Changes.{sets, clears, link_message, hold, take_first}
use Rattle.paper.specs.Effects.{queue_with, woken, emptied, place_at, addressed, send, waits}
use Rattle.paper.specs.Outcomes.{body}
use Rattle.kept.specs.Touched.{touched, every_bit, for_messages, queue_of, relinks, Frame}
use Rattle.kept.proofs.Framing.{Bit, Linkable, frame_none, frame_then, frame_set, frame_clear, frame_message, frame_place}
use Rattle.kept.proofs.Framing.{frame_queue, frame_record, frame_order}

-- ---- effects on the tasks ts, the messages ms and the queue q
-- the first that a walk visits is none or where it starts
walk_first : (next : ℕ → ℕ) (n x : ℕ) → let m = first_of (walk next n x) in (m ≡ 0) ⊎ In m (x ∷ [])
walk_first next zero x = inl refl
walk_first next (suc n) zero = inl refl
walk_first next (suc n) (suc x) = inr (inl refl)

-- the bits of waiting for a message
waiting : Bit for_messages WAIT
waiting = (is_in_in WAIT every_bit refl, is_in_in WAIT for_messages refl)

due : Bit for_messages MHBS
due = (is_in_in MHBS every_bit refl, is_in_in MHBS for_messages refl)

module _ {ts bits ms : List ℕ} {who : ℕ} {q : List ℕ} where
  -- a message comes into a task's hands
  frame_hold : (b : Board) (c m : ℕ) → (m ≡ 0) ⊎ In m ms → Frame b (hold b c m) ts bits ms who q false
  frame_hold b c m i = frame_then (frame_message b m _ i) (frame_place (link_message b m 0) m _ i)

  -- a flag is cleared and another set, or neither
  frame_flags : (b : Board) (r x y : ℕ) (t : Bool) → In r ts → Bit bits x → Bit bits y
      → Frame b (cond t (sets (clears b r x) r y) b) ts bits ms who q false
  frame_flags b r x y t i j k =
      cond_holds (λ (d : Board). Frame b d ts bits ms who q false) t _ b
      (λ e. frame_then (frame_clear b r x i j) (frame_set (clears b r x) r y i k)) (λ e. frame_none b)

  -- a flag is cleared if it is there, else another is set
  pub frame_flag : (b : Board) (k x y : ℕ) → In k ts → Bit bits x → Bit bits y
      → Frame b (cond (has (task b k).stat x) (clears b k x) (sets b k y)) ts bits ms who q false
  frame_flag b k x y i j n =
      cond_holds (λ (d : Board). Frame b d ts bits ms who q false) (has (task b k).stat x) _ _ (λ e. frame_clear b k x i j)
      (λ e. frame_set b k y i n)

module _ {ts ms : List ℕ} {who : ℕ} {q : List ℕ} where
  -- a task is woken
  frame_woken : (b : Board) (r : ℕ) → In r ts → Frame b (woken b r) ts for_messages ms who q false
  frame_woken b r i = frame_flags b r WAIT MHBS (has (task b r).stat WAIT) i waiting due

  -- a task with none left waits again
  frame_emptied : (b : Board) (r : ℕ) → In r ts → Frame b (emptied b r) ts for_messages ms who q false
  frame_emptied b r i = frame_flags b r MHBS WAIT (has (task b r).stat MHBS && empty_queue b r) i due waiting

  -- a task waits
  pub frame_waits : (b : Board) (c : ℕ) → In c ts → Frame b (waits c b) ts for_messages ms who q false
  frame_waits b c i =
      frame_set b c _ i (cond_holds (Bit for_messages) (empty_queue b c) WAIT MHBS (λ e. waiting) (λ e. due))

module _ {ts ms q : List ℕ} where
  -- a message is placed
  frame_place_at : (z : Size) (b : Board) (m r : ℕ) → In r ts → In m ms → All (Linkable ms q) (queue z b r)
      → Frame b (place_at z b m r) ts for_messages ms r q false
  frame_place_at z b m r i j h =
      frame_then (frame_queue b r (queue_with z b m r) i (all_insert _ _ m (queue z b r) (inl j) h))
      (frame_then (frame_place _ m _ (inr j)) (frame_then (frame_message _ m _ (inr j)) (frame_woken _ r i)))

  -- a message is sent: addressed, it keeps its LINK
  frame_send : (z : Size) (b : Board) (c m r : ℕ) → In r ts → In m ms → All (Linkable ms q) (queue z b r)
      → Frame b (send z b c m r) ts for_messages ms r q false
  frame_send z b c m r i j h =
      let same : next_message b ≡ next_message (addressed b c m r) =
      fun_ext (λ y. sym (nth_alike (λ (t : Message). t.link) no_message b.messages m y _ refl)) in
      frame_then (frame_message b m _ (inr j)) (frame_place_at z (addressed b c m r) m r i j
      (subst (λ (f : ℕ → ℕ). All (Linkable ms q) (walk f z.messages (task b r).mptr)) same h))

-- ---- the calls, whoever runs
module _ (z : Size) (b : Board) (c : ℕ) where
  abbrev pub Framed : Call → Type 0
  Framed call = let t = touched b c call in let r = queue_of t.move in
      Frame b (body z b c call).board t.tasks t.bits t.messages r (queue z b r) (relinks t.move)

  -- the messages of a queue may all be linked
  own_queue : (m r : ℕ) → All (Linkable (m ∷ []) (queue z b r)) (queue z b r)
  own_queue m r = all_of _ (queue z b r) (λ x i. inr i)

  -- one task written and the tasks relinked, either way round
  pub framed_install : (k s p sptr name : ℕ) → Framed (Install k s p sptr name)
  framed_install k s p sptr name =
      frame_then (frame_record b k _ (inl refl))
      (frame_order _ (insert (λ x. goes_before true (number p) (task_number b x)) k (order z b)))

  pub framed_cancel : (k : ℕ) → Framed (CancelTask k)
  framed_cancel k = frame_then (frame_order b (without k (order z b))) (frame_record _ k no_task (inl refl))

  -- a message released
  pub framed_release : (m : ℕ) → Framed (Release m)
  framed_release m = frame_then (frame_message b m no_message (inr (inl refl))) (frame_place _ m Free (inr (inl refl)))

  -- and the caller waits
  framed_wait : (d : Board) (r : ℕ) (ms q : List ℕ) → Frame b d (r ∷ c ∷ []) for_messages ms r q false
      → Frame b (waits c d) (r ∷ c ∷ []) for_messages ms r q false
  framed_wait d r ms q f = frame_then f (frame_waits d c (inr (inl refl)))

  -- a message sent, and with the wait; so forward, and with it resend and return
  pub framed_send : (m r : ℕ) → Framed (Send m r)
  framed_send m r = frame_send z b c m r (inl refl) (inl refl) (own_queue m r)

  pub framed_send-wait : (m r : ℕ) → Framed (SendAndWait m r)
  framed_send-wait m r = framed_wait _ r _ _ (frame_send z b c m r (inl refl) (inl refl) (own_queue m r))

  pub framed_forward : (m r : ℕ) → Framed (Forward m r)
  framed_forward m r = frame_place_at z b m r (inl refl) (inl refl) (own_queue m r)

  pub framed_forward-wait : (m r : ℕ) → Framed (ForwardAndWait m r)
  framed_forward-wait m r = framed_wait _ r _ _ (frame_place_at z b m r (inl refl) (inl refl) (own_queue m r))

  -- a message taken, taken back
  pub frame_take : {bits : List ℕ} → Frame b (take_first z b c) (c ∷ []) bits ((task b c).mptr ∷ []) c (queue z b c) false
  frame_take =
      frame_then (frame_queue b c (rest_of (queue z b c)) (inl refl) (all_rest _ (queue z b c) (own_queue (task b c).mptr c)))
      (frame_hold _ c (first_of (queue z b c)) (walk_first (next_message b) z.messages (task b c).mptr))

  pub framed_back : (m r : ℕ) → Framed (CancelMessage m r)
  framed_back m r =
      frame_then (frame_queue b r (without m (queue z b r)) (inl refl) (all_without _ m (queue z b r) (own_queue m r)))
      (frame_then (frame_hold _ c m (inr (inl refl))) (frame_emptied _ r (inl refl)))
