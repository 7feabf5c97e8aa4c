-- A call as code makes it is document 01's effect: the same answer and the same bytes, on every board that passes. Assumes nothing.
use mathlib.Core.Path.{◌≡◌, refl, sym, ap, ap₂, ◌∙◌, subst}
use mathlib.Core.Bool.{Bool, true, false, cond}
use mathlib.Core.List.{List}
use Prim.Native.Nat.{ℕ, ◌%◌}
use lib.ListN.{length}
use borrow.Author.Tests.{eqb-false}
use Rattle.links.specs.Queue.{first_of}
use Rattle.board.specs.declared.numbers.Size.{Size}
use Rattle.board.specs.Numbers.{number_of_task}
use Rattle.board.specs.Status.{MHBS, has}
use Rattle.board.specs.Board.{Board, total, board_of, bytes_of, task, with_running}
use Rattle.board.specs.Writes.{put_running}
use Rattle.board.specs.Claims.{Bytes}
use Rattle.board.proofs.Codec.{Small, bytes-board}
use Rattle.paper.specs.declared.call.Call.{Call}
use Rattle.paper.specs.declared.answer.Refusal.TheVariants.{NothingToDeliver}
use Rattle.paper.specs.Rules.{queue, runs_next, passes}
use Rattle.paper.specs.Changes.{clears, take_first}
use Rattle.paper.specs.Refusals.{own_row, Verdict, Go, Stop, given}
use Rattle.paper.specs.Outcomes.{Outcome, undispatched, accepted, refused, judge, body, deliver, dispatch_to, dispatch, effect}
use Rattle.paper.proofs.Rows.{row_own}
use Rattle.linked.specs.Sound.{RunsRightly}
use Rattle.linked.proofs.Chosen.{runs_alike}
use Rattle.kept.specs.Claims.{Sizes}
use Rattle.kept.specs.Settled.{Settled, Fitting}
use Rattle.kept.specs.Touched.{touched, order_after, queues_after}
use Rattle.kept.proofs.Fitting.{fits-board}
use Rattle.kept.proofs.Dispatching.{listed_walked, next_rightly, runs-byte, next_settled, due_there, dispatch_delivers}
use Rattle.kept.proofs.Theorems.{passing-sound, sound_settled, sound-awake}
use Rattle.kept.proofs.Bodies.{body_settles, body_frame}
use Rattle.stores.specs.Changes as changes
use Rattle.stores.specs.Effects as effects
use Rattle.stores.specs.Answers.{Stored, body_by, bytes_by}
use Rattle.stores.specs.Calls as calls
use Rattle.stored.proofs.Comes.{Comes, and_then, comes_running, comes_task}
use Rattle.stored.proofs.Bodies.{first_walked, first_numbered, comes_taken}
use Rattle.stored.proofs.Calls.{body_comes}
use Rattle.stored.proofs.Next.{then_on, then_next}

-- bytes that come to a board are its bytes
comes_bytes : (z : Size) (l : List ℕ) (b : Board) → Comes z l b → Small l → l ≡ bytes_of b
comes_bytes z l b c h = sym (bytes-board z l c.0 h) ∙ ap bytes_of c.1

-- ---- dispatch, of the bytes l of a board that is settled and on which c runs rightly; k are the bytes before the call
module _ (z : Size) (k l : List ℕ) (v : ℕ) (a : Sizes z) (q : List ℕ) (queues : ℕ → List ℕ) (e : length l ≡ total z)
    (s : Settled z (board_of z l) q queues) (c : ℕ) (right : RunsRightly (board_of z l) c) where
  abbrev b : Board
  b = board_of z l

  -- what code does of the two, by whether MPTR is beyond the messages
  abbrev handover : Bool → Outcome
  handover t = cond t (refused l NothingToDeliver) (accepted v c (task b c).mptr (changes.clears z (effects.take_first z l c) c MHBS))

  -- the message is handed over
  delivers : has (task b c).stat MHBS ≡ true → Small (calls.deliver z v l c).after → calls.deliver z v l c ≡ deliver z k (undispatched v b) c
  delivers d small =
      let there = due_there z b q queues a s c right d in
      let m : ℕ = (task b c).mptr in
      let full = dispatch_delivers z b q queues a s c right d in
      let one = first_numbered z l e a q queues s c there (eqb-false m 0 full) in
      let t : List ℕ = effects.take_first z l c in
      let taken : Comes z (changes.clears z t c MHBS) (clears (take_first z b c) c MHBS) =
      and_then z t _ _ (λ x. clears x c MHBS) (comes_taken z l e a q queues s c there) (λ f. comes_task z t f c _) in
      let bytes = comes_bytes z _ _ taken (subst (λ (t : Bool). Small (handover t).after) one small) in
      ap handover one
      ∙ ap₂ (λ (x : ℕ) (y : List ℕ). accepted v c x y) (first_walked z l e a q queues s c there) bytes
      ∙ ap (λ (t : Bool). cond t (refused k NothingToDeliver) (accepted v c (first_of (queue z b c)) (bytes_of (clears (take_first z b c) c MHBS)))) (sym full)

  pub dispatch_comes : Small (calls.dispatch z v l c).after → calls.dispatch z v l c ≡ dispatch_to z k (undispatched v b) c
  dispatch_comes h = go (has (task b c).stat MHBS) refl h
    where
      go : (t : Bool) → has (task b c).stat MHBS ≡ t → Small (cond t (calls.deliver z v l c) (accepted v c 0 l)).after
          → cond t (calls.deliver z v l c) (accepted v c 0 l) ≡ cond t (deliver z k (undispatched v b) c) (accepted v c 0 (bytes_of b))
      go true d small = delivers d small
      go false d small = ap (accepted v c 0) (comes_bytes z l b (e, refl) small)

-- ---- who runs next is written, and dispatched: of the bytes l of a board that is settled
module _ (z : Size) (k l : List ℕ) (v : ℕ) (a : Sizes z) (q : List ℕ) (queues : ℕ → List ℕ) (e : length l ≡ total z)
    (s : Settled z (board_of z l) q queues) where
  abbrev next : ℕ
  next = runs_next z (board_of z l)

  abbrev chosen : List ℕ
  chosen = put_running l (next % 256)

  comes_chosen : Comes z chosen (with_running (board_of z l) next)
  comes_chosen = comes_running z l e next (runs-byte z (board_of z l) q queues a s next (next_rightly z (board_of z l) q queues a s))

  pub chosen_comes : Small (calls.dispatch z v chosen next).after → calls.dispatch z v chosen next ≡ dispatch z k (undispatched v (board_of z l))
  chosen_comes h =
      let d : Board = with_running (board_of z l) next in
      let i = sym comes_chosen.1 in
      let right = runs_alike (board_of z l) d next (λ k. refl) (λ k. refl) (next_rightly z (board_of z l) q queues a s) in
      dispatch_comes z k chosen v a q queues comes_chosen.0 (subst (λ (x : Board). Settled z x q queues) i (next_settled z (board_of z l) q queues a s))
      next (subst (λ (x : Board). RunsRightly x next) i right) h
      ∙ ap (λ (x : Board). dispatch_to z k (undispatched v x) next) comes_chosen.1

-- ---- the call
module _ (z : Size) (l : List ℕ) (call : Call) (a : Sizes z) (h : Bytes z l) (w : Fitting call) (p : passes z (board_of z l) ≡ true) where
  abbrev before : Board
  before = board_of z l

  abbrev runner : ℕ
  runner = before.running

  abbrev made : Stored
  made = calls.body z l runner call

  abbrev then : ℕ
  then = calls.runs_then z runner made.stirred made.after

  goes : given (own_row z before runner call) ≡ Go → Small (calls.dispatch z made.value (put_running made.after (then % 256)) then).after
      → calls.dispatch z made.value (put_running made.after (then % 256)) then ≡ dispatch z l (body z before runner call)
  goes g small =
      let move = (touched before runner call).move in
      let f = fits-board z l h in
      let s = passing-sound z before a f p in
      let t = sound_settled z before a f s in
      let awake = sound-awake z before a f s in
      let c = body_comes z l h.long a s.order s.queues t runner awake call g in
      let d : Board = (body z before runner call).board in
      let settled = body_settles z before s.order s.queues runner call a w t awake s.idle g in
      let after = subst (λ (x : Board). Settled z x (order_after before s.order move) (queues_after before s.queues move)) (sym c.bytes.1) settled in
      let listed = listed_walked z d (order_after before s.order move) (queues_after before s.queues move) a settled in
      let ran = (body_frame z before runner call).running in
      let next = then_next z before d runner (number_of_task made.stirred) s.runs settled.fits.tasks listed ran c.stirs in
      let runs : then ≡ runs_next z (board_of z made.after) =
      ap (λ (x : Board). then_on z x runner (number_of_task made.stirred)) c.bytes.1 ∙ next ∙ ap (runs_next z) (sym c.bytes.1) in
      ap (λ (k : ℕ). calls.dispatch z made.value (put_running made.after (k % 256)) k) runs
      ∙ chosen_comes z l made.after made.value a (order_after before s.order move) (queues_after before s.queues move) c.bytes.0 after
      (subst (λ (k : ℕ). Small (calls.dispatch z made.value (put_running made.after (k % 256)) k).after) runs small)
      ∙ ap₂ (λ (v : ℕ) (x : Board). dispatch z l (undispatched v x)) c.value c.bytes.1

  by_verdict : (v : Verdict) → given (own_row z before runner call) ≡ v
      → Small (calls.finish z runner (body_by v made) (bytes_by v l made.after)).after
      → calls.finish z runner (body_by v made) (bytes_by v l made.after) ≡ judge l v (dispatch z l (body z before runner call))
  by_verdict Go g small = goes g small
  by_verdict (Stop q) g small = refl

  pub call_effect : Small (calls.called z l call).after → calls.called z l call ≡ effect z l call
  call_effect small =
      by_verdict (given (own_row z before runner call)) refl small
      ∙ ap (λ (v : Verdict). judge l v (dispatch z l (body z before runner call))) (sym (row_own z l before runner call h.long p))
