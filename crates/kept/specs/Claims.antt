-- What calls keep, as statements; their proofs are in proofs/Bodies and proofs/Theorems. A reader must believe this file.
--   BodySettles         where the task c that calls is ready and isn't due a message (R7), the body of a call that no refusal of its row
--                       stops leaves R1 to R6, and the lists that its move says
--   BodyFrame           a body changes only the records and the bits of STAT that the call touches, and not byte 1; DispatchFrame: handing
--                       over changes only the task c that then runs, of its STAT MHBS alone, and the message that it is handed
--   NeverStuck          refusal 15 is given on no board, whatever its bytes
--   PassingStaysPassing a call on a board that passes leaves one that passes
--   effected z l call   the board once the call has had its effect, before who runs is settled
--   RightlyChosen       whoever an accepted call tells to run is in byte 1 afterwards, and is 0 exactly if after the effect no task is ready,
--                       else a ready task of the smallest ready priority number
--   EqualNeverPushes    where the task that ran is ready after the effect and no ready task has a smaller number, it runs on
--   SmallerRunsAtOnce   where a ready task has a smaller number, one of the smallest runs
--   EveryBlockOnce      after an accepted call, on whatever bytes, every block is free, held by one present task, in one queue once, or
--                       placed on the timer
--   CallsLeaveTheTimer  none of the nineteen calls puts a message on the timer or takes one off, and of one that is there it changes nothing
-- Assumes nothing.
use Rattle.std.specs.Prelude.{◌≡◌, ◌≢◌, true, false, List, [], ◌∷◌, ℕ, ◌≤◌, ◌<◌, get_or, Err}
use Rattle.board.specs.declared.numbers.Size.{Size}
use Rattle.board.specs.Numbers.{Numbered}
use Rattle.board.specs.Status.{MHBS, has}
use Rattle.board.specs.Records.{Byte}
use Rattle.board.specs.Places.{is_on_timer}
use Rattle.board.specs.Board.{Board, board_of, task, message, place}
use Rattle.board.specs.Claims.{Bytes}
use Rattle.paper.specs.declared.call.Call.{Call}
use Rattle.paper.specs.declared.answer.Refusal.TheVariants.{NothingToDeliver}
use Rattle.paper.specs.Rules.{queue, task_number, ready, passes}
use Rattle.paper.specs.Changes.{clears, take_first}
use Rattle.paper.specs.Refusals.{own_row, Go, given}
use Rattle.paper.specs.Outcomes.{body, effect}
use Rattle.paper.specs.Answers.{accepts}
use Rattle.linked.specs.Sound.{Leads, RunsRightly}
use Rattle.linked.specs.Claims.{Whereabouts}
use Rattle.kept.specs.Settled.{Settled, Awake, Fitting}
use Rattle.kept.specs.Touched.{touched, order_after, queues_after, queue_of, relinks, Frame}

-- sizes for which a place byte tells held from queued and both from 128, links are words, and one limit serves both kinds of walk
pub record Sizes (z : Size) : Type 0 where
  pub tasks : z.tasks ≤ 63
  pub limit : z.tasks ≤ z.messages
  pub links : z.messages < 65536

abbrev pub BodySettles : Type 0
BodySettles =
    (z : Size) (b : Board) (order : List ℕ) (queues : ℕ → List ℕ) (c : ℕ) (call : Call) → Sizes z → Fitting call
    → Settled z b order queues → Awake b c → has (task b c).stat MHBS ≡ false → given (own_row z b c call) ≡ Go
    → let move = (touched b c call).move in Settled z (body z b c call).board (order_after b order move) (queues_after b queues move)

-- ---- what else stays, of any board
abbrev pub BodyFrame : Type 0
BodyFrame =
    (z : Size) (b : Board) (c : ℕ) (call : Call) → let t = touched b c call in let r = queue_of t.move in
    Frame b (body z b c call).board t.tasks t.bits t.messages r (queue z b r) (relinks t.move)

abbrev pub DispatchFrame : Type 0
DispatchFrame =
    (z : Size) (b : Board) (c : ℕ)
    → Frame b (clears (take_first z b c) c MHBS) (c ∷ []) (MHBS ∷ []) ((task b c).mptr ∷ []) c (queue z b c) false

-- ---- histories of a board
abbrev pub NeverStuck : Type 0
NeverStuck =
    (z : Size) (l : List ℕ) (call : Call) → Sizes z → ((i : ℕ) → Byte (get_or l i 0)) → Fitting call
    → (effect z l call).answer ≢ Err NothingToDeliver

abbrev pub PassingStaysPassing : Type 0
PassingStaysPassing =
    (z : Size) (l : List ℕ) (call : Call) → Sizes z → Bytes z l → Fitting call → passes z (board_of z l) ≡ true
    → let o = effect z l call in Bytes z o.after × (passes z (board_of z o.after) ≡ true)

-- ---- who runs: document 02, Ask 3
abbrev pub effected : Size → List ℕ → Call → Board
effected z l call = let b = board_of z l in (body z b b.running call).board

abbrev pub RightlyChosen : Type 0
RightlyChosen =
    (z : Size) (l : List ℕ) (call : Call) (v c m : ℕ) → Sizes z → ((i : ℕ) → Byte (get_or l i 0)) → Fitting call
    → let o = effect z l call in o.answer ≡ accepts v c m
    → RunsRightly (effected z l call) c × ((board_of z o.after).running ≡ c)

abbrev pub EqualNeverPushes : Type 0
EqualNeverPushes =
    (z : Size) (l : List ℕ) (call : Call) (v c m : ℕ) → (effect z l call).answer ≡ accepts v c m
    → let ran = (board_of z l).running in Leads (effected z l call) ran → c ≡ ran

abbrev pub SmallerRunsAtOnce : Type 0
SmallerRunsAtOnce =
    (z : Size) (l : List ℕ) (call : Call) (v c m : ℕ) → Sizes z → ((i : ℕ) → Byte (get_or l i 0)) → Fitting call
    → (effect z l call).answer ≡ accepts v c m → let d = effected z l call in let ran = (board_of z l).running in
    (k : ℕ) → ready d k ≡ true → task_number d k < task_number d ran → Leads d c × (c ≢ ran)

-- ---- demand 2, its last sentence
abbrev pub EveryBlockOnce : Type 0
EveryBlockOnce =
    (z : Size) (l : List ℕ) (call : Call) (v c m : ℕ) → Sizes z → ((i : ℕ) → Byte (get_or l i 0)) → Fitting call
    → let o = effect z l call in o.answer ≡ accepts v c m
    → (n : ℕ) → Numbered z.messages n → Whereabouts z (board_of z o.after) n

-- ---- a message on the timer: document 02, Ask 5
abbrev pub CallsLeaveTheTimer : Type 0
CallsLeaveTheTimer =
    (z : Size) (l : List ℕ) (call : Call) → Sizes z → ((i : ℕ) → Byte (get_or l i 0)) → Fitting call
    → let b = board_of z l in let d = board_of z (effect z l call).after in
    (m : ℕ) → (is_on_timer (place d m) ≡ is_on_timer (place b m)) × (is_on_timer (place b m) ≡ true → message d m ≡ message b m)
