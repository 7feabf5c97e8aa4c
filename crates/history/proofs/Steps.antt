-- A whole call on bytes and on the machine: the same refusal or the same answer, and they agree again afterwards.
-- Assumes nothing.
use mathlib.Core.Path.{◌≡◌, refl, sym, ap, ◌∙◌, subst}
use mathlib.Core.Bool.{true}
use mathlib.Core.List.{List}
use Prim.Native.Nat.{ℕ}
use lib.ListN.{length}
use Rattle.board.specs.declared.numbers.Size.{Size}
use Rattle.board.specs.Board.{Board, total, board_of}
use Rattle.board.specs.Claims.{Bytes}
use Rattle.paper.specs.declared.call.Call.{Call}
use Rattle.paper.specs.Rules.{passes}
use Rattle.paper.proofs.Rows.{row_own}
use Rattle.paper.specs.Refusals.{Test, own_row, Verdict, Go, Stop, given}
use Rattle.paper.specs.Outcomes as paper
use Rattle.kept.specs.Settled.{Settled, Fitting}
use Rattle.kept.specs.Claims.{Sizes}
use Rattle.kept.proofs.Fitting.{board-bytes}
use Rattle.kept.proofs.Theorems.{passing-sound, sound-awake, passing_stays_passing}
use Rattle.kept.proofs.Bodies.{body_settles}
use Rattle.history.specs.Ranking.{Entry}
use Rattle.history.specs.Machine as plain
use Rattle.history.specs.Machine.{Plain, Played, Result}
use Rattle.history.proofs.Named.{Named}
use Rattle.history.proofs.Machines.{plain_of}
use Rattle.history.proofs.Same.{Same, same_at, same_holds}
use Rattle.history.proofs.Calls.{Alike, calls_alike}
use Rattle.history.proofs.Dispatch.{Dispatched, dispatch_alike}

-- ---- the bytes of a board and the machine
pub record Agreeing (z : Size) (l : List ℕ) (p : Plain) : Type 0 where
  pub bytes : Bytes z l
  pub sound : passes z (board_of z l) ≡ true
  pub order : List ℕ
  pub queues : ℕ → List ℕ
  pub settled : Settled z (board_of z l) order queues
  pub same : Same z (board_of z l) order queues p

-- what a call makes of both: the same answer, and a board that is settled and is the machine's
pub record Ended (z : Size) (o : paper.Outcome) (r : Result) : Type 0 where
  pub answers : o.answer ≡ r.answer
  pub order : List ℕ
  pub queues : ℕ → List ℕ
  pub settled : Settled z (board_of z o.after) order queues
  pub same : Same z (board_of z o.after) order queues r.plain

-- bytes are their board's
dispatched_ends : (z : Size) (o : paper.Outcome) (r : Result) → Dispatched z o r → Ended z o r
dispatched_ends z o r t =
    let e : board_of z o.after ≡ t.board = ap (board_of z) t.leaves ∙ board-bytes z t.board t.settled.fits in record {
      answers = t.answers;
      order = t.order;
      queues = t.queues;
      settled = subst (λ (b : Board). Settled z b t.order t.queues) (sym e) t.settled;
      same = subst (λ (b : Board). Same z b t.order t.queues r.plain) (sym e) t.same;
    }

-- ---- refusals and a body on bytes, and a row on their machine
module _ (z : Size) (a : Sizes z) (bytes : List ℕ) (q : List ℕ) (f : ℕ → List ℕ) (h : Settled z (board_of z bytes) q f)
    (l s : List Entry) (n : ℕ) (w : Named z (plain_of (board_of z bytes) l s n) q f) where
  abbrev b : Board
  b = board_of z bytes

  abbrev c : ℕ
  c = b.running

  abbrev p : Plain
  p = plain_of b l s n

  -- where they come to the same and the body settles, the same answer is given, and they agree again afterwards
  pub alike_ends : (tests : List Test) (d : paper.Undispatched) (order : List ℕ) (queues : ℕ → List ℕ) (e : Played)
      → Alike z tests d order queues e → (given tests ≡ Go → Settled z d.board order queues)
      → Ended z (paper.judge bytes (given tests) (paper.dispatch z bytes d))
      (plain.judged (plain_of (board_of z bytes) l s n) (given e.refusals) (plain.dispatch (plain_of (board_of z bytes) l s n) e))
  alike_ends tests d order queues e alike settles =
      subst (λ (v : Verdict). Ended z (paper.judge bytes (given tests) (paper.dispatch z bytes d)) (plain.judged p v (plain.dispatch p e)))
      (sym alike.verdict) (by (given tests) refl)
    where
      -- the body, and then dispatch
      went : given tests ≡ Go → Ended z (paper.dispatch z bytes d) (plain.dispatch p e)
      went g =
          let to : ℕ → Plain → Type 0 = λ v x. Dispatched z (paper.dispatch z bytes d) (plain.dispatch p (plain.played e.refusals v x)) in
          dispatched_ends z _ _ (subst (λ (v : ℕ). to v e.plain) (alike.value g)
          (same_holds z d.board order queues e.plain (to d.value) (alike.same g)
          (λ l s n w. dispatch_alike z d.board order queues a (settles g) l s n w bytes p e.refusals d.value)))

      by : (v : Verdict) → given tests ≡ v
          → Ended z (paper.judge bytes v (paper.dispatch z bytes d)) (plain.judged p v (plain.dispatch p e))
      by Go g = went g
      by (Stop r) g = record {
        answers = refl;
        order = q;
        queues = f;
        settled = h;
        same = same_at l s n refl w;
      }

  -- ---- a call
  effect_ends : (call : Call) → Fitting call → length bytes ≡ total z → passes z (board_of z bytes) ≡ true
      → Ended z (paper.effect z bytes call) (plain.step z (plain_of (board_of z bytes) l s n) call)
  effect_ends call fits long sound =
      let d : paper.Undispatched = paper.body z b c call in
      let good = passing-sound z b a h.fits sound in
      let awake = sound-awake z b a h.fits good in
      subst (λ (v : Verdict). Ended z (paper.judge bytes v (paper.dispatch z bytes d)) (plain.step z p call))
      (sym (row_own z bytes b c call long sound))
      (alike_ends (own_row z b c call) d _ _ (plain.play z p c call) (calls_alike z b q f a h l s n w c awake call)
      (body_settles z b q f c call a fits h awake good.idle))

-- bytes and machine that agree give one answer to a call that fits, and agree afterwards
pub call_agrees : (z : Size) → Sizes z → (l : List ℕ) (p : Plain) (call : Call) → Fitting call → Agreeing z l p
    → ((paper.effect z l call).answer ≡ (plain.step z p call).answer)
    × Agreeing z (paper.effect z l call).after (plain.step z p call).plain
call_agrees z a l p call w t =
    let q : List ℕ = t.order in
    let f : ℕ → List ℕ = t.queues in
    let to : Plain → Type 0 = λ x. Ended z (paper.effect z l call) (plain.step z x call) in
    let r : to p = same_holds z (board_of z l) q f p to t.same
    (λ k s n v. effect_ends z a l q f t.settled k s n v call w t.bytes.long t.sound) in
    let k = passing_stays_passing z l call a t.bytes w t.sound in (
      r.answers,
      record { bytes = k.0; sound = k.1; order = r.order; queues = r.queues; settled = r.settled; same = r.same },
    )
