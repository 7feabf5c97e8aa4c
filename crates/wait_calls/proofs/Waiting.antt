-- A wait form comes to what the call is without the wait, and then the wait. Assumes nothing.
use mathlib.Core.Path.{◌≡◌, refl, sym, ap, ◌∙◌, subst}
use mathlib.Core.List.{List}
use Prim.Native.Nat.{ℕ}
use Rattle.std.specs.Prelude.{Option}
use Rattle.board.specs.declared.numbers.Size.{Size}
use Rattle.board.specs.declared.numbers.TaskNo.{TaskNo}
use Rattle.board.specs.Numbers.{number_of_task}
use Rattle.board.specs.Board.{board_of}
use Rattle.lent.specs.declared.bytes.LentMut.{LentMut}
use Rattle.paper.specs.declared.call.Call.{Call}
use Rattle.paper.specs.declared.call.Call.TheVariants.{Send, SendAndWait, Resend, ResendAndWait, Forward, ForwardAndWait, Return, ReturnAndWait}
use Rattle.paper.specs.Refusals.{Verdict, Go, Stop}
use Rattle.stores.specs.Effects.{waits}
use Rattle.stores.specs.Answers.{Runner, Stored, Reply, Made, reply_by, Body}
use Rattle.stores.specs.Calls.{stepping, waiting}

-- what it comes to, where the plain call comes to s by the verdict v
abbrev then_wait : Size → ℕ → Stored → Stored
then_wait z c s = record { value = 0; stirred = s.stirred; after = waits z s.after c }

waited : (z : Size) (v : Verdict) (c : ℕ) (l : List ℕ) (s : Stored)
    → waiting z c (reply_by v l s).answer (reply_by v l s).after ≡ reply_by v l (then_wait z c s)
waited z Go c l s = refl
waited z (Stop q) c l s = refl

-- a call on the board b
abbrev on : LentMut → Call → Reply Body
on b = stepping b.size b.bytes.now

-- the plain call answers p and makes mid of the board old, and the wait behind it answers q and makes new of mid: so does the call; x runs
module _ {old mid new : LentMut} {x : Option TaskNo} (ex : Runner old.size old.bytes.now x) {call : Call} {p q : Body}
    (w : Made q mid new (waiting mid.size (number_of_task x) p mid.bytes.now)) where
  then-waits : (plain form : Call) → call ≡ form
      → waiting old.size (board_of old.size old.bytes.now).running (on old plain).answer (on old plain).after ≡ on old form
      → Made p old mid (on old plain) → Made q old new (on old call)
  then-waits plain form is e m =
      let d = m.becomes in
      let f = subst (Made q mid new)
      ((λ i. waiting (d.size i) (ex.1 i) (m.answers i) (d.bytes i)) ∙ e ∙ ap (on old) (sym is)) w in
      record {
        answers = f.answers;
        becomes = record { bytes = f.becomes.bytes; size = f.becomes.size ∙ d.size; loan = f.becomes.loan ∙ d.loan };
      }

  pub send-waits : {m r : ℕ} → call ≡ SendAndWait m r → Made p old mid (on old (Send m r)) → Made q old new (on old call)
  send-waits {m = m} {r = r} is = then-waits (Send m r) (SendAndWait m r) is (waited old.size _ _ _ _)

  pub resend-waits : {m : ℕ} → call ≡ ResendAndWait m → Made p old mid (on old (Resend m)) → Made q old new (on old call)
  resend-waits {m = m} is = then-waits (Resend m) (ResendAndWait m) is (waited old.size _ _ _ _)

  pub forward-waits : {m r : ℕ} → call ≡ ForwardAndWait m r → Made p old mid (on old (Forward m r)) → Made q old new (on old call)
  forward-waits {m = m} {r = r} is = then-waits (Forward m r) (ForwardAndWait m r) is (waited old.size _ _ _ _)

  pub return_waits : {m : ℕ} → call ≡ ReturnAndWait m → Made p old mid (on old (Return m)) → Made q old new (on old call)
  return_waits {m = m} is = then-waits (Return m) (ReturnAndWait m) is (waited old.size _ _ _ _)
