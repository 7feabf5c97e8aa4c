-- `timer::bytes::entry_at` meets its contract.
use mathlib.Core.Path.{ap₂, ◌∙◌}
use Prim.Native.Nat.{ℕ}
use Rattle.timer.proofs.Access.{entry_none, entry_read}
use Rattle.timer.proofs.bytes.entry_at.Goals as goal

pub returns-in_default : goal.returns-in_default
returns-in_default c = c.none.ensures ∙ entry_none c.args.s.now c.args.i c.in_default.ensures

pub returns : goal.returns
returns c =
    ap₂ (λ (m d : ℕ). record { message = m; due = d }) c.byte_in.ensures c.word.ensures
    ∙ entry_read c.args.s.now c.args.i c.in-Some.o c.in-Some.ensures.0 c.in-Some.ensures.1
