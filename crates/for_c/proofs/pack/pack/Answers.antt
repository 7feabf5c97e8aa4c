-- `for_c::pack::pack` meets its contract.
use mathlib.Core.Path.{◌≡◌, sym, ap, ◌∙◌}
use Prim.Native.Nat.{◌+◌, ◌*◌}
use native.Mathlib.Omega.{arith}
use Rattle.std.specs.Prelude.{Ok}
use Rattle.paper.specs.Answers.{handed, Answer}
use Rattle.for_c.specs.Packed.{packed}
use Rattle.for_c.proofs.pack.pack.Goals as goal

pub returns-in-Ok : goal.returns-in-Ok
returns-in-Ok c =
    let word = 256 * c.wide.result + 16777216 * c.wide-in-Ok.result + 1099511627776 * c.wide-in-Ok-2.result in
    let accepted : word ≡ packed (handed (Ok c.in-Ok.field-0)) = omega arith in
    accepted ∙ ap (λ (a : Answer). packed (handed a)) (sym c.in-Ok.is)
