-- A word has no more than five digits.
use Rattle.std.proofs.Common.{◌≤◌, arith, rules}
use Rattle.std.proofs.lemmas.Result.{IfOk-weaker}
use Rattle.io.specs.Digits.{IsDigitCount}
use Rattle.telling.proofs.Digits.{few-digits}
use Rattle.telling.proofs.call.tell_number.Goals as goal

pub returns : goal.returns
returns g c =
    IfOk-weaker c.decimal.result (λ k. (IsDigitCount 10 1 c.args.n k) × (k ≤ 20)) (λ k. k ≤ 5)
    (λ k fewest. omega (arith, few-digits 5 {n = c.args.n} (omega arith) (search rules) fewest.0))
    c.decimal.ensures
