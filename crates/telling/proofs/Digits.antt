-- How many digits a number has.
--   few-digits     a number below 10 to the w has no more than w
-- Assumes nothing.
use Rattle.std.proofs.Common.{ℕ, suc, ◌-◌, ◌^◌, ◌<◌, ◌≤◌, zero-lt-suc, lt_of_not-le, arith}
use native.Mathlib.Nat.{pow-le-pow_right}
use Rattle.io.specs.Digits.{IsDigitCount}

pub few-digits : (w : ℕ) {n k : ℕ} → 0 < w → n < 10 ^ w → IsDigitCount 10 1 n k → k < suc w
few-digits w {n} {k} some below fewest =
    lt_of_not-le
    (λ (more : suc w ≤ k).
    let low : 10 ^ w ≤ 10 ^ (k - 1) = pow-le-pow_right (zero-lt-suc 9) {i = w} {j = k - 1} (omega arith) in
    let high : 10 ^ (k - 1) ≤ n = fewest.2 (omega arith) in
    omega arith)
