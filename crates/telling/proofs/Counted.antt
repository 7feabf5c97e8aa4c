-- Each turn of a loop that counts the numbers that pass, which stand from 1 on: before k are those up to k - 1.
--   counted_yes, counted_no     k passes, or it does not
-- Assumes nothing.
use Rattle.std.proofs.Common.{◌≡◌, ℕ, ◌+◌, ◌-◌, ◌<◌, Bool, true, false, ap, ◌∙◌, arith}
use Rattle.queue_rules.specs.Walks.{counted}
use Rattle.queue_rules.proofs.Turns.{count_yes, count_no}

module _ (f : ℕ → Bool) (k n : ℕ) (some : 0 < k) (so : n ≡ counted f (k - 1)) where
  again : k - 1 + 1 ≡ k
  again = omega arith

  behind : counted f (k - 1 + 1) ≡ counted f (k + 1 - 1)
  behind = let i : k - 1 + 1 ≡ k + 1 - 1 = omega arith in ap (counted f) i

  pub counted_yes : f k ≡ true → n + 1 ≡ counted f (k + 1 - 1)
  counted_yes e = count_yes f (k - 1) n so (ap f again ∙ e) ∙ behind

  pub counted_no : f k ≡ false → n ≡ counted f (k + 1 - 1)
  counted_no e = count_no f (k - 1) n so (ap f again ∙ e) ∙ behind
