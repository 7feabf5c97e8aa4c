-- `for_c::pack::named` meets its contract.
use mathlib.Core.Path.{ap}
use mathlib.Core.Logic.{◌≢◌}
use native.Mathlib.Omega.{arith}
use lib.Dec.{lit<}
use Rattle.paper.specs.Answers.{told, number_of}
use Rattle.paper.specs.declared.answer.Refusal.{Refusal}
use Rattle.paper.proofs.Theorems.{number_2, others_told}
use Rattle.paper.proofs.Naming.{rule_number_lem}
use Rattle.for_c.proofs.pack.named.Goals as goal

pub returns-in_default : goal.returns-in_default
returns-in_default c =
    let other : number_of c.args.q ≢ 2 = λ e. let r = number_2 c.args.q e in c.in_default.not-RuleBroken r.0 r.1 in
    let none = others_told c.args.q other in
    (omega arith, lit< tt)

pub returns : goal.returns
returns c =
    let rule = ap (λ (q : Refusal). (told q).rule) c.in-RuleBroken.is in
    let record_no = ap (λ (q : Refusal). (told q).record_no) c.in-RuleBroken.is in
    let last = (rule_number_lem c.in-RuleBroken.r).1 in
    (omega arith, omega arith)
