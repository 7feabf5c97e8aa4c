-- `record_rules::tasks::good_flags` meets its contract: where a waiting task has no message queued, and where a task does not wait.
use mathlib.Core.Bool.{Bool, true, false, not, ◌&&◌, ◌||◌, and-true}
use mathlib.Core.Path.{◌≡◌, refl, sym, ap, ◌∙◌}
use Rattle.board.specs.declared.status.Status.{Status}
use Rattle.board.specs.Status.{WAIT, IWAT, INTQ, MHBS, has}
use Rattle.paper.specs.Rules.{good_flags}
use Rattle.record_rules.proofs.tasks.good_flags.Goals.{then-due, else-due}
use Rattle.record_rules.proofs.tasks.good_flags.Goals as goal

absorbed : (s t : Bool) → s && (s || t) ≡ s
absorbed true t = refl
absorbed false t = refl

-- WAIT, nothing queued and none due
waits : (s : Status) (empty due iwat : Bool) → has s WAIT ≡ true → due ≡ has s MHBS → (empty ≡ true) × (due ≡ false)
    → iwat ≡ has s IWAT → not iwat ≡ good_flags s empty
waits s empty due iwat w d h i = rw (i, w, ← d, h.0, h.1) (simp (and-true, absorbed))

pub returns-then-not-due : goal.returns-then-not-due
returns-then-not-due c =
    waits c.args.s c.args.empty _ _ (sym c.has.ensures ∙ c.if-has.true) c.has-due.ensures c.if-not-due.true
    c.has-then-not-due.ensures

-- IWAT, no interrupt posted and none due
parks : (s : Status) (empty due intq : Bool) → has s WAIT ≡ false → has s IWAT ≡ true → due ≡ has s MHBS → due ≡ false
    → intq ≡ has s INTQ → not intq ≡ good_flags s empty
parks s empty due intq w i d n q = rw (q, w, i, ← d, n) (simp (and-true))

pub returns-then-not-due-2 : goal.returns-then-not-due-2
returns-then-not-due-2 c =
    parks c.args.s c.args.empty _ _ (sym c.has.ensures ∙ c.if-has.false) (sym c.has-else-has.ensures ∙ c.if-has-2.true)
    c.has-due.ensures c.if-not-due-2.true c.has-then-not-due-2.ensures

-- neither WAIT nor IWAT, and a message due or not
runs : (s : Status) (empty due : Bool) → has s WAIT ≡ false → has s IWAT ≡ false → due ≡ has s MHBS
    → not due || not empty ≡ good_flags s empty
runs s empty due w i d = rw (w, i, ← d)

pub returns-after-due : goal.returns-after-due
returns-after-due c =
    let is =
    runs c.args.s c.args.empty _ (sym c.has.ensures ∙ c.if-has.false) (sym c.has-else-has.ensures ∙ c.if-has-2.false)
    c.has-due.ensures in
    elim c.if-due.branch [
      | then-due w ↦ ap not w.result-is ∙ rw w.if-due.true at is
      | else-due w ↦ ap not (w.result-is ∙ w.if-due.false) ∙ rw w.if-due.false at is
    ]
