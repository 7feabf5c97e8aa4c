-- Entries in use: the messages in a list of entries, entry by entry, and entries that are due.
-- Assumes nothing.
use mathlib.Core.Path.{◌≡◌, refl, sym, ap, ◌∙◌, subst}
use mathlib.Core.Logic.{◌⊎◌, inl, inr}
use mathlib.Core.Bool.{Bool, true, false, not, true≢false}
use mathlib.Core.List.{List, [], ◌∷◌}
use Prim.Native.Nat.{ℕ}
use native.Mathlib.Decide.{ℕ_discrete}
use lib.Dec.{eqb}
use Rattle.links.specs.Queue.{cons_if}
use Rattle.links.specs.Chain.{In, Out, Once}
use Rattle.links.proofs.Bools.{refuted, both}
use Rattle.links.proofs.Members.{out_not_in}
use Rattle.timer.specs.declared.entry.Entry.{Entry}
use Rattle.timer.specs.Timer.{is_used, is_due}
use Rattle.timing.specs.Timing.{used}

-- ---- one message more, or none
in_later : (t : Bool) (x y : ℕ) (q : List ℕ) → In y q → In y (cons_if t x q)
in_later true x y q i = inr i
in_later false x y q i = i

once_later : (t : Bool) (x : ℕ) (q : List ℕ) → Once (cons_if t x q) → Once q
once_later true x q d = d.1
once_later false x q d = d

-- ---- the messages of entries in use
-- with an entry more there are the same, at least
pub used-later : (e : Entry) (es : List Entry) (m : ℕ) → In m (used es) → In m (used (e ∷ es))
used-later e es m i = in_later (is_used e) e.message m (used es) i

-- the message of an entry in use is one of them
pub used_in : (e : Entry) (es : List Entry) → In e es → is_used e ≡ true → In e.message (used es)
used_in e [] i u = absurd i
used_in e (x ∷ es) (inl p) u =
    let v : is_used x ≡ true = ap is_used (sym p) ∙ u in rw v (inl (ap (λ (f : Entry). f.message) p))
used_in e (x ∷ es) (inr i) u = used-later x es e.message (used_in e es i u)

-- and each of them is the message of one
pub in_used : (m : ℕ) (es : List Entry) → In m (used es) → (e : Entry) × In e es × (is_used e ≡ true) × (e.message ≡ m)
in_used m [] i = absurd i
in_used m (x ∷ es) i = step (is_used x) refl i (in_used m es)
  where
    step : (t : Bool) → is_used x ≡ t → In m (cons_if t x.message (used es))
        → (In m (used es) → (e : Entry) × In e es × (is_used e ≡ true) × (e.message ≡ m))
        → (e : Entry) × In e (x ∷ es) × (is_used e ≡ true) × (e.message ≡ m)
    step true u (inl p) ih = (x, inl refl, u, sym p)
    step true u (inr j) ih = let (e, k, v, p) = ih j in (e, inr k, v, p)
    step false u j ih = let (e, k, v, p) = ih j in (e, inr k, v, p)

-- ---- none of them twice
-- so too without the first entry
pub once_rest : (e : Entry) (es : List Entry) → Once (used (e ∷ es)) → Once (used es)
once_rest e es d = once_later (is_used e) e.message (used es) d

-- and the first, if it is used, has none of the others
pub once_first : (e : Entry) (es : List Entry) → is_used e ≡ true → Once (used (e ∷ es)) → Out e.message (used es)
once_first e es u d = (rw u at d).0

-- one message, so one entry
pub one_entry : (es : List Entry) → Once (used es) → (e f : Entry) → In e es → In f es → is_used e ≡ true
    → e.message ≡ f.message → e ≡ f
one_entry [] d e f i j u p = absurd i
one_entry (x ∷ es) d e f (inl r) (inl s) u p = r ∙ sym s
one_entry (x ∷ es) d e f (inl r) (inr j) u p =
    let m : In f.message (used es) = used_in f es j (ap (λ (n : ℕ). not (eqb n 0)) (sym p) ∙ u) in
    absurd (out_not_in x.message (used es) (once_first x es (ap is_used (sym r) ∙ u) d)
    (subst (λ (n : ℕ). In n (used es)) (sym p ∙ ap (λ (g : Entry). g.message) r) m))
one_entry (x ∷ es) d e f (inr i) (inl s) u p =
    let v : is_used x ≡ true = ap is_used (sym s) ∙ ap (λ (n : ℕ). not (eqb n 0)) (sym p) ∙ u in
    absurd (out_not_in x.message (used es) (once_first x es v d)
    (subst (λ (n : ℕ). In n (used es)) (p ∙ ap (λ (g : Entry). g.message) s) (used_in e es i u)))
one_entry (x ∷ es) d e f (inr i) (inr j) u p = one_entry es (once_rest x es d) e f i j u p

-- ---- entries that are due
-- such an entry is used
pub due-used : (at : ℕ) (e : Entry) → is_due at e ≡ true → is_used e ≡ true
due-used at e d = (both (is_used e) (eqb e.due at) d).0

-- no entry of these that names m is due
abbrev pub Undue : ℕ → List Entry → ℕ → Type 0
Undue at es m = (e : Entry) → In e es → e.message ≡ m → is_due at e ≡ false

-- where no message stands twice, one of the others names another than the first, if the first is due
pub rest_undue : (at : ℕ) (e : Entry) (es : List Entry) → Once (used (e ∷ es)) → (m : ℕ) → In m (used es) → e.message ≡ m
    → is_due at e ≡ false
rest_undue at e es d m i p =
    refuted (is_due at e) (λ k. out_not_in e.message (used es) (once_first e es (due-used at e k) d)
    (subst (λ (n : ℕ). In n (used es)) (sym p) i))

-- and if it is due no other that names its message is
pub first_undue : (at : ℕ) (e : Entry) (es : List Entry) → Once (used (e ∷ es)) → is_due at e ≡ true → Undue at es e.message
first_undue at e es d k f i p = refuted (is_due at f) (λ l. true≢false (sym k ∙ rest_undue at e es d f.message
    (used_in f es i (due-used at f l)) (sym p)))

-- one is, or none
pub due_or_not : (at : ℕ) (es : List Entry) (m : ℕ)
    → ((e : Entry) × In e es × (e.message ≡ m) × (is_due at e ≡ true)) ⊎ Undue at es m
due_or_not at [] m = inr (λ e i p. absurd i)
due_or_not at (x ∷ es) m = step (is_due at x) refl (ℕ_discrete x.message m) (due_or_not at es m)
  where
    more : (x.message ≡ m → is_due at x ≡ false) → Undue at es m → Undue at (x ∷ es) m
    more h n e (inl r) p = ap (is_due at) r ∙ h (ap (λ (g : Entry). g.message) (sym r) ∙ p)
    more h n e (inr i) p = n e i p

    step : (t : Bool) → is_due at x ≡ t → Dec (x.message ≡ m)
        → ((e : Entry) × In e es × (e.message ≡ m) × (is_due at e ≡ true)) ⊎ Undue at es m
        → ((e : Entry) × In e (x ∷ es) × (e.message ≡ m) × (is_due at e ≡ true)) ⊎ Undue at (x ∷ es) m
    step t d o (inl (e, i, p, q)) = inl (e, inr i, p, q)
    step true d (yes p) (inr n) = inl (x, inl refl, p, d)
    step true d (no h) (inr n) = inr (more (λ p. absurd (h p)) n)
    step false d o (inr n) = inr (more (λ p. d) n)
