-- The entries that are due are freed: the messages left are those of the others in use, and free entries are still zero.
-- Assumes nothing.
use mathlib.Core.Path.{◌≡◌, refl, sym, ap, ◌∙◌, subst}
use mathlib.Core.Bool.{Bool, true, false, true≢false, ◌||◌}
use mathlib.Core.List.{List, [], ◌∷◌, map}
use Prim.Native.Nat.{ℕ}
use lib.Dec.{eqb}
use Rattle.links.specs.Chain.{In, Once}
use Rattle.links.proofs.Bools.{both, and_true}
use Rattle.links.proofs.Members.{in_map, map_in, out_not_in, not_in_out}
use Rattle.timer.specs.declared.entry.Entry.{Entry}
use Rattle.timer.specs.Timer.{is_used, is_due}
use Rattle.timing.specs.Timing.{used, free_are_zero, freed}
use Rattle.ticked.proofs.Entries.{used_in, in_used, once_rest, once_first}

module _ (at : ℕ) where
  -- one that isn't due stays
  pub freed_same : (e : Entry) → is_due at e ≡ false → freed at e ≡ e
  freed_same e d = rw d

  -- one that is in use then was so before, and wasn't due
  freed_was : (e : Entry) → is_used (freed at e) ≡ true → (is_used e ≡ true) × (is_due at e ≡ false)
  freed_was e u = step (is_due at e) refl
    where
      step : (t : Bool) → is_due at e ≡ t → (is_used e ≡ true) × (is_due at e ≡ false)
      step true d = absurd (true≢false (sym (rw d at u)))
      step false d = (ap is_used (sym (freed_same e d)) ∙ u, d)

  -- ---- the messages left
  -- each is that of an entry in use that wasn't due
  pub in_freed : (m : ℕ) (es : List Entry) → In m (used (map (freed at) es))
      → (e : Entry) × In e es × (is_used e ≡ true) × (e.message ≡ m) × (is_due at e ≡ false)
  in_freed m es i =
      let (f, j, u, p) = in_used m (map (freed at) es) i in
      let (e, k, q) = in_map (freed at) f es j in
      let (v, d) = freed_was e (ap is_used (sym q) ∙ u) in
      (e, k, v, ap (λ (x : Entry). x.message) (sym (freed_same e d) ∙ sym q) ∙ p, d)

  -- and the message of each such entry is there
  pub freed_in : (e : Entry) (es : List Entry) → In e es → is_used e ≡ true → is_due at e ≡ false
      → In e.message (used (map (freed at) es))
  freed_in e es i u d =
      let j = subst (λ (x : Entry). In x (map (freed at) es)) (freed_same e d) (map_in (freed at) e es i) in
      used_in e (map (freed at) es) j u

  -- none of them stands twice
  pub freed_once : (es : List Entry) → Once (used es) → Once (used (map (freed at) es))
  freed_once [] d = tt
  freed_once (x ∷ es) d = step (is_used (freed at x)) refl (freed_once es (once_rest x es d))
    where
      out : is_used (freed at x) ≡ true → In (freed at x).message (used (map (freed at) es)) → ⊥
      out u i =
          let (v, k) = freed_was x u in
          let (e, j, w, p, n) = in_freed (freed at x).message es i in
          out_not_in x.message (used es) (once_first x es v d) (subst (λ (m : ℕ). In m (used es))
          (p ∙ ap (λ (y : Entry). y.message) (freed_same x k)) (used_in e es j w))

      step : (t : Bool) → is_used (freed at x) ≡ t → Once (used (map (freed at) es)) → Once (used (map (freed at) (x ∷ es)))
      step true u o = rw u (not_in_out _ (used (map (freed at) es)) (out u), o)
      step false u o = rw u o

  -- ---- the free entries
  freed_empty : (e : Entry) → is_used e || eqb e.due 0 ≡ true → is_used (freed at e) || eqb (freed at e).due 0 ≡ true
  freed_empty e h = step (is_due at e) refl
    where
      step : (t : Bool) → is_due at e ≡ t → is_used (freed at e) || eqb (freed at e).due 0 ≡ true
      step true d = rw d
      step false d = rw d h

  pub freed-zero : (es : List Entry) → free_are_zero es ≡ true → free_are_zero (map (freed at) es) ≡ true
  freed-zero [] h = refl
  freed-zero (x ∷ es) h =
      let r = both (is_used x || eqb x.due 0) (free_are_zero es) h in
      and_true (is_used (freed at x) || eqb (freed at x).due 0) (free_are_zero (map (freed at) es)) (freed_empty x r.0)
      (freed-zero es r.1)
