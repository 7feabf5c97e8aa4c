-- One link of a walk: where the walk comes to behind it. The records are messages or tasks alike, x its number of the one at hand.
-- Assumes nothing.
use mathlib.Core.Path.{◌≡◌, refl, sym, ap, ◌∙◌}
use mathlib.Core.Bool.{Bool, true, false, cond, ◌&&◌}
use Prim.Native.Nat.{ℕ, ◌+◌, ◌-◌, ◌<◌}
use native.Mathlib.Omega.{arith}
use lib.Dec.{eqb, leb}
use borrow.Author.Tests.{eqb-true}
use Rattle.std.specs.Prelude.{Option, Some, None}
use Rattle.queue_rules.specs.declared.walk.Turn.{Turn}
use Rattle.queue_rules.specs.declared.walk.Turn.TheVariants.{Next, End, Stray}
use Rattle.queue_rules.specs.Walks.{onward, turned, visited}
use Rattle.queue_rules.proofs.Visits.{visited_out, visited_stray, went-visited}

module _ {N : Type 0} (of : N → ℕ) (meant : ℕ → Option N) (next rank : ℕ → ℕ) (good : ℕ → Bool)
    (means : (w : ℕ) (y : N) → meant w ≡ Some y → (of y ≡ w) × (w ≡ 0 → ⊥)) (beyond : (w : ℕ) → meant w ≡ None → good w ≡ false) where
  -- behind a turn, with n links left and s seen
  abbrev pub goes : ℕ → ℕ → Turn N → Option ℕ
  goes n s (Next y p) = visited next rank good (n - 1) (of y) p (s + 1)
  goes n s End = Some (s + 1)
  goes n s Stray = None

  -- the record that it leads to is one that its number means
  abbrev pub Leads : Turn N → Type 0
  Leads (Next y p) = meant (of y) ≡ Some y
  Leads End = Unit {0}
  Leads Stray = Unit {0}

  goes_on : (n s w p : ℕ) → (w ≡ 0 → ⊥) → goes n s (onward (meant w) p) ≡ visited next rank good (n - 1) w p (s + 1)
  goes_on n s w p h = by (meant w) refl
    where
      by : (x : Option N) → meant w ≡ x → goes n s (onward x p) ≡ visited next rank good (n - 1) w p (s + 1)
      by (Some y) e = ap (λ (v : ℕ). visited next rank good (n - 1) v p (s + 1)) (means w y e).0
      by None e = sym (visited_stray next rank good (n - 1) w p (s + 1) h (beyond w e))

  leads : (w p : ℕ) → Leads (onward (meant w) p)
  leads w p = by (meant w) refl
    where
      by : (x : Option N) → meant w ≡ x → Leads (onward x p)
      by (Some y) e = ap meant (means w y e).0 ∙ e
      by None e = tt

  -- the link that a turn followed, d where it followed none
  abbrev link : ℕ → Turn N → ℕ
  link d (Next y p) = of y
  link d End = 0
  link d Stray = d

  link_on : (w p : ℕ) → link w (onward (meant w) p) ≡ w
  link_on w p = by (meant w) refl
    where
      by : (x : Option N) → meant w ≡ x → link w (onward x p) ≡ w
      by (Some y) e = (means w y e).0
      by None e = refl

  -- it is that of the record
  link_is : (x low : ℕ) → link (next x) (turned meant next rank good x low) ≡ next x
  link_is x low = by (good x && leb low (rank x)) (eqb (next x) 0) refl
    where
      by : (t u : Bool) → eqb (next x) 0 ≡ u → link (next x) (cond t (cond u End (onward (meant (next x)) (rank x))) Stray) ≡ next x
      by true true e = sym (eqb-true (next x) 0 e)
      by true false e = link_on (next x) (rank x)
      by false u e = refl

  pub end_link : (x low : ℕ) {turn : Turn N} → turn ≡ turned meant next rank good x low → turn ≡ End → 0 ≡ next x
  end_link x low e f = ap (link (next x)) (sym f ∙ e) ∙ link_is x low

  pub next_link : (x low : ℕ) {turn : Turn N} (y : N) (p : ℕ) → turn ≡ turned meant next rank good x low → turn ≡ Next y p → of y ≡ next x
  next_link x low y p e f = ap (link (next x)) (sym f ∙ e) ∙ link_is x low

  -- the turn at record x, behind s records, from where the walk comes to r
  module _ (most s : ℕ) (x : N) (low : ℕ) (h : s < most) (o : meant (of x) ≡ Some x) {r : Option ℕ}
      (inv : visited next rank good (most - s) (of x) low s ≡ r) {turn : Turn N} (e : turn ≡ turned meant next rank good (of x) low) where
    comes : goes (most - s) s turn ≡ r
    comes =
        ap (goes (most - s) s) e
        ∙ went-visited next rank good (λ y p. onward (meant y) p) End Stray (goes (most - s) s) (most - s) s refl refl
        (goes_on (most - s) s) (of x) low (omega arith) (means (of x) x o).1
        ∙ inv

    leading : Leads (turned meant next rank good (of x) low)
    leading = by (good (of x) && leb low (rank (of x))) (eqb (next (of x)) 0)
      where
        by : (t u : Bool) → Leads (cond t (cond u End (onward (meant (next (of x))) (rank (of x)))) Stray)
        by true true = tt
        by true false = leads (next (of x)) (rank (of x))
        by false u = tt

    -- it ends
    pub walk_ends : turn ≡ End → Some (s + 1) ≡ r
    walk_ends f = ap (goes (most - s) s) (sym f) ∙ comes

    -- it strays
    pub walk_strays : turn ≡ Stray → None ≡ r
    walk_strays f = ap (goes (most - s) s) (sym f) ∙ comes

    -- it goes on
    pub walk_goes_on : (y : N) (p : ℕ) → turn ≡ Next y p
        → (meant (of y) ≡ Some y) × (visited next rank good (most - (s + 1)) (of y) p (s + 1) ≡ r)
    walk_goes_on y p f =
        let d : most - (s + 1) ≡ most - s - 1 = omega arith in
        let g : turned meant next rank good (of x) low ≡ Next y p = sym e ∙ f in (
          (let l : Leads (Next y p) = rw g at leading in l),
          ap (λ (n : ℕ). visited next rank good n (of y) p (s + 1)) d ∙ ap (goes (most - s) s) (sym f) ∙ comes,
        )

  -- no link is left to follow
  pub walk_gives_up : (n : ℕ) (x : N) (low s : ℕ) {r : Option ℕ} → n ≡ 0 → meant (of x) ≡ Some x
      → visited next rank good n (of x) low s ≡ r → None ≡ r
  walk_gives_up n x low s e o inv = sym (visited_out next rank good n (of x) low s e (means (of x) x o).1) ∙ inv
