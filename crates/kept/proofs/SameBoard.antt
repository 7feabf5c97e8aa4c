-- A board that is settled is known by byte 1, its lists, its places and the fields that are no links: byte 0, LINKs and MPTRs follow from
-- the lists.
-- Assumes nothing.
use mathlib.Core.Path.{◌≡◌, refl, sym, ap, ap₂, ◌∙◌, subst}
use mathlib.Core.Logic.{◌⊎◌, inl, inr}
use mathlib.Core.Bool.{Bool, true, false}
use mathlib.Core.List.{List, [], ◌∷◌}
use Prim.Native.Nat.{ℕ}
use native.Mathlib.Omega.{arith}
use lib.ListN.{length}
use Rattle.links.specs.Queue.{first_of}
use Rattle.links.specs.Chain.{In, Out, All, Chain}
use Rattle.links.proofs.Members.{in_dec, out_not_in}
use Rattle.links.proofs.Chains.{chain_first, chain-links}
use Rattle.board.specs.declared.numbers.Size.{Size}
use Rattle.board.specs.declared.records.Task.{Task}
use Rattle.board.specs.declared.records.Message.{Message}
use Rattle.board.specs.declared.places.Place.{Place}
use Rattle.board.specs.declared.places.Place.TheVariants.{Free, HeldBy, QueuedAt, OnTimer, Nowhere}
use Rattle.board.specs.Numbers.{Numbered}
use Rattle.board.specs.Records.{no_task, no_message, task_with_link, task_with_mptr, with_link}
use Rattle.board.specs.Board.{Board, board, task, message, place}
use Rattle.board.proofs.Numbered.{nth_ext}
use Rattle.paper.specs.Rules.{is_there, present, next_task, next_message}
use Rattle.linked.specs.Sound.{PlaceGood}
use Rattle.kept.specs.Settled.{Settled}
use Rattle.kept.proofs.Reading.{absent_none}
use Rattle.kept.proofs.Waiting.{task_numbered}

-- a record without its links
abbrev pub sheet : Task → Task
sheet t = task_with_mptr (task_with_link t 0) 0

abbrev pub block : Message → Message
block r = with_link r 0

-- ---- lists of zeros
zeros_ext : (l m : List ℕ) → length l ≡ length m → All (λ x. x ≡ 0) l → All (λ x. x ≡ 0) m → l ≡ m
zeros_ext [] [] e g h = refl
zeros_ext [] (y ∷ m) e g h = absurd (omega arith)
zeros_ext (x ∷ l) [] e g h = absurd (omega arith)
zeros_ext (x ∷ l) (y ∷ m) e g h = ap₂ ◌∷◌ (g.0 ∙ sym h.0) (zeros_ext l m (omega arith) g.1 h.1)

-- ---- the law
module _ (z : Size) (b d : Board) (q : List ℕ) (f g : ℕ → List ℕ) (s : Settled z b q f) (t : Settled z d q g)
    (runs : b.running ≡ d.running) (lists : (k : ℕ) → Numbered z.tasks k → f k ≡ g k)
    (tasks : (k : ℕ) → Numbered z.tasks k → sheet (task b k) ≡ sheet (task d k))
    (messages : (m : ℕ) → Numbered z.messages m → block (message b m) ≡ block (message d m))
    (places : (m : ℕ) → Numbered z.messages m → place b m ≡ place d m) where
  there_same : (k : ℕ) → Numbered z.tasks k → present b k ≡ present d k
  there_same k n = ap is_there (tasks k n)

  mptr_same : (k : ℕ) → Numbered z.tasks k → (task b k).mptr ≡ (task d k).mptr
  mptr_same k n =
      chain_first (next_message b) (task b k).mptr (f k) (s.regular.linked.messages k n).chain ∙ ap first_of (lists k n)
      ∙ sym (chain_first (next_message d) (task d k).mptr (g k) (t.regular.linked.messages k n).chain)

  link_same : (k : ℕ) → Numbered z.tasks k → (task b k).link ≡ (task d k).link
  link_same k n = step (in_dec k q) (present b k) refl
    where
      step : In k q ⊎ Out k q → (v : Bool) → present b k ≡ v → (task b k).link ≡ (task d k).link
      step (inl i) v e =
          chain-links (next_task b) (next_task d) b.first d.first q s.regular.linked.tasks.chain
          t.regular.linked.tasks.chain k i
      step (inr o) true e = absurd (out_not_in k q o ((s.regular.linked.tasks.exact k).1 e))
      step (inr o) false e =
          ap (λ (x : Task). x.link) (absent_none (task b k) (s.regular.records k n) e)
          ∙ sym (ap (λ (x : Task). x.link) (absent_none (task d k) (t.regular.records k n) (sym (there_same k n) ∙ e)))

  task_same : (k : ℕ) → Numbered z.tasks k → task b k ≡ task d k
  task_same k n = λ i. task_with_mptr (task_with_link (tasks k n i) (link_same k n i)) (mptr_same k n i)

  next_same : (m : ℕ) (p : Place) → place b m ≡ p → place d m ≡ p → PlaceGood z b m p → PlaceGood z d m p
      → (message b m).link ≡ (message d m).link
  next_same m Free e h u v = ap (λ (r : Message). r.link) (u ∙ sym v)
  next_same m (HeldBy k) e h u v = u.1 ∙ sym v.1
  next_same m (QueuedAt k) e h u v =
      let n = task_numbered z b q f s k.0 u.3 in
      chain-links (next_message b) (next_message d) (task b k.0).mptr (task d k.0).mptr (f k.0)
      (s.regular.linked.messages k.0 n).chain
      (subst (Chain (next_message d) (task d k.0).mptr) (sym (lists k.0 n)) (t.regular.linked.messages k.0 n).chain) m
      (((s.regular.linked.messages k.0 n).exact m).1 e)
  next_same m OnTimer e h u v = u.1 ∙ sym v.1
  next_same m (Nowhere p) e h u v = absurd u

  message_same : (m : ℕ) → Numbered z.messages m → message b m ≡ message d m
  message_same m n =
      let l = next_same m (place b m) refl (sym (places m n)) (s.regular.places m n)
      (subst (PlaceGood z d m) (sym (places m n)) (t.regular.places m n)) in
      λ i. with_link (messages m n i) (l i)

  -- so the boards are one
  pub same_board : b ≡ d
  same_board =
      let o = chain_first (next_task b) b.first q s.regular.linked.tasks.chain
      ∙ sym (chain_first (next_task d) d.first q t.regular.linked.tasks.chain) in
      let y = zeros_ext b.zeros d.zeros (s.fits.zeros ∙ sym t.fits.zeros) s.regular.zeros t.regular.zeros in
      let k = nth_ext no_task z.tasks b.tasks d.tasks s.fits.tasks t.fits.tasks task_same in
      let m = nth_ext no_message z.messages b.messages d.messages s.fits.messages t.fits.messages message_same in
      let p = nth_ext Free z.messages b.places d.places s.fits.places t.fits.places places in
      λ i. board (o i) (runs i) (y i) (k i) (m i) (p i)
