-- The stores of a tick's returns come to the board that the definition says, entry by entry.
-- Assumes nothing.
use mathlib.Core.Path.{◌≡◌, refl, sym, ap, ◌∙◌, subst}
use mathlib.Core.Logic.{inl}
use mathlib.Core.Bool.{Bool, true, false, cond, ◌||◌}
use mathlib.Core.List.{List, [], ◌∷◌}
use Prim.Native.Nat.{ℕ}
use lib.ListN.{length}
use Rattle.links.specs.Chain.{In}
use Rattle.links.proofs.Members.{not_in_out}
use Rattle.board.specs.declared.numbers.Size.{Size}
use Rattle.board.specs.declared.places.Place.TheVariants.{OnTimer}
use Rattle.board.specs.Numbers.{outside, Numbered}
use Rattle.board.specs.Places.{is_queued}
use Rattle.board.specs.Board.{Board, total, board_of, message, place}
use Rattle.board.proofs.Pieces.{neither, within-outside}
use Rattle.timer.specs.declared.entry.Entry.{Entry}
use Rattle.timer.specs.Timer.{is_due}
use Rattle.paper.specs.Rules.{queue}
use Rattle.paper.specs.Effects.{place_at, give_back}
use Rattle.linked.specs.Sound.{PlaceGood}
use Rattle.kept.specs.Settled.{Settled}
use Rattle.kept.specs.Claims.{Sizes}
use Rattle.kept.proofs.Reading.{queue-walked, timed_numbered}
use Rattle.kept.proofs.Holding.{unqueued_out}
use Rattle.kept.proofs.Waiting.{task_numbered}
use Rattle.kept.proofs.Framed.{framed_forward}
use Rattle.timing.specs.Timing.{returned}
use Rattle.ticked.specs.Claims.{due_queues}
use Rattle.ticked.proofs.Entries.{due-used, used_in}
use Rattle.ticked.proofs.Returning.{Entered, turn, entered_rest}
use Rattle.stores.specs.Effects.{pass_on}
use Rattle.timer_calls.specs.Stores.{given_back, returned_bytes, any_due}
use Rattle.stored.proofs.Comes.{Comes, comes_to}
use Rattle.stored.proofs.Links.{message_same}
use Rattle.stored.proofs.Bodies.{comes_placed}

-- ---- one message
module _ (z : Size) (l : List ℕ) (e : length l ≡ total z) (a : Sizes z) (order : List ℕ) (queues : ℕ → List ℕ)
    (s : Settled z (board_of z l) order queues) (m : ℕ) (on : place (board_of z l) m ≡ OnTimer) where
  abbrev b : Board
  b = board_of z l

  abbrev r : ℕ
  r = (message b m).sptr

  numbered : Numbered z.messages m
  numbered = timed_numbered z b s.fits.places m on

  -- its SPTR task is there
  sender : Numbered z.tasks r
  sender =
      let good : PlaceGood z b m OnTimer = subst (PlaceGood z b m) on (s.regular.places m numbered) in
      task_numbered z b order queues s r good.2

  -- so both are on the board, and it is placed
  given_back_lem : given_back z l m ≡ pass_on z l m (message (board_of z l) m).sptr
  given_back_lem =
      ap (λ (t : Bool). cond (t || outside z.tasks r) l (pass_on z l m r)) (within-outside z.messages m numbered.0 numbered.1)
      ∙ ap (λ (t : Bool). cond t l (pass_on z l m r)) (within-outside z.tasks r sender.0 sender.1)

  back_comes : Comes z (given_back z l m) (give_back z (board_of z l) m)
  back_comes =
      let out = unqueued_out z b order queues s m (ap is_queued on) r sender in
      let placed = comes_placed z l e a s.regular.linked m (message b m) r numbered sender
      (not_in_out m (queue z b r) (λ i. out m (subst (In m) (queue-walked z b order queues s r sender) i) refl)) in
      subst (λ (k : List ℕ). Comes z k (give_back z b m)) (sym given_back_lem)
      (comes_to z _ _ _ placed (ap (λ (x : Board). place_at z x m r) (message_same b m (message b m) refl)))

-- ---- the entries, one by one
module _ (z : Size) (at : ℕ) (order : List ℕ) (a : Sizes z) where
  -- one of them
  one_comes : (e : Entry) (es : List Entry) (l : List ℕ) (queues : ℕ → List ℕ) → length l ≡ total z
      → Settled z (board_of z l) order queues → Entered (board_of z l) (e ∷ es)
      → Comes z (returned_bytes z at (e ∷ []) l) (returned z at (e ∷ []) (board_of z l))
  one_comes e es l queues long s entered = step (is_due at e) refl
    where
      step : (t : Bool) → is_due at e ≡ t → Comes z (returned_bytes z at (e ∷ []) l) (returned z at (e ∷ []) (board_of z l))
      step true d =
          rw d (back_comes z l long a order queues s e.message (entered.1 e.message (used_in e (e ∷ es) (inl refl) (due-used at e d))))
      step false d = rw d (long, refl)

  -- all of them
  pub returned_comes : (es : List Entry) (l : List ℕ) (queues : ℕ → List ℕ) → length l ≡ total z
      → Settled z (board_of z l) order queues → Entered (board_of z l) es
      → Comes z (returned_bytes z at es l) (returned z at es (board_of z l))
  returned_comes [] l queues long s entered = (long, refl)
  returned_comes (e ∷ es) l queues long s entered =
      let k : List ℕ = returned_bytes z at (e ∷ []) l in
      let c = one_comes e es l queues long s entered in
      let next = turn z at order a e es (board_of z l) queues s entered in
      let rest = returned_comes es k (due_queues z at (e ∷ []) (board_of z l) queues) c.0
      (subst (λ (x : Board). Settled z x order (due_queues z at (e ∷ []) (board_of z l) queues)) (sym c.1) next.settled)
      (subst (λ (x : Board). Entered x es) (sym c.1) (entered_rest z at order a e es (board_of z l) queues next entered)) in
      comes_to z _ _ _ rest (ap (returned z at es) c.1)

-- ---- what a tick leaves alone
-- byte 1
pub returned-running : (z : Size) (at : ℕ) (es : List Entry) (b : Board) → (returned z at es b).running ≡ b.running
returned-running z at [] b = refl
returned-running z at (e ∷ es) b = returned-running z at es _ ∙ step (is_due at e)
  where
    step : (t : Bool) → (cond t (give_back z b e.message) b).running ≡ b.running
    step true = (framed_forward z b 0 e.message (message b e.message).sptr).running
    step false = refl

-- and the board, where nothing is due
pub none_returned : (z : Size) (at : ℕ) (es : List Entry) (b : Board) → any_due at es ≡ false → returned z at es b ≡ b
none_returned z at [] b h = refl
none_returned z at (e ∷ es) b h =
    let (none, rest) = neither (is_due at e) (any_due at es) h in
    ap (λ (t : Bool). returned z at es (cond t (give_back z b e.message) b)) none ∙ none_returned z at es b rest
