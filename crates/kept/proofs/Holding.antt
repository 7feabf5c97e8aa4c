-- A message that stands in no queue: its record or its place written leaves every queue. Claim, release and prepare.
-- Assumes nothing.
use mathlib.Core.Path.{◌≡◌, refl, sym, ap, ◌∙◌, subst}
use mathlib.Core.Logic.{◌≢◌, ◌↔◌}
use mathlib.Core.Bool.{true, false, true≢false}
use mathlib.Core.List.{List, [], ◌∷◌}
use Prim.Native.Nat.{ℕ, ◌≤◌}
use native.Mathlib.Omega.{arith}
use native.Mathlib.Decide.{ℕ_discrete}
use lib.Dec.{lit<}
use borrow.Author.Tests.{ltb-false}
use Rattle.links.specs.Chain.{In}
use Rattle.board.specs.declared.numbers.Size.{Size}
use Rattle.board.specs.declared.records.Message.{Message}
use Rattle.board.specs.declared.places.Place.{Place}
use Rattle.board.specs.declared.places.Place.TheVariants.{Free, HeldBy, QueuedAt}
use Rattle.board.specs.Numbers.{task_no, Numbered}
use Rattle.board.specs.Status.{number}
use Rattle.board.specs.Records.{Byte, Word, no_message}
use Rattle.board.specs.Places.{is_queued}
use Rattle.board.specs.Board.{Board, task, message, place, with_message, with_place, put, with_messages, with_places}
use Rattle.board.proofs.Codec.{place-held}
use Rattle.paper.specs.declared.call.Call.TheVariants.{Claim, Prepare, Release}
use Rattle.paper.specs.Rules.{present, next_message, message_number}
use Rattle.paper.specs.Effects.{lowest_free, claim, release, prepare}
use Rattle.paper.specs.Refusals.{no14, own_row, Go, given}
use Rattle.linked.specs.Linked.{Listing}
use Rattle.linked.specs.Sound.{Pointers, PlaceGood}
use Rattle.linked.proofs.Running.{present_numbered, placed_numbered, ready_says, lowest_free_lem}
use Rattle.kept.specs.Settled.{FitsMessage, Fits, Settled, Awake, Fitting}
use Rattle.kept.specs.Claims.{Sizes}
use Rattle.kept.proofs.Reading.{nth_cases, message-put, message_other, held_placed}
use Rattle.kept.proofs.Reading.{FitsPlace, fits_message, fits_place, listing_stays, good_stays}
use Rattle.kept.proofs.Reading.{go_passed, held_row, claim-row}

-- ---- messages and places written
-- where each queue is listed as before and R4 holds of each message the board is settled
settled_mail : (z : Size) (b : Board) (order : List ℕ) (queues : ℕ → List ℕ) → Settled z b order queues
    → (ms : List Message) (ps : List Place) → let d = with_places (with_messages b ms) ps in
    Fits z d → ((k : ℕ) → Numbered z.tasks k
    → Listing (next_message d) (message_number d) (task b k).mptr (queues k) (λ m. place d m ≡ QueuedAt (task_no k)))
    → ((m : ℕ) → Numbered z.messages m → PlaceGood z d m (place d m)) → Settled z d order queues
settled_mail z b order queues s ms ps f l g = record {
  fits = f;
  regular = let r = s.regular in
      record { zeros = r.zeros; records = r.records; linked = record { tasks = r.linked.tasks; messages = l }; places = g };
  flags = s.flags;
}

-- ---- in no queue
module _ (z : Size) (b : Board) (order : List ℕ) (queues : ℕ → List ℕ) (s : Settled z b order queues) (m : ℕ) where
  -- it is no member of any
  pub unqueued_out : is_queued (place b m) ≡ false → (k : ℕ) → Numbered z.tasks k → (y : ℕ) → In y (queues k) → y ≢ m
  unqueued_out u k h y i e =
      true≢false (sym (ap is_queued (((s.regular.linked.messages k h).exact y).0 i)) ∙ ap (λ (x : ℕ). is_queued (place b x)) e ∙ u)

  -- its place written
  pub settled_place : (p : Place) → is_queued (place b m) ≡ false → is_queued p ≡ false → FitsPlace z p → PlaceGood z b m p
      → Settled z (with_place b m p) order queues
  settled_place p u v f g =
      settled_mail z b order queues s b.messages (put b.places m p) (fits_place z b s.fits m p f)
      (λ k h. listing_stays (next_message b) (next_message b) (message_number b) (message_number b) (task b k).mptr (queues k) _ _
      (λ y i. refl) (λ y i. refl) (same k) (s.regular.linked.messages k h))
      (λ j h. good_stays z b (with_place b m p) j (place (with_place b m p) j) refl (λ k w t. t)
      (nth_cases (PlaceGood z b j) Free b.places m j p (λ e. subst (λ (x : ℕ). PlaceGood z b x p) (sym e) g) (s.regular.places j h)))
    where
      same : (k y : ℕ) → (place b y ≡ QueuedAt (task_no k)) ↔ (place (with_place b m p) y ≡ QueuedAt (task_no k))
      same k y = (
        (λ q. nth_cases (λ (x : Place). x ≡ QueuedAt (task_no k)) Free b.places m y p
            (λ e. absurd (true≢false (sym (ap is_queued q) ∙ ap (λ (x : ℕ). is_queued (place b x)) e ∙ u))) q),
        nth_cases (λ (x : Place). x ≡ QueuedAt (task_no k) → place b y ≡ QueuedAt (task_no k)) Free b.places m y p
            (λ e q. absurd (true≢false (sym (ap is_queued q) ∙ v))) (λ q. q),
      )

  -- ---- held
  module _ (c : ℕ) (e : place b m ≡ HeldBy (task_no c)) where
    -- it is one of the board's
    pub held_numbered : Numbered z.messages m
    held_numbered = rw s.fits.places at (placed_numbered b m (held_placed b m c e))

    -- and R4 says of it
    pub held-good : PlaceGood z b m (HeldBy (task_no c))
    held-good = subst (PlaceGood z b m) e (s.regular.places m held_numbered)

    -- ---- its record written
    module _ (u : Message) (f : FitsMessage u) (p : Pointers z u) (l : u.link ≡ 0) where
      abbrev d : Board
      d = with_message b m u

      same_queued : (k : ℕ) → Numbered z.tasks k → (y : ℕ) → In y (queues k) → message d y ≡ message b y
      same_queued k h y i = message_other b m y u (unqueued_out (ap is_queued e) k h y i)

      good_new : PlaceGood z d m (HeldBy (task_no c))
      good_new = rw (message-put b m u (rw (← s.fits.messages) at held_numbered)) (p, l, held-good.2)

      good-each : (j : ℕ) → Numbered z.messages j → Dec (j ≡ m) → PlaceGood z d j (place b j)
      good-each j h (yes q) = subst (λ (x : ℕ). PlaceGood z d x (place b x)) (sym q) (subst (PlaceGood z d m) (sym e) good_new)
      good-each j h (no n) = good_stays z b d j (place b j) (message_other b m j u n) (λ k w t. t) (s.regular.places j h)

      -- LINK 0, and task numbers for RPTR and SPTR
      pub settled_record : Settled z (with_message b m u) order queues
      settled_record =
          settled_mail z b order queues s (put b.messages m u) b.places (fits_message z b s.fits m u f)
          (λ k h. listing_stays (next_message b) (next_message d) (message_number b) (message_number d) (task b k).mptr (queues k) _ _
          (λ y i. ap (λ (x : Message). x.link) (same_queued k h y i))
          (λ y i. ap (λ (x : Message). number x.prio) (same_queued k h y i)) (λ y. ((λ q. q), λ q. q))
          (s.regular.linked.messages k h))
          (λ j h. good-each j h (ℕ_discrete j m))

-- ---- claim
-- R4 lets a present task hold a message that was free
pub free-held : (z : Size) (b : Board) (m c : ℕ) → present b c ≡ true → message b m ≡ no_message → PlaceGood z b m (HeldBy (task_no c))
free-held z b m c p e = rw e (record { receiver = omega arith; sender = omega arith }, refl, p)

module _ (z : Size) (b : Board) (order : List ℕ) (queues : ℕ → List ℕ) (a : Sizes z) (s : Settled z b order queues) where
  -- a place byte can say who holds a message
  pub held_fits : (c : ℕ) → present b c ≡ true → FitsPlace z (HeldBy (task_no c))
  held_fits c p =
      let n : Numbered z.tasks c = rw s.fits.tasks at (present_numbered b c p) in
      let h : z.tasks ≤ 63 = a.tasks in
      (omega arith, place-held z c n.0 n.1)

  -- a present task claims a message where one is free
  pub settled_claim : (c : ℕ) → present b c ≡ true → lowest_free b ≢ 0 → Settled z (claim b c) order queues
  settled_claim c p h =
      let m : ℕ = lowest_free b in
      let r = lowest_free_lem b h in
      let k : PlaceGood z b m Free = subst (PlaceGood z b m) r.1 (s.regular.places m (rw s.fits.places at r.0)) in
      settled_place z b order queues s m (HeldBy (task_no c)) (ap is_queued r.1) refl (held_fits c p) (free-held z b m c p k)

  -- so its row has it
  pub claim_settled : (c : ℕ) → Awake b c → given (own_row z b c Claim) ≡ Go → Settled z (claim b c) order queues
  claim_settled c awake g = let (runs, free) = claim-row b c g in settled_claim c (ready_says b c (awake runs)).0 free

-- ---- release and prepare
module _ (z : Size) (b : Board) (order : List ℕ) (queues : ℕ → List ℕ) (s : Settled z b order queues) where
  -- a held message is released
  pub settled_release : (c m : ℕ) → place b m ≡ HeldBy (task_no c) → Settled z (release b m) order queues
  settled_release c m e =
      let d : Board = with_message b m no_message in
      let t = settled_record z b order queues s m c e no_message (record {
        stat = lit< tt;
        prio = lit< tt;
        link = lit< tt;
        rptr = lit< tt;
        sptr = lit< tt;
      }) (record { receiver = omega arith; sender = omega arith }) refl in
      let n = held_numbered z b order queues s m c e in
      settled_place z d order queues t m Free (ap is_queued e) refl (lit< tt, refl)
      (message-put b m no_message (rw (← s.fits.messages) at n))

  -- so its row has it
  pub release_settled : (c m : ℕ) → given (own_row z b c (Release m)) ≡ Go → Settled z (release b m) order queues
  release_settled c m g = settled_release c m (held_row z b c m [] g).1

  -- a held message is prepared
  pub settled_prepare : (c m t p sptr : ℕ) → place b m ≡ HeldBy (task_no c) → Byte t → Byte p → Word sptr → sptr ≤ z.tasks
      → Settled z (prepare b m t p sptr) order queues
  settled_prepare c m t p sptr e ht hp hs h =
      let k = held-good z b order queues s m c e in
      let f = s.fits.message m in
      settled_record z b order queues s m c e
      (record { stat = t; prio = p; link = (message b m).link; rptr = (message b m).rptr; sptr = sptr })
      (record { stat = ht; prio = hp; link = f.link; rptr = f.rptr; sptr = hs })
      (record { receiver = k.0.receiver; sender = h }) k.1

  -- so its row has it
  pub prepare_settled : (c m t p sptr : ℕ) → Fitting (Prepare m t p sptr) → given (own_row z b c (Prepare m t p sptr)) ≡ Go
      → Settled z (prepare b m t p sptr) order queues
  prepare_settled c m t p sptr f g =
      let r = held_row z b c m (no14 z sptr ∷ []) g in
      let n = go_passed (no14 z sptr) [] r.2 in
      settled_prepare c m t p sptr r.1 f.1.0 f.1.1.0 f.0.1.0 (ltb-false z.tasks sptr n.0)
