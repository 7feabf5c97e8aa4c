-- All tasks are parked, a message is held, and all behind it are free. Before that it was free too: its holder woke, claimed it,
-- sent it to its RPTR and took it back, prepared it, and parked.
-- Assumes nothing.
use mathlib.Core.Path.{◌≡◌, refl, sym, ap, ◌∙◌, subst}
use mathlib.Core.Logic.{◌≢◌, inl}
use mathlib.Core.Bool.{Bool, true, false, true≢false}
use mathlib.Core.List.{List, [], ◌∷◌, ◌++◌}
use Prim.Native.Nat.{ℕ, zero, suc, ◌-◌, ◌≤◌, ◌<◌}
use native.Mathlib.Omega.{arith}
use native.Mathlib.Decide.{ℕ_discrete, dec_le}
use lib.Bits.{bit_and}
use lib.Dec.{lit<}
use lib.ListN.{length}
use borrow.Author.Tests.{eq-eqb, ne_eqb, le-ltb}
use Rattle.links.specs.Queue.{first_of, which}
use Rattle.links.specs.Chain.{In}
use Rattle.links.proofs.Bools.{refuted}
use Rattle.links.proofs.Exactly.{in_which, which_in, which_least}
use Rattle.board.specs.declared.numbers.Size.{Size}
use Rattle.board.specs.declared.records.Task.{Task}
use Rattle.board.specs.declared.records.Message.{Message}
use Rattle.board.specs.declared.places.Place.{Place}
use Rattle.board.specs.declared.places.Place.TheVariants.{Free, HeldBy}
use Rattle.board.specs.Numbers.{task_no, Numbered}
use Rattle.board.specs.Status.{WAIT, IWAT, MHBS, TCBB, has, without_bit}
use Rattle.board.specs.Places.{is_free, is_on_timer}
use Rattle.board.specs.Records.{no_message, task_with_stat, with_stat, with_prio, with_sptr}
use Rattle.board.specs.Board.{Board, put, task, message, place, with_messages, with_places, with_message, with_place}
use Rattle.board.proofs.Bits.{without_bit_other}
use Rattle.board.proofs.Numbered.{put-nth, nth_beyond, put-put}
use Rattle.paper.specs.declared.call.Call.{Call}
use Rattle.paper.specs.declared.call.Call.TheVariants.{PostInterrupt, Claim, Prepare, Send, CancelMessage, WaitForInterrupt}
use Rattle.paper.specs.Rules.{present, ready}
use Rattle.paper.specs.Effects.{lowest_free, claim, release, prepare}
use Rattle.paper.specs.Refusals.{no11, no14, own_row, Go, given}
use Rattle.linked.specs.Sound.{PlaceGood}
use Rattle.linked.proofs.Tests.{says_is_free}
use Rattle.linked.proofs.Running.{lowest_free_lem}
use Rattle.linked.proofs.Chosen.{runs_alike, none_runs}
use Rattle.kept.specs.Settled.{Settled}
use Rattle.kept.specs.Claims.{Sizes}
use Rattle.kept.proofs.Reading.{nth_cases, task_alike, message-put, place-put, place_other}
use Rattle.kept.proofs.Holding.{held-good, settled_record, settled_release}
use Rattle.kept.proofs.Waiting.{task_numbered}
use Rattle.kept.proofs.Going.{go_runs, go_from, go_held, message-word}
use Rattle.past.specs.Past.{addressed, claimed}
use Rattle.reached.proofs.Making.{Passing, Makes, makes_then, makes_call}
use Rattle.reached.proofs.Sweeping.{Turned, turned_here, Above}
use Rattle.reached.proofs.Stages.{Filled, parked_still, used-held}
use Rattle.reached.proofs.Parking.{awoken, settled_awoken, passing_awoken, makes_wait, makes_wake}
use Rattle.reached.proofs.Addressing.{addressed_to, settled_addressed, makes_addressed}

-- ---- the lowest free message
first_in : (m : ℕ) (q : List ℕ) → In m q → In (first_of q) q
first_in m [] i = absurd i
first_in m (x ∷ q) i = inl refl

free_in : (b : Board) (m : ℕ) → Numbered (length b.places) m → place b m ≡ Free → In m (which is_free 1 b.places)
free_in b zero n e = absurd (omega (arith, n.0))
free_in b (suc i) n e =
    let d : suc i - 1 ≡ i = omega arith in
    which_in Free is_free 1 (suc i) b.places n.0 (omega (arith, n.1)) (rw d (ap is_free e))

-- is the one before which all are used
lowest_is : (b : Board) (m : ℕ) → Numbered (length b.places) m → place b m ≡ Free
    → ((j : ℕ) → 1 ≤ j → j < m → place b j ≢ Free) → lowest_free b ≡ m
lowest_is b m n e h =
    let i = free_in b m n e in
    let u : lowest_free b ≤ m = which_least Free is_free 1 m b.places i in
    let w : 1 ≤ lowest_free b = (in_which Free is_free 1 (lowest_free b) b.places (first_in m (which is_free 1 b.places) i)).0 in
    step u w (lowest_free_lem b (λ d. absurd (omega (arith, w, d)))).1 (ℕ_discrete (lowest_free b) m)
  where
    step : lowest_free b ≤ m → 1 ≤ lowest_free b → place b (lowest_free b) ≡ Free → Dec (lowest_free b ≡ m) → lowest_free b ≡ m
    step u w f (yes d) = d
    step u w f (no d) = absurd (h (lowest_free b) w (omega arith) f)

-- ---- m is held by k
module _ (z : Size) (a : Sizes z) (m : ℕ) (b : Board) (mn : Numbered z.messages m) (v : Filled z b)
    (above : Above (λ d j. place d j ≡ Free) z.messages m b) (k : ℕ) (held : place b m ≡ HeldBy (task_no k)) where
  abbrev p : Passing z b 0
  p = v.hosted.stage.passing

  abbrev o : List ℕ
  o = p.order

  abbrev f : ℕ → List ℕ
  f = p.queues

  abbrev s : Settled z b o f
  s = p.settled

  good : PlaceGood z b m (HeldBy (task_no k))
  good = held-good z b o f s m k held

  kn : Numbered z.tasks k
  kn = task_numbered z b o f s k good.2

  some : k ≢ 0
  some e = omega (arith, kn.0, e)

  parked : has (task b k).stat IWAT ≡ true
  parked = (v.hosted.stage.all k kn).1 good.2

  still : (j : ℕ) → ready b j ≡ false
  still = parked_still z 0 b v.hosted.stage

  -- ---- the board on which m is free
  abbrev y : Board
  y = release b m

  abbrev py : Passing z y 0
  py = record {
    order = o;
    queues = f;
    settled = settled_release z b o f s k m held;
    runs = p.runs;
    rightly = none_runs y still;
    idle = p.idle;
    untimed = λ j. nth_cases (λ (x : Place). is_on_timer x ≡ false) Free b.places m j Free (λ e. refl) (p.untimed j);
  }

  free_y : place y m ≡ Free
  free_y = place-put (with_message b m no_message) m Free (rw s.fits.places mn)

  -- what is free stays so
  frees : (j : ℕ) → place b j ≡ Free → place y j ≡ Free
  frees j = nth_cases (λ (x : Place). x ≡ Free) Free b.places m j Free (λ e. refl)

  -- and any other that is free was so before
  free_b : (j : ℕ) → j ≢ m → place y j ≡ Free → place b j ≡ Free
  free_b j h e = sym (place_other (with_message b m no_message) m j Free h) ∙ e

  -- all before m are used
  used : (i : ℕ) → i ≤ z.messages → place b i ≢ Free → (j : ℕ) → 1 ≤ j → j ≤ i → place b j ≢ Free
  used zero h u j l g = absurd (omega arith)
  used (suc i) h u j l g =
      step (ℕ_discrete j (suc i)) (λ n. used i (omega arith) (λ e. u (v.behind i (omega arith, omega arith) e)) j l n)
    where
      step : Dec (j ≡ suc i) → (j ≤ i → place b j ≢ Free) → place b j ≢ Free
      step (yes e) r = subst (λ (x : ℕ). place b x ≢ Free) (sym e) u
      step (no e) r = r (omega arith)

  not_free : place b m ≢ Free
  not_free e = true≢false (sym (ap is_free e) ∙ ap is_free held)

  -- and all behind it are free
  free-next : Dec (suc m ≤ z.messages) → place b (suc m) ≡ Free
  free-next (yes h) = above (suc m) (omega arith) h
  free-next (no h) = nth_beyond Free b.places (suc m) (omega (arith, h, s.fits.places))

  behind_y : (j : ℕ) → Numbered z.messages j → place y j ≡ Free → Dec (j ≡ m) → place y (suc j) ≡ Free
  behind_y j n e (yes h) = frees (suc j) (ap (λ (i : ℕ). place b (suc i)) h ∙ free-next (dec_le (suc m) z.messages))
  behind_y j n e (no h) = frees (suc j) (v.behind j n (free_b j h e))

  filled_y : Filled z y
  filled_y = record {
    hosted = record {
      stage = record { passing = py; all = v.hosted.stage.all };
      hosts = λ j. nth_cases (λ (u : Message). u.rptr ≢ 0 → present b u.rptr ≡ true) no_message b.messages m j no_message
          (λ e h. absurd (h refl)) (v.hosted.hosts j);
    };
    behind = λ j n e. behind_y j n e (ℕ_discrete j m);
  }

  -- ---- k awake; and m with the record r
  abbrev w : Board
  w = awoken b k

  abbrev with : Message → Board
  with r = with_message w m r

  settled_w : Settled z w o f
  settled_w = settled_awoken z a b p still k kn parked

  passing_w : Passing z w k
  passing_w = passing_awoken z a b p still k kn parked

  abbrev passing_with : (r : Message) → Settled z (with r) o f → Passing z (with r) k
  passing_with r t = record {
    order = o;
    queues = f;
    settled = t;
    runs = refl;
    rightly = runs_alike w (with r) k (λ j. refl) (λ j. refl) passing_w.rightly;
    idle = passing_w.idle;
    untimed = p.untimed;
  }

  read_with : (r : Message) → message (with r) m ≡ r
  read_with r = message-put w m r (rw s.fits.messages mn)

  -- ---- claimed
  abbrev d : Board
  d = awoken y k

  settled_0 : Settled z (with no_message) o f
  settled_0 =
      settled_record z w o f settled_w m k held no_message
      (record { stat = lit< tt; prio = lit< tt; link = lit< tt; rptr = lit< tt; sptr = lit< tt })
      (record { receiver = omega arith; sender = omega arith }) refl

  lowest_d : lowest_free d ≡ m
  lowest_d =
      lowest_is d m (rw py.settled.fits.places mn) free_y
      (λ j h g e. used m mn.1 not_free j h (omega arith) (free_b j (λ i. absurd (omega (arith, g, i))) e))

  claim_is : claim d k ≡ with no_message
  claim_is =
      let e : put (put b.places m Free) m (HeldBy (task_no k)) ≡ b.places =
      put-put b.places m Free (HeldBy (task_no k)) ∙ ap (put b.places m) (sym held) ∙ put-nth Free b.places m in
      ap (λ (i : ℕ). with_place d i (HeldBy (task_no k))) lowest_d ∙ ap (with_places (with no_message)) e

  go_claim : given (own_row z d k Claim) ≡ Go
  go_claim =
      let left : (no11 d).applies ≡ false = ne_eqb (lowest_free d) 0 (λ e. absurd (omega (arith, e, lowest_d, mn.0))) in
      go_runs k (no11 d ∷ []) some (go_from (no11 d) [] left refl)

  makes_claim : Makes z y (PostInterrupt k ∷ Claim ∷ []) (with no_message)
  makes_claim =
      makes_then z y d (with no_message) (PostInterrupt k ∷ []) (Claim ∷ []) (makes_wake z a y py still k kn parked)
      (makes_call z a d k (passing_awoken z a y py still k kn parked) Claim (with no_message) k (passing_with no_message settled_0)
      (tt, tt) go_claim claim_is (inl refl))

  -- ---- prepared
  abbrev u : Message
  u = message b m

  abbrev prepares : Call
  prepares = Prepare m u.stat u.prio u.sptr

  prepare_is : (r : Message) → r.link ≡ 0 → r.rptr ≡ u.rptr → prepare (with r) m u.stat u.prio u.sptr ≡ w
  prepare_is r e g =
      let l = e ∙ sym good.1 in
      let x : with_sptr (with_prio (with_stat (message (with r) m) u.stat) u.prio) u.sptr ≡ u =
      ap (λ (t : Message). with_sptr (with_prio (with_stat t u.stat) u.prio) u.sptr) (read_with r)
      ∙ (λ i. record { stat = u.stat; prio = u.prio; link = l i; rptr = g i; sptr = u.sptr }) in
      ap (with_message (with r) m) x ∙ ap (with_messages w) (put-put b.messages m r u ∙ put-nth no_message b.messages m)

  go_prepare : (r : Message) → given (own_row z (with r) k prepares) ≡ Go
  go_prepare r =
      go_held z (with r) k m (no14 z u.sptr ∷ []) some mn held
      (go_from (no14 z u.sptr) [] (le-ltb z.tasks u.sptr good.0.sender) refl)

  -- prepared, and parked
  makes_rest : (r : Message) → Settled z (with r) o f → r.link ≡ 0 → r.rptr ≡ u.rptr
      → Makes z (with r) (prepares ∷ WaitForInterrupt ∷ []) b
  makes_rest r t e g =
      let fits = s.fits.message m in
      makes_then z (with r) w b (prepares ∷ []) (WaitForInterrupt ∷ [])
      (makes_call z a (with r) k (passing_with r t) prepares w k passing_w
      ((message-word z a m mn, (fits.sptr, tt)), (fits.stat, (fits.prio, tt))) (go_prepare r) (prepare_is r e g) (inl refl))
      (makes_wait z a b p still k kn parked)

  -- ---- before that, where RPTR names a task, sent there and taken back
  module _ (named : u.rptr ≢ 0) where
    abbrev x : ℕ
    x = u.rptr

    there : present b x ≡ true
    there = v.hosted.hosts m named

    xn : Numbered z.tasks x
    xn = task_numbered z b o f s x there

    parked_x : has (task b x).stat IWAT ≡ true
    parked_x = (v.hosted.stage.all x xn).1 there

    -- but for IWAT its status is as it was
    same_bit : (bit : ℕ) → bit_and (255 - IWAT) bit ≡ bit → has (task w x).stat bit ≡ has (task b x).stat bit
    same_bit bit e =
        task_alike (λ (t : Task). has t.stat bit) b k x (task_with_stat (task b k) (without_bit (task b k).stat IWAT))
        (without_bit_other (task b k).stat IWAT bit e)

    settled_x : Settled z (with (addressed_to x k)) o f
    settled_x = settled_addressed z w o f a settled_w m k held x xn

    makes_x : Makes z (with no_message) (Send m x ∷ CancelMessage m x ∷ []) (with (addressed_to x k))
    makes_x =
        let g = s.flags x xn in
        let awake = refuted (has (task b x).stat WAIT) (λ i. true≢false (sym parked_x ∙ g.one i)) in
        subst (λ (l : List Message). Makes z (with no_message) (Send m x ∷ CancelMessage m x ∷ []) (with_messages w l))
        (put-put b.messages m no_message (addressed_to x k))
        (makes_addressed z a (with no_message) k (passing_with no_message settled_0) m held (read_with no_message) x
        (same_bit TCBB refl ∙ there) (same_bit WAIT refl ∙ awake) (same_bit MHBS refl ∙ (g.parked parked_x).1))

  -- from the claim on, whether RPTR names a task or not
  makes_on : Dec (u.rptr ≡ 0) → Makes z (with no_message) (addressed m u.rptr ++ (prepares ∷ WaitForInterrupt ∷ [])) b
  makes_on (yes e) = rw (eq-eqb u.rptr 0 e) (makes_rest no_message settled_0 refl (sym e))
  makes_on (no e) =
      rw (ne_eqb u.rptr 0 e)
      (makes_then z (with no_message) (with (addressed_to u.rptr k)) b (Send m u.rptr ∷ CancelMessage m u.rptr ∷ [])
      (prepares ∷ WaitForInterrupt ∷ []) (makes_x e) (makes_rest (addressed_to u.rptr k) (settled_x e) refl refl))

  turn-held : Turned z (Filled z) (λ c j. place c j ≡ Free) b m (claimed b m)
  turn-held = rw held (record {
    earlier = record {
      inv = filled_y;
      makes = makes_then z y (with no_message) b (PostInterrupt k ∷ Claim ∷ [])
          (addressed m u.rptr ++ (prepares ∷ WaitForInterrupt ∷ [])) makes_claim (makes_on (ℕ_discrete u.rptr 0));
    };
    simple = free_y;
    keeps = λ j h. frees j;
  })

-- ---- m free, or held
-- a message that is held was free before; where it is free nothing happened
pub turn-claimed : (z : Size) → Sizes z → (m : ℕ) (b : Board) → Numbered z.messages m → Filled z b
    → Above (λ d j. place d j ≡ Free) z.messages m b → Turned z (Filled z) (λ d j. place d j ≡ Free) b m (claimed b m)
turn-claimed z a m b n v above = step (is_free (place b m)) refl
  where
    step : (t : Bool) → is_free (place b m) ≡ t → Turned z (Filled z) (λ d j. place d j ≡ Free) b m (claimed b m)
    step true e =
        let h = (says_is_free (place b m)).0 e in
        rw h (turned_here z (Filled z) (λ d j. place d j ≡ Free) b m v h)
    step false e =
        let (k, h) = used-held z b v.hosted.stage m (λ d. true≢false (sym ((says_is_free (place b m)).1 d) ∙ e)) in
        turn-held z a m b n v above k h
