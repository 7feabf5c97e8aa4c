-- The whole way back: from a board that passes, line by line, to the fresh board.
-- Assumes nothing.
use mathlib.Core.Path.{◌≡◌, refl, sym, ap, ◌∙◌, subst}
use mathlib.Core.Logic.{◌≢◌}
use mathlib.Core.Bool.{true}
use mathlib.Core.List.{List, [], ◌∷◌}
use Prim.Native.Nat.{ℕ, suc}
use Rattle.links.specs.Chain.{Chain}
use Rattle.links.proofs.Bools.{refuted}
use Rattle.board.specs.declared.numbers.Size.{Size}
use Rattle.board.specs.declared.places.Place.TheVariants.{Free}
use Rattle.board.specs.Numbers.{Numbered}
use Rattle.board.specs.Board.{Board, board_of, task, message, place}
use Rattle.paper.specs.Rules.{present, order, next_message}
use Rattle.paper.specs.Outcomes.{blank}
use Rattle.linked.specs.Sound.{PlaceGood}
use Rattle.kept.specs.Settled.{Settled}
use Rattle.kept.specs.Claims.{Sizes}
use Rattle.kept.proofs.Reading.{absent_none, order-walked}
use Rattle.kept.proofs.Fresh.{fresh-zeros, fresh-task, fresh-message, fresh-place, fresh_settled}
use Rattle.past.specs.Past.{Back, sweep, unlist, through, way_back}
use Rattle.past.specs.Past.{posted, stopped, queued, readied, started, waited, left, released, claimed, installed}
use Rattle.reached.proofs.Making.{Passing}
use Rattle.reached.proofs.Sweeping.{Earlier, is_here, is_further, swept, unlisted}
use Rattle.reached.proofs.Stages.{Stage, Quiet, Bare, Still, Parked, Led, Hosted, Filled, Unused, receiver_numbered}
use Rattle.kept.proofs.SameBoard.{sheet, block, same_board}
use Rattle.reached.proofs.Posting.{turn-posted}
use Rattle.reached.proofs.Stopping.{SomeLed, back_stopped}
use Rattle.reached.proofs.Forwarding.{turn-queued}
use Rattle.reached.proofs.Waking.{Alone, turn-readied, back_started}
use Rattle.reached.proofs.Receiving.{turn-waited}
use Rattle.reached.proofs.Leaving.{Named, turn_left}
use Rattle.reached.proofs.Releasing.{turn-released}
use Rattle.reached.proofs.Claiming.{turn-claimed}
use Rattle.reached.proofs.Installing.{back_installed}

-- what holds of the earlier board, said otherwise
earlier_so : (z : Size) (Inv Then : Board → Type 0) (b : Board) (y : Back) → ((d : Board) → Inv d → Then d) → Earlier z Inv b y
    → Earlier z Then b y
earlier_so z Inv Then b y h e = record { inv = h y.board e.inv; makes = e.makes }

-- no task, no message: the fresh board
fresh_is : (z : Size) (b : Board) → Unused z [] b → b ≡ board_of z (blank z)
fresh_is z b u =
    let p = u.stage.passing in
    let s : Settled z b [] p.queues = subst (λ (q : List ℕ). Settled z b q p.queues) u.order p.settled in
    same_board z b (board_of z (blank z)) [] p.queues (λ k. []) s (fresh_settled z) (p.runs ∙ sym (fresh-zeros z 1))
    (λ k n. no_queue k (p.queues k) (s.regular.linked.messages k n).chain (u.stage.all k n).0)
    (λ k n. ap sheet (absent_none (task b k) (s.regular.records k n)
    (refuted (present b k) (λ e. (s.regular.linked.tasks.exact k).1 e))
    ∙ sym (fresh-task z k)))
    (λ m n. ap block (subst (PlaceGood z b m) (u.free m n) (s.regular.places m n) ∙ sym (fresh-message z m)))
    (λ m n. u.free m n ∙ sym (fresh-place z m))
  where
    no_queue : (k : ℕ) (q : List ℕ) → Chain (next_message b) (task b k).mptr q → (task b k).mptr ≡ 0 → q ≡ []
    no_queue k [] c e = refl
    no_queue k (x ∷ q) c e = absurd (c.1 (sym c.0 ∙ e))

module _ (z : Size) (a : Sizes z) where
  -- ---- the lines, each from its stage to the next
  back_posted : (c : ℕ) (b : Board) → Passing z b c → Earlier z (Stage z Quiet c) b (sweep posted z.tasks b)
  back_posted c b p =
      earlier_so z _ (Stage z Quiet c) b (sweep posted z.tasks b) (λ d v. record { passing = v.0; all = v.1 })
      (swept z (λ d. Passing z d c) (λ d j. Quiet (task d j)) z.tasks posted (λ k d n v h. turn-posted z a c k d n v) b p)

  abbrev SomeBare : Board → Type 0
  SomeBare b = (c : ℕ) × Stage z Bare c b

  back_queued : (b : Board) → SomeLed z b → Earlier z SomeBare b (sweep (queued z) z.tasks b)
  back_queued b (c, v) =
      earlier_so z _ SomeBare b (sweep (queued z) z.tasks b)
      (λ d w. (c, record { passing = w.0.stage.passing; all = λ k n. (w.0.stage.all k n, w.1 k n) }))
      (swept z (Led z c) (λ d j. (task d j).mptr ≡ 0) z.tasks (queued z) (λ k d n w h. turn-queued z a c k d n w) b v)

  abbrev SomeAlone : Board → Type 0
  SomeAlone b = (c : ℕ) × Stage z Bare c b × ((k : ℕ) → Numbered z.tasks k → Alone c b k)

  back_readied : (b : Board) → SomeBare b → Earlier z SomeAlone b (sweep readied z.tasks b)
  back_readied b (c, v) =
      earlier_so z _ SomeAlone b (sweep readied z.tasks b) (λ d w. (c, w.0, w.1))
      (swept z (Stage z Bare c) (Alone c) z.tasks readied (λ k d n w h. turn-readied z a c k d n w) b v)

  back_waited : (b : Board) → Stage z Still 0 b → Earlier z (Stage z Parked 0) b (sweep waited z.tasks b)
  back_waited b v =
      earlier_so z _ (Stage z Parked 0) b (sweep waited z.tasks b) (λ d w. record { passing = w.0.passing; all = w.1 })
      (swept z (Stage z Still 0) (λ d j. Parked (task d j)) z.tasks waited (λ k d n w h. turn-waited z a k d n w) b v)

  back_left : (b : Board) → Stage z Parked 0 b → Earlier z (Hosted z) b (sweep (left z) z.tasks b)
  back_left b v =
      earlier_so z _ (Hosted z) b (sweep (left z) z.tasks b) (λ d w. record { stage = w.0; hosts = hosts d w.0 w.1 })
      (swept z (Stage z Parked 0) Named z.tasks (left z) (λ k d n w h. turn_left z a k d n w) b v)
    where
      hosts : (d : Board) → Stage z Parked 0 d → ((k : ℕ) → Numbered z.tasks k → Named d k) → (m : ℕ) → (message d m).rptr ≢ 0
          → present d (message d m).rptr ≡ true
      hosts d w h m e = h (message d m).rptr (receiver_numbered z d _ _ w.passing.settled m e) m refl

  back_released : (b : Board) → Hosted z b → Earlier z (Filled z) b (sweep released z.messages b)
  back_released b v =
      earlier_so z _ (Filled z) b (sweep released z.messages b) (λ d w. record { hosted = w.0; behind = w.1 })
      (swept z (Hosted z) (λ d j. place d j ≡ Free → place d (suc j) ≡ Free) z.messages released
      (λ m d n w h. turn-released z a m d n w) b v)

  abbrev SomeUnused : Board → Type 0
  SomeUnused b = (q : List ℕ) × Unused z q b

  back_claimed : (b : Board) → Filled z b → Earlier z SomeUnused b (sweep claimed z.messages b)
  back_claimed b v =
      earlier_so z _ SomeUnused b (sweep claimed z.messages b)
      (λ d w. let s = w.0.hosted.stage in (s.passing.order, record { stage = s; free = w.1; order = refl }))
      (swept z (Filled z) (λ d j. place d j ≡ Free) z.messages claimed (λ m d n w h. turn-claimed z a m d n w h) b v)

  back_all_installed : (b : Board) → SomeUnused b → Earlier z (Unused z []) b (unlist (installed z) (order z b) b)
  back_all_installed b (q, u) =
      let p = u.stage.passing in
      let w : order z b ≡ q = order-walked z b p.order p.queues p.settled a.limit ∙ u.order in
      subst (λ (r : List ℕ). Earlier z (Unused z []) b (unlist (installed z) r b)) (sym w)
      (unlisted z (Unused z) (installed z) (λ r k d x. back_installed z a r k d x) q b u)

  -- ---- and all of them, the first ones last
  abbrev Fresh : Board → Type 0
  Fresh b = b ≡ board_of z (blank z)

  abbrev to_tasks : List (Board → Back)
  to_tasks = (λ b. unlist (installed z) (order z b) b) ∷ []

  from_unused : (b : Board) → SomeUnused b → Earlier z Fresh b (through to_tasks b)
  from_unused b u =
      is_further z (Unused z []) Fresh b (unlist (installed z) (order z b) b) (through []) (back_all_installed b u)
      (λ d w. is_here z Fresh d (fresh_is z d w))

  abbrev to_messages : List (Board → Back)
  to_messages = sweep released z.messages ∷ sweep claimed z.messages ∷ to_tasks

  from_hosted : (b : Board) → Hosted z b → Earlier z Fresh b (through to_messages b)
  from_hosted b v =
      is_further z (Filled z) Fresh b (sweep released z.messages b) (through (sweep claimed z.messages ∷ to_tasks))
      (back_released b v)
      (λ d w. is_further z SomeUnused Fresh d (sweep claimed z.messages d) (through to_tasks) (back_claimed d w) from_unused)

  abbrev to_parked : List (Board → Back)
  to_parked = sweep waited z.tasks ∷ sweep (left z) z.tasks ∷ to_messages

  from_still : (b : Board) → Stage z Still 0 b → Earlier z Fresh b (through to_parked b)
  from_still b v =
      is_further z (Stage z Parked 0) Fresh b (sweep waited z.tasks b) (through (sweep (left z) z.tasks ∷ to_messages))
      (back_waited b v)
      (λ d w. is_further z (Hosted z) Fresh d (sweep (left z) z.tasks d) (through to_messages) (back_left d w) from_hosted)

  abbrev to_still : List (Board → Back)
  to_still = sweep readied z.tasks ∷ started ∷ to_parked

  from_bare : (b : Board) → SomeBare b → Earlier z Fresh b (through to_still b)
  from_bare b v =
      is_further z SomeAlone Fresh b (sweep readied z.tasks b) (through (started ∷ to_parked)) (back_readied b v)
      (λ d (c, w, h). is_further z (Stage z Still 0) Fresh d (started d) (through to_parked) (back_started z a c d w h) from_still)

  abbrev to_bare : List (Board → Back)
  to_bare = stopped z ∷ sweep (queued z) z.tasks ∷ to_still

  from_quiet : (c : ℕ) (b : Board) → Stage z Quiet c b → Earlier z Fresh b (through to_bare b)
  from_quiet c b v =
      is_further z (SomeLed z) Fresh b (stopped z b) (through (sweep (queued z) z.tasks ∷ to_still)) (back_stopped z a c b v)
      (λ d w. is_further z SomeBare Fresh d (sweep (queued z) z.tasks d) (through to_still) (back_queued d w) from_bare)

  -- from a board that passes the way back leads to the fresh board
  pub all_back : (c : ℕ) (b : Board) → Passing z b c → Earlier z (λ d. d ≡ board_of z (blank z)) b (way_back z b)
  all_back c b p =
      is_further z (Stage z Quiet c) Fresh b (sweep posted z.tasks b) (through to_bare) (back_posted c b p) (from_quiet c)
