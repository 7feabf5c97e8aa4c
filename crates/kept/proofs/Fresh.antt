-- The fresh board: bytes of zeros read as records of zeros, so it is settled with no task and no message queued, and it passes.
-- Assumes nothing.
use mathlib.Core.Path.{◌≡◌, refl, sym, ap, ap₂, ◌∙◌, subst}
use mathlib.Core.Logic.{inl}
use mathlib.Core.Bool.{true, true≢false}
use mathlib.Core.List.{List, [], ◌∷◌}
use Prim.Native.Nat.{ℕ, zero, suc, ◌+◌, ◌*◌}
use lib.Dec.{lit<}
use lib.ListN.{get_or, take, drop, replicate, length-replicate}
use lib.Seq.{get_or-drop}
use Rattle.links.specs.Chain.{All}
use Rattle.board.specs.declared.numbers.Size.{Size}
use Rattle.board.specs.declared.records.Task.{Task}
use Rattle.board.specs.declared.places.Place.TheVariants as places
use Rattle.board.specs.Status.{MHBS, has, stored, is_ready}
use Rattle.board.specs.Records.{Byte, word_at, task_of, no_task, message_of, no_message}
use Rattle.board.specs.Places.{place_of, place_in, is_queued}
use Rattle.board.specs.Board.{Area, Board, task_area, message_area, place_area, total, cut, pieces, board_of, nth}
use Rattle.board.specs.Board.{task, message, place}
use Rattle.board.specs.Claims.{Bytes}
use Rattle.board.proofs.Numbered.{nth-map}
use Rattle.paper.specs.Rules.{is_there, passes}
use Rattle.paper.specs.Outcomes.{blank}
use Rattle.linked.specs.Sound.{PlaceGood, RunsRightly}
use Rattle.kept.specs.Settled.{Settled}
use Rattle.kept.specs.Claims.{Sizes}
use Rattle.kept.proofs.Flagging.{Flagged, flags-ready}
use Rattle.kept.proofs.Fitting.{fits-board}
use Rattle.kept.proofs.Theorems.{settled_passes}

-- ---- lists of zeros
abbrev pub Zeros : List ℕ → Type 0
Zeros l = (i : ℕ) → get_or l i 0 ≡ 0

pub zeros-replicate : (n : ℕ) → Zeros (replicate n 0)
zeros-replicate zero i = refl
zeros-replicate (suc n) zero = refl
zeros-replicate (suc n) (suc i) = zeros-replicate n i

zeros_all : (l : List ℕ) → Zeros l → All (λ x. x ≡ 0) l
zeros_all [] h = tt
zeros_all (x ∷ l) h = (h 0, zeros_all l (λ i. h (suc i)))

zeros-drop : (w : ℕ) (l : List ℕ) → Zeros l → Zeros (drop w l)
zeros-drop w l h i = get_or-drop w l i 0 ∙ h (w + i)

zeros-take : (w : ℕ) (l : List ℕ) → Zeros l → Zeros (take w l)
zeros-take zero l h i = refl
zeros-take (suc w) [] h i = refl
zeros-take (suc w) (x ∷ l) h zero = h 0
zeros-take (suc w) (x ∷ l) h (suc i) = zeros-take w l (λ j. h (suc j)) i

zeros-cut : (n w : ℕ) (l : List ℕ) → Zeros l → (i : ℕ) → Zeros (get_or (cut n w l) i [])
zeros-cut zero w l h i = λ j. refl
zeros-cut (suc n) w l h zero = zeros-take w l h
zeros-cut (suc n) w l h (suc i) = zeros-cut n w (drop w l) (zeros-drop w l h) i

zeros_piece : (a : Area) (l : List ℕ) → Zeros l → (k : ℕ) → Zeros (nth [] (pieces a l) k)
zeros_piece a l h zero = λ j. refl
zeros_piece a l h (suc i) = zeros-cut a.count a.stride (drop a.base l) (zeros-drop a.base l h) i

-- ---- records of zeros
module _ (p : List ℕ) (h : Zeros p) where
  zero_word : (i : ℕ) → word_at p i ≡ 0
  zero_word i = ap₂ (λ (x y : ℕ). x + 256 * y) (h i) (h (i + 1))

  zero-task : task_of p ≡ no_task
  zero-task = λ i. record {
    stat = stored (h 0 i);
    prio = h 1 i;
    link = zero_word 2 i;
    mptr = zero_word 4 i;
    sptr = zero_word 6 i;
    name = zero_word 8 i;
  }

  zero-message : message_of p ≡ no_message
  zero-message = λ i. record {
    stat = h 0 i;
    prio = h 1 i;
    link = zero_word 2 i;
    rptr = zero_word 4 i;
    sptr = zero_word 6 i;
  }

  zero-place : (z : Size) → place_in z p ≡ places.Free
  zero-place z = ap (place_of z) (h 0)

-- ---- the fresh board
module _ (z : Size) where
  abbrev b : Board
  b = board_of z (blank z)

  -- every byte is 0
  pub fresh-zeros : Zeros (blank z)
  fresh-zeros = zeros-replicate (total z)

  -- no task, no message, all free
  pub fresh-task : (k : ℕ) → task b k ≡ no_task
  fresh-task k =
      let l = pieces (task_area z) (blank z) in
      nth-map task_of [] no_task l k refl ∙ zero-task (nth [] l k) (zeros_piece (task_area z) (blank z) fresh-zeros k)

  pub fresh-message : (m : ℕ) → message b m ≡ no_message
  fresh-message m =
      let l = pieces (message_area z) (blank z) in
      nth-map message_of [] no_message l m refl ∙ zero-message (nth [] l m) (zeros_piece (message_area z) (blank z) fresh-zeros m)

  pub fresh-place : (m : ℕ) → place b m ≡ places.Free
  fresh-place m =
      let l = pieces (place_area z) (blank z) in
      nth-map (place_in z) [] places.Free l m refl ∙ zero-place (nth [] l m) (zeros_piece (place_area z) (blank z) fresh-zeros m) z

  -- its bytes are bytes, as many as its size says
  pub fresh-bytes : Bytes z (blank z)
  fresh-bytes = record {
    long = length-replicate (total z) 0;
    bytes = λ i. subst Byte (sym (fresh-zeros i)) (lit< tt);
  }

  -- it is settled, no task in the task queue and no message in a queue
  pub fresh_settled : Settled z b [] (λ k. [])
  fresh_settled = record {
    fits = fits-board z (blank z) fresh-bytes;
    regular = record {
      zeros = zeros_all b.zeros (zeros-take 2 (drop 2 (blank z)) (zeros-drop 2 (blank z) fresh-zeros));
      records = λ k d. inl (fresh-task k);
      linked = record {
        tasks = record {
          chain = fresh-zeros 0;
          exact = λ y. ((λ i. absurd i), λ e. true≢false (sym e ∙ ap is_there (fresh-task y)));
          sorted = tt;
        };
        messages = λ k d. record {
          chain = ap (λ (t : Task). t.mptr) (fresh-task k);
          exact = λ y. ((λ i. absurd i), λ e. true≢false (sym (ap is_queued e) ∙ ap is_queued (fresh-place y)));
          sorted = tt;
        };
      };
      places = λ m d. subst (PlaceGood z b m) (sym (fresh-place m)) (fresh-message m);
    };
    flags = λ k d.
        subst Flagged (sym (fresh-task k)) (flags-ready (stored 0) (0 ≡ 0) refl refl (λ e. absurd (true≢false (sym e))));
  }

  -- nobody runs, for nobody is ready
  fresh-runs : RunsRightly b b.running
  fresh-runs = record {
    nobody = ((λ e k. ap (λ (t : Task). is_ready t.stat) (fresh-task k)), λ e. fresh-zeros 1);
    leads = λ n. absurd (n (fresh-zeros 1));
  }

  -- it passes
  pub fresh-passes : Sizes z → passes z b ≡ true
  fresh-passes a =
      settled_passes z b a fresh_settled.fits [] (λ k. []) fresh_settled fresh-runs
      (ap (λ (t : Task). has t.stat MHBS) (fresh-task b.running))
