-- The fresh board and a buffer of zeros agree with the plain machine at the start.
-- Assumes nothing.
use mathlib.Core.Path.{◌≡◌, refl, sym, ap, ◌∙◌, subst}
use mathlib.Core.Bool.{true≢false}
use mathlib.Core.List.{[]}
use Prim.Native.Nat.{ℕ}
use lib.Dec.{lit<}
use Rattle.board.specs.declared.numbers.Size.{Size}
use Rattle.board.specs.Records.{Byte}
use Rattle.board.specs.Places.{is_on_timer}
use Rattle.board.specs.Board.{board_of}
use Rattle.timer.specs.Timer.{timer_length, timer_of}
use Rattle.paper.specs.Outcomes.{blank}
use Rattle.kept.specs.Claims.{Sizes}
use Rattle.kept.proofs.Fresh.{zeros-replicate, fresh-zeros, fresh-task, fresh-message, fresh-place, fresh-bytes, fresh_settled, fresh-passes}
use Rattle.history.specs.Ranking.{Names}
use Rattle.ticked.proofs.Buffers.{Matches, says_good_timer}
use Rattle.history.specs.Machine.{machine, start}
use Rattle.history.specs.Clockwork.{begin}
use Rattle.history.specs.Claims.{sheet_of, block_of, zeros}
use Rattle.history.proofs.Rolls.{Roll}
use Rattle.history.proofs.Places.{whose_of}
use Rattle.history.proofs.Named.{Named}
use Rattle.history.proofs.Machines.{plain_of}
use Rattle.history.proofs.Steps.{Agreeing}
use Rattle.history.proofs.Events.{Clockwise}

module _ (z : Size) where
  -- read as a machine it is the one at the start
  fresh-plain : plain_of (board_of z (blank z)) [] [] 0 ≡ start
  fresh-plain = λ i.
      machine (λ k. sheet_of (fresh-task z k i)) (λ m. block_of (fresh-message z m i)) (λ m. whose_of (fresh-place z m i)) [] [] 0
      (fresh-zeros z 1 i)

  -- none is installed or placed
  no_names : Names [] []
  no_names = record { list = []; ranking = record { same = λ x. ((λ i. i), λ i. i); order = tt }; names = refl }

  no_roll : (number : ℕ → ℕ) → Roll number 0 []
  no_roll number =
      record { times = tt; past = λ x i. absurd i; numbers = λ x i. absurd i; single = λ x y i. absurd i }

  start-named : Named z start [] (λ k. [])
  start-named = record {
    tasks = no_roll _;
    messages = no_roll _;
    homes = λ x i. absurd i;
    order = no_names;
    queues = λ k d. no_names;
  }

  -- it agrees with the machine at the start
  pub fresh_agrees : Sizes z → Agreeing z (blank z) start
  fresh_agrees a = record {
    bytes = fresh-bytes z;
    sound = fresh-passes z a;
    order = [];
    queues = λ k. [];
    settled = fresh_settled z;
    same = record { installed = []; placed = []; time = 0; is = sym fresh-plain; named = start-named };
  }

  -- no message is on the timer, and no entry is used
  fresh_matches : Matches (board_of z (blank z)) (timer_of zeros).entries
  fresh_matches = record {
    zero = refl;
    once = tt;
    exact = λ m. ((λ i. absurd i), λ on. absurd (true≢false (sym (ap is_on_timer on) ∙ ap is_on_timer (fresh-place z m))));
  }

  -- so with a buffer of zeros
  pub fresh_clockwise : Sizes z → Clockwise z (blank z) zeros begin
  fresh_clockwise a = record {
    board = fresh_agrees a;
    passing = record {
      bytes = fresh-bytes z;
      sound = fresh-passes z a;
      timer_bytes = record { long = refl; bytes = λ i. subst Byte (sym (zeros-replicate timer_length i)) (lit< tt) };
      good = (says_good_timer (board_of z (blank z)) zeros).1 (refl, fresh_matches);
    };
    timer = refl;
  }
