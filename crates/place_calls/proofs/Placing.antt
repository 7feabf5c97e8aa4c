-- What wake and place have stored, in plain variables: t is the task read, on the test of WAIT, d and e the bytes after each store.
-- Assumes nothing.
use mathlib.Core.Path.{◌≡◌, sym, ◌∙◌}
use mathlib.Core.Bool.{Bool, true, false, cond}
use mathlib.Core.List.{List}
use Prim.Native.Nat.{ℕ}
use Rattle.board.specs.declared.numbers.Size.{Size}
use Rattle.board.specs.declared.records.Task.{Task}
use Rattle.board.specs.declared.records.Message.{Message}
use Rattle.board.specs.declared.places.Place.TheVariants.{QueuedAt}
use Rattle.board.specs.Numbers.{task_no}
use Rattle.board.specs.Status.{WAIT, MHBS, has}
use Rattle.board.specs.Board.{board_of, task}
use Rattle.board.specs.Writes.{put_place}
use Rattle.stores.specs.Changes.{sets, clears}
use Rattle.stores.specs.Moves.{queue_into}
use Rattle.stores.specs.Effects.{woken, place_at}

module _ (z : Size) (l : List ℕ) (r : ℕ) {t : Task} (et : t ≡ task (board_of z l) r) {on : Bool} (eo : on ≡ has t.stat WAIT) where
  woken_by : (w : Bool) → on ≡ w → cond w (sets z (clears z l r WAIT) r MHBS) l ≡ woken z l r
  woken_by w ew = λ i. cond ((sym ew ∙ eo ∙ (λ j. has (et j).stat WAIT)) i) (sets z (clears z l r WAIT) r MHBS) l

  -- it waited: it is due a message
  pub wakes : {d e : List ℕ} → on ≡ true → d ≡ clears z l r WAIT → e ≡ sets z d r MHBS → e ≡ woken z l r
  wakes y ed ee = ee ∙ (λ i. sets z (ed i) r MHBS) ∙ woken_by true y

  -- it did not
  pub not_woken : {d : List ℕ} → on ≡ false → d ≡ l → d ≡ woken z l r
  not_woken n ed = ed ∙ woken_by false n

-- into the queue, then its place, then the task's flags
pub placed_at : (z : Size) (l : List ℕ) (m : ℕ) (u : Message) (r : ℕ) {d e f : List ℕ} → d ≡ queue_into z l m u r
    → e ≡ put_place z d m (QueuedAt (task_no r)) → f ≡ woken z e r → f ≡ place_at z l m u r
placed_at z l m u r ed ee ef = ef ∙ (λ i. woken z ((ee ∙ (λ j. put_place z (ed j) m (QueuedAt (task_no r)))) i) r)
