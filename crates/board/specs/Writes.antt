-- What a writer makes of the bytes it is lent, whatever their length: the record's bytes at its place, nothing past the end, and nothing
-- at all for a number that the board does not have. The contracts of lent cite this file.
--   put_in a l k vs     the bytes l with the record k of the area a made of vs
--   put_task z l k t    .. with task k so; put_message, put_place, put_first and put_running likewise
-- Assumes nothing.
use Rattle.std.specs.Prelude.{cond, List, ℕ, ◌+◌, ◌-◌, ◌*◌, set}
use Rattle.std.proofs.lemmas.List.Edits.{sets}
use Rattle.board.specs.declared.numbers.Size.{Size}
use Rattle.board.specs.declared.records.Task.{Task}
use Rattle.board.specs.declared.records.Message.{Message}
use Rattle.board.specs.declared.places.Place.{Place}
use Rattle.board.specs.Numbers.{outside}
use Rattle.board.specs.Records.{task_bytes, message_bytes}
use Rattle.board.specs.Places.{place_bytes}
use Rattle.board.specs.Board.{Area, task_area, message_area, place_area}

-- where record k starts
abbrev pub start : Area → ℕ → ℕ
start a k = a.base + (k - 1) * a.stride

abbrev pub put_in : Area → List ℕ → ℕ → List ℕ → List ℕ
put_in a l k vs = cond (outside a.count k) l (sets l (start a k) vs)

abbrev pub put_first : List ℕ → ℕ → List ℕ
put_first l k = set l 0 k

abbrev pub put_running : List ℕ → ℕ → List ℕ
put_running l c = set l 1 c

abbrev pub put_task : Size → List ℕ → ℕ → Task → List ℕ
put_task z l k t = put_in (task_area z) l k (task_bytes t)

abbrev pub put_message : Size → List ℕ → ℕ → Message → List ℕ
put_message z l m u = put_in (message_area z) l m (message_bytes u)

abbrev pub put_place : Size → List ℕ → ℕ → Place → List ℕ
put_place z l m p = put_in (place_area z) l m (place_bytes p)
