-- What is gathered of the output.
--   gathered p          the bytes that wait in p to be handed on
-- Assumes nothing.
use Rattle.std.specs.Prelude.{ℕ, List, take}
use Rattle.telling.specs.declared.output.Pieces.{Pieces}

abbrev pub gathered : {W : Type 0} {write : _} → Pieces W write → List ℕ
gathered p = take p.used p.piece
