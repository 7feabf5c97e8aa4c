-- `telling::output::Pieces::write` meets its contract.
use Rattle.std.proofs.Common.{eq-eqb, ne_eqb}
use Rattle.std.proofs.KnownBytes.{Appends-nil}
use Rattle.telling.proofs.output.PiecesWrite.write.Goals as goal
use Rattle.telling.proofs.output.PiecesWrite.write.Goals.{then-self-eq4096+in_ok-hand_on, else-self-eq4096}

pub returns-clause-handed : goal.returns-clause-handed
returns-clause-handed g c = elim c.if-self-eq4096.branch [
  | then-self-eq4096+in_ok-hand_on w ↦ rw (w.self-is, eq-eqb _ _ w.if-self-eq4096.true) w.in_ok-hand_on.ensures.bytes
  | else-self-eq4096 w ↦ rw (w.self-is, ne_eqb _ _ w.if-self-eq4096.false) (Appends-nil _)
]
