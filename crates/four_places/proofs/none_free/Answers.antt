-- `four_places::none_free` meets its contract.
use Rattle.std.proofs.Common.{sym, refl, ◌∙◌, arith}
use Rattle.four_places.proofs.Groups.{four_bytes, four_beyond}
use Rattle.four_places.proofs.none_free.Goals as goal

pub returns-then-z-m : goal.returns-then-z-m
returns-then-z-m c = let a = c.args in sym (four_beyond a.l.size a.l.bytes.now a.m (omega arith))

-- the last byte read is one of the board
pub bounds-l-o-4 : goal.bounds-l-o-4
bounds-l-o-4 c = omega arith

pub returns : goal.returns
returns c =
    let a = c.args in
    c.none_zero.ensures ∙ four_bytes a.l.size a.l.bytes.now a.m _ c.if-z-m.false refl
