-- `four_places::none_zero` meets its contract.
use Rattle.board.proofs.Codec.{small_bytes}
use Rattle.four_places.proofs.Masks.{four_marked}
use Rattle.four_places.proofs.none_zero.Goals as goal

pub returns : goal.returns
returns c =
    let l = c.args.places.now in
    let x = c.from_le_bytes-x in
    four_marked l c.told-places (small_bytes l c.fits-places) x.result x.type_inv x.ensures
