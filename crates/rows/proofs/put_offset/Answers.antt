-- `rows::put_offset` meets its contract.
use Rattle.rows.proofs.Pieces.{first_fits, rest_fits, adds_then, byte_fits}
use Rattle.rows.proofs.put_offset.Goals as goal

pub put_byte-requires : goal.put_byte-requires
put_byte-requires c = byte_fits (rest_fits c.put_place.ensures c.requires)

pub put_place-requires : goal.put_place-requires
put_place-requires c = (first_fits _ c.requires).fits

pub returns : goal.returns
returns c = adds_then c.put_place.ensures c.put_byte.ensures
