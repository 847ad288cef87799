-- `rows::put_number` meets its contract.
use Rattle.rows.proofs.Pieces.{first_fits, rest_fits, adds_then, byte_fits}
use Rattle.rows.proofs.put_number.Goals as goal

pub put_byte-requires : goal.put_byte-requires
put_byte-requires c = byte_fits (rest_fits c.put_decimal.ensures c.requires)

pub put_decimal-requires : goal.put_decimal-requires
put_decimal-requires c = (first_fits _ c.requires).fits

pub returns : goal.returns
returns c = adds_then c.put_decimal.ensures c.put_byte.ensures
