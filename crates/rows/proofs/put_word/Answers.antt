-- `rows::put_word` meets its contract.
use Rattle.rows.proofs.Pieces.{first_fits, rest_fits, adds_then, byte_fits}
use Rattle.rows.proofs.put_word.Goals as goal

pub put-requires : goal.put-requires
put-requires c = (first_fits _ c.requires).fits

pub put_byte-requires : goal.put_byte-requires
put_byte-requires c = byte_fits (rest_fits c.put.ensures c.requires)

pub returns : goal.returns
returns c = adds_then c.put.ensures c.put_byte.ensures
