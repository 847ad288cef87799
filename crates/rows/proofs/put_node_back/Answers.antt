-- `rows::put_node_back` meets its contract.
use Rattle.rows.proofs.Pieces.{first_fits, rest_fits, adds_then}
use Rattle.rows.proofs.put_node_back.Goals as goal

pub put_number-requires : goal.put_number-requires
put_number-requires c = first_fits _ (rest_fits c.put_offset.ensures c.requires)

pub put_number-requires-2 : goal.put_number-requires-2
put_number-requires-2 c = rest_fits c.put_number.ensures (rest_fits c.put_offset.ensures c.requires)

pub put_offset-requires : goal.put_offset-requires
put_offset-requires c = first_fits _ c.requires

pub returns : goal.returns
returns c = adds_then c.put_offset.ensures (adds_then c.put_number.ensures c.put_number-2.ensures)
