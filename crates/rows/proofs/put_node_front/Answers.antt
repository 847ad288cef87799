-- `rows::put_node_front` meets its contract.
use Rattle.rows.proofs.Pieces.{first_fits, rest_fits, adds_then, same_fits, same_adds}
use Rattle.rows.proofs.Single.{front_pieces}
use Rattle.rows.proofs.put_node_front.Goals as goal

pub put_number-requires : goal.put_number-requires
put_number-requires c = first_fits _ c.requires

pub put_word-requires : goal.put_word-requires
put_word-requires c = first_fits _ (rest_fits c.put_number.ensures (same_fits (front_pieces _ _ _ c.node_word.ensures) c.requires))

pub put_name-requires : goal.put_name-requires
put_name-requires c = rest_fits c.put_word.ensures (rest_fits c.put_number.ensures (same_fits (front_pieces _ _ _ c.node_word.ensures) c.requires))

pub returns : goal.returns
returns c = same_adds (front_pieces _ _ _ c.node_word.ensures) (adds_then c.put_number.ensures (adds_then c.put_word.ensures c.put_name.ensures))
