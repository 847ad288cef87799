-- `rows::put_node` meets its contract.
use Rattle.rows.proofs.Pieces.{first_fits, rest_fits, adds_then, same_fits, same_adds}
use Rattle.rows.proofs.Single.{node_pieces}
use Rattle.rows.proofs.put_node.Goals as goal

pub put_node_back-requires : goal.put_node_back-requires
put_node_back-requires c = rest_fits c.put_node_front.ensures (same_fits (node_pieces _ _ _ _ _ c.word-kind.ensures c.word-start.ensures c.word-name.ensures c.word-left.ensures c.word-right.ensures) c.requires)

pub put_node_front-requires : goal.put_node_front-requires
put_node_front-requires c = first_fits _ (same_fits (node_pieces _ _ _ _ _ c.word-kind.ensures c.word-start.ensures c.word-name.ensures c.word-left.ensures c.word-right.ensures) c.requires)

pub returns : goal.returns
returns c = same_adds (node_pieces _ _ _ _ _ c.word-kind.ensures c.word-start.ensures c.word-name.ensures c.word-left.ensures c.word-right.ensures) (adds_then c.put_node_front.ensures c.put_node_back.ensures)
