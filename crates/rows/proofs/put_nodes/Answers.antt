-- `rows::put_nodes` meets its contract.
use Rattle.std.proofs.Common.{rules}
use Rattle.rows.proofs.Pieces.{first_fits, rest_fits, adds_then, same_fits, same_adds}
use Rattle.rows.proofs.Single.{nodes_pieces}
use Rattle.rows.proofs.put_nodes.Goals as goal

pub put_head-requires : goal.put_head-requires
put_head-requires c = first_fits _ (same_fits (nodes_pieces _ _ _ _ _) c.requires)

-- the closure outlives what it holds; there is room; and a row may be put and is put, as the closure's body says
pub put_rows-requires : goal.put_rows-requires
put_rows-requires c κs within = (search rules depth 12, (rest_fits c.put_head.ensures (same_fits (nodes_pieces _ _ _ _ _) c.requires), (search rules, search rules)))

pub returns : goal.returns
returns c = same_adds (nodes_pieces _ _ _ _ _) (adds_then c.put_head.ensures c.put_rows.ensures)
