-- `rows::list_tables` meets its contract.
use Rattle.std.proofs.Common.{rules}
use Rattle.print.proofs.Putting.{whole_puts}
use Rattle.rows.proofs.Pieces.{first_fits, rest_fits, adds_then, same_fits, same_adds, whole_fits}
use Rattle.rows.proofs.Single.{listed_pieces}
use Rattle.rows.proofs.list_tables.Goals as goal

pub put_nodes-requires : goal.put_nodes-requires
put_nodes-requires c = first_fits _ (same_fits (listed_pieces _ _ _ _ _ _ _) (whole_fits c.new-output.ensures _ c.requires))

pub put_roots-requires : goal.put_roots-requires
put_roots-requires c = first_fits _ (rest_fits c.put_nodes.ensures (same_fits (listed_pieces _ _ _ _ _ _ _) (whole_fits c.new-output.ensures _ c.requires)))

pub put_errors-requires : goal.put_errors-requires
put_errors-requires c = rest_fits c.put_roots.ensures (rest_fits c.put_nodes.ensures (same_fits (listed_pieces _ _ _ _ _ _ _) (whole_fits c.new-output.ensures _ c.requires)))

pub returns : goal.returns
returns c =
    let all = same_adds (listed_pieces _ _ _ _ _ _ _) (adds_then c.put_nodes.ensures (adds_then c.put_roots.ensures c.put_errors.ensures)) in
    whole_puts c.new-output.ensures all (search rules) c.place.ensures
