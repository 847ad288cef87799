-- `rows::list_refusal` meets its contract.
use Rattle.std.proofs.Common.{rules}
use Rattle.rows.proofs.Room.{refused_fits}
use Rattle.print.proofs.Putting.{whole_puts}
use Rattle.rows.proofs.Pieces.{first_fits, rest_fits, adds_then, same_fits, same_adds, whole_fits}
use Rattle.rows.proofs.Single.{refused_pieces}
use Rattle.rows.proofs.list_refusal.Goals as goal

pub put-requires : goal.put-requires
put-requires c = (first_fits _ (same_fits (refused_pieces _ _) (whole_fits c.new-output.ensures _ (refused_fits c.args.source.now c.args.refusal)))).fits

pub put_number-requires : goal.put_number-requires
put_number-requires c = first_fits _ (rest_fits c.put.ensures (same_fits (refused_pieces _ _) (whole_fits c.new-output.ensures _ (refused_fits c.args.source.now c.args.refusal))))

pub put_refused_place-requires : goal.put_refused_place-requires
put_refused_place-requires c = first_fits _ (rest_fits c.put_number.ensures (rest_fits c.put.ensures (same_fits (refused_pieces _ _) (whole_fits c.new-output.ensures _ (refused_fits c.args.source.now c.args.refusal)))))

pub put_value-requires : goal.put_value-requires
put_value-requires c = rest_fits c.put_refused_place.ensures (rest_fits c.put_number.ensures (rest_fits c.put.ensures (same_fits (refused_pieces _ _) (whole_fits c.new-output.ensures _ (refused_fits c.args.source.now c.args.refusal)))))

pub returns : goal.returns
returns c =
    let all = same_adds (refused_pieces _ _) (adds_then c.put.ensures (adds_then c.put_number.ensures (adds_then c.put_refused_place.ensures c.put_value.ensures))) in
    whole_puts c.new-output.ensures all (search rules) c.place.ensures
