-- `rows::put_value` meets its contract.
use Rattle.rows.proofs.Pieces.{first_fits, rest_fits, adds_then, byte_fits, same_fits, same_adds}
use Rattle.rows.proofs.Single.{value_none, value_some}
use Rattle.rows.proofs.put_value.Goals as goal

pub put_byte-requires : goal.put_byte-requires
put_byte-requires c = byte_fits (same_fits (value_none _ c.if-value-eq0.true) c.requires)

pub put_byte-requires-else-value-eq0 : goal.put_byte-requires-else-value-eq0
put_byte-requires-else-value-eq0 c = byte_fits (first_fits _ (same_fits (value_some _ c.if-value-eq0.false) c.requires))

pub put_number-requires : goal.put_number-requires
put_number-requires c = rest_fits c.put_byte-else-value-eq0.ensures (same_fits (value_some _ c.if-value-eq0.false) c.requires)

pub returns-else-value-eq0 : goal.returns-else-value-eq0
returns-else-value-eq0 c = same_adds (value_some _ c.if-value-eq0.false) (adds_then c.put_byte-else-value-eq0.ensures c.put_number.ensures)

pub returns-then-value-eq0 : goal.returns-then-value-eq0
returns-then-value-eq0 c = same_adds (value_none _ c.if-value-eq0.true) c.put_byte.ensures
