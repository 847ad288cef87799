-- `Output::put_place` meets its contract. Assumes nothing.
use Rattle.print.proofs.Placing.{line_fits, colon_fits, column_fits, adds_place}
use Rattle.print.proofs.Output.put_place.Goals as goal

pub put_decimal-requires : goal.put_decimal-requires
put_decimal-requires c = line_fits c.offset_to_position-place.ensures _ c.requires

pub put_byte-requires : goal.put_byte-requires
put_byte-requires c = colon_fits c.offset_to_position-place.ensures c.put_decimal.ensures c.requires

pub put_decimal-requires-2 : goal.put_decimal-requires-2
put_decimal-requires-2 c = column_fits c.offset_to_position-place.ensures c.put_decimal.ensures c.put_byte.ensures c.requires

pub returns : goal.returns
returns c = adds_place c.offset_to_position-place.ensures c.put_decimal.ensures c.put_byte.ensures c.put_decimal-2.ensures
