-- `text::column_behind` meets its contract. Assumes nothing.
use Rattle.text.proofs.Places.{column_feed, column_byte, column_done}
use Rattle.text.proofs.column_behind.Goals as goal

pub returns-then-byte-eq10 : goal.returns-then-byte-eq10
returns-then-byte-eq10 c = column_feed _ _ _ c.in-Some.ensures.steps c.loop-byte.invariant.2 c.if-byte-eq10.true

pub loop-byte-preserved : goal.loop-byte-preserved
loop-byte-preserved c = (tt, tt, column_byte _ _ _ c.in-Some.ensures.steps c.loop-byte.invariant.2 c.if-byte-eq10.false c.begins_char.ensures c.from-column.ensures)

pub returns : goal.returns
returns c = column_done _ _ _ c.in-None.ensures.steps.0 c.loop-byte.invariant.2
