-- `text::offset_to_position` meets its contract. Assumes nothing.
use Rattle.text.proofs.Places.{cut}
use Rattle.text.proofs.offset_to_position.Goals as goal

pub returns : goal.returns
returns c = rw (c.line_behind.ensures, c.column_behind.ensures) (cut _ _ _ c.min.ensures)
