-- `rows::put_rows` meets its contract. The loop's invariant: the rows that are left, put into the output as it is now, give the whole.
use Rattle.rows.proofs.Many.{RowsLeft}
use Rattle.rows.proofs.put_rows.Given as goal

abbrev pub invariant-loop-number : goal.invariant-loop-number
invariant-loop-number g l = RowsLeft g.row_of l.count l.initial.out l.number l.out
