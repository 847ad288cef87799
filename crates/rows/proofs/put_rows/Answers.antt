-- `rows::put_rows` meets its contract. The loop's invariant: the rows that are left, put into the output as it is now, give the whole.
use native.Mathlib.Omega.{arith}
use Rattle.print.specs.Text.{Adds}
use Rattle.rows.proofs.Many.{rows_none, rows_next, rows_more, rows_done}
use Rattle.rows.proofs.put_rows.Goals as goal
use Rattle.rows.proofs.put_rows.Goals.{else-loop-number-test, then-loop-number-test+else-number-count}

pub loop-number-init : goal.loop-number-init
loop-number-init g c = rows_none c.requires.1.0

pub loop-number-preserved : goal.loop-number-preserved
loop-number-preserved g c =
    rows_more c.loop-number.invariant c.loop-number-test.true (c.requires.1.1.1 _ _ _ c.loop-number.auto.number c.loop-number-test.true c.put_row.ensures)

pub put_row-requires : goal.put_row-requires
put_row-requires g c = c.requires.1.1.0 _ _ c.loop-number.auto.number c.loop-number-test.true (rows_next c.loop-number.invariant c.loop-number-test.true)

pub returns : goal.returns
returns g c = elim c.loop-number-test.branch [
  | else-loop-number-test w ↦ rw w.out-is (rows_done c.loop-number.invariant w.loop-number-test.false)
  | then-loop-number-test+else-number-count w ↦
      let adds : Adds (g.row_of c.loop-number.number) c.loop-number.out w.put_row.new.arg2 = c.requires.1.1.1 _ _ _ c.loop-number.auto.number w.loop-number-test.true w.put_row.ensures in
      rw w.out-is (rows_done (rows_more c.loop-number.invariant w.loop-number-test.true adds) (omega arith))
]
