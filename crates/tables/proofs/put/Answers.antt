-- `tables::put` meets its contract. The loop's invariant: what is still to be stored, stored into the output as it is now,
-- gives the whole.
use Rattle.tables.proofs.Words.{storing_none, storing_more, storing_out, storing_done}
use Rattle.tables.proofs.put.Goals as goal
use Rattle.tables.proofs.put.Goals.{then-at-j, else-at-j}

pub loop-j-init : goal.loop-j-init
loop-j-init g c = storing_none _ _ _

pub loop-j-preserved : goal.loop-j-preserved
loop-j-preserved g c =
    elim c.if-at-j.branch [
      | then-at-j w ↦ storing_more _ _ _ _ _ _ _ c.loop-j-test.true c.index-items-j.is w.out-is c.loop-j.invariant
      | else-at-j w ↦ storing_out _ _ _ _ _ _ _ c.loop-j-test.true c.index-items-j.is w.if-at-j.false w.out-is c.loop-j.invariant
    ]

pub returns : goal.returns
returns g c = storing_done _ _ _ _ _ c.loop-j-test.false c.loop-j.invariant
