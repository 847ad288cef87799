-- `errors::node_errors` meets its contract. The loop's invariant: `Going`, for all nodes that the table may hold. Assumes nothing.
use native.Mathlib.Omega.{arith}
use Rattle.errors.proofs.Adding.{going_start, going_more, going_all}
use Rattle.errors.proofs.node_errors.Goals as goal

pub loop-number-init : goal.loop-number-init
loop-number-init c = going_start _ _ _ _

pub loop-number-preserved : goal.loop-number-preserved
loop-number-preserved c =
    going_more _ _ _ _ _ _ _ _ _ c.loop-number-test.true c.loop-number.invariant c.add_error-made.ensures.count c.add_error-made.ensures.table

-- there are no nodes
pub returns : goal.returns
returns c = going_all _ _ _ _ _ _ _ c.loop-number-test.false c.loop-number.invariant

-- the last node is done
pub returns-2 : goal.returns-2
returns-2 c = going_all _ _ _ _ _ _ _ (omega arith) (going_more _ _ _ _ _ _ _ _ _ c.loop-number-test.true c.loop-number.invariant c.add_error-made.ensures.count c.add_error-made.ensures.table)
