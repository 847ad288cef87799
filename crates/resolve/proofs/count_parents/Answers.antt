-- `resolve::count_parents` meets its contract: the loop goes on as `Counting` says. Assumes nothing.
use native.Mathlib.Omega.{arith}
use Rattle.resolve.proofs.Parents.{counting_none, counting_more, counting_all}
use Rattle.resolve.proofs.count_parents.Goals as goal

pub loop-number-init : goal.loop-number-init
loop-number-init c = (counting_none _ _, omega arith)

pub loop-number-preserved : goal.loop-number-preserved
loop-number-preserved c =
    (counting_more _ _ _ _ _ _ _ _ c.loop-number.auto.number c.loop-number-test.true c.word-left.ensures c.add_parent.ensures c.word-right.ensures c.add_parent-in-loop-number.ensures c.loop-number.invariant.0, omega arith)

-- there are no nodes
pub returns : goal.returns
returns c = counting_all _ _ _ _ (omega arith) c.loop-number.invariant.0

-- the last node's children are counted
pub returns-2 : goal.returns-2
returns-2 c = counting_all _ _ _ _ (omega arith)
    (counting_more _ _ _ _ _ _ _ _ c.loop-number.auto.number c.loop-number-test.true c.word-left.ensures c.add_parent.ensures c.word-right.ensures c.add_parent-in-loop-number.ensures c.loop-number.invariant.0)
