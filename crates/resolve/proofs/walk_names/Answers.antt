-- `resolve::walk_names` meets its contract: the loop goes on as `Past` says. Assumes nothing.
use native.Mathlib.Omega.{arith}
use Rattle.resolve.proofs.Running.{past_none, past_more, past_all}
use Rattle.resolve.proofs.walk_names.Goals as goal

pub loop-number-init : goal.loop-number-init
loop-number-init c = (past_none _ _ _ _ _ _, omega arith)

pub loop-number-preserved : goal.loop-number-preserved
loop-number-preserved c = (past_more _ _ _ _ _ _ _ _ _ _ _ _ _ _ _ c.loop-number.auto.number c.loop-number-test.true c.loop-number.invariant.0 c.visit-made.ensures, omega arith)

-- there are no names
pub returns : goal.returns
returns c = past_all _ _ _ _ _ _ _ _ _ _ _ (omega arith) c.loop-number.invariant.0

-- the last name was visited
pub returns-2 : goal.returns-2
returns-2 c = past_all _ _ _ _ _ _ _ _ _ _ _ (omega arith) (past_more _ _ _ _ _ _ _ _ _ _ _ _ _ _ _ c.loop-number.auto.number c.loop-number-test.true c.loop-number.invariant.0 c.visit-made.ensures)
