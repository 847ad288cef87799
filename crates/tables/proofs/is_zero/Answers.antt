-- `tables::is_zero` meets its contract. The loop's invariant: all words are zero exactly if what was seen is, and the words
-- that are left are.
use Rattle.tables.proofs.Zeros.{looked_none, looked_more, looked_done}
use Rattle.tables.proofs.is_zero.Goals as goal

pub loop-word-init : goal.loop-word-init
loop-word-init c = looked_none _

pub loop-word-preserved : goal.loop-word-preserved
loop-word-preserved c = looked_more _ _ _ c.loop-word-test.true c.loop-word.invariant

pub returns : goal.returns
returns c = looked_done _ _ _ c.loop-word-test.false c.loop-word.invariant
