-- `tables::zero` meets its contract. The loop's invariant: the words that are left, set to zero in the table as it is now,
-- give the whole.
use mathlib.Core.Path.{sym, ◌∙◌}
use Rattle.tables.proofs.Zeros.{zeroed_more, zeroed_none}
use Rattle.tables.proofs.zero.Goals as goal

pub loop-i-preserved : goal.loop-i-preserved
loop-i-preserved c = c.loop-i.invariant ∙ zeroed_more _ _ _ c.loop-i-test.true

pub returns : goal.returns
returns c = sym (c.loop-i.invariant ∙ zeroed_none _ _ _ c.loop-i-test.false)
