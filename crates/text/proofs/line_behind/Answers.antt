-- `text::line_behind` meets its contract. Assumes nothing.
use mathlib.Core.Path.{◌∙◌}
use native.Mathlib.Omega.{arith}
use Rattle.text.proofs.Places.{feeds_block, feeds_done}
use Rattle.text.proofs.line_behind.Goals as goal

pub overflow_add-line : goal.overflow_add-line
overflow_add-line c =
    let n = feeds_block _ _ _ _ c.in-Some.ensures.steps.1.0 c.line_feeds.ensures c.from-line.ensures c.loop-block.invariant.3 in
    omega (arith, n.0)

pub loop-block-preserved : goal.loop-block-preserved
loop-block-preserved c =
    let n = feeds_block _ _ _ _ c.in-Some.ensures.steps.1.0 c.line_feeds.ensures c.from-line.ensures c.loop-block.invariant.3 in
    (omega arith, tt, c.in-Some.ensures.steps.0 ∙ c.loop-block.invariant.2, n.1)

pub returns : goal.returns
returns c = feeds_done _ _ _ c.in-None.ensures.steps.1.0 c.loop-block.invariant.3
