-- `text::ascii_front` meets its contract. Assumes nothing.
use Rattle.text.proofs.Laws.{ascii_block}
use Rattle.text.proofs.ascii_front.Goals as goal

pub loop-block-preserved : goal.loop-block-preserved
loop-block-preserved c = (rw c.in-Some.ensures.steps.0 c.loop-block.invariant.0, tt, ascii_block _ _ _ _ c.in-Some.ensures.steps.1.0 c.is_ascii.ensures c.if-not-is_ascii.false c.loop-block.invariant.2)
