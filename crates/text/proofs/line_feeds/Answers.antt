-- `text::line_feeds` meets its contract. Assumes nothing.
use Rattle.text.proofs.Places.{feeds_byte, feeds_whole}
use Rattle.text.proofs.line_feeds.Goals as goal

pub loop-byte-preserved : goal.loop-byte-preserved
loop-byte-preserved c = feeds_byte _ _ _ c.loop-byte-test.true c.from-feeds.ensures c.loop-byte.invariant

pub returns : goal.returns
returns c = feeds_whole _ _ _ c.loop-byte-test.false c.loop-byte.invariant.1
