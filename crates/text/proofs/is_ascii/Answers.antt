-- `text::is_ascii` meets its contract. Assumes nothing.
use Rattle.text.proofs.Laws.{ascii_byte, ascii_whole}
use Rattle.text.proofs.is_ascii.Goals as goal

pub loop-byte-preserved : goal.loop-byte-preserved
loop-byte-preserved c = ascii_byte _ _ _ c.loop-byte-test.true c.is_one-all.ensures c.loop-byte.invariant

pub returns : goal.returns
returns c = ascii_whole _ _ c.loop-byte-test.false c.loop-byte.invariant
