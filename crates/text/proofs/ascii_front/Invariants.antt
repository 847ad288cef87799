-- `text::ascii_front` meets its contract. The loop's invariant: the answer is that for the text from `passed` on. Assumes nothing.
use Rattle.std.specs.Slice.Iter.{chunks_rest}
use Rattle.text.proofs.Laws.{Passed}
use Rattle.text.proofs.ascii_front.Given as goal

abbrev pub invariant-loop-block : goal.invariant-loop-block
invariant-loop-block l =
    (goal.iterator-loop-block).can_next l.block-iterator ×
    (goal.iterator-loop-block).is_finite l.block-iterator ×
    Passed l.fn.source (chunks_rest l.block-iterator) l.passed
