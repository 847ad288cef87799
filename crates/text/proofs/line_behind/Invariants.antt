-- `text::line_behind` meets its contract. The loop's invariant: the line counts the line feeds of the blocks that are passed.
-- Assumes nothing.
use Prim.Native.Nat.{◌+◌}
use mathlib.Core.Path.{◌≡◌}
use Rattle.std.specs.Slice.Iter.{chunks_rest, chunks_size}
use Rattle.text.proofs.Places.{feeds}
use Rattle.text.proofs.line_behind.Given as goal

abbrev pub invariant-loop-block : goal.invariant-loop-block
invariant-loop-block l =
    (goal.iterator-loop-block).can_next l.block-iterator ×
    (goal.iterator-loop-block).is_finite l.block-iterator ×
    (chunks_size l.block-iterator ≡ 128) ×
    (1 + feeds l.fn.bytes ≡ l.line + feeds (chunks_rest l.block-iterator))
