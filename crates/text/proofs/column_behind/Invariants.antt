-- `text::column_behind` meets its contract. The loop's invariant: the column is that behind the bytes that are left and what was
-- counted. Assumes nothing.
use Rattle.std.specs.Slice.Iter.{iter_rest}
use Rattle.std.specs.Iterator.Adapters.{rev_source}
use Rattle.text.proofs.Places.{Counted}
use Rattle.text.proofs.column_behind.Given as goal

abbrev pub invariant-loop-byte : goal.invariant-loop-byte
invariant-loop-byte l =
    (goal.iterator-loop-byte).can_next l.byte-iterator ×
    (goal.iterator-loop-byte).is_finite l.byte-iterator ×
    Counted l.fn.bytes (iter_rest (rev_source l.byte-iterator)) l.column
