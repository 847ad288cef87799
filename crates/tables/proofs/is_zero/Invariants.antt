-- `tables::is_zero` meets its contract. The loop's invariant: all words are zero exactly if what was seen is, and the words
-- that are left are.
use Rattle.tables.proofs.Zeros.{Looked}
use Rattle.tables.proofs.is_zero.Given as goal

abbrev pub invariant-loop-word : goal.invariant-loop-word
invariant-loop-word l = Looked l.words l.seen l.word-index
