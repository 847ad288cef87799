-- `tables::put` meets its contract. The loop's invariant: what is still to be stored, stored into the table as it is now,
-- gives the whole.
use Rattle.tables.proofs.Words.{Storing}
use Rattle.tables.proofs.put.Given as goal

abbrev pub invariant-loop-j : goal.invariant-loop-j
invariant-loop-j g l = Storing l.initial.out l.items l.at l.out l.j
