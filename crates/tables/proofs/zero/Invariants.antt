-- `tables::zero` meets its contract. The loop's invariant: the words that are left, set to zero in the table as it is now,
-- give the whole.
use mathlib.Core.Path.{◌≡◌}
use Rattle.tables.specs.Zeros.{zeroed}
use Rattle.tables.proofs.zero.Given as goal

abbrev pub invariant-loop-i : goal.invariant-loop-i
invariant-loop-i l = zeroed l.initial.table l.from l.to ≡ zeroed l.table l.i l.to
