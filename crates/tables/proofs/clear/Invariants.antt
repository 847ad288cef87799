-- `tables::clear` meets its contract. The loop's invariant: the words that are left, set to zero in the table as it is now,
-- give the whole.
use Prim.Native.Nat.{◌*◌}
use mathlib.Core.Path.{◌≡◌}
use Rattle.tables.specs.Zeros.{zeroed}
use Rattle.tables.proofs.clear.Given as goal

abbrev pub invariant-loop-block : goal.invariant-loop-block
invariant-loop-block l = zeroed l.initial.table 0 l.count ≡ zeroed l.table (l.block * 64) l.count
