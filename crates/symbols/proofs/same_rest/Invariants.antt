-- `symbols::same_rest` meets its contract. The loop's invariant: the answer is that for the bytes from the i-th on.
use mathlib.Core.Path.{◌≡◌}
use lib.ListN.{drop}
use Rattle.checks.specs.Jets.{same}
use Rattle.symbols.proofs.same_rest.Given as goal

abbrev pub invariant-loop-i : goal.invariant-loop-i
invariant-loop-i l = same (drop l.from l.a) (drop l.from l.b) ≡ same (drop l.i l.a) (drop l.i l.b)
