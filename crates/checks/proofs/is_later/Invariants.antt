-- `checks::is_later` meets its contract. The loop's invariant: the answer is that from `i` on.
use Prim.Native.Nat.{◌-◌, ◌≤◌}
use mathlib.Core.Path.{◌≡◌}
use lib.ListN.{drop}
use Rattle.checks.specs.Code.{is_later}
use Rattle.checks.proofs.is_later.Given as goal

abbrev pub invariant-loop-i : goal.invariant-loop-i
invariant-loop-i l = (l.i ≤ l.end) × (is_later l.name (drop l.from l.jets) ≡ is_later l.name (drop l.i l.jets))

abbrev pub decreases-loop-i : goal.decreases-loop-i
decreases-loop-i l = l.end - l.i
