-- `checks::exact_log2` meets its contract. The loop's invariant: the answer is that for the bound `k`.
use Prim.Native.Nat.{◌≤◌}
use mathlib.Core.Path.{◌≡◌}
use Rattle.checks.specs.Powers.{log2}
use Rattle.checks.proofs.exact_log2.Given as goal

abbrev pub invariant-loop-k : goal.invariant-loop-k
invariant-loop-k l = (l.k ≤ l.bound) × (log2 l.bound l.n ≡ log2 l.k l.n)

abbrev pub decreases-loop-k : goal.decreases-loop-k
decreases-loop-k l = l.k
