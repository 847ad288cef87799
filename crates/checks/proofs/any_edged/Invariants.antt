-- `checks::any_edged` meets its contract. The loop's invariant: the answer is that for the offsets passed.
use Prim.Native.Nat.{◌-◌, ◌≤◌}
use mathlib.Core.Path.{◌≡◌}
use Rattle.checks.specs.Code.{block_size, any_edged}
use Rattle.checks.proofs.any_edged.Given as goal

abbrev pub invariant-loop-k : goal.invariant-loop-k
invariant-loop-k l = (l.k ≤ block_size) × (l.any ≡ any_edged l.jets l.m l.first l.last l.at l.k)

abbrev pub decreases-loop-k : goal.decreases-loop-k
decreases-loop-k l = block_size - l.k
