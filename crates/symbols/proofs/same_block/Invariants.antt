-- `symbols::same_block` meets its contract. The loop's invariant: the answer is that for the bytes passed.
use Prim.Native.Nat.{◌≤◌}
use mathlib.Core.Path.{◌≡◌}
use lib.ListN.{take, drop}
use Rattle.checks.specs.Jets.{same}
use Rattle.symbols.proofs.same_block.Given as goal

abbrev pub invariant-loop-k : goal.invariant-loop-k
invariant-loop-k l = (l.k ≤ 8) × (l.all ≡ same (take l.k (drop l.at l.a)) (take l.k (drop l.at l.b)))
