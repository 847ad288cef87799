-- `resolve::count_parents` meets its contract: the loop goes on as `Counting` says. Assumes nothing.
use Prim.Native.Nat.{◌+◌, ◌≤◌}
use Rattle.resolve.proofs.Parents.{Counting}
use Rattle.resolve.proofs.count_parents.Given as goal

abbrev pub invariant-loop-number : goal.invariant-loop-number
invariant-loop-number l = Counting l.initial.nodes l.count l.nodes l.number × (l.number ≤ l.count + 1)
