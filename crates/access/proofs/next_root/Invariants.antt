-- `access::next_root` meets its contract. The loop's invariant: the answer is the first root behind the names that are passed. Assumes nothing.
use Prim.Native.Nat.{◌+◌}
use mathlib.Core.Path.{◌≡◌}
use Rattle.access.specs.Access.{next_root}
use Rattle.access.proofs.Roots.{first_from}
use Rattle.access.proofs.next_root.Given as goal

abbrev pub invariant-loop-passed : goal.invariant-loop-passed
invariant-loop-passed l = next_root l.names l.named l.nodes l.made l.fn.after.0 ≡ first_from l.names l.named l.nodes l.made (l.passed + 1)
