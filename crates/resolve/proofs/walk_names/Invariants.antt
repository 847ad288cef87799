-- `resolve::walk_names` meets its contract: the loop goes on as `Past` says. Assumes nothing.
use Prim.Native.Nat.{◌+◌, ◌≤◌}
use Rattle.resolve.proofs.Running.{Past}
use Rattle.resolve.proofs.walk_names.Given as goal

abbrev pub invariant-loop-number : goal.invariant-loop-number
invariant-loop-number l = Past l.program.source.now l.program.exprs.now l.program.count l.number l.initial.names l.initial.nodes l.initial.work l.made l.names l.nodes l.work × (l.number ≤ l.program.count + 1)
