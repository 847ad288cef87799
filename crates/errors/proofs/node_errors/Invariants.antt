-- `errors::node_errors` meets its contract. The loop's invariant: `Going`, for all nodes that the table may hold. Assumes nothing.
use Rattle.errors.proofs.Adding.{Going}
use Rattle.errors.proofs.node_errors.Given as goal

abbrev pub invariant-loop-number : goal.invariant-loop-number
invariant-loop-number l = Going l.nodes l.count l.before l.initial.errors l.number l.made l.errors
