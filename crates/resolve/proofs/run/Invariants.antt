-- `resolve::run` meets its contract: the loop goes on as `Going` says. Assumes nothing.
use Rattle.resolve.proofs.Running.{Going}
use Rattle.resolve.proofs.run.Given as goal

abbrev pub invariant-loop : goal.invariant-loop
invariant-loop l = Going l.program.source.now l.program.exprs.now l.program.count l.initial.h l.initial.names l.initial.nodes l.initial.work l.h l.names l.nodes l.work l.counter
