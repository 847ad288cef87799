-- `heads::expr_head` meets its contract: by what is ahead. Assumes nothing.
use Rattle.heads.proofs.Heads.{headed}
use Rattle.heads.proofs.expr_head.Goals as goal

pub returns-in-Some : goal.returns-in-Some
returns-in-Some c = λ ready. headed _ _ _ _ _ ready c.peek.ensures _ _ _ c.in-Some.is c.head_of.ensures
