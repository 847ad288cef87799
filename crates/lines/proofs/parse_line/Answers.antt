-- `lines::parse_line` meets its contract: by what begins the line, then by its expression. Assumes nothing.
use Rattle.records.proofs.Pairs.{ok_first, passed_on}
use Rattle.lines.proofs.OneLine.{line_refused, line_declared, line_unread, line_defined}
use Rattle.lines.proofs.parse_line.Goals as goal

pub returns-in-Declared : goal.returns-in-Declared
returns-in-Declared c = λ ready. line_declared _ _ _ _ ready _ _ _ _ _ _ _ _ _ c.line_head.ensures (ok_first c.in_ok-head.was c.in-Declared.is) (c.parse_arrow-p.ensures _) c.line_of-in-Declared.ensures

pub returns-in_ok-e-in-Defined : goal.returns-in_ok-e-in-Defined
returns-in_ok-e-in-Defined c = λ ready. line_defined _ _ _ _ ready _ _ _ _ _ _ _ c.line_head.ensures (ok_first c.in_ok-head.was c.in-Defined.is) c.parse_expr.ensures _ _ _ _ _ _ c.in_ok-e-in-Defined.was (c.parse_optional_arrow-p.ensures _) c.line_of.ensures

pub returns-in_err-head : goal.returns-in_err-head
returns-in_err-head c = rw (passed_on _ c.from_residual.ensures.1) (λ ready. line_refused _ _ _ _ ready _ _ _ _ _ c.line_head.ensures c.in_err-head.was)

pub returns-in_err-e-in-Defined : goal.returns-in_err-e-in-Defined
returns-in_err-e-in-Defined c = rw (passed_on _ c.from_residual-in_err-e-in-Defined.ensures.1) (λ ready. line_unread _ _ _ _ ready _ _ _ _ _ _ _ c.line_head.ensures (ok_first c.in_ok-head.was c.in-Defined.is) c.parse_expr.ensures _ _ c.in_err-e-in-Defined.was)
