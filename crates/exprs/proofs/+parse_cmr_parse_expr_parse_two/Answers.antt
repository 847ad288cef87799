-- `exprs::parse_expr`, `exprs::parse_cmr` and `exprs::parse_two` meet their contracts: each by its head. Assumes nothing.
use mathlib.Core.Path.{ap, ◌∙◌}
use Rattle.records.proofs.Pairs.{ok_first, passed_on}
use Rattle.exprs.specs.Answers.{cmr_of, TwoReads, completed, completed_table}
use Rattle.exprs.proofs.Parses.{expr_deep, expr_whole, expr_refused, expr_parens, expr_unary, expr_two, expr_binary, binary_refused, expr_left, left_refused, expr_right, right_refused, cmr_braces, cmr_literal, cmr_refused}
use Rattle.exprs.proofs.+parse_cmr_parse_expr_parse_two.Goals as goal

pub parse_cmr-returns-in-Brace : goal.parse_cmr-returns-in-Brace
parse_cmr-returns-in-Brace t c = cmr_braces _ c.args.jets.now _ _ _ _ _ _ _ _ _ _ c.cmr_head.ensures (ok_first c.in_ok-head.was c.in-Brace.is) c.parse_expr-p.ensures (c.braced.ensures ∙ ap cmr_of c.close.ensures)

pub parse_cmr-returns-in-Literal : goal.parse_cmr-returns-in-Literal
parse_cmr-returns-in-Literal t c = cmr_literal _ c.args.jets.now _ _ _ _ _ _ _ _ c.cmr_head.ensures (ok_first c.in_ok-head.was c.in-Literal.is)

pub parse_cmr-returns-in_err-head : goal.parse_cmr-returns-in_err-head
parse_cmr-returns-in_err-head t c = rw (passed_on _ c.from_residual.ensures.1) (cmr_refused _ c.args.jets.now _ _ _ _ _ _ _ c.cmr_head.ensures c.in_err-head.was)

pub parse_expr-returns-then-depth-eq0 : goal.parse_expr-returns-then-depth-eq0
parse_expr-returns-then-depth-eq0 t c = λ ready. expr_deep _ c.args.jets.now _ _ _ _ _ _ c.if-depth-eq0.true c.refusal.ensures

pub parse_expr-returns-in-Whole : goal.parse_expr-returns-in-Whole
parse_expr-returns-in-Whole t c = expr_whole _ c.args.jets.now _ _ _ _ c.if-depth-eq0.false _ _ _ _ _ _ _ c.expr_head.ensures (ok_first c.in_ok-head.was c.in-Whole.is) (c.finish.ensures.answer, c.finish.ensures.table)

pub parse_expr-returns-in-Parens : goal.parse_expr-returns-in-Parens
parse_expr-returns-in-Parens t c = expr_parens _ c.args.jets.now _ _ _ _ c.if-depth-eq0.false _ _ _ _ _ _ c.expr_head.ensures (ok_first c.in_ok-head.was c.in-Parens.is) c.parse_expr-p.ensures c.close.ensures

pub parse_expr-returns-in-Unary : goal.parse_expr-returns-in-Unary
parse_expr-returns-in-Unary t c = expr_unary _ c.args.jets.now _ _ _ _ c.if-depth-eq0.false _ _ _ _ _ _ _ _ _ _ c.expr_head.ensures (ok_first c.in_ok-head.was c.in-Unary.is) c.parse_expr-p-in-Unary.ensures c.unary.ensures (c.finish-in-Unary.ensures.answer, c.finish-in-Unary.ensures.table)

pub parse_expr-returns-in-Two : goal.parse_expr-returns-in-Two
parse_expr-returns-in-Two t c = expr_two _ c.args.jets.now _ _ _ _ c.if-depth-eq0.false _ _ _ _ _ _ _ _ _ c.expr_head.ensures (ok_first c.in_ok-head.was c.in-Two.is) c.parse_two-p.ensures (c.finish-in-Two.ensures.answer, c.finish-in-Two.ensures.table)

pub parse_expr-returns-in_err-head : goal.parse_expr-returns-in_err-head
parse_expr-returns-in_err-head t c = rw (passed_on _ c.from_residual.ensures.1) (expr_refused _ c.args.jets.now _ _ _ _ c.if-depth-eq0.false _ _ _ c.expr_head.ensures c.in_err-head.was)

pub parse_two-returns-in_ok-left-in-Binary : goal.parse_two-returns-in_ok-left-in-Binary
unfolding TwoReads
parse_two-returns-in_ok-left-in-Binary t c = λ at b ready w. expr_binary _ c.args.jets.now _ _ b _ _ at _ _ _ _ _ _ _ _ _ _ c.in-Binary.is c.parse_expr.ensures c.in_ok-left-in-Binary.was c.parse_expr-p.ensures c.binary.ensures ready w

pub parse_two-returns-in_err-left-in-Binary : goal.parse_two-returns-in_err-left-in-Binary
unfolding TwoReads completed completed_table
parse_two-returns-in_err-left-in-Binary t c = rw (passed_on _ c.from_residual.ensures.1) (λ at b ready w. binary_refused _ c.args.jets.now _ _ b _ _ at _ _ _ _ _ _ c.in-Binary.is c.parse_expr.ensures c.in_err-left-in-Binary.was ready w)

pub parse_two-returns-in_ok-e-in-AssertL : goal.parse_two-returns-in_ok-e-in-AssertL
unfolding TwoReads
parse_two-returns-in_ok-e-in-AssertL t c = λ at b ready w. expr_left _ c.args.jets.now _ _ b _ _ at _ _ _ _ _ _ _ _ _ c.in-AssertL.is c.parse_expr-in-AssertL.ensures c.in_ok-e-in-AssertL.was c.parse_cmr-p.ensures c.assert_left.ensures ready w

pub parse_two-returns-in_err-e-in-AssertL : goal.parse_two-returns-in_err-e-in-AssertL
unfolding TwoReads completed completed_table
parse_two-returns-in_err-e-in-AssertL t c = rw (passed_on _ c.from_residual-in_err-e-in-AssertL.ensures.1) (λ at b ready w. left_refused _ c.args.jets.now _ _ b _ _ at _ _ _ _ _ c.in-AssertL.is c.parse_expr-in-AssertL.ensures c.in_err-e-in-AssertL.was ready w)

pub parse_two-returns-in_ok-cmr-in-AssertR : goal.parse_two-returns-in_ok-cmr-in-AssertR
unfolding TwoReads
parse_two-returns-in_ok-cmr-in-AssertR t c = λ at b ready w. expr_right _ c.args.jets.now _ _ b _ _ at _ _ _ _ _ _ _ _ _ c.in-AssertR.is c.parse_cmr.ensures c.in_ok-cmr-in-AssertR.was c.parse_expr-p-in-AssertR.ensures c.assert_right.ensures ready w

pub parse_two-returns-in_err-cmr-in-AssertR : goal.parse_two-returns-in_err-cmr-in-AssertR
unfolding TwoReads completed completed_table
parse_two-returns-in_err-cmr-in-AssertR t c = rw (passed_on _ c.from_residual-in_err-cmr-in-AssertR.ensures.1) (λ at b ready w. right_refused _ c.args.jets.now _ _ b _ _ at _ _ _ _ _ c.in-AssertR.is c.parse_cmr.ensures c.in_err-cmr-in-AssertR.was ready w)
