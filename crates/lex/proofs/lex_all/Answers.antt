-- `lex::lex_all` meets its contract: by the tests in document 01's order.
use native.Mathlib.Omega.{arith}
use Rattle.lex.proofs.Answers.{bad_inside, answer_short, answer_long, answer_bad, answer_ended}
use Rattle.lex.proofs.lex_all.Goals as goal

pub overflow_cast-result : goal.overflow_cast-result
overflow_cast-result c = omega (arith, bad_inside c.args.source.now _ _ c.check_text.ensures c.in-Err.is)

pub returns-in-Err : goal.returns-in-Err
returns-in-Err c =
    let q = answer_bad _ _ c.if-tokens-lt-TABLE.false c.if-source-gt-SOURCE_LIMIT.false _ _ _ c.check_text.ensures c.in-Err.is c.clear_tokens-in-Err.ensures in
    record { answer = q.0; table = q.1 }

pub returns-in-Ok : goal.returns-in-Ok
returns-in-Ok c =
    let q = answer_ended _ _ c.if-tokens-lt-TABLE.false c.if-source-gt-SOURCE_LIMIT.false _ _ _ c.check_text.ensures c.in-Ok.is c.lex_text.ensures.answer c.lex_text.ensures.table in
    record { answer = q.0; table = q.1 }

pub returns-then-source-gt-SOURCE_LIMIT : goal.returns-then-source-gt-SOURCE_LIMIT
returns-then-source-gt-SOURCE_LIMIT c =
    let q = answer_long _ _ c.if-tokens-lt-TABLE.false _ c.if-source-gt-SOURCE_LIMIT.true c.clear_tokens.ensures in
    record { answer = q.0; table = q.1 }

pub returns-then-tokens-lt-TABLE : goal.returns-then-tokens-lt-TABLE
returns-then-tokens-lt-TABLE c =
    let q = answer_short _ _ c.if-tokens-lt-TABLE.true in
    record { answer = q.0; table = q.1 }
