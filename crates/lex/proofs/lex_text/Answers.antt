-- `lex::lex_text` meets its contract. The loop's invariant: `Going`, for every table that was cleared into the one where the
-- loop begins. Assumes nothing.
use mathlib.Core.Path.{◌∙◌}
use native.Mathlib.Omega.{arith}
use Rattle.lex.proofs.Going.{stepped, going_done}
use Rattle.lex.proofs.lex_text.Goals as goal

pub loop-at-preserved : goal.loop-at-preserved
loop-at-preserved c = (
  c.lex_next.auto.tokens ∙ c.loop-at.invariant.0,
  λ old e. (stepped _ _ _ _ _ _ (c.loop-at.invariant.1 old e) c.loop-at-test.true _ c.in-Ok.is c.lex_next.ensures.next c.lex_next.ensures.table).0,
)

pub loop-at-smaller : goal.loop-at-smaller
loop-at-smaller c =
    let t = stepped _ _ _ _ _ _ (c.loop-at.invariant.1 _ c.clear_tokens.ensures) c.loop-at-test.true _ c.in-Ok.is c.lex_next.ensures.next c.lex_next.ensures.table in
    omega (arith, t.1, t.2)

pub returns : goal.returns
returns c =
    let q = going_done _ _ _ _ _ (c.loop-at.invariant.1 c.args.tokens.now c.clear_tokens.ensures) c.loop-at-test.false in
    record { answer = q.0; table = q.1 }

pub returns-in-Err : goal.returns-in-Err
returns-in-Err c =
    let t = stepped _ _ _ _ _ _ (c.loop-at.invariant.1 c.args.tokens.now c.clear_tokens.ensures) c.loop-at-test.true _ c.in-Err.is c.lex_next.ensures.next c.lex_next.ensures.table in
    record { answer = t.answer; table = c.clear_tokens-in-Err.ensures ∙ t.table }
