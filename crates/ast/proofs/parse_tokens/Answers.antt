-- `ast::parse_tokens` meets its contract. The loop's invariant: `Going`, for all tables that were cleared into those where the loop
-- begins. Assumes nothing.
use mathlib.Core.Path.{refl, ◌∙◌}
use native.Mathlib.Omega.{arith}
use Rattle.ast.proofs.Loop.{going_start, going_done, going_read, going_stopped}
use Rattle.ast.proofs.parse_tokens.Goals as goal

pub loop-c-init : goal.loop-c-init
loop-c-init c = (refl, refl, refl, λ few old_l old_e old_t el ee et. going_start _ _ _ few _ old_l old_e old_t _ _ _ el ee et)

pub loop-c-preserved : goal.loop-c-preserved
loop-c-preserved c = (
  c.write_record.auto.table ∙ c.loop-c.invariant.0,
  c.parse_line.auto.exprs ∙ c.loop-c.invariant.1,
  c.parse_line.auto.types ∙ c.loop-c.invariant.2,
  λ few old_l old_e old_t el ee et. (going_read _ _ _ few _ old_l old_e old_t _ _ _ _ _ (c.loop-c.invariant.3 few old_l old_e old_t el ee et) c.loop-c-test.true _ _ _ _ _ _ _ c.parse_line.ensures c.in-Ok.is c.next_number-made.ensures c.write_record.ensures).0,
)

pub loop-c-smaller : goal.loop-c-smaller
loop-c-smaller c =
    let was = c.loop-c.invariant.3 c.requires.1 _ _ _ c.clear_parsed.ensures.lines c.clear_parsed.ensures.exprs c.clear_parsed.ensures.types in
    let g = going_read _ _ _ c.requires.1 _ _ _ _ _ _ _ _ _ was c.loop-c-test.true _ _ _ _ _ _ _ c.parse_line.ensures c.in-Ok.is c.next_number-made.ensures c.write_record.ensures in
    omega (arith, g.1, g.2)

pub returns : goal.returns
returns c =
    let was = c.loop-c.invariant.3 c.requires.1 _ _ _ c.clear_parsed.ensures.lines c.clear_parsed.ensures.exprs c.clear_parsed.ensures.types in
    let g = going_done _ _ _ c.requires.1 _ _ _ _ _ _ _ _ _ was c.loop-c-test.false in
    record { answer = g.0; lines = g.1; exprs = g.2; types = g.3 }

pub returns-in-Err : goal.returns-in-Err
returns-in-Err c =
    let was = c.loop-c.invariant.3 c.requires.1 _ _ _ c.clear_parsed.ensures.lines c.clear_parsed.ensures.exprs c.clear_parsed.ensures.types in
    let g = going_stopped _ _ _ c.requires.1 _ _ _ _ _ _ _ _ _ was c.loop-c-test.true _ _ _ _ _ _ _ c.parse_line.ensures c.in-Err.is c.clear_parsed-in-Err.ensures.lines c.clear_parsed-in-Err.ensures.exprs c.clear_parsed-in-Err.ensures.types in
    record { answer = g.0; lines = g.1; exprs = g.2; types = g.3 }
