-- `names::enter_names` meets its contract. The loop's invariant: `SoFar`, for all tables that were cleared into those where the loop
-- begins, and all lines that are held. Assumes nothing.
use native.Mathlib.Omega.{arith}
use Rattle.records.specs.Limits.{name_width, error_width}
use Rattle.names.proofs.Loop.{so_far_start, so_far_more, so_far_all, cleared}
use Rattle.names.proofs.enter_names.Goals as goal

pub loop-number-init : goal.loop-number-init
loop-number-init c = λ old_n old_e en ee ls h. so_far_start _ _ _ old_n old_e _ ls h _ _ en ee

pub loop-number-preserved : goal.loop-number-preserved
loop-number-preserved c =
    λ old_n old_e en ee ls h. so_far_more _ _ _ old_n old_e _ ls h _ _ _ _ _ _ _ c.loop-number-test.true (c.loop-number.invariant old_n old_e en ee ls h) c.enter_line-counts.ensures

-- there are no lines
pub returns : goal.returns
returns c = λ ls h. so_far_all _ _ _ _ _ _ ls h _ _ _ _ c.loop-number-test.false (c.loop-number.invariant _ _ (cleared name_width _ _ c.requires.0 c.clear.ensures) (cleared error_width _ _ c.requires.1 c.clear-2.ensures) ls h)

-- the last line was entered
pub returns-2 : goal.returns-2
returns-2 c = λ ls h. so_far_all _ _ _ _ _ _ ls h _ _ _ _ (omega arith)
    (so_far_more _ _ _ _ _ _ ls h _ _ _ _ _ _ _ c.loop-number-test.true (c.loop-number.invariant _ _ (cleared name_width _ _ c.requires.0 c.clear.ensures) (cleared error_width _ _ c.requires.1 c.clear-2.ensures) ls h) c.enter_line-counts.ensures)
