-- `checks::exponent` meets its contract. The loop's invariant: the answer is that for the digits still to come, after `n`.
use mathlib.Core.Path.{◌∙◌}
use native.Mathlib.Omega.{arith}
use Rattle.checks.specs.Code.{capped}
use Rattle.checks.proofs.Powers.{exponent_more}
use Rattle.checks.proofs.exponent.Goals as goal

pub loop-d-preserved : goal.loop-d-preserved
unfolding capped
loop-d-preserved c = (
  omega (arith, c.push_digit-n.ensures),
  c.loop-d.invariant.1 ∙ exponent_more _ _ _ _ c.loop-d-test.true c.push_digit-n.ensures,
)
