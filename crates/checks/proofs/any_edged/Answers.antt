-- `checks::any_edged` meets its contract. The loop's invariant: the answer is that for the offsets passed.
use mathlib.Core.Path.{refl}
use native.Mathlib.Numerals.{add-one}
use native.Mathlib.Omega.{arith}
use Rattle.checks.specs.Code.{edged, any_edged}
use Rattle.checks.proofs.any_edged.Goals as goal

pub loop-k-init : goal.loop-k-init
unfolding any_edged
loop-k-init c = (omega arith, refl)

pub loop-k-preserved : goal.loop-k-preserved
unfolding any_edged edged
loop-k-preserved c = (omega arith, rw (add-one c.loop-k.k, c.loop-k.invariant.1))
