-- `symbols::same_block` meets its contract.
use mathlib.Core.Path.{refl}
use native.Mathlib.Omega.{arith}
use Rattle.checks.specs.Jets.{same}
use Rattle.symbols.proofs.same_block.Goals as goal

pub loop-k-init : goal.loop-k-init
unfolding same
loop-k-init c = (omega arith, refl)
