-- `checks::is_listed` meets its contract. The loop's invariant: the answer is that for the list from `at` on.
use Prim.Native.Nat.{◌-◌, ◌≤◌}
use mathlib.Core.Path.{◌≡◌}
use lib.ListN.{length, drop}
use Rattle.checks.specs.Jets.{pieces, is_one_of}
use Rattle.checks.specs.Code.{is_later}
use Rattle.checks.proofs.is_listed.Given as goal

abbrev pub invariant-loop-at : goal.invariant-loop-at
invariant-loop-at l = (l.at ≤ length l.jets) × (is_one_of l.name (pieces l.jets) ≡ is_later l.name (drop l.at l.jets))

abbrev pub decreases-loop-at : goal.decreases-loop-at
decreases-loop-at l = length l.jets - l.at
