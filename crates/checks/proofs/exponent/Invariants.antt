-- `checks::exponent` meets its contract. The loop's invariant: the answer is that for the digits still to come, after `n`.
use Prim.Native.Nat.{◌≤◌}
use mathlib.Core.Path.{◌≡◌}
use lib.ListN.{drop}
use Rattle.checks.specs.Powers.{number_from, exponent_of}
use Rattle.checks.specs.Code.{exponent_cap, capped}
use Rattle.checks.proofs.exponent.Given as goal

abbrev pub invariant-loop-d : goal.invariant-loop-d
invariant-loop-d l = (l.n ≤ exponent_cap) × (capped (exponent_of l.fn.text) ≡ capped (number_from l.n (drop l.d-index l.d-items)))
