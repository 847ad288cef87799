-- `text::check_text` meets its contract. The loop's invariant: the answer is that for the text from `i` on.
use Prim.Native.Nat.{◌≤◌, ◌-◌}
use mathlib.Core.Path.{◌≡◌}
use lib.ListN.{length, drop}
use Rattle.text.specs.Check.{check_text, check_from}
use Rattle.text.proofs.check_text.Given as goal

abbrev pub invariant-loop-i : goal.invariant-loop-i
invariant-loop-i l = (l.i ≤ length l.source) × (check_text l.source ≡ check_from l.i 0 (drop l.i l.source))

abbrev pub decreases-loop-i : goal.decreases-loop-i
decreases-loop-i l = length l.source - l.i
