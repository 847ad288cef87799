-- `symbols::same_text` meets its contract. The loop's invariant: the answer is that for what is behind the blocks passed.
use Prim.Native.Nat.{◌*◌}
use mathlib.Core.Path.{◌≡◌}
use lib.ListN.{drop}
use Rattle.checks.specs.Jets.{same}
use Rattle.symbols.proofs.same_text.Given as goal

abbrev pub invariant-loop-block : goal.invariant-loop-block
invariant-loop-block l = same l.a l.b ≡ same (drop (l.block * 8) l.a) (drop (l.block * 8) l.b)
