-- `symbols::find_name` meets its contract. The loop's invariant: the answer is that for the names behind the i passed. Assumes nothing.
use Prim.Native.Nat.{◌+◌}
use mathlib.Core.Path.{◌≡◌}
use Rattle.symbols.specs.Symbols.{find_from}
use Rattle.symbols.specs.Texts.{texts_from}
use Rattle.symbols.proofs.Texts.{found_from}
use Rattle.symbols.proofs.find_name.Given as goal

abbrev pub invariant-loop-i : goal.invariant-loop-i
invariant-loop-i l = find_from 1 (texts_from l.source l.names 1 l.count) l.text ≡ found_from l.source l.names l.count l.text (l.i + 1)
