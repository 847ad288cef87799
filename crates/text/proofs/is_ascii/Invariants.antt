-- `text::is_ascii` meets its contract. The loop's invariant: what is left decides, where all is well so far. Assumes nothing.
use mathlib.Core.Path.{◌≡◌}
use mathlib.Core.Bool.{◌&&◌}
use lib.ListN.{drop}
use Rattle.std.specs.List.{list_all}
use Rattle.text.proofs.Laws.{single}
use Rattle.text.proofs.is_ascii.Given as goal

abbrev pub invariant-loop-byte : goal.invariant-loop-byte
invariant-loop-byte l = list_all single l.block ≡ (l.all && list_all single (drop l.byte-index l.block))
