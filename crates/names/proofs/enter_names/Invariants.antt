-- `names::enter_names` meets its contract. The loop's invariant: `SoFar`, for all tables that were cleared into those where the loop
-- begins, and all lines that are held. Assumes nothing.
use Prim.Native.Nat.{ℕ}
use mathlib.Core.Path.{◌≡◌}
use mathlib.Core.List.{List, []}
use Rattle.records.specs.Limits.{name_width, error_width}
use Rattle.tables.specs.Tables.{table_of}
use Rattle.grammar.specs.Tree.{Line}
use Rattle.names.specs.Held.{HeldLines}
use Rattle.names.proofs.Loop.{SoFar}
use Rattle.names.proofs.enter_names.Given as goal

abbrev pub invariant-loop-number : goal.invariant-loop-number
invariant-loop-number l =
    (old_n old_e : List ℕ) → l.initial.names ≡ table_of name_width [] old_n → l.initial.errors ≡ table_of error_width [] old_e → (ls : List Line) → HeldLines l.source l.lines l.exprs l.count ls
    → SoFar old_n old_e ls l.number l.counts l.names l.errors
