-- `types::parse_type` and `types::parse_type_atom` meet their contracts. The loop's invariant: what goes on from where the
-- loop began goes on now. Assumes nothing.
use Prim.Native.Nat.{◌+◌, ◌-◌}
use mathlib.Core.Path.{◌≡◌}
use mathlib.Core.List.{List}
use Prim.Native.Nat.{ℕ}
use lib.ListN.{length}
use Rattle.checks.specs.Checks.{checks_of}
use Rattle.cursor.specs.declared.Cursor.{Cursor}
use Rattle.cursor.specs.Cursor.{Ready}
use Rattle.grammar.specs.Tree.{Ty}
use Rattle.grammar.specs.Rule.{Parsed}
use Rattle.types.proofs.Chain.{Going}
use Rattle.types.proofs.+parse_type_parse_type_atom.Given as goal

abbrev pub decreases-parse_type : goal.decreases-parse_type
decreases-parse_type l = l.depth + l.depth

abbrev pub decreases-parse_type_atom : goal.decreases-parse_type_atom
decreases-parse_type_atom l = l.depth + l.depth + 1

abbrev pub invariant-parse_type-loop-turn : goal.invariant-parse_type-loop-turn
invariant-parse_type-loop-turn l =
    (length l.types ≡ length l.initial.types)
    × ((jets old : List ℕ) (c : Cursor) (ready : Ready l.tokens.count c) (W : Parsed Ty) → Going (checks_of jets) (l.depth - 1) l.tokens.source.now l.tokens.table.now l.tokens.count c ready W 0 l.initial.p old l.initial.types → Going (checks_of jets) (l.depth - 1) l.tokens.source.now l.tokens.table.now l.tokens.count c ready W l._turn l.p old l.types)
