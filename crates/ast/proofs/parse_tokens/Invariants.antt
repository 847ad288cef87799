-- `ast::parse_tokens` meets its contract. The loop's invariant: `Going`, for all tables that were cleared into those where the loop
-- begins. Assumes nothing.
use Prim.Native.Nat.{ℕ, ◌-◌, ◌≤◌}
use mathlib.Core.Path.{◌≡◌}
use mathlib.Core.List.{List, []}
use lib.ListN.{length}
use Rattle.records.specs.Limits.{record_limit, line_width, expr_width, type_width}
use Rattle.tables.specs.Tables.{table_of}
use Rattle.checks.specs.Checks.{checks_of}
use Rattle.ast.proofs.Loop.{Going}
use Rattle.ast.proofs.parse_tokens.Given as goal

abbrev pub invariant-loop-c : goal.invariant-loop-c
invariant-loop-c l =
    (length l.lines ≡ length l.initial.lines) × (length l.exprs ≡ length l.initial.exprs) × (length l.types ≡ length l.initial.types)
    × ((few : l.tokens.count ≤ record_limit) (old_l old_e old_t : List ℕ) → l.initial.lines ≡ table_of line_width [] old_l → l.initial.exprs ≡ table_of expr_width [] old_e → l.initial.types ≡ table_of type_width [] old_t
    → Going l.tokens.source.now l.tokens.table.now l.tokens.count few (checks_of l.jets) old_l old_e old_t l.c l.made l.lines l.exprs l.types)

abbrev pub decreases-loop-c : goal.decreases-loop-c
decreases-loop-c l = l.tokens.count - l.c.token.0
