-- `lex::lex_text` meets its contract. The loop's invariant: `Going`, for every table that was cleared into the one where the
-- loop begins. Assumes nothing.
use Prim.Native.Nat.{ℕ, ◌-◌}
use mathlib.Core.Path.{◌≡◌}
use mathlib.Core.List.{List, []}
use lib.ListN.{length}
use Rattle.records.specs.Limits.{token_width}
use Rattle.tables.specs.Tables.{table_of}
use Rattle.lex.proofs.Going.{Going}
use Rattle.lex.proofs.lex_text.Given as goal

abbrev pub invariant-loop-at : goal.invariant-loop-at
invariant-loop-at l =
    (length l.tokens ≡ length l.initial.tokens) × ((old : List ℕ) → l.initial.tokens ≡ table_of token_width [] old → Going l.source old l.at l.count l.tokens)

abbrev pub decreases-loop-at : goal.decreases-loop-at
decreases-loop-at l = length l.source - l.at
