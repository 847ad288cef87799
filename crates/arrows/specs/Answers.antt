-- What the code answers for an arrow that the grammar reads: the numbers of its types, the cursor behind it and their records in the
-- table.
use Rattle.std.specs.Prelude.{ℕ, ◌+◌, ◌≡◌, List, ◌++◌, map, length, Err, Ok}
use Rattle.std.proofs.Math.Option.{Option}
use Rattle.records.specs.Limits.{type_width}
use Rattle.records.specs.Records.{type_words}
use Rattle.records.specs.declared.numbers.TypeNo.{TypeNo}
use Rattle.tables.specs.Tables.{filled, beyond}
use Rattle.cursor.specs.declared.Cursor.{Cursor}
use Rattle.cursor.specs.Cursor.{refusal_at, Reached, Answer}
use Rattle.grammar.specs.Tree.{Arrow, arrow_or}
use Rattle.grammar.specs.Rule.{Parsed, got, stop}
use Rattle.grammar.specs.Recorded.{type_weight, type_no, type_records}

-- the words of the records of an arrow: its source's, then its target's
abbrev pub arrow_rows : Arrow → (before : ℕ) → List (List ℕ)
arrow_rows a m = map type_words (type_records a.source m ++ type_records a.target (m + type_weight a.source))

abbrev pub ArrowReads : (source tokens : List ℕ) → (n : ℕ) → Cursor → Parsed Arrow → Answer (TypeNo × TypeNo) → (old new : List ℕ) → Type 0
ArrowReads s t n c (got a rest) r old new =
    (d : Cursor)
    × (r ≡ Ok (((record { 0 = type_no a.source c.ty.0 }), (record { 0 = type_no a.target (c.ty.0 + type_weight a.source) })), d))
    × Reached s t n c d rest 0 (type_weight a.source + type_weight a.target)
    × (new ≡ filled type_width old c.ty.0 (arrow_rows a c.ty.0))
ArrowReads s t n c (stop x rest) r old new = (r ≡ Err (refusal_at (length s) x rest)) × (beyond type_width new ≡ beyond type_width old)

-- an arrow that does not stand there has absent types
abbrev pub or_absent : Parsed (Option Arrow) → Parsed Arrow
or_absent (got a rest) = got (arrow_or a) rest
or_absent (stop x rest) = stop x rest
