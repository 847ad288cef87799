-- What the code answers for a line that the grammar reads: its record, the cursor behind it, and the records of its expression and
-- its types in the tables; and the answers of the functions on the way.
use Rattle.std.specs.Prelude.{ℕ, ◌<◌, ◌≡◌, List, [], ◌∷◌, map, eqb, length, if◌then◌else◌, Err, Ok}
use Rattle.records.specs.Limits.{expr_width, type_width}
use Rattle.records.specs.Records.{type_words}
use Rattle.records.specs.TokenKind as token
use Rattle.records.specs.declared.Span.{Span}
use Rattle.records.specs.declared.numbers.ExprNo.{ExprNo}
use Rattle.tables.specs.Tables.{filled, beyond}
use Rattle.lex.specs.Tokens.{Token}
use Rattle.checks.specs.declared.Fault.TheVariants.{ParseFailed}
use Rattle.cursor.specs.declared.Cursor.{Cursor}
use Rattle.cursor.specs.Cursor.{refusal_at, stepped, Reached, Answer}
use Rattle.grammar.specs.Tree.{Line}
use Rattle.grammar.specs.Rule.{Parsed, got, stop, is_of}
use Rattle.grammar.specs.Grammar.{names}
use Rattle.grammar.specs.Part.{span_of}
use Rattle.grammar.specs.Recorded.{line_part, exprs_of, types_in_line, line_record, line_types}
use Rattle.exprs.specs.Answers.{expr_rows}
use Rattle.lines.specs.declared.LineHead.{LineHead}
use Rattle.lines.specs.declared.LineHead.TheVariants.{Declared, Defined}
use Rattle.records.specs.declared.LineRecord.{LineRecord}
use Rattle.records.specs.declared.numbers.TypeNo.{TypeNo}

-- A line is answered with its record and the cursor behind it, and the records of its expression and its types stand in the tables.
-- A refusal leaves the words past the records.
abbrev pub LineReads : (source tokens : List ℕ) → (n : ℕ) → Cursor → Parsed Line → Answer LineRecord → (exprs exprs' types types' : List ℕ) → Type 0
LineReads s t n c (got l rest) r es es' ty ty' =
    (d : Cursor) × (r ≡ Ok ((line_record l c.expr.0 c.ty.0), d)) × Reached s t n c d rest (exprs_of l) (types_in_line l) × (c.token.0 < d.token.0)
    × (es' ≡ filled expr_width es c.expr.0 (expr_rows (line_part l) c.expr.0))
    × (ty' ≡ filled type_width ty c.ty.0 (map type_words (line_types l c.ty.0)))
LineReads s t n c (stop x rest) r es es' ty ty' =
    (r ≡ Err (refusal_at (length s) x rest)) × (beyond expr_width es' ≡ beyond expr_width es) × (beyond type_width ty' ≡ beyond type_width ty)

-- ---- on the way

unfoldable pub tail_by : (end : ℕ) → Span → Cursor → List Token → Answer LineHead
tail_by end x c [] = Err (refusal_at end ParseFailed [])
tail_by end x c (t ∷ ts) =
    if eqb t.kind.0 (token.number token.assign) then Ok (Defined x, (stepped c))
    else if eqb t.kind.0 (token.number token.colon) then Ok (Declared x, (stepped c))
    else Err (refusal_at end ParseFailed (t ∷ ts))

-- what begins a line: a name, then `:=` or `:`
unfoldable pub line_head_by : (end : ℕ) → Cursor → List Token → Answer LineHead
line_head_by end c [] = Err (refusal_at end ParseFailed [])
line_head_by end c (x ∷ ts) = if is_of x names then tail_by end (span_of x) (stepped c) ts else Err (refusal_at end ParseFailed (x ∷ ts))

-- a line, once its arrow is read
unfoldable pub line_by : Span → ExprNo → Answer (TypeNo × TypeNo) → Answer LineRecord
line_by x e (Ok ((a, b), c)) = Ok ((record { name = x; expr = e; source = a; target = b }), c)
line_by x e (Err r) = Err r
