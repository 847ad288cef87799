-- What the code of names reads and leaves: the tables and the source of lines that were parsed.
use Rattle.std.specs.Prelude.{ℕ, ◌+◌, ◌≤◌, ◌≡◌, List, length}
use Rattle.records.specs.Limits.{record_limit, line_width, expr_width, name_width, error_width}
use Rattle.tables.specs.Tables.{table_of}
use Rattle.lex.specs.Tokens.{Token}
use Rattle.literals.specs.Literals.{span_text}
use Rattle.grammar.specs.Tree.{Line}
use Rattle.grammar.specs.Part.{span_of}
use Rattle.grammar.specs.Recorded.{line_part, lines_exprs, line_rows, expr_rows_of}
use Rattle.grammar.specs.Places.{Each}
use Rattle.names.specs.Names.{names_of, name_rows, errors_of, error_rows}
use Rattle.names.specs.Uses.{Refers}
use Rattle.names.specs.declared.NameCounts.{NameCounts}

-- its text stands where the token says
abbrev pub InPlace : (source : List ℕ) → Token → Type 0
InPlace source t = span_text source (span_of t) ≡ t.text

-- The table of expressions is that of these lines, and their names and references stand in the source. There is room for a node of
-- each line and of each part.
pub record Held (source exprs : List ℕ) (ls : List Line) : Type 0 where
  pub old : List ℕ
  pub table : exprs ≡ table_of expr_width (expr_rows_of ls) old
  pub room : length ls + length (lines_exprs ls 0) ≤ record_limit
  pub names : Each (λ (l : Line). InPlace source l.name) ls
  pub references : Each (λ (l : Line). (t : Token) → Refers (line_part l) t → InPlace source t) ls

-- the table of lines is theirs too, and there are so many
pub record HeldLines (source lines exprs : List ℕ) (count : ℕ) (ls : List Line) : Type 0 where
  pub old : List ℕ
  pub table : lines ≡ table_of line_width (line_rows ls) old
  pub counted : count ≡ length ls
  pub held : Held source exprs ls

-- what step 1 answers and leaves
abbrev pub Entered : List Line → NameCounts → (names names' errors errors' : List ℕ) → Type 0
Entered ls r ns ns' es es' =
    (r ≡ record { names = length (names_of ls); errors = length (errors_of ls) })
    × (ns' ≡ table_of name_width (name_rows ls) ns)
    × (es' ≡ table_of error_width (error_rows (errors_of ls)) es)
