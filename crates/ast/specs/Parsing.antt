-- Document 01: the lines of a source, with refusals 1 to 13 in their order; and what the four tables hold then.
use Rattle.std.specs.Prelude.{ℕ, ◌*◌, Bool, ◌||◌, List, [], ltb, length, if◌then◌else◌, Err, Ok, Result}
use Rattle.records.specs.Limits.{record_limit, token_width, line_width, expr_width, type_width}
use Rattle.tables.specs.Tables.{table_of}
use Rattle.lex.specs.Tokens.{Token, lexing, rows_of, lex_all}
use Rattle.checks.specs.Checks.{checks_of}
use Rattle.cursor.specs.Cursor.{refusal_at}
use Rattle.grammar.specs.Tree.{Line}
use Rattle.grammar.specs.Rule.{Parsed, got, stop}
use Rattle.grammar.specs.Grammar.{lines}
use Rattle.grammar.specs.Recorded.{lines_exprs, lines_types, line_rows, expr_rows_of, type_rows_of}
use Rattle.ends.specs.declared.Counts.{Counts}
use Rattle.lex.specs.declared.LexError.{LexError}
use Rattle.lex.specs.declared.LexError.TheVariants.{LongSource, NoToken, NotUtf8, ShortTable, TooManyTokens}
use Rattle.cursor.specs.declared.ParseRefusal.{ParseRefusal}
use Rattle.ends.specs.declared.ParseError.{ParseError}
use Rattle.ends.specs.declared.ParseError.TheVariants.{NotLexed, Refused}

-- ---- what was read

-- the lines that count: none after a refusal
abbrev pub lines_in : Parsed (List Line) → List Line
lines_in (got ls rest) = ls
lines_in (stop x rest) = []

abbrev pub counts_of_lines : List Token → List Line → Counts
counts_of_lines ts ls = record { tokens = length ts; lines = length ls; exprs = length (lines_exprs ls 0); types = length (lines_types ls 0) }

-- how the parsing of tokens ends; `end` is end of source as a place
abbrev pub end_by : (end : ℕ) → List Token → Parsed (List Line) → Result Counts ParseRefusal
end_by end ts (got ls rest) = Ok (counts_of_lines ts ls)
end_by end ts (stop x rest) = Err (refusal_at end x rest)

-- the table of tokens: a refusal sets its records to zero
abbrev pub tokens_kept : Parsed (List Line) → (table : List ℕ) → List ℕ
tokens_kept (got ls rest) table = table
tokens_kept (stop x rest) table = table_of token_width [] table

-- ---- any source, any jet list, any lent tables

-- the four tables
pub record ParserTables : Type 0 where
  pub tokens : List ℕ
  pub lines : List ℕ
  pub exprs : List ℕ
  pub types : List ℕ

abbrev pub tables : (tokens lines exprs types : List ℕ) → ParserTables
tables ts ls es ty = record { tokens = ts; lines = ls; exprs = es; types = ty }

-- refusal 1: a table has fewer words than 1,024 records
unfoldable pub short_to_parse_by : (tokens lines exprs types : ℕ) → Bool
short_to_parse_by ts ls es ty =
    (((ltb ts (record_limit * token_width) || ltb ls (record_limit * line_width)) || ltb es (record_limit * expr_width))
    || ltb ty (record_limit * type_width))

abbrev pub short_to_parse : ParserTables → Bool
short_to_parse t = short_to_parse_by (length t.tokens) (length t.lines) (length t.exprs) (length t.types)

-- the lines of the tokens, by the grammar
abbrev pub parsing : (source jets : List ℕ) → Parsed (List Line)
parsing source jets = lines (checks_of jets) (lexing source).tokens

-- the tokens that count: none after a refusal
abbrev pub tokens_in : List Token → Parsed (List Line) → List Token
tokens_in ts (got ls rest) = ts
tokens_in ts (stop x rest) = []

-- tables with the records of these tokens and lines, and with no other
abbrev pub holding_lines : List Token → List Line → ParserTables → ParserTables
holding_lines ts ls old =
    record {
      tokens = table_of token_width (rows_of ts) old.tokens;
      lines = table_of line_width (line_rows ls) old.lines;
      exprs = table_of expr_width (expr_rows_of ls) old.exprs;
      types = table_of type_width (type_rows_of ls) old.types;
    }

-- the grammar's refusal is why a source is not parsed
abbrev pub parsed_of : Result Counts ParseRefusal → Result Counts ParseError
parsed_of (Ok n) = Ok n
parsed_of (Err r) = Err (Refused r)

-- what is answered once the source is lexed: 6 to 13 only when the whole source has lexed
abbrev pub parsed_by : (source jets : List ℕ) → Result ℕ LexError → Result Counts ParseError
parsed_by source jets (Ok n) = parsed_of (end_by (length source) (lexing source).tokens (parsing source jets))
parsed_by source jets (Err e) = Err (NotLexed e)

-- refusal 1 changes no word; 2 to 13 set the records to zero
abbrev pub left_by : (source jets : List ℕ) → ParserTables → Result ℕ LexError → ParserTables
left_by source jets old (Ok n) = holding_lines (tokens_in (lexing source).tokens (parsing source jets)) (lines_in (parsing source jets)) old
left_by source jets old (Err (NoToken at)) = holding_lines [] [] old
left_by source jets old (Err (TooManyTokens at)) = holding_lines [] [] old
left_by source jets old (Err ShortTable) = old
left_by source jets old (Err LongSource) = holding_lines [] [] old
left_by source jets old (Err (NotUtf8 at)) = holding_lines [] [] old

abbrev pub lex_answer : (source : List ℕ) → ParserTables → Result ℕ LexError
lex_answer source old = if short_to_parse old then Err ShortTable else lex_all source old.tokens

unfoldable pub parse_all : (source jets : List ℕ) → ParserTables → Result Counts ParseError
parse_all source jets old = parsed_by source jets (lex_answer source old)

unfoldable pub tables_after : (source jets : List ℕ) → ParserTables → ParserTables
tables_after source jets old = left_by source jets old (lex_answer source old)
