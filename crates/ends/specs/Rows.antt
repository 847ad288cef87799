-- The parser's and the reader's rows of document 01's table of refusals, and the counts of records.
use Rattle.std.specs.Prelude.{Result, Ok, Err}
use Rattle.records.specs.Refusals.{row_by}
use Rattle.records.specs.declared.refusals.Refusal.{Refusal}
use Rattle.lex.specs.Tokens.{row_of_lex_error}
use Rattle.cursor.specs.Cursor.{row_of_refused}
use Rattle.ends.specs.declared.Counts.{Counts}
use Rattle.ends.specs.declared.ReadCounts.{ReadCounts}
use Rattle.ends.specs.declared.ParseError.{ParseError}
use Rattle.ends.specs.declared.ParseError.TheVariants.{NotLexed, Refused}

-- the row of what stops parsing: the lexer's, or the grammar's
abbrev pub row_of_parse_error : ParseError → Refusal
row_of_parse_error (NotLexed e) = row_of_lex_error e
row_of_parse_error (Refused r) = row_of_refused r

abbrev pub row_of_parse : Result Counts ParseError → Refusal
row_of_parse a = row_by row_of_parse_error a

-- an answer's row and counts (reader/proofs/Answers.antt: they are those of the reading)
abbrev pub row_of_read : Result ReadCounts ParseError → Refusal
row_of_read a = row_by row_of_parse_error a

abbrev pub no_counts : Counts
no_counts = record { tokens = 0; lines = 0; exprs = 0; types = 0 }

abbrev pub no_read_counts : ReadCounts
no_read_counts = record { parsed = no_counts; names = 0; nodes = 0; errors = 0 }

-- an error leaves no record
abbrev pub counts_of_parse : Result Counts ParseError → Counts
counts_of_parse (Ok n) = n
counts_of_parse (Err e) = no_counts

abbrev pub counts_of_read : Result ReadCounts ParseError → ReadCounts
counts_of_read (Ok n) = n
counts_of_read (Err e) = no_read_counts
