-- What a host is handed for an answer: a struct of numbers.
use Rattle.records.specs.declared.Span.{Span}
use Rattle.lex.specs.Tokens.{row_of_lex, count_of}
use Rattle.ends.specs.Rows.{row_of_parse, counts_of_parse, row_of_read, counts_of_read}
use Rattle.answers.specs.declared.LexedRow.{LexedRow}
use Rattle.answers.specs.declared.ParsedRow.{ParsedRow}
use Rattle.answers.specs.declared.ReadRow.{ReadRow}
use Rattle.answers.specs.declared.PartRow.{PartRow}
use Rattle.answers.specs.declared.ListedRow.{ListedRow}
use Rattle.lex.specs.declared.LexError.{LexError}
use Rattle.std.specs.Prelude.{ℕ, Result, Option, Some, None}
use Rattle.ends.specs.declared.Counts.{Counts}
use Rattle.ends.specs.declared.ParseError.{ParseError}
use Rattle.ends.specs.declared.ReadCounts.{ReadCounts}

-- the row of the table of refusals, and how many tokens there are
unfoldable pub lexed_row : Result ℕ LexError → LexedRow
lexed_row a = record { no = (row_of_lex a).no; value = (row_of_lex a).value; place = (row_of_lex a).place; tokens = count_of a }

-- the row of the table of refusals, and how many records there are of each table
unfoldable pub parsed_row : Result Counts ParseError → ParsedRow
parsed_row a =
    record {
      no = (row_of_parse a).no;
      value = (row_of_parse a).value;
      place = (row_of_parse a).place;
      tokens = (counts_of_parse a).tokens;
      lines = (counts_of_parse a).lines;
      exprs = (counts_of_parse a).exprs;
      types = (counts_of_parse a).types;
    }

unfoldable pub read_row : Result ReadCounts ParseError → ReadRow
read_row a =
    record {
      no = (row_of_read a).no;
      value = (row_of_read a).value;
      place = (row_of_read a).place;
      tokens = (counts_of_read a).parsed.tokens;
      lines = (counts_of_read a).parsed.lines;
      exprs = (counts_of_read a).parsed.exprs;
      types = (counts_of_read a).parsed.types;
      names = (counts_of_read a).names;
      nodes = (counts_of_read a).nodes;
      errors = (counts_of_read a).errors;
    }

-- where a part of the source starts and how many bytes it has
abbrev pub part_row : Span → PartRow
part_row s = record { start = s.start.0; len = s.len }

-- 1 and how many bytes, or 0 and none where there is no room
unfoldable pub listed_row : Option ℕ → ListedRow
listed_row (Some n) = record { listed = 1; len = n }
listed_row None = record { listed = 0; len = 0 }
