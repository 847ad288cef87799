-- How the code goes about it: what is listed for an answer, by the words of the tables.
use Rattle.std.specs.Prelude.{ℕ, List, Err, Ok, Result}
use Rattle.ends.specs.Rows.{row_of_parse_error}
use Rattle.rows.specs.Rows.{refused_row}
use Rattle.rows.specs.Words.{listed_at}
use Rattle.ends.specs.declared.ParseError.{ParseError}
use Rattle.ends.specs.declared.ReadCounts.{ReadCounts}

unfoldable pub text_of : (source : List ℕ) → Result ReadCounts ParseError → (names nodes errors : List ℕ) → List ℕ
text_of source (Ok n) names nodes errors = listed_at source names n.names nodes n.nodes errors n.errors
text_of source (Err e) names nodes errors = refused_row source (row_of_parse_error e)
