-- Document 01: what a source says, and what eight lent tables hold then.
use Rattle.std.specs.Prelude.{ℕ, ◌*◌, Bool, ◌||◌, List, [], map, ltb, length, if◌then◌else◌, Err, Ok, Result}
use Rattle.records.specs.Limits.{source_limit, record_limit, token_width, line_width, expr_width, type_width, name_width, node_width, error_width, work_width}
use Rattle.records.specs.Records.{token_words, line_words, expr_words, type_words, name_words, node_words, error_words}
use Rattle.records.specs.Refusals as refusal
use Rattle.records.specs.Refusals.{Refused, row_of, no_row}
use Rattle.records.specs.declared.refusals.Refusal.{Refusal}
use Rattle.records.specs.declared.TokenRecord.{TokenRecord}
use Rattle.records.specs.declared.LineRecord.{LineRecord}
use Rattle.records.specs.declared.ExprRecord.{ExprRecord}
use Rattle.records.specs.declared.TypeRecord.{TypeRecord}
use Rattle.records.specs.declared.NameRecord.{NameRecord}
use Rattle.records.specs.declared.NodeRecord.{NodeRecord}
use Rattle.records.specs.declared.ErrorRecord.{ErrorRecord}
use Rattle.tables.specs.Tables.{table_of}
use Rattle.text.specs.Check.{check_text}
use Rattle.lex.specs.Tokens.{Token, record_of, lexing, refused_of_lex}
use Rattle.checks.specs.Checks.{refused_at}
use Rattle.checks.specs.declared.Fault.{Fault}
use Rattle.checks.specs.declared.Fault.TheVariants.{ParseFailed, BadWordLength, EntropyInsufficient, EntropyTooMuch, UnknownJet, Bad2ExpNumber, NumberOutOfRange, TooDeep}
use Rattle.cursor.specs.Cursor.{place_of_left}
use Rattle.grammar.specs.Tree.{Line}
use Rattle.grammar.specs.Rule.{Parsed, got, stop}
use Rattle.grammar.specs.Recorded.{line_records, lines_exprs, lines_types}
use Rattle.ast.specs.Parsing as ast
use Rattle.ast.specs.Parsing.{tables, parsing}
use Rattle.names.specs.Names.{error_record}
use Rattle.walk.specs.Nodes.{nodes_of, node_records, name_records}
use Rattle.errors.specs.Errors.{all_errors}
use Rattle.ends.specs.declared.ReadCounts.{ReadCounts}
use Rattle.text.specs.declared.TextError.{TextError}
use Rattle.lex.specs.declared.LexError.{LexError}
use Rattle.lex.specs.declared.LexError.TheVariants.{LongSource, NoToken, NotUtf8, ShortTable, TooManyTokens}
use Rattle.ends.specs.declared.ParseError.{ParseError}
use Rattle.ends.specs.declared.ParseError.TheVariants.{NotLexed, Refused as NotParsed}

-- ---- the reading

-- what the reader gives: seven lists of records
pub record Contents : Type 0 where
  pub tokens : List TokenRecord
  pub lines : List LineRecord
  pub exprs : List ExprRecord
  pub types : List TypeRecord
  pub names : List NameRecord
  pub nodes : List NodeRecord
  pub errors : List ErrorRecord

abbrev pub nothing : Contents
nothing = record { tokens = []; lines = []; exprs = []; types = []; names = []; nodes = []; errors = [] }

-- the contents of a source with these tokens and lines
unfoldable pub contents : List Token → List Line → Contents
contents ts ls =
    record {
      tokens = map record_of ts;
      lines = line_records ls 0 0;
      exprs = lines_exprs ls 0;
      types = lines_types ls 0;
      names = name_records ls;
      nodes = node_records (nodes_of ls);
      errors = map error_record (all_errors ls);
    }

-- contents, or a refusal
pub data Reading : Type 0 where
  read : Contents → Reading
  refused : Refused → Reading

-- 6 to 13, the first one met in reading order: at the token that is not accepted, or at end of source
abbrev pub by_lines : (source : List ℕ) → List Token → Parsed (List Line) → Reading
by_lines source ts (got ls rest) = read (contents ts ls)
by_lines source ts (stop x rest) = refused (refused_at (place_of_left (length source) rest) x)

-- 4 and 5, whichever is met first from the left; 6 to 13 only when the whole source has lexed
abbrev pub by_tokens : (source jets : List ℕ) → Result ℕ LexError → Reading
by_tokens source jets (Ok n) = by_lines source (lexing source).tokens (parsing source jets)
by_tokens source jets (Err e) = refused (refused_of_lex e)

-- 3: not UTF-8
abbrev pub by_text : (source jets : List ℕ) → Result (Unit {0}) TextError → Reading
by_text source jets (Ok _) = by_tokens source jets (lexing source).answer
by_text source jets (Err e) = refused (refusal.not_utf8 e.at)

-- the reading of a source; 2 first: a source over 32,768 bytes
unfoldable pub reading : (source jets : List ℕ) → Reading
reading source jets =
    if ltb source_limit (length source) then refused refusal.long_source
    else by_text source jets (check_text source)

-- ---- put into eight lent tables

pub record Tables : Type 0 where
  pub parsed : ast.ParserTables
  pub names : List ℕ
  pub nodes : List ℕ
  pub errors : List ℕ
  pub work : List ℕ

abbrev pub eight : (tokens lines exprs types names nodes errors work : List ℕ) → Tables
eight ts ls es ty ns xs rs ws = record { parsed = tables ts ls es ty; names = ns; nodes = xs; errors = rs; work = ws }

-- the four tables behind the parser's have fewer words than 1,024 records
unfoldable pub short_to_read_by : (names nodes errors work : ℕ) → Bool
short_to_read_by ns xs rs ws =
    (((ltb ns (record_limit * name_width) || ltb xs (record_limit * node_width)) || ltb rs (record_limit * error_width))
    || ltb ws (record_limit * work_width))

-- refusal 1: a lent table has fewer words than 1,024 records
abbrev pub short_to_read : Tables → Bool
short_to_read t = short_to_read_by (length t.names) (length t.nodes) (length t.errors) (length t.work) || ast.short_to_parse t.parsed

-- with lent tables: 1 before all others
unfoldable pub read_into : (source jets : List ℕ) → Tables → Reading
read_into source jets old = if short_to_read old then refused refusal.short_table else reading source jets

-- tables with these records, and with no other; work is zero
unfoldable pub holding : Contents → Tables → Tables
holding c old =
    record {
      parsed =
          record {
            tokens = table_of token_width (map token_words c.tokens) old.parsed.tokens;
            lines = table_of line_width (map line_words c.lines) old.parsed.lines;
            exprs = table_of expr_width (map expr_words c.exprs) old.parsed.exprs;
            types = table_of type_width (map type_words c.types) old.parsed.types;
          };
      names = table_of name_width (map name_words c.names) old.names;
      nodes = table_of node_width (map node_words c.nodes) old.nodes;
      errors = table_of error_width (map error_words c.errors) old.errors;
      work = table_of work_width [] old.work;
    }

-- refusal 1 changes no word; 2 to 13 set the records to zero
abbrev pub after_refusal : Refused → Tables → Tables
after_refusal refusal.short_table old = old
after_refusal refusal.long_source old = holding nothing old
after_refusal (refusal.not_utf8 at) old = holding nothing old
after_refusal (refusal.no_token at) old = holding nothing old
after_refusal (refusal.too_many_tokens at) old = holding nothing old
after_refusal (refusal.parse_failed at) old = holding nothing old
after_refusal (refusal.bad_word_length at n) old = holding nothing old
after_refusal (refusal.short_fail at n) old = holding nothing old
after_refusal (refusal.long_fail at n) old = holding nothing old
after_refusal (refusal.unknown_jet at) old = holding nothing old
after_refusal (refusal.bad_power at n) old = holding nothing old
after_refusal (refusal.big_exponent at) old = holding nothing old
after_refusal (refusal.too_deep at) old = holding nothing old

-- the tables after a reading
abbrev pub read_tables : Reading → Tables → Tables
read_tables (read c) old = holding c old
read_tables (refused r) old = after_refusal r old

-- ---- its row of the table of refusals, and the counts

abbrev pub row_of_reading : Reading → Refusal
row_of_reading (read c) = no_row
row_of_reading (refused r) = row_of r

-- how many records there are of each table; work has none
abbrev pub counts_of_contents : Contents → ReadCounts
counts_of_contents c =
    record {
      parsed = record { tokens = length c.tokens; lines = length c.lines; exprs = length c.exprs; types = length c.types };
      names = length c.names;
      nodes = length c.nodes;
      errors = length c.errors;
    }

abbrev pub counts_of_reading : Reading → ReadCounts
counts_of_reading (read c) = counts_of_contents c
counts_of_reading (refused r) = counts_of_contents nothing

-- ---- as the code answers: each layer's refusals in that layer's enum

abbrev pub faulty : (at : ℕ) → Fault → ParseError
faulty at x = NotParsed (record { fault = x; at = record { 0 = at } })

abbrev pub refusal_error : Refused → ParseError
refusal_error refusal.short_table = NotLexed ShortTable
refusal_error refusal.long_source = NotLexed LongSource
refusal_error (refusal.not_utf8 at) = NotLexed (NotUtf8 (record { 0 = at }))
refusal_error (refusal.no_token at) = NotLexed (NoToken (record { 0 = at }))
refusal_error (refusal.too_many_tokens at) = NotLexed (TooManyTokens (record { 0 = at }))
refusal_error (refusal.parse_failed at) = faulty at ParseFailed
refusal_error (refusal.bad_word_length at n) = faulty at (BadWordLength n)
refusal_error (refusal.short_fail at n) = faulty at (EntropyInsufficient n)
refusal_error (refusal.long_fail at n) = faulty at (EntropyTooMuch n)
refusal_error (refusal.unknown_jet at) = faulty at UnknownJet
refusal_error (refusal.bad_power at n) = faulty at (Bad2ExpNumber n)
refusal_error (refusal.big_exponent at) = faulty at NumberOutOfRange
refusal_error (refusal.too_deep at) = faulty at TooDeep

abbrev pub answer_of : Reading → Result ReadCounts ParseError
answer_of (read c) = Ok (counts_of_contents c)
answer_of (refused r) = Err (refusal_error r)
