-- Document 01, Examples on the edge: P1 to P12, one table. Each row asks the lexer (P3, P4), the type reader (P6 to P8) or the reading
-- (the others) and has the answer beside it. proofs/Twelve.antt: every row's answer is what comes.
use Rattle.std.specs.Prelude.{ℕ, List, [], ◌∷◌, map, if◌then◌else◌}
use Prim.Native.String.{String}
use Rattle.records.specs.Base.{bytes}
use Rattle.records.specs.Limits.{depth_limit}
use Rattle.records.specs.TokenKind as token
use Rattle.records.specs.Refusals as refusals
use Rattle.records.specs.Refusals.{Refused, refusal_row}
use Rattle.records.specs.declared.refusals.Refusal.{Refusal}
use Rattle.records.specs.declared.TokenRecord.{TokenRecord}
use Rattle.lex.specs.Tokens.{record_of, lexing}
use Rattle.checks.specs.Checks.{refused_at, checks_of}
use Rattle.cursor.specs.Cursor.{place_of_left}
use Rattle.grammar.specs.Tree as tree
use Rattle.grammar.specs.Tree.{Ty, present}
use Rattle.grammar.specs.Rule.{Parsed, got, stop}
use Rattle.grammar.specs.Grammar.{type}
use Rattle.ends.specs.declared.ReadCounts.{ReadCounts}
use Rattle.reader.specs.Reading.{reading, row_of_reading, counts_of_reading}
use Rattle.listing.specs.Listing.{listing}

-- what is asked
pub data Question : Type 0 where
  tokens_of : (source : String) → Question  -- the records of its tokens
  type_of : (source : String) → Question  -- the source as a type
  refusal_of : (source : String) → Question  -- the row of the table of refusals, 0 0 0 if it is read
  counts_of : (source : String) → Question  -- how many records of each table
  sheet_of : (source : String) → Question  -- what is printed

-- and what is answered
pub data Answer : Type 0 where
  tokens : List TokenRecord → Answer
  a_type : Ty → Answer
  absent_type : Answer
  refused_type : Refused → Answer
  refusal : Refusal → Answer
  counts : ReadCounts → Answer
  sheet : List ℕ → Answer

abbrev type_answer : Parsed Ty → Answer
type_answer (got t rest) = if present t then a_type t else absent_type
type_answer (stop x rest) = refused_type (refused_at (place_of_left 0 rest) x)

-- the answer, with an empty jet list
unfoldable pub answer : Question → Answer
answer (tokens_of s) = tokens (map record_of (lexing (bytes s)).tokens)
answer (type_of s) = type_answer (type (checks_of []) depth_limit (lexing (bytes s)).tokens)
answer (refusal_of s) = refusal (row_of_reading (reading (bytes s) []))
answer (counts_of s) = counts (counts_of_reading (reading (bytes s) []))
answer (sheet_of s) = sheet (listing (bytes s) (reading (bytes s) []))

-- a token's record
abbrev token_record_at : token.Kind → (start len : ℕ) → TokenRecord
token_record_at k a n = record { kind = record { 0 = token.number k }; span = record { start = record { 0 = a }; len = n } }

abbrev none : ReadCounts
none = record { parsed = record { tokens = 0; lines = 0; exprs = 0; types = 0 }; names = 0; nodes = 0; errors = 0 }

pub record Example : Type 0 where
  pub name : String
  pub question : Question
  pub expected : Answer

abbrev example : String → Question → Answer → Example
example n q a = record { name = n; question = q; expected = a }

abbrev pub examples : List Example
examples =
    example "P1" (counts_of "") (counts none)
    ∷ example "P2" (refusal_of "a->b") (refusal (refusal_row 4 2 0))
    ∷ example "P3" (tokens_of "a--b") (tokens (token_record_at token.symbol 0 4 ∷ []))
    ∷ example "P3" (tokens_of "--b") (tokens [])
    ∷ example "P4" (tokens_of "jet_A") (tokens (token_record_at token.symbol 0 5 ∷ []))
    ∷ example "P5" (refusal_of "2^0") (refusal (refusal_row 4 1 0))
    ∷ example "P6" (type_of "1+2*2") (a_type (tree.op tree.product (tree.op tree.sum tree.one tree.two) tree.two))
    ∷ example "P7" (type_of "1+_") absent_type
    ∷ example "P8" (type_of "2^3") (refused_type (refusals.bad_power 0 3))
    ∷ example "P8" (type_of "2^4294967296") (refused_type (refusals.big_exponent 0))
    ∷ example "P9" (sheet_of "a := a") (sheet (bytes "nodes 1\n1 missing a 1:1 0 0\nroots 1\na\nerrors 1\nmissing 1:1 a\n"))
    ∷ example "P10" (sheet_of "a := b b := a") (sheet (bytes "nodes 2\n1 missing b 1:8 0 0\n2 ref a 1:1 1 0\nroots 1\na\nerrors 1\nmissing 1:8 a\n"))
    ∷ example "P11" (sheet_of "main := pair a iden\na := unit\n")
    (sheet (bytes "nodes 4\n1 iden - 1:16 0 0\n2 unit a 2:1 0 0\n3 ref - 1:14 2 0\n4 pair main 1:1 3 1\nroots 1\nmain\nerrors 0\n"))
    ∷ example "P12" (sheet_of "a : 1 -> 1") (sheet (bytes "nodes 1\n1 noexpr a 1:1 0 0\nroots 1\na\nerrors 1\nincomplete 1:1 a\n"))
    ∷ []
