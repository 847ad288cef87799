-- The reading as the code answers it: by the lexer's answer; and the lists of records as the layers below have them.
use Rattle.std.specs.Prelude.{if◌then◌else◌, Err, Ok, Result}
use Prim.Native.Nat.{ℕ, suc, ◌*◌, ◌≤◌}
use mathlib.Core.Bool.{Bool, true, false}
use mathlib.Core.Path.{◌≡◌, refl, sym, ap}
use mathlib.Core.List.{List, [], ◌∷◌, map-map}
use lib.ListN.{length, length-map}
use borrow.Author.Tests.{le-ltb}
use lib.Dec.{ltb}
use Rattle.records.specs.Limits.{record_limit, token_width, name_width, node_width, error_width, work_width, source_limit}
use Rattle.records.specs.Records.{token_words, error_words}
use Rattle.records.specs.Refusals as refusal
use Rattle.tables.specs.Tables.{table_of}
use Rattle.text.specs.Check.{check_text}
use Rattle.lex.specs.Tokens.{Token, record_of, lex_all}
use Rattle.checks.specs.Checks.{refused_at}
use Rattle.checks.specs.declared.Fault.{Fault}
use Rattle.checks.specs.declared.Fault.TheVariants.{ParseFailed, BadWordLength, EntropyInsufficient, EntropyTooMuch, UnknownJet, Bad2ExpNumber, NumberOutOfRange, TooDeep}
use Rattle.grammar.specs.Tree.{Line}
use Rattle.grammar.specs.Recorded.{line_records}
use Rattle.ast.specs.Parsing as ast
use Rattle.ast.proofs.Whole.{has_room}
use Rattle.names.specs.Names.{error_record, error_rows, names_of}
use Rattle.walk.specs.Walk.{Node, Status}
use Rattle.walk.specs.Nodes.{walked, nodes_of, node_records_from, node_records, node_rows, name_records_from, name_records, named_rows}
use Rattle.errors.specs.Errors.{all_errors}
use Rattle.ends.specs.Rows.{row_of_read, counts_of_read}
use Rattle.reader.specs.Reading.{contents, Reading, read, refused, nothing, by_tokens, reading, Tables, eight, short_to_read_by, read_into, holding, after_refusal, row_of_reading, counts_of_contents, counts_of_reading, faulty, refusal_error, answer_of}
use Rattle.text.specs.declared.TextError.{TextError}
use Rattle.lex.specs.declared.LexError.TheVariants.{ShortTable}

-- ---- an answer says the row and the counts of its reading

row_refused : (r : refusal.Refused) → row_of_read (answer_of (refused r)) ≡ row_of_reading (refused r)
row_refused refusal.short_table = refl
row_refused refusal.long_source = refl
row_refused (refusal.not_utf8 at) = refl
row_refused (refusal.no_token at) = refl
row_refused (refusal.too_many_tokens at) = refl
row_refused (refusal.parse_failed at) = refl
row_refused (refusal.bad_word_length at n) = refl
row_refused (refusal.short_fail at n) = refl
row_refused (refusal.long_fail at n) = refl
row_refused (refusal.unknown_jet at) = refl
row_refused (refusal.bad_power at n) = refl
row_refused (refusal.big_exponent at) = refl
row_refused (refusal.too_deep at) = refl

pub row_is : (x : Reading) → row_of_read (answer_of x) ≡ row_of_reading x
row_is (read c) = refl
row_is (refused r) = row_refused r

pub counts_are : (x : Reading) → counts_of_read (answer_of x) ≡ counts_of_reading x
counts_are (read c) = refl
counts_are (refused r) = refl

-- ---- faults

pub fault_answer : (at : ℕ) (x : Fault) → refusal_error (refused_at at x) ≡ faulty at x
fault_answer at ParseFailed = refl
fault_answer at (BadWordLength n) = refl
fault_answer at (EntropyInsufficient n) = refl
fault_answer at (EntropyTooMuch n) = refl
fault_answer at UnknownJet = refl
fault_answer at (Bad2ExpNumber n) = refl
fault_answer at NumberOutOfRange = refl
fault_answer at TooDeep = refl

pub fault_left : (at : ℕ) (x : Fault) (old : Tables) → after_refusal (refused_at at x) old ≡ holding nothing old
fault_left at ParseFailed old = refl
fault_left at (BadWordLength n) old = refl
fault_left at (EntropyInsufficient n) old = refl
fault_left at (EntropyTooMuch n) old = refl
fault_left at UnknownJet old = refl
fault_left at (Bad2ExpNumber n) old = refl
fault_left at NumberOutOfRange old = refl
fault_left at TooDeep old = refl

-- ---- by the lexer's answer

-- a table of tokens that has room
lexer_reading : (source jets ts : List ℕ) → record_limit * token_width ≤ length ts → by_tokens source jets (lex_all source ts) ≡ reading source jets
unfolding lex_all reading
lexer_reading source jets ts room = go (ltb source_limit (length source)) refl (check_text source) refl
  where
    roomy : ltb (length ts) (record_limit * token_width) ≡ false
    roomy = le-ltb (length ts) (record_limit * token_width) room

    go : (b : Bool) → ltb source_limit (length source) ≡ b → (t : Result (Unit {0}) TextError) → check_text source ≡ t → by_tokens source jets (lex_all source ts) ≡ reading source jets
    go true h t k = rw (roomy, h)
    go false h (Ok _) k = rw (roomy, h, k)
    go false h (Err at) k = rw (roomy, h, k)

pub by_lexer : (source jets ts ls es ty ns xs rs ws : List ℕ) → short_to_read_by (length ns) (length xs) (length rs) (length ws) ≡ false
    → read_into source jets (eight ts ls es ty ns xs rs ws) ≡ by_tokens source jets (ast.lex_answer source (ast.tables ts ls es ty))
unfolding read_into
by_lexer source jets ts ls es ty ns xs rs ws room = rw room (go (ast.short_to_parse (ast.tables ts ls es ty)) refl)
  where
    go : (b : Bool) → ast.short_to_parse (ast.tables ts ls es ty) ≡ b → (if b then refused refusal.short_table else reading source jets) ≡ by_tokens source jets (if b then Err ShortTable else lex_all source ts)
    go true e = refl
    go false e = sym (lexer_reading source jets ts (has_room (length ts) (length ls) (length es) (length ty) e).0)

-- ---- the records of tokens and lines, as the layers below have them

nodes_length : (all : List Node) (i : ℕ) (xs : List Node) → length (node_records_from all i xs) ≡ length xs
unfolding node_records_from
nodes_length all i [] = refl
nodes_length all i (x ∷ xs) = ap suc (nodes_length all (suc i) xs)

names_length : (ls : List Line) (st : ℕ → Status) (i : ℕ) (xs : List Token) → length (name_records_from ls st i xs) ≡ length xs
unfolding name_records_from
names_length ls st i [] = refl
names_length ls st i (x ∷ xs) = ap suc (names_length ls st (suc i) xs)

lines_length : (ls : List Line) (e t : ℕ) → length (line_records ls e t) ≡ length ls
unfolding line_records
lines_length [] e t = refl
lines_length (l ∷ ls) e t = ap suc (lines_length ls _ _)

pub counts_held : (ts : List Token) (ls : List Line)
    → counts_of_contents (contents ts ls) ≡ record { parsed = ast.counts_of_lines ts ls; names = length (names_of ls); nodes = length (nodes_of ls); errors = length (all_errors ls) }
unfolding contents name_records node_records
counts_held ts ls =
    rw (
      length-map ts record_of,
      lines_length ls 0 0,
      names_length ls (walked ls).status 1 (names_of ls),
      nodes_length (nodes_of ls) 1 (nodes_of ls),
      length-map (all_errors ls) error_record,
    )

pub tables_held : (ts : List Token) (ls : List Line) (old : Tables)
    → holding (contents ts ls) old
    ≡ record {
      parsed = ast.holding_lines ts ls old.parsed;
      names = table_of name_width (named_rows ls) old.names;
      nodes = table_of node_width (node_rows (nodes_of ls)) old.nodes;
      errors = table_of error_width (error_rows (all_errors ls)) old.errors;
      work = table_of work_width [] old.work;
    }
unfolding contents holding error_rows
tables_held ts ls old = rw (map-map token_words record_of ts, map-map error_words error_record (all_errors ls))
