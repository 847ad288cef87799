-- How the code of `read` goes about it: which refusal changes no word, and what the steps behind it answer and leave.
use Rattle.std.specs.Prelude.{ℕ, ◌≡◌, Bool, true, false, List, [], length}
use Rattle.records.specs.Limits.{name_width, node_width, error_width, work_width}
use Rattle.tables.specs.Tables.{table_of}
use Rattle.grammar.specs.Tree.{Line}
use Rattle.ends.specs.declared.Counts.{Counts}
use Rattle.names.specs.Names.{names_of, error_rows}
use Rattle.walk.specs.Nodes.{nodes_of, node_rows, named_rows}
use Rattle.errors.specs.Errors.{all_errors}
use Rattle.ends.specs.declared.ReadCounts.{ReadCounts}
use Rattle.lex.specs.declared.LexError.TheVariants.{LongSource, NoToken, NotUtf8, ShortTable, TooManyTokens}
use Rattle.ends.specs.declared.ParseError.{ParseError}
use Rattle.ends.specs.declared.ParseError.TheVariants.{NotLexed, Refused}

-- refusal 1 changes no word; after every other the tables behind the parser's are set to zero
abbrev pub changes_no_word : ParseError → Bool
changes_no_word (NotLexed ShortTable) = true
changes_no_word (NotLexed LongSource) = false
changes_no_word (NotLexed (NotUtf8 at)) = false
changes_no_word (NotLexed (NoToken at)) = false
changes_no_word (NotLexed (TooManyTokens at)) = false
changes_no_word (Refused r) = false

-- names, nodes and errors
abbrev pub Resolves : List Line → Counts → ReadCounts → (names names' nodes nodes' errors errors' work work' : List ℕ) → Type 0
Resolves ls p r ns ns' xs xs' rs rs' ws ws' =
    (r ≡ record { parsed = p; names = length (names_of ls); nodes = length (nodes_of ls); errors = length (all_errors ls) })
    × (ns' ≡ table_of name_width (named_rows ls) ns)
    × (xs' ≡ table_of node_width (node_rows (nodes_of ls)) xs)
    × (rs' ≡ table_of error_width (error_rows (all_errors ls)) rs)
    × (ws' ≡ table_of work_width [] ws)
