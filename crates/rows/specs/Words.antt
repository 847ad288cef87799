-- The rows of the listing as the code reads them from the tables, for any words whatever.
use Rattle.std.specs.Borrow.{MutBor}
use Rattle.std.specs.Prelude.{ℕ, zero, suc, ◌+◌, ◌≤◌, Bool, List, [], ◌∷◌, ◌++◌, length, if◌then◌else◌}
use Rattle.records.specs.Base.{bytes}
use Rattle.records.specs.Limits.{error_width}
use Rattle.records.specs.declared.ErrorRecord.{ErrorRecord}
use Rattle.tables.specs.Tables.{word_at, span_at}
use Rattle.resolve.specs.Words.{node_at}
use Rattle.access.specs.Access.{name_text_of, is_root_at}
use Rattle.print.specs.declared.Output.{Output}
use Rattle.print.specs.Text.{decimal, printed_row, listing_limit, Adds}
use Rattle.rows.specs.Rows.{head_row, node_row, error_row}

-- ---- pieces of text

-- one text behind the other; it stays shut, so that laws find its parts
infixr 5 ◌then◌
unfoldable pub ◌then◌ : List ℕ → List ℕ → List ℕ
a then b = a ++ b

-- a word and the byte behind it, which is a space or LF
abbrev pub ended : (word : List ℕ) → (end : ℕ) → List ℕ
ended w e = w then (e ∷ [])

-- the text may be put into the output: no listing is longer
pub record Room (output : Output) (text : List ℕ) : Type 0 where
  pub fits : output.at + length text ≤ listing_limit

-- ---- rows one by one

-- the rows of so many records from number i on
unfoldable pub rows_from : (row_of : ℕ → List ℕ) → (count i : ℕ) → List ℕ
rows_from row_of zero i = []
rows_from row_of (suc c) i = row_of i then rows_from row_of c (suc i)

-- so many rows from number 1 on may be put where there is room
abbrev pub MayPut : (pre : MutBor Output → ℕ → Type 0) → (row_of : ℕ → List ℕ) → (count : ℕ) → Type 0
MayPut pre row_of count = (output : MutBor Output) (i : ℕ) → 1 ≤ i → i ≤ count → Room output.now (row_of i) → pre output i

-- and each puts its text
abbrev pub AddsRows : (post : MutBor Output → ℕ → Unit {0} → MutBor Output → Type 0) → (row_of : ℕ → List ℕ) → (count : ℕ) → Type 0
AddsRows post row_of count = (old new : MutBor Output) (i : ℕ) → 1 ≤ i → i ≤ count → post old i tt new → Adds (row_of i) old.now new.now

-- how many of so many numbers from i on pass a test
unfoldable pub count_from : (test : ℕ → Bool) → (count i : ℕ) → ℕ
count_from test zero i = 0
count_from test (suc c) i = (if test i then 1 else 0) + count_from test c (suc i)

-- what stands behind the place of a refusal: its number if it is not 0, and LF
unfoldable pub value_end : (value : ℕ) → List ℕ
value_end zero = bytes "\n"
value_end (suc v) = bytes " " then ended (decimal (suc v)) 10

-- ---- the tables

-- the record of an error, by its words
abbrev pub error_at : (errors : List ℕ) → (n : ℕ) → ErrorRecord
error_at es n =
    record { kind = record { 0 = word_at error_width es n 0 }; start = record { 0 = word_at error_width es n 1 }; name = span_at error_width es n 2 }

module _ (source : List ℕ) where
  -- nodes: how many, and a row for each
  module _ (names : List ℕ) (named : ℕ) (nodes : List ℕ) where
    unfoldable pub node_row_at : (number : ℕ) → List ℕ
    node_row_at i = node_row source (name_text_of source names named) i (node_at nodes i)

    unfoldable pub nodes_at : (made : ℕ) → List ℕ
    nodes_at made = head_row "nodes" made then rows_from node_row_at made 1

    -- roots: how many, and a row for each name that is one
    module _ (made : ℕ) where
      unfoldable pub root_row_at : (number : ℕ) → List ℕ
      root_row_at i = if is_root_at names named nodes made i then printed_row (name_text_of source names named i ∷ []) else []

      unfoldable pub roots_at : List ℕ
      roots_at = head_row "roots" (count_from (is_root_at names named nodes made) named 1) then rows_from root_row_at named 1

  -- errors: how many, and a row for each
  module _ (errors : List ℕ) where
    unfoldable pub error_row_at : (number : ℕ) → List ℕ
    error_row_at i = error_row source (error_at errors i)

    unfoldable pub errors_at : (count : ℕ) → List ℕ
    errors_at c = head_row "errors" c then rows_from error_row_at c 1

  -- nodes, roots, errors
  unfoldable pub listed_at : (names : List ℕ) → (named : ℕ) → (nodes : List ℕ) → (made : ℕ) → (errors : List ℕ) → (count : ℕ) → List ℕ
  listed_at names named nodes made errors count =
      nodes_at names named nodes made then roots_at names named nodes made then errors_at errors count
