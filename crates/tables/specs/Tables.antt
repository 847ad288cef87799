-- Document 01, Sizes and Refusals: the words of a lent table. `width` is the words of a record.
use Rattle.std.specs.Prelude.{ℕ, suc, ◌+◌, ◌*◌, ◌-◌, List, [], ◌∷◌, ◌++◌, length, get_or, take, drop, replicate, if◌then◌else◌}
use Rattle.std.proofs.lemmas.List.Edits.{sets}
use Rattle.records.specs.Base.{within}
use Rattle.records.specs.Limits.{record_limit}
use Rattle.records.specs.declared.Span.{Span}

-- the words of records, one record behind the other
unfoldable pub joined : List (List ℕ) → List ℕ
joined [] = []
joined (r ∷ rs) = r ++ joined rs

-- A table after an answer: its records, zeros up to 1,024 records, and past them the words that there were.
unfoldable pub table_of : (width : ℕ) → (records : List (List ℕ)) → (old : List ℕ) → List ℕ
table_of width records old =
    joined records ++ (replicate (record_limit * width - length (joined records)) 0 ++ drop (record_limit * width) old)

-- The words of a record. Record numbers begin at 1; 0 and a number past 1,024 are none.
unfoldable pub record_at : (width : ℕ) → (table : List ℕ) → (number : ℕ) → List ℕ
record_at width table n = if within 1 record_limit n then take width (drop ((n - 1) * width) table) else []

-- a word of a record, counted from 0; what is not there reads as 0
abbrev pub word_at : (width : ℕ) → (table : List ℕ) → (number place : ℕ) → ℕ
word_at width table n j = get_or (record_at width table n) j 0

-- the span that a word of a record and the next one say
abbrev pub span_at : (width : ℕ) → (table : List ℕ) → (number place : ℕ) → Span
span_at width table n j = record { start = record { 0 = word_at width table n j }; len = word_at width table n (suc j) }

-- A table in which these words were written as the record n. More words than the record has are left out, and so is what
-- would stand past the table's end.
unfoldable pub written : (width : ℕ) → (table : List ℕ) → (number : ℕ) → (words : List ℕ) → List ℕ
written width table n ws = if within 1 record_limit n then sets table ((n - 1) * width) (take width ws) else table

-- A table in which records were written, one behind the other, behind the `before` records that there are.
unfoldable pub filled : (width : ℕ) → (table : List ℕ) → (before : ℕ) → (records : List (List ℕ)) → List ℕ
filled width table m [] = table
filled width table m (r ∷ rs) = filled width (written width table (m + 1) r) (m + 1) rs

-- the words past the first 1,024 records, which belong to the lender
abbrev pub beyond : (width : ℕ) → (table : List ℕ) → List ℕ
beyond width table = drop (record_limit * width) table
