-- What the steps of the code answer for any words: what a node does to the table of errors. Nothing here is of document 01;
-- proofs/Adding.antt shows that it gives the errors of the nodes.
use Rattle.std.specs.Prelude.{ℕ, List, Option, Some, None, eqb, if◌then◌else◌}
use Rattle.records.specs.Limits.{node_width, error_width}
use Rattle.records.specs.Records.{error_words}
use Rattle.records.specs.NodeKind as node
use Rattle.records.specs.ErrorKind as error
use Rattle.records.specs.declared.kinds.ErrorKind.{ErrorKind}
use Rattle.records.specs.declared.ErrorRecord.{ErrorRecord}
use Rattle.tables.specs.Tables.{word_at, written, span_at}
use Rattle.cursor.specs.Cursor.{next_number}

-- the kind of the error that a node of this number of kind gives, if any
unfoldable pub error_kind : (kind : ℕ) → Option ErrorKind
error_kind k =
    if eqb k (node.number node.missing) then Some (record { 0 = error.number error.missing })
    else if eqb k (node.number node.noexpr) then Some (record { 0 = error.number error.incomplete })
    else None

-- the error of this kind at the node n
abbrev pub error_of_node : (nodes : List ℕ) → (n : ℕ) → (kind : ErrorKind) → ErrorRecord
error_of_node nd n k = record { kind = k; start = record { 0 = word_at node_width nd n 1 }; name = span_at node_width nd n 5 }

-- how many errors there are after one of this kind, if any
unfoldable pub count_after : (kind : Option ErrorKind) → (before : ℕ) → ℕ
count_after None b = b
count_after (Some k) b = next_number b

-- the table after an error of this kind, if any, at the node n
unfoldable pub table_after : (kind : Option ErrorKind) → (nodes : List ℕ) → (n : ℕ) → (errors : List ℕ) → (before : ℕ) → List ℕ
table_after None nd n rs b = rs
table_after (Some k) nd n rs b = written error_width rs (next_number b) (error_words (error_of_node nd n k))
