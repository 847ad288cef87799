-- Document 01, Listing: what is printed for a source and a jet list, as bytes; and how it is put into a lent output.
use Rattle.std.specs.Prelude.{ℕ, List, ◌++◌, leb, length, drop, if◌then◌else◌, None, Option, Some}
use Rattle.records.specs.Refusals.{row_of}
use Rattle.reader.specs.Reading.{Reading, read, refused}
use Rattle.rows.specs.Rows.{listed, refused_row}

-- nodes, roots and errors, or the row of a refusal
unfoldable pub listing : (source : List ℕ) → Reading → List ℕ
listing source (read c) = listed source c.names c.nodes c.errors
listing source (refused r) = refused_row source (row_of r)

-- ---- put into a lent output

-- how many bytes, or that there is no room
unfoldable pub list_answer : (text : List ℕ) → (room : ℕ) → Option ℕ
list_answer text room = if leb (length text) room then Some (length text) else None

-- the output: the text and then what there was; no room leaves it unchanged
unfoldable pub listed_in : (text out : List ℕ) → List ℕ
listed_in text out = if leb (length text) (length out) then text ++ drop (length text) out else out
