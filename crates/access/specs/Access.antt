-- Document 01: what is read from the tables of a reading, for any words whatever.
use Rattle.std.specs.Prelude.{ℕ, zero, suc, ◌+◌, ◌*◌, ◌-◌, Bool, ◌&&◌, List, eqb, leb, length, if◌then◌else◌}
use Rattle.records.specs.Base.{within}
use Rattle.records.specs.Limits.{record_limit, name_width, node_width}
use Rattle.records.specs.Records.{no_span}
use Rattle.records.specs.declared.Span.{Span}
use Rattle.tables.specs.Tables.{word_at, span_at}
use Rattle.literals.specs.Literals.{span_text}

-- a span as a part of the source: itself if it lies inside, else an empty part
unfoldable pub part_in : (size : ℕ) → Span → Span
part_in size s = if leb (s.start.0 + s.len) size then s else no_span

-- the span of the name number n of so many; a name number of 0, past the last or past the table has none
unfoldable pub name_span : (names : List ℕ) → (count n : ℕ) → Span
name_span names count n = if within 1 count n then span_at name_width names n 0 else no_span

-- The text of a name, as the very part of the source where it stands; a name number of 0, past the last or past the table, or a span
-- outside the source, gives an empty part.
unfoldable pub name_text_of : (source names : List ℕ) → (count n : ℕ) → List ℕ
name_text_of source names count n = span_text source (name_span names count n)

-- the record number n is one of so many, and lies in a table of so many words
abbrev pub in_table : (width size count n : ℕ) → Bool
in_table width size count n = within 1 count n && (leb n record_limit && leb (n * width) size)

-- The name number n is a root: its node has the in-degree 0. A node number 0, past the count or past the table is no root.
unfoldable pub is_root_at : (names : List ℕ) → (name_count : ℕ) → (nodes : List ℕ) → (node_count n : ℕ) → Bool
is_root_at names name_count nodes node_count n =
    let i : ℕ = word_at name_width names n 3 in
    within 1 name_count n && (in_table node_width (length nodes) node_count i && eqb (word_at node_width nodes i 7) 0)

-- the first root among so many names from number k on; 0 if there is none
unfoldable pub root_from : (names : List ℕ) → (name_count : ℕ) → (nodes : List ℕ) → (node_count fuel k : ℕ) → ℕ
root_from names c nodes d zero k = 0
root_from names c nodes d (suc f) k =
    let later : ℕ = root_from names c nodes d f (suc k) in
    if is_root_at names c nodes d k then k else later

-- roots one by one: the first behind the name number `after`, of which 0 is before the first; 0 if there is none
unfoldable pub next_root : (names : List ℕ) → (name_count : ℕ) → (nodes : List ℕ) → (node_count after : ℕ) → ℕ
next_root names c nodes d after = root_from names c nodes d (record_limit - after) (suc after)
