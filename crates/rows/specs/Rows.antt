-- Document 01, Listing: the rows that are printed, as bytes.
use Rattle.std.specs.Prelude.{ℕ, zero, suc, ◌&&◌, List, [], ◌∷◌, ◌++◌, eqb, leb, length, if◌then◌else◌}
use Prim.Native.String.{String}
use Rattle.std.proofs.Math.Option.{Option, none, some}
use Rattle.records.specs.Base.{bytes}
use Rattle.records.specs.declared.refusals.Refusal.{Refusal}
use Rattle.records.specs.declared.NameRecord.{NameRecord}
use Rattle.records.specs.declared.NodeRecord.{NodeRecord}
use Rattle.records.specs.declared.ErrorRecord.{ErrorRecord}
use Rattle.text.specs.Place.{position_of}
use Rattle.literals.specs.Literals.{span_text}
use Rattle.walk.specs.Trees.{record_no}
use Rattle.access.specs.Roots.{roots}
use Rattle.print.specs.Text.{decimal, printed_row, place_word}

-- ---- kinds by their words

abbrev pub word_if : Option String → List ℕ
word_if none = []
word_if (some w) = bytes w

-- Kinds: missing noexpr ref … They count from 1.
unfoldable pub node_word : (kind : ℕ) → List ℕ
node_word k =
    word_if
    (record_no
    ("missing" ∷ "noexpr" ∷ "ref" ∷ "assertl" ∷ "assertr" ∷ "iden" ∷ "unit" ∷ "injl" ∷ "injr" ∷ "take" ∷ "drop" ∷ "comp" ∷ "case"
    ∷ "pair" ∷ "disconnect" ∷ "witness" ∷ "hole" ∷ "fail" ∷ "jet" ∷ "word" ∷ [])
    k)

-- an error row is `illegal`, `repeated`, `missing` or `incomplete`
unfoldable pub error_word : (kind : ℕ) → List ℕ
error_word k = word_if (record_no ("illegal" ∷ "repeated" ∷ "missing" ∷ "incomplete" ∷ []) k)

-- ---- rows

-- a word and a count
unfoldable pub head_row : String → ℕ → List ℕ
head_row w n = printed_row (bytes w ∷ decimal n ∷ [])

-- name or `-`; `name_of` is the text of a name by its number
unfoldable pub name_word : (name_of : ℕ → List ℕ) → (name : ℕ) → List ℕ
name_word name_of zero = bytes "-"
name_word name_of (suc n) = name_of (suc n)

-- a number if it is not 0
unfoldable pub unless_zero : ℕ → List (List ℕ)
unless_zero zero = []
unless_zero (suc v) = decimal (suc v) ∷ []

module _ (source : List ℕ) where
  -- number, kind, name or `-`, place, left, right
  unfoldable pub node_row : (name_of : ℕ → List ℕ) → (number : ℕ) → NodeRecord → List ℕ
  node_row name_of i x =
      printed_row
      (decimal i
      ∷ node_word x.kind.0
      ∷ name_word name_of x.name.0
      ∷ place_word (position_of source x.start.0)
      ∷ decimal x.left.0
      ∷ decimal x.right.0
      ∷ [])

  -- the rows of these nodes, of which the first is number i
  unfoldable pub node_rows : (name_of : ℕ → List ℕ) → (i : ℕ) → List NodeRecord → List ℕ
  node_rows name_of i [] = []
  node_rows name_of i (x ∷ xs) = node_row name_of i x ++ node_rows name_of (suc i) xs

  -- a root's name
  unfoldable pub root_row : NameRecord → List ℕ
  root_row n = printed_row (span_text source n.span ∷ [])

  unfoldable pub root_rows : List NameRecord → List ℕ
  root_rows [] = []
  root_rows (n ∷ ns) = root_row n ++ root_rows ns

  -- kind, place, name
  unfoldable pub error_row : ErrorRecord → List ℕ
  error_row e = printed_row (error_word e.kind.0 ∷ place_word (position_of source e.start.0) ∷ span_text source e.name ∷ [])

  unfoldable pub error_rows : List ErrorRecord → List ℕ
  error_rows [] = []
  error_rows (e ∷ es) = error_row e ++ error_rows es

  -- ---- a refusal

  -- end of source as a place, which only refusals 6 to 13 have, prints as 0:0
  unfoldable pub refused_place : Refusal → List ℕ
  refused_place r = if leb 6 r.no && eqb r.place (length source) then bytes "0:0" else place_word (position_of source r.place)

  -- one row, and its number after that if not 0
  unfoldable pub refused_row : Refusal → List ℕ
  refused_row r = printed_row (bytes "refused" ∷ decimal r.no ∷ refused_place r ∷ unless_zero r.value)

  -- ---- the whole

  abbrev pub span_text_if : Option NameRecord → List ℕ
  span_text_if none = []
  span_text_if (some n) = span_text source n.span

  -- the text of a name by its number
  unfoldable pub name_in : List NameRecord → (number : ℕ) → List ℕ
  name_in ns i = span_text_if (record_no ns i)

  -- nodes, roots, errors
  unfoldable pub listed : List NameRecord → List NodeRecord → List ErrorRecord → List ℕ
  listed ns xs es =
      head_row "nodes" (length xs) ++ node_rows (name_in ns) 1 xs
      ++ head_row "roots" (length (roots ns xs)) ++ root_rows (roots ns xs)
      ++ head_row "errors" (length es) ++ error_rows es
