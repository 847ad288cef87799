-- Document 01, Sizes and Grammar: the records of expressions, types and lines, from the trees. Records are made when complete,
-- children first, left before right. `before` is how many records stand before them: a record's number is the count so far
-- plus one, so what is recorded last has the count as its number.
use Rattle.std.specs.Prelude.{ℕ, ◌+◌, List, [], ◌∷◌, ◌++◌, map, if◌then◌else◌}
use Rattle.records.specs.Records.{line_words, expr_words, type_words}
use Rattle.records.specs.NodeKind as node
use Rattle.records.specs.TypeKind as kind
use Rattle.records.specs.declared.Span.{Span}
use Rattle.records.specs.declared.LineRecord.{LineRecord}
use Rattle.records.specs.declared.ExprRecord.{ExprRecord}
use Rattle.records.specs.declared.TypeRecord.{TypeRecord}
use Rattle.grammar.specs.Tree as tree
use Rattle.grammar.specs.Tree.{Op, Ty, present, Line, types_of}
use Rattle.grammar.specs.Part as part
use Rattle.grammar.specs.Part.{Part, part_if, weight, span_of}

-- ---- expressions

-- kind, start, left, right, two for a span
abbrev pub expr_record : node.Kind → (at left right : ℕ) → Span → ExprRecord
expr_record k at l r s =
    record { kind = record { 0 = node.number k }; start = record { 0 = at }; left = record { 0 = l }; right = record { 0 = r }; span = s }

-- the number of a part with so many records before its own; 0 is none
abbrev pub part_no : Part → (before : ℕ) → ℕ
part_no part.none m = 0
part_no (part.part k at s l r) m = m + weight (part.part k at s l r)
part_no (part.refer x) m = m + 1

-- A reference has left and right 0. (Parentheses are no part.)
unfoldable pub expr_records : Part → (before : ℕ) → List ExprRecord
expr_records part.none m = []
expr_records (part.part k at s l r) m =
    expr_records l m
    ++ (expr_records r (m + weight l) ++ (expr_record (node.part k) at (part_no l m) (part_no r (m + weight l)) s ∷ []))
expr_records (part.refer x) m = expr_record node.ref x.start 0 0 (span_of x) ∷ []

-- ---- types

-- kind, left, right, n
abbrev pub type_record : kind.Kind → (left right n : ℕ) → TypeRecord
type_record k l r n = record { kind = record { 0 = kind.number k }; left = l; right = r; n = n }

abbrev pub op_kind : Op → kind.Kind
op_kind tree.sum = kind.sum
op_kind tree.product = kind.product

-- A type record is made for each `1`, `2`, power and name other than `_`, and for each operator with both operands present;
-- so many in all
unfoldable pub type_weight : Ty → ℕ
type_weight tree.absent = 0
type_weight tree.one = 1
type_weight tree.two = 1
type_weight (tree.name x) = 1
type_weight (tree.power n) = 1
type_weight (tree.op o l r) = type_weight l + type_weight r + (if present (tree.op o l r) then 1 else 0)

-- an absent type is 0
abbrev pub type_no : Ty → (before : ℕ) → ℕ
type_no t m = if present t then m + type_weight t else 0

-- for a name, start and length stand in left and right; the types built before an absent operand stay
unfoldable pub type_records : Ty → (before : ℕ) → List TypeRecord
type_records tree.absent m = []
type_records tree.one m = type_record kind.one 0 0 0 ∷ []
type_records tree.two m = type_record kind.two 0 0 0 ∷ []
type_records (tree.name x) m = type_record kind.name (span_of x).start.0 (span_of x).len 0 ∷ []
type_records (tree.power n) m = type_record kind.power 0 0 n ∷ []
type_records (tree.op o l r) m =
    type_records l m
    ++ (type_records r (m + type_weight l)
    ++ (if present (tree.op o l r) then type_record (op_kind o) (type_no l m) (type_no r (m + type_weight l)) 0 ∷ [] else []))

-- ---- lines

-- the expression of a line, and how many records the line's expression and its two types have
abbrev pub line_part : Line → Part
line_part l = part_if l.expression

abbrev pub exprs_of : Line → ℕ
exprs_of l = weight (line_part l)

abbrev pub source_weight : Line → ℕ
source_weight l = type_weight (types_of l).source

abbrev pub types_in_line : Line → ℕ
types_in_line l = source_weight l + type_weight (types_of l).target

-- name start, name length, expression, source type, target type; e and t records of expressions and types stand before
unfoldable pub line_record : Line → (e t : ℕ) → LineRecord
line_record l e t =
    record {
      name = span_of l.name;
      expr = record { 0 = part_no (line_part l) e };
      source = record { 0 = type_no (types_of l).source t };
      target = record { 0 = type_no (types_of l).target (t + source_weight l) };
    }

-- a line's types: its source's, then its target's
unfoldable pub line_types : Line → (before : ℕ) → List TypeRecord
line_types l t = type_records (types_of l).source t ++ type_records (types_of l).target (t + source_weight l)

-- the records of lines
unfoldable pub line_records : List Line → (e t : ℕ) → List LineRecord
line_records [] e t = []
line_records (l ∷ ls) e t = line_record l e t ∷ line_records ls (e + exprs_of l) (t + types_in_line l)

unfoldable pub lines_exprs : List Line → (before : ℕ) → List ExprRecord
lines_exprs [] e = []
lines_exprs (l ∷ ls) e = expr_records (line_part l) e ++ lines_exprs ls (e + exprs_of l)

unfoldable pub lines_types : List Line → (before : ℕ) → List TypeRecord
lines_types [] t = []
lines_types (l ∷ ls) t = line_types l t ++ lines_types ls (t + types_in_line l)

-- ---- the rows of the tables: the records' words

abbrev pub line_rows : List Line → List (List ℕ)
line_rows ls = map line_words (line_records ls 0 0)

abbrev pub expr_rows_of : List Line → List (List ℕ)
expr_rows_of ls = map expr_words (lines_exprs ls 0)

abbrev pub type_rows_of : List Line → List (List ℕ)
type_rows_of ls = map type_words (lines_types ls 0)
