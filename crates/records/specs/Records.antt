-- Document 01, Sizes: the words of a record.
use Rattle.std.specs.Prelude.{ℕ, zero, suc, List, [], ◌∷◌, ◌++◌}
use Rattle.records.specs.Limits.{token_width, line_width, expr_width, type_width, name_width, node_width, error_width}
use Rattle.records.specs.declared.Span.{Span}
use Rattle.records.specs.declared.TokenRecord.{TokenRecord}
use Rattle.records.specs.declared.LineRecord.{LineRecord}
use Rattle.records.specs.declared.ExprRecord.{ExprRecord}
use Rattle.records.specs.declared.TypeRecord.{TypeRecord}
use Rattle.records.specs.declared.NameRecord.{NameRecord}
use Rattle.records.specs.declared.NodeRecord.{NodeRecord}
use Rattle.records.specs.declared.ErrorRecord.{ErrorRecord}

-- the span of what has none
abbrev pub no_span : Span
no_span = record { start = record { 0 = 0 }; len = 0 }

-- token 3: kind, start, length
abbrev pub token_words : TokenRecord → List ℕ
token_words t = t.kind.0 ∷ t.span.start.0 ∷ t.span.len ∷ []

-- line 5: name start, name length, expression, source type, target type
abbrev pub line_words : LineRecord → List ℕ
line_words l = l.name.start.0 ∷ l.name.len ∷ l.expr.0 ∷ l.source.0 ∷ l.target.0 ∷ []

-- expression 6: kind, start, left, right, two for a span
abbrev pub expr_words : ExprRecord → List ℕ
expr_words e = e.kind.0 ∷ e.start.0 ∷ e.left.0 ∷ e.right.0 ∷ e.span.start.0 ∷ e.span.len ∷ []

-- type 4: kind, left, right, n; for a name, start and length stand in left and right
abbrev pub type_words : TypeRecord → List ℕ
type_words t = t.kind.0 ∷ t.left ∷ t.right ∷ t.n ∷ []

-- name 4: start, length, expression, node
abbrev pub name_words : NameRecord → List ℕ
name_words n = n.span.start.0 ∷ n.span.len ∷ n.expr.0 ∷ n.node.0 ∷ []

-- node 8: kind, start, name number, left, right, two for a span, in-degree
abbrev pub node_words : NodeRecord → List ℕ
node_words n = n.kind.0 ∷ n.start.0 ∷ n.name.0 ∷ n.left.0 ∷ n.right.0 ∷ n.span.start.0 ∷ n.span.len ∷ n.in_degree ∷ []

-- error 4: kind, start, name start, name length
abbrev pub error_words : ErrorRecord → List ℕ
error_words e = e.kind.0 ∷ e.start.0 ∷ e.name.start.0 ∷ e.name.len ∷ []

-- n numbers from i on
abbrev from : (n i : ℕ) → List ℕ
from zero i = []
from (suc n) i = i ∷ from n (suc i)

-- the words of a record count from 0 in the order above
abbrev pub word_places : List ℕ
word_places =
    from token_width 0 ++ from line_width 0 ++ from expr_width 0 ++ from type_width 0 ++ from name_width 0 ++ from node_width 0
    ++ from error_width 0
