-- Document 01, Names and nodes: the trees of a program's names. A reference is found by its text, and the outermost part carries
-- its name.
use Rattle.std.specs.Prelude.{ℕ, zero, suc, List, [], ◌∷◌}
use Rattle.std.proofs.Math.Option.{Option, none, some}
use Rattle.records.specs.declared.Span.{Span}
use Rattle.lex.specs.Tokens.{Token}
use Rattle.grammar.specs.Tree.{Expr, Line}
use Rattle.grammar.specs.Part as part
use Rattle.grammar.specs.Part.{Part, part_of, span_of}
use Rattle.symbols.specs.Symbols.{find}
use Rattle.names.specs.Names.{first_expression}
use Rattle.walk.specs.Walk as walk
use Rattle.walk.specs.Walk.{NodeHead, Tree, noexpr, of}

-- place, name number, span
abbrev pub head : (at name : ℕ) → Span → NodeHead
head at n s = record { start = at; name = n; span = s }

-- a part, each reference with the number of its name; the name number is 0 but for the outermost node of a name
unfoldable pub tree_of_part : (names : List Token) → Part → Tree
tree_of_part ns part.none = walk.none
tree_of_part ns (part.part k at s l r) = walk.part (of k) (head at 0 s) (tree_of_part ns l) (tree_of_part ns r)
tree_of_part ns (part.refer x) = walk.refer (head x.start 0 (span_of x)) (find ns x.text)

-- the outermost node of the name n has the name's place and number
unfoldable pub outermost : (n : ℕ) → (name : Token) → Tree → Tree
outermost n x walk.none = walk.none
outermost n x (walk.part k h l r) = walk.part k (head x.start n h.span) l r
outermost n x (walk.refer h m) = walk.refer (head x.start n h.span) m

-- with no expression a name becomes an incomplete node, whose span is the name
unfoldable pub tree_by : (names : List Token) → (n : ℕ) → (name : Token) → Option Expr → Tree
tree_by ns n x none = walk.part noexpr (head x.start n (span_of x)) walk.none walk.none
tree_by ns n x (some e) = outermost n x (tree_of_part ns (part_of e))

-- the record number n; 0 and a number past the last are none
unfoldable pub record_no : {A : Type 0} → List A → (n : ℕ) → Option A
record_no xs zero = none
record_no [] (suc n) = none
record_no (x ∷ xs) (suc zero) = some x
record_no (x ∷ xs) (suc (suc n)) = record_no xs (suc n)

unfoldable pub tree_if : List Line → (names : List Token) → (n : ℕ) → Option Token → Tree
tree_if ls ns n none = walk.none
tree_if ls ns n (some x) = tree_by ns n x (first_expression ls x.text)

-- the tree of a name by its number: that of its first expression
unfoldable pub tree_of : List Line → (names : List Token) → (n : ℕ) → Tree
tree_of ls ns n = tree_if ls ns n (record_no ns n)
