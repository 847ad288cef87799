-- Examples of nodes with their in-degrees and of names with their nodes, by computing from the text of a source.
use Prim.Native.Nat.{ℕ}
use Prim.Native.String.{String}
use mathlib.Core.Path.{◌≡◌, refl}
use mathlib.Core.List.{List, [], ◌∷◌}
use Rattle.records.specs.NodeKind as node
use Rattle.names.proofs.Examples as names
use Rattle.names.proofs.Examples.{lines_of}
use Rattle.walk.specs.Walk.{marked, walk, whole, whole_if, visit_in, visit, names_to, final}
use Rattle.walk.specs.Trees.{tree_of_part, outermost, tree_by, record_no, tree_if, tree_of}
use Rattle.walk.specs.Nodes.{walked, nodes_of, in_degree, node_records_from, node_records, node_rows, name_records_from, name_records, named_rows}

-- where `opened` unfolds, all of these compute
unfoldable pub opened : ℕ
unfolding names.opened marked walk whole whole_if visit_in visit names_to final tree_of_part outermost tree_by record_no tree_if tree_of walked in_degree node_records_from node_records name_records_from name_records
opened = 0

abbrev nodes : String → List (List ℕ)
nodes s = node_rows (nodes_of (lines_of s))

abbrev named : String → List (List ℕ)
named s = named_rows (lines_of s)

-- a node: its kind, place, name number, left, right, span and in-degree
abbrev row : node.Kind → (at name left right start len in_degree : ℕ) → List ℕ
row k at n l r s w d = node.number k ∷ at ∷ n ∷ l ∷ r ∷ s ∷ w ∷ d ∷ []

-- an assertion on a literal CMR has its node, with no right child and the literal as its span
pub literal_nodes :
    nodes "a := assertl unit #0123456789abcdef0123456789abcdef0123456789abcdef0123456789abcdef"
    ≡ row (node.part node.unit) 13 0 0 0 0 0 1 ∷ row (node.part node.assertl) 0 1 1 0 18 65 0 ∷ []
unfolding opened
literal_nodes = refl

-- the right child before the left, and a name's nodes where it is first used
pub pair_nodes :
    nodes "main := pair a iden\na := unit"
    ≡ row (node.part node.iden) 15 0 0 0 0 0 1
    ∷ row (node.part node.unit) 20 2 0 0 0 0 1
    ∷ row node.ref 13 0 2 0 13 1 1
    ∷ row (node.part node.pair) 0 1 3 1 0 0 0
    ∷ []
unfolding opened
pair_nodes = refl

-- start, length, expression, node
pub pair_names : named "main := pair a iden\na := unit" ≡ (0 ∷ 4 ∷ 3 ∷ 4 ∷ []) ∷ (20 ∷ 1 ∷ 4 ∷ 2 ∷ []) ∷ []
unfolding opened
pair_names = refl

-- a name used in itself
pub self_nodes : nodes "a := a" ≡ row node.missing 0 1 0 0 5 1 0 ∷ []
unfolding opened
self_nodes = refl

-- two names that use each other: the second is begun inside the first, and does not find it finished
pub loop_nodes : nodes "a := b b := a" ≡ row node.missing 7 2 0 0 12 1 1 ∷ row node.ref 0 1 1 0 5 1 0 ∷ []
unfolding opened
loop_nodes = refl

-- a name with no legal line
pub unknown_nodes : nodes "a := injl _" ≡ row node.missing 10 0 0 0 10 1 1 ∷ row (node.part node.injl) 0 1 1 0 0 0 0 ∷ []
unfolding opened
unknown_nodes = refl

-- a name with no expression
pub typed_nodes : nodes "a : 1 -> 1" ≡ row node.noexpr 0 1 0 0 0 1 0 ∷ []
unfolding opened
typed_nodes = refl
