-- Document 01, Names and nodes: the nodes of a program with their in-degrees, and the names with their nodes.
use Rattle.std.specs.Prelude.{ℕ, suc, ◌+◌, Bool, List, [], ◌∷◌, map, length, eqb, if◌then◌else◌}
use Rattle.records.specs.NodeKind as node
use Rattle.records.specs.Records.{name_words, node_words}
use Rattle.records.specs.declared.NameRecord.{NameRecord}
use Rattle.records.specs.declared.NodeRecord.{NodeRecord}
use Rattle.lex.specs.Tokens.{Token}
use Rattle.grammar.specs.Tree.{Line}
use Rattle.names.specs.Names.{names_of, name_record}
use Rattle.walk.specs.Walk.{Node, Status, fresh, begun, finished, State, final}
use Rattle.walk.specs.Trees.{tree_of}

-- the walk of a program's names
unfoldable pub walked : List Line → State
walked ls =
    let ns : List Token = names_of ls in
    final (tree_of ls ns) (length ns)

abbrev pub nodes_of : List Line → List Node
nodes_of ls = (walked ls).nodes

-- ---- in-degrees

abbrev pub one_if : Bool → ℕ
one_if b = if b then 1 else 0

-- in-degree counts how often the node i stands as a child
unfoldable pub in_degree : List Node → (i : ℕ) → ℕ
in_degree [] i = 0
in_degree (x ∷ xs) i = one_if (eqb x.left i) + one_if (eqb x.right i) + in_degree xs i

-- kind, start, name number, left, right, two for a span, in-degree
abbrev pub node_record : Node → (in_degree : ℕ) → NodeRecord
node_record x d =
    record {
      kind = record { 0 = node.number x.kind };
      start = record { 0 = x.head.start };
      name = record { 0 = x.head.name };
      left = record { 0 = x.left };
      right = record { 0 = x.right };
      span = x.head.span;
      in_degree = d;
    }

-- the records of these nodes, of which the first is number i, each with its in-degree among all
unfoldable pub node_records_from : (all : List Node) → (i : ℕ) → List Node → List NodeRecord
node_records_from all i [] = []
node_records_from all i (x ∷ xs) = node_record x (in_degree all i) ∷ node_records_from all (suc i) xs

unfoldable pub node_records : List Node → List NodeRecord
node_records xs = node_records_from xs 1 xs

abbrev pub node_rows : List Node → List (List ℕ)
node_rows xs = map node_words (node_records xs)

-- ---- names with their nodes

-- the node of a name
abbrev pub node_no : Status → ℕ
node_no fresh = 0
node_no begun = 0
node_no (finished i) = i

-- the records of these names, of which the first is number n
unfoldable pub name_records_from : List Line → (status : ℕ → Status) → (n : ℕ) → List Token → List NameRecord
name_records_from ls st n [] = []
name_records_from ls st n (x ∷ xs) = name_record ls (node_no (st n)) x ∷ name_records_from ls st (suc n) xs

-- the records of the names after the walk
unfoldable pub name_records : List Line → List NameRecord
name_records ls = name_records_from ls (walked ls).status 1 (names_of ls)

abbrev pub named_rows : List Line → List (List ℕ)
named_rows ls = map name_words (name_records ls)
