-- Document 01, Names and nodes: the errors of a program. The missing and incomplete errors of the Rust's step 3 stand behind those of
-- lines.
use Rattle.std.specs.Prelude.{ℕ, ◌+◌, ◌≤◌, ◌≡◌, List, [], ◌∷◌, ◌++◌, length}
use Rattle.records.specs.Limits.{record_limit, node_width, error_width}
use Rattle.records.specs.NodeKind as node
use Rattle.records.specs.ErrorKind as error
use Rattle.tables.specs.Tables.{table_of}
use Rattle.grammar.specs.Tree.{Line}
use Rattle.names.specs.Names.{Error, errors_of, error_rows}
use Rattle.walk.specs.Walk.{NodeHead, Node}
use Rattle.walk.specs.Nodes.{nodes_of, node_rows}

-- an error at a node's start; its name is that node's span
abbrev pub node_error : error.Kind → NodeHead → Error
node_error k h = record { kind = k; start = h.start; name = h.span }

-- one missing or incomplete error for each such node
abbrev pub errors_by : node.Kind → NodeHead → List Error
errors_by node.missing h = node_error error.missing h ∷ []
errors_by node.noexpr h = node_error error.incomplete h ∷ []
errors_by node.ref h = []
errors_by (node.part k) h = []

-- in node order
unfoldable pub node_errors : List Node → List Error
node_errors [] = []
node_errors (x ∷ xs) = errors_by x.kind x.head ++ node_errors xs

-- first those of lines, in line order, then those of nodes, in node order
unfoldable pub all_errors : List Line → List Error
all_errors ls = errors_of ls ++ node_errors (nodes_of ls)

-- ---- what the code reads and leaves

-- the table holds these nodes, there are so many, and there is room for their errors behind those that there are
pub record HeldNodes (nodes : List ℕ) (count before : ℕ) (xs : List Node) (es : List Error) : Type 0 where
  pub old : List ℕ
  pub table : nodes ≡ table_of node_width (node_rows xs) old
  pub counted : count ≡ length xs
  pub few : length xs ≤ record_limit
  pub behind : before ≡ length es
  pub room : length es + length (node_errors xs) ≤ record_limit

-- the errors of nodes stand behind those that there were
unfoldable pub Appends : (nodes : List ℕ) → (count before : ℕ) → (r : ℕ) → (errors errors' : List ℕ) → Type 0
Appends nd c b r rs rs' =
    (xs : List Node) (es : List Error) (old : List ℕ) → HeldNodes nd c b xs es → rs ≡ table_of error_width (error_rows es) old
    → (r ≡ length (es ++ node_errors xs)) × (rs' ≡ table_of error_width (error_rows (es ++ node_errors xs)) old)
