-- What step 2 reads, answers and leaves.
use Rattle.std.specs.Prelude.{ℕ, ◌≡◌, List, [], length}
use Rattle.records.specs.Limits.{name_width, node_width, work_width}
use Rattle.tables.specs.Tables.{table_of}
use Rattle.grammar.specs.Tree.{Line}
use Rattle.names.specs.Names.{names_of, name_rows}
use Rattle.names.specs.Held.{Held}
use Rattle.walk.specs.Nodes.{nodes_of, node_rows, named_rows}

-- the tables of expressions and of names are those of these lines, before the walk
pub record HeldNames (source exprs names : List ℕ) (count : ℕ) (ls : List Line) : Type 0 where
  pub held : Held source exprs ls
  pub old : List ℕ
  pub table : names ≡ table_of name_width (name_rows ls) old
  pub counted : count ≡ length (names_of ls)

-- the nodes, the names with their nodes, and the work words zero
abbrev pub Resolved : List Line → (count : ℕ) → (names names' nodes nodes' work work' : List ℕ) → Type 0
Resolved ls r ns ns' xs xs' ws ws' =
    (r ≡ length (nodes_of ls))
    × (ns' ≡ table_of name_width (named_rows ls) ns)
    × (xs' ≡ table_of node_width (node_rows (nodes_of ls)) xs)
    × (ws' ≡ table_of work_width [] ws)
