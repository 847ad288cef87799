-- Document 01, Names and nodes: roots.
use Rattle.std.specs.Prelude.{Bool, false, List, [], ◌∷◌, eqb, if◌then◌else◌}
use Rattle.std.proofs.Math.Option.{Option, none, some}
use Rattle.records.specs.declared.NameRecord.{NameRecord}
use Rattle.records.specs.declared.NodeRecord.{NodeRecord}
use Rattle.walk.specs.Trees.{record_no}

abbrev pub no_parent : Option NodeRecord → Bool
no_parent none = false
no_parent (some x) = eqb x.in_degree 0

-- the name's node has the in-degree 0
unfoldable pub is_root : List NodeRecord → NameRecord → Bool
is_root xs n = no_parent (record_no xs n.node.0)

-- named nodes of in-degree 0, in order of names
unfoldable pub roots : List NameRecord → List NodeRecord → List NameRecord
roots [] xs = []
roots (n ∷ ns) xs =
    let later : List NameRecord = roots ns xs in
    if is_root xs n then n ∷ later else later
