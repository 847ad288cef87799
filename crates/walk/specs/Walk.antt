-- Document 01, Names and nodes: the walk. The names 1 to N, each with a tree, become nodes, numbered as finished. The Rust's
-- step 2.
use Rattle.std.specs.Prelude.{ℕ, zero, suc, ◌≤◌, Bool, true, false, ◌&&◌, List, [], ◌∷◌, ◌++◌, length, leb, eqb, if◌then◌else◌}
use Rattle.records.specs.NodeKind as node
use Rattle.records.specs.NodeKind.{PartKind}
use Rattle.records.specs.declared.Span.{Span}

-- what a node takes over from its part: its place, the name number that it carries (0 but for the outermost node of a name),
-- its span
pub record NodeHead : Type 0 where
  pub start : ℕ
  pub name : ℕ
  pub span : Span

-- what a part becomes: a node of its own kind, or an incomplete node
pub data Own : Type 0 where
  noexpr : Own
  of : PartKind → Own

abbrev pub own_kind : Own → node.Kind
own_kind noexpr = node.noexpr
own_kind (of k) = node.part k

-- `none` is an absent child; `part` is anything but a reference; `refer` is a reference to the name number n, which is 0 if
-- that name has no legal line.
pub data Tree : Type 0 where
  none : Tree
  part : Own → NodeHead → (left right : Tree) → Tree
  refer : NodeHead → (n : ℕ) → Tree

pub record Node : Type 0 where
  pub kind : node.Kind
  pub head : NodeHead
  pub left : ℕ
  pub right : ℕ

-- how far a name has come; a finished one has its node's number
pub data Status : Type 0 where
  fresh begun : Status
  finished : (number : ℕ) → Status

-- the nodes finished so far, and how far each name has come
pub record State : Type 0 where
  pub nodes : List Node
  pub status : ℕ → Status

-- a state, and the number of the node that was finished last, 0 for an absent child
pub record Walked : Type 0 where
  pub state : State
  pub number : ℕ

-- the name n has come as far as v, any other as far as before
unfoldable pub marked : (n : ℕ) → Status → (ℕ → Status) → ℕ → Status
marked n v st m = if eqb m n then v else st m

abbrev pub mark : (n : ℕ) → Status → State → State
mark n v s = record { nodes = s.nodes; status = marked n v s.status }

-- one node more: its number is one more than there were
abbrev pub finish : Node → State → Walked
finish x s = record { state = record { nodes = s.nodes ++ (x ∷ []); status = s.status }; number = suc (length s.nodes) }

-- A reference becomes a reference node if that name is finished, else a missing node: a name that is fresh then has no legal
-- line, and one that is begun is used inside itself. A reference's node is its left child.
abbrev pub resolve : NodeHead → Status → Node
resolve h fresh = record { kind = node.missing; head = h; left = 0; right = 0 }
resolve h begun = record { kind = node.missing; head = h; left = 0; right = 0 }
resolve h (finished i) = record { kind = node.ref; head = h; left = i; right = 0 }

-- The walk finishes the right child's subtree before the left's. `visit n` is what a reference to the name n does first.
unfoldable pub walk : (visit : ℕ → State → State) → Tree → State → Walked
walk visit none s = record { state = s; number = 0 }
walk visit (part k h l r) s =
    let right : Walked = walk visit r s in
    let left : Walked = walk visit l right.state in
    finish (record { kind = own_kind k; head = h; left = left.number; right = right.number }) left.state
walk visit (refer h n) s =
    let t : State = visit n s in
    finish (resolve h (t.status n)) t

abbrev pub is_fresh : Status → Bool
is_fresh fresh = true
is_fresh begun = false
is_fresh (finished i) = false

-- the name number n has a legal line: the names that have one are 1 to N
abbrev pub Legal : (N n : ℕ) → Type 0
Legal N n = (1 ≤ n) × (n ≤ N)

-- F n is the tree of the name n
module _ (F : ℕ → Tree) (N : ℕ) where
  -- it has a legal line and is not yet begun
  abbrev pub ready : (n : ℕ) → State → Bool
  ready n s = leb 1 n && leb n N && is_fresh (s.status n)

  -- begin the name n, walk its tree, and finish it with its outermost node
  unfoldable pub whole : (visit : ℕ → State → State) → (n : ℕ) → State → State
  whole visit n s =
      let w : Walked = walk visit (F n) (mark n begun s) in
      mark n (finished w.number) w.state

  unfoldable pub whole_if : Bool → (visit : ℕ → State → State) → (n : ℕ) → State → State
  whole_if true visit n s = whole visit n s
  whole_if false visit n s = s

  -- Finish the name n if it is ready. The first number bounds how many names are begun one inside the other: N is enough,
  -- since none is begun twice (proofs/Fuel.antt: `visit_unroll`).
  unfoldable pub visit_in : (bound : ℕ) → (n : ℕ) → State → State
  visit_in zero n s = s
  visit_in (suc k) n s = whole_if (ready n s) (visit_in k) n s

  unfoldable pub visit : (n : ℕ) → State → State
  visit n s = visit_in N n s

  -- the names 1 to n, in order, each not yet begun
  unfoldable pub names_to : (n : ℕ) → State → State
  names_to zero s = s
  names_to (suc n) s = visit (suc n) (names_to n s)

  abbrev pub unwalked : State
  unwalked = record { nodes = []; status = λ n. fresh }

  unfoldable pub final : State
  final = names_to N unwalked
