-- Which part a node stands for. proofs/: each node stands for a part, each part of each name's tree has a node, and there are as
-- many nodes as parts.
use Rattle.std.specs.Prelude.{ℕ, ◌+◌, ◌≡◌, ◌⊎◌, List, [], ◌∷◌, map}
use Rattle.std.proofs.Math.Option.{Option, none as no, some}
use Rattle.records.specs.NodeKind as node
use Rattle.lex.specs.Tokens.{Token}
use Rattle.grammar.specs.Tree.{Expr, Line}
use Rattle.grammar.specs.Part.{part_of, weight}
use Rattle.names.specs.Names.{names_of, first_expression}
use Rattle.walk.specs.Walk.{NodeHead, own_kind, Tree, none, part, refer, Node, Legal}
use Rattle.walk.specs.Trees.{record_no}

-- t is the tree u or a part of it
unfoldable pub PartOf : Tree → Tree → Type 0
PartOf t none = ⊥
PartOf t (part k h l r) = (t ≡ part k h l r) ⊎ PartOf t l ⊎ PartOf t r
PartOf t (refer h m) = t ≡ refer h m

-- the node number c of xs has the head h
abbrev pub Shows : List Node → (c : ℕ) → NodeHead → Type 0
Shows xs c h = (x : Node) × (record_no xs c ≡ some x) × (x.head ≡ h)

-- c is the number of the node that stands for the tree t; 0 for no tree
abbrev pub Points : List Node → (c : ℕ) → Tree → Type 0
Points xs c none = c ≡ 0
Points xs c (part k h l r) = Shows xs c h
Points xs c (refer h m) = Shows xs c h

-- F n is the tree of the name n; the names that have a legal line are 1 to N
module _ (F : ℕ → Tree) (N : ℕ) where
  -- The node x stands for the tree t: it has its head, its own kind and the nodes of its children; a reference is a reference
  -- node of the name's outermost node, or it is missing.
  unfoldable pub StandsFor : List Node → Node → Tree → Type 0
  StandsFor xs x none = ⊥
  StandsFor xs x (part k h l r) = (x.kind ≡ own_kind k) × (x.head ≡ h) × Points xs x.left l × Points xs x.right r
  StandsFor xs x (refer h m) =
      (x.head ≡ h) × (x.right ≡ 0)
      × (((x.kind ≡ node.ref) × Legal N m × Points xs x.left (F m)) ⊎ ((x.kind ≡ node.missing) × (x.left ≡ 0)))

  -- the node x stands for a part of a name's tree
  pub record Stands (xs : List Node) (x : Node) : Type 0 where
    pub holder : ℕ
    pub legal : Legal N holder
    pub tree : Tree
    pub inside : PartOf tree (F holder)
    pub for : StandsFor xs x tree

-- ---- how many parts there are

-- the parts of a first expression; a name that has none gives one node
abbrev pub parts_for : Option Expr → ℕ
parts_for no = 1
parts_for (some e) = weight (part_of e)

unfoldable pub sum : List ℕ → ℕ
sum [] = 0
sum (n ∷ ns) = n + sum ns

-- of all first expressions, with one for each incomplete name
unfoldable pub parts_of : List Line → ℕ
parts_of ls = sum (map (λ (x : Token). parts_for (first_expression ls x.text)) (names_of ls))
