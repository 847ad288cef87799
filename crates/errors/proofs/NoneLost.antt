-- No root is lost: the node of each name is a root, or a reference has it as its child. Only a reference can: the children of any
-- other part are parts of the same expression, whose nodes have no name number. Assumes nothing.
use Prim.Native.Nat.{ℕ, ◌+◌, ◌≤◌}
use mathlib.Core.Bool.{Bool, true, false}
use mathlib.Core.Path.{◌≡◌, refl, sym, ap, subst, ◌∙◌}
use mathlib.Core.Logic.{◌⊎◌, inl, inr}
use mathlib.Core.List.{List, [], ◌∷◌}
use mathlib.Core.Option.{Option, none as no, some}
use native.Mathlib.Omega.{arith}
use lib.ListN.{length}
use lib.Dec.{eqb}
use borrow.Author.Tests.{eqb-true}
use Rattle.records.specs.NodeKind as node
use Rattle.lex.specs.Tokens.{Token}
use Rattle.grammar.specs.Tree.{Expr, Line}
use Rattle.grammar.specs.Part as part
use Rattle.grammar.specs.Part.{Part, part_of}
use Rattle.grammar.specs.Recorded.{part_no}
use Rattle.grammar.specs.Places.{Each}
use Rattle.names.specs.Names.{names_of, first_expression}
use Rattle.names.specs.Uses.{In}
use Rattle.names.proofs.Reading.{number_some}
use Rattle.walk.specs.Walk.{NodeHead, Tree, none, part, refer, Node, finished, Legal}
use Rattle.walk.specs.Trees.{record_no, tree_of_part, outermost, tree_by, tree_of}
use Rattle.walk.specs.Nodes.{walked, nodes_of, one_if, in_degree}
use Rattle.walk.specs.Stands.{PartOf, Points, StandsFor, Stands}
use Rattle.walk.proofs.Numbered.{same_record, record_bounds, record_at_law}
use Rattle.walk.proofs.Referring.{tree_at}
use Rattle.walk.proofs.Standing.{each_stands, every_name_finished}

-- ---- name numbers in a tree

-- no part carries a name number
unfoldable Unnamed : Tree → Type 0
Unnamed none = Unit {0}
Unnamed (part k h l r) = (h.name ≡ 0) × Unnamed l × Unnamed r
Unnamed (refer h m) = h.name ≡ 0

-- none but perhaps the outermost does
unfoldable Inside : Tree → Type 0
Inside none = Unit {0}
Inside (part k h l r) = Unnamed l × Unnamed r
Inside (refer h m) = Unit {0}

numbered_unnamed : (ns : List Token) (p : Part) → Unnamed (tree_of_part ns p)
unfolding Unnamed tree_of_part
numbered_unnamed ns part.none = tt
numbered_unnamed ns (part.part k at s l r) = (refl, numbered_unnamed ns l, numbered_unnamed ns r)
numbered_unnamed ns (part.refer x) = refl

tree_inside : (ns : List Token) (n : ℕ) (x : Token) (o : Option Expr) → Inside (tree_by ns n x o)
unfolding tree_by
tree_inside ns n x no = unfold Inside Unnamed in (tt, tt)
tree_inside ns n x (some e) = go (part_of e)
  where
    go : (p : Part) → Inside (outermost n x (tree_of_part ns p))
    go part.none = unfold Inside tree_of_part outermost in tt
    go (part.part k at s l r) = unfold Inside tree_of_part outermost in (numbered_unnamed ns l, numbered_unnamed ns r)
    go (part.refer y) = unfold Inside tree_of_part outermost in tt

unnamed_part : (t u : Tree) → Unnamed u → PartOf t u → Unnamed t
unfolding Unnamed PartOf
unnamed_part t none h q = absurd q
unnamed_part t (part k g l r) h (inl e) = subst Unnamed (sym e) h
unnamed_part t (part k g l r) h (inr (inl q)) = unnamed_part t l h.1 q
unnamed_part t (part k g l r) h (inr (inr q)) = unnamed_part t r h.2 q
unnamed_part t (refer g m) h e = subst Unnamed (sym e) h

unnamed_inside : (t : Tree) → Unnamed t → Inside t
unfolding Unnamed Inside
unnamed_inside none h = tt
unnamed_inside (part k g l r) h = (h.1, h.2)
unnamed_inside (refer g m) h = tt

inside_part : (t u : Tree) → Inside u → PartOf t u → Inside t
unfolding Inside PartOf
inside_part t none h q = absurd q
inside_part t (part k g l r) h (inl e) = subst Inside (sym e) h
inside_part t (part k g l r) h (inr (inl q)) = unnamed_inside t (unnamed_part t l h.0 q)
inside_part t (part k g l r) h (inr (inr q)) = unnamed_inside t (unnamed_part t r h.1 q)
inside_part t (refer g m) h e = subst Inside (sym e) h

-- ---- nodes by the name number that they carry

-- the node of a tree that carries none
unnamed_node : (xs : List Node) (c : ℕ) (t : Tree) (y : Node) → record_no xs c ≡ some y → Unnamed t → Points xs c t → y.head.name ≡ 0
unfolding Unnamed
unnamed_node xs c none y e h p = absurd (omega (arith, p, record_bounds xs c y e))
unnamed_node xs c (part k g l r) y e h p = ap (λ (x : Node). x.head.name) (same_record (record_no xs c) y p.0 e p.1) ∙ ap (λ (f : NodeHead). f.name) p.2 ∙ h.0
unnamed_node xs c (refer g m) y e h p = ap (λ (x : Node). x.head.name) (same_record (record_no xs c) y p.0 e p.1) ∙ ap (λ (f : NodeHead). f.name) p.2 ∙ h

-- the node of a name carries its number
named_node : (xs : List Node) (c : ℕ) (ns : List Token) (n : ℕ) (x : Token) (o : Option Expr) → Points xs c (tree_by ns n x o) → (y : Node) × (record_no xs c ≡ some y) × (y.head.name ≡ n)
unfolding tree_by
named_node xs c ns n x no p = (p.0, p.1, ap (λ (f : NodeHead). f.name) p.2)
named_node xs c ns n x (some e) p = go (part_of e) (number_some e 0) p
  where
    go : (q : Part) → 1 ≤ part_no q 0 → Points xs c (outermost n x (tree_of_part ns q)) → (y : Node) × (record_no xs c ≡ some y) × (y.head.name ≡ n)
    go part.none h p = absurd (omega (arith, h))
    go (part.part k at s l r) h p = unfold tree_of_part outermost in (p.0, p.1, ap (λ (f : NodeHead). f.name) p.2)
    go (part.refer z) h p = unfold tree_of_part outermost in (p.0, p.1, ap (λ (f : NodeHead). f.name) p.2)

-- ---- in-degrees

-- the node i is a child of x
abbrev pub ChildOf : (i : ℕ) → Node → Type 0
ChildOf i x = (x.left ≡ i) ⊎ (x.right ≡ i)

-- a node is a child of none, or of one of the nodes
degree_or_parent : (xs : List Node) (i : ℕ) → (in_degree xs i ≡ 0) ⊎ ((x : Node) × In x xs × ChildOf i x)
unfolding in_degree
degree_or_parent [] i = inl refl
degree_or_parent (x ∷ xs) i = go (eqb x.left i) refl (eqb x.right i) refl (degree_or_parent xs i)
  where
    go : (a : Bool) → eqb x.left i ≡ a → (b : Bool) → eqb x.right i ≡ b → (in_degree xs i ≡ 0) ⊎ ((y : Node) × In y xs × ChildOf i y)
        → (one_if a + one_if b + in_degree xs i ≡ 0) ⊎ ((y : Node) × In y (x ∷ xs) × ChildOf i y)
    go true e b f r = inr (x, inl refl, inl (eqb-true x.left i e))
    go false e true f r = inr (x, inl refl, inr (eqb-true x.right i f))
    go false e false f (inl z) = inl (omega (arith, z))
    go false e false f (inr q) = inr (q.0, inr q.1, q.2)

each_in : {A : Type 0} (P : A → Type 0) (xs : List A) (a : A) → Each P xs → In a xs → P a
each_in P [] a h i = absurd i
each_in P (x ∷ xs) a h (inl e) = subst P e h.0
each_in P (x ∷ xs) a h (inr i) = each_in P xs a h.1 i

-- ---- the theorem

module _ (ls : List Line) where
  abbrev names : List Token
  names = names_of ls

  abbrev tree : ℕ → Tree
  tree = tree_of ls names

  -- a part's children carry no name number
  part_inside : (m : ℕ) → Legal (length names) m → (t : Tree) → PartOf t (tree m) → Inside t
  part_inside m l t q =
      let x = record_at_law names m l.0 l.1 in
      inside_part t (tree m) (subst Inside (sym (tree_at ls names m x.0 x.1)) (tree_inside names m x.0 (first_expression ls x.0.text))) q

  module _ (n : ℕ) (legal : Legal (length names) n) where
    -- the name's node
    name_node : (i : ℕ) → Points (nodes_of ls) i (tree n) → (y : Node) × (record_no (nodes_of ls) i ≡ some y) × (y.head.name ≡ n)
    name_node i p =
        let x = record_at_law names n legal.0 legal.1 in
        named_node (nodes_of ls) i names n x.0 (first_expression ls x.0.text) (subst (λ (t : Tree). Points (nodes_of ls) i t) (tree_at ls names n x.0 x.1) p)

    -- THE NUMBER THAT A NAME IS FINISHED WITH IS THAT OF ITS NODE
    pub name_shown : (i : ℕ) → (walked ls).status n ≡ finished i → (y : Node) × (record_no (nodes_of ls) i ≡ some y) × (y.head.name ≡ n)
    unfolding walked
    name_shown i done = name_node i (subst (λ (c : ℕ). Points (nodes_of ls) c (tree n)) same d.2)
      where
        d : (c : ℕ) × ((walked ls).status n ≡ finished c) × Points (nodes_of ls) c (tree n)
        d = every_name_finished tree (length names) n legal

        same : d.0 ≡ i
        same = let e : finished d.0 ≡ finished i = sym d.1 ∙ done in cc

    -- ONLY A REFERENCE HAS A NAME'S NODE AS ITS CHILD
    pub reference_above : (i : ℕ) → (walked ls).status n ≡ finished i → (x : Node) → In x (nodes_of ls) → ChildOf i x → (x.kind ≡ node.ref) × (x.left ≡ i)
    unfolding walked
    reference_above i done x j k = go st.tree (part_inside st.holder st.legal st.tree st.inside) st.for k
      where
        st : Stands tree (length names) (nodes_of ls) x
        st = each_in (Stands tree (length names) (nodes_of ls)) (nodes_of ls) x (each_stands tree (length names)) j

        own : (y : Node) × (record_no (nodes_of ls) i ≡ some y) × (y.head.name ≡ n)
        own = name_shown i done

        -- i is no child that carries no name number
        apart : (c : ℕ) (t : Tree) → Unnamed t → Points (nodes_of ls) c t → c ≡ i → ⊥
        apart c t h p e = omega (arith, legal.0, own.2, unnamed_node (nodes_of ls) i t own.0 own.1 h (subst (λ (b : ℕ). Points (nodes_of ls) b t) e p))

        some_node : 1 ≤ i
        some_node = (record_bounds (nodes_of ls) i own.0 own.1).0

        go : (t : Tree) → Inside t → StandsFor tree (length names) (nodes_of ls) x t → ChildOf i x → (x.kind ≡ node.ref) × (x.left ≡ i)
        go none h p c = unfold StandsFor in absurd p
        go (part q g l r) h p (inl e) = unfold StandsFor Inside in absurd (apart x.left l h.0 p.2 e)
        go (part q g l r) h p (inr e) = unfold StandsFor Inside in absurd (apart x.right r h.1 p.3 e)
        go (refer g m) h p (inr e) = unfold StandsFor in absurd (omega (arith, some_node, e, p.1))
        go (refer g m) h p (inl e) = unfold StandsFor in by p.2
          where
            by : ((x.kind ≡ node.ref) × Legal (length names) m × Points (nodes_of ls) x.left (tree m)) ⊎ ((x.kind ≡ node.missing) × (x.left ≡ 0)) → (x.kind ≡ node.ref) × (x.left ≡ i)
            by (inl q) = (q.0, e)
            by (inr q) = absurd (omega (arith, some_node, e, q.1))

    -- NO ROOT IS LOST: the node of a name has in-degree 0, or it is the child of a reference
    pub none_lost : (i : ℕ) × ((walked ls).status n ≡ finished i) × ((in_degree (nodes_of ls) i ≡ 0) ⊎ ((x : Node) × In x (nodes_of ls) × (x.kind ≡ node.ref) × (x.left ≡ i)))
    unfolding walked
    none_lost = let d = every_name_finished tree (length names) n legal in (d.0, d.1, go d.0 d.1 (degree_or_parent (nodes_of ls) d.0))
      where
        go : (i : ℕ) → (walked ls).status n ≡ finished i → (in_degree (nodes_of ls) i ≡ 0) ⊎ ((x : Node) × In x (nodes_of ls) × ChildOf i x)
            → (in_degree (nodes_of ls) i ≡ 0) ⊎ ((x : Node) × In x (nodes_of ls) × (x.kind ≡ node.ref) × (x.left ≡ i))
        go i e (inl z) = inl z
        go i e (inr q) = let r = reference_above i e q.0 q.1 q.2 in inr (q.0, q.1, r.0, r.1)
