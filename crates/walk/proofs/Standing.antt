-- Each node stands for a part, each part of each name's tree has a node that stands for it, each name is finished with the node of
-- its tree, and children stand before parents.
use Prim.Native.Nat.{ℕ, suc, ◌≤◌, ◌<◌}
use mathlib.Core.Path.{◌≡◌, refl, sym, subst}
use mathlib.Core.Logic.{◌⊎◌, inl, inr}
use mathlib.Core.List.{List, [], ◌∷◌, ◌++◌}
use mathlib.Core.Option.{some}
use native.Mathlib.Omega.{arith}
use lib.ListN.{length}
use Rattle.records.specs.NodeKind as node
use Rattle.grammar.specs.Places.{Each, numbered}
use Rattle.walk.specs.Walk.{NodeHead, Own, own_kind, Tree, none, part, refer, Node, fresh, finished, State, resolve, final}
use Rattle.walk.specs.Trees.{record_no}
use Rattle.walk.specs.Stands.{PartOf, Points, StandsFor, Stands}
use Rattle.walk.specs.Demand.{Later}
use Rattle.walk.proofs.Fuel.{all_done}
use Rattle.walk.proofs.Numbered.{record_bounds, record_front, record_last, behind_each, behind_numbered}
use Rattle.walk.proofs.Parts.{Made, Rules, each_node, each_name}
use Rattle.walk.specs.Walk.{Legal}

-- ---- the node of a tree, with more nodes behind

pub points_more : (xs ys : List Node) (c : ℕ) (t : Tree) → Points xs c t → Points (xs ++ ys) c t
points_more xs ys c none p = p
points_more xs ys c (part k h l r) p = (p.0, record_front xs ys c p.0 p.1, p.2)
points_more xs ys c (refer h m) p = (p.0, record_front xs ys c p.0 p.1, p.2)

points_low : (xs : List Node) (c : ℕ) (t : Tree) → Points xs c t → c ≤ length xs
points_low xs c none p = omega (arith, p)
points_low xs c (part k h l r) p = (record_bounds xs c p.0 p.1).1
points_low xs c (refer h m) p = (record_bounds xs c p.0 p.1).1

module _ (F : ℕ → Tree) (N : ℕ) where
  stands_more : (xs ys : List Node) (x : Node) (t : Tree) → StandsFor F N xs x t → StandsFor F N (xs ++ ys) x t
  unfolding StandsFor
  stands_more xs ys x none p = p
  stands_more xs ys x (part k h l r) p = (p.0, p.1, points_more xs ys x.left l p.2, points_more xs ys x.right r p.3)
  stands_more xs ys x (refer h m) p = (p.0, p.1, go p.2)
    where
      go : ((x.kind ≡ node.ref) × Legal N m × Points xs x.left (F m)) ⊎ ((x.kind ≡ node.missing) × (x.left ≡ 0))
          → ((x.kind ≡ node.ref) × Legal N m × Points (xs ++ ys) x.left (F m)) ⊎ ((x.kind ≡ node.missing) × (x.left ≡ 0))
      go (inl q) = inl (q.0, q.1, points_more xs ys x.left (F m) q.2)
      go (inr q) = inr q

  -- a node of xs stands for the tree t
  abbrev pub HasNode : List Node → Tree → Type 0
  HasNode xs t = (c : ℕ) × (x : Node) × (record_no xs c ≡ some x) × StandsFor F N xs x t

  has_more : (xs ys : List Node) (t : Tree) → HasNode xs t → HasNode (xs ++ ys) t
  has_more xs ys t p = (p.0, p.1, record_front xs ys p.0 p.1 p.2, stands_more xs ys p.1 t p.3)

  pub has_points : (xs : List Node) (t : Tree) → HasNode xs t → (c : ℕ) × Points xs c t
  unfolding StandsFor
  has_points xs none p = absurd p.3
  has_points xs (part k h l r) p = (p.0, (p.1, p.2, p.3.1))
  has_points xs (refer h m) p = (p.0, (p.1, p.2, p.3.0))

  -- ---- the instance

  -- c is the number of the tree's node, and each part of the tree has a node
  abbrev Placed : State → ℕ → Tree → Type 0
  Placed s c t = Points s.nodes c t × ((u : Tree) → PartOf u t → HasNode s.nodes u)

  rules : Rules F N (Stands F N) Placed (λ b n. Unit {0})
  unfolding PartOf StandsFor
  rules =
      record {
        begins = λ n. tt;
        deeper = λ b n m h ln lm p c. tt;
        stays = λ s t c u a p. subst (λ (l : List Node). Points l c u × ((v : Tree) → PartOf v u → HasNode l v)) (sym a.nodes)
            (points_more s.nodes a.more c u p.0, λ v q. has_more s.nodes a.more v (p.1 v q));
        Absent = λ s. (refl, λ u q. absurd q);
        own = λ s n k h l r a b ln p pa pb.
            let x : Node = record { kind = own_kind k; head = h; left = a; right = b } in
            let st : StandsFor F N s.nodes x (part k h l r) = (refl, refl, pa.0, pb.0) in (
              record { holder = n; legal = ln; tree = part k h l r; inside = p; for = st },
              ((x, record_last s.nodes x, refl), λ u q. parts s k h l r x st pa.1 pb.1 u q),
            );
        found = λ s n h m j ln p lm e pj.
            alone s n h m (resolve h (finished j)) ln p refl (refl, refl, inl (refl, lm, pj.0));
        missing = λ s n h m ln p c. alone s n h m (resolve h fresh) ln p refl (refl, refl, inr (refl, refl));
      }
    where
      last : (s : State) (x : Node) (t u : Tree) → StandsFor F N s.nodes x t → u ≡ t → HasNode (s.nodes ++ (x ∷ [])) u
      last s x t u st e =
          subst (λ (v : Tree). HasNode (s.nodes ++ (x ∷ [])) v) (sym e)
          (suc (length s.nodes), x, record_last s.nodes x, stands_more s.nodes (x ∷ []) x t st)

      parts : (s : State) (k : Own) (h : NodeHead) (l r : Tree) (x : Node) → StandsFor F N s.nodes x (part k h l r)
          → ((u : Tree) → PartOf u l → HasNode s.nodes u) → ((u : Tree) → PartOf u r → HasNode s.nodes u)
          → (u : Tree) → (u ≡ part k h l r) ⊎ PartOf u l ⊎ PartOf u r → HasNode (s.nodes ++ (x ∷ [])) u
      parts s k h l r x st pl pr u (inl e) = last s x (part k h l r) u st e
      parts s k h l r x st pl pr u (inr (inl q)) = has_more s.nodes (x ∷ []) u (pl u q)
      parts s k h l r x st pl pr u (inr (inr q)) = has_more s.nodes (x ∷ []) u (pr u q)

      alone : (s : State) (n : ℕ) (h : NodeHead) (m : ℕ) (x : Node) → Legal N n → PartOf (refer h m) (F n) → x.head ≡ h
          → StandsFor F N s.nodes x (refer h m) → Made (Stands F N) Placed s x (refer h m)
      alone s n h m x ln p e st = (
        record { holder = n; legal = ln; tree = refer h m; inside = p; for = st },
        ((x, record_last s.nodes x, e), λ u q. last s x (refer h m) u st q),
      )

  -- EACH NODE STANDS FOR A PART
  pub each_stands : Each (Stands F N (final F N).nodes) (final F N).nodes
  each_stands =
      behind_each (Stands F N) (Stands F N (final F N).nodes) [] (final F N).nodes
      (λ before after x e st.
      record {
        holder = st.holder;
        legal = st.legal;
        tree = st.tree;
        inside = st.inside;
        for = subst (λ (l : List Node). StandsFor F N l x st.tree) (sym e) (stands_more before (x ∷ after) x st.tree st.for);
      })
      (each_node F N (Stands F N) Placed (λ b n. Unit {0}) rules)

  -- EACH NAME IS FINISHED, WITH THE NODE OF ITS TREE
  pub every_name_finished : (n : ℕ) → Legal N n → (i : ℕ) × ((final F N).status n ≡ finished i) × Points (final F N).nodes i (F n)
  every_name_finished n l =
      let d = all_done F N n l in
      (d.0, d.1, (each_name F N (Stands F N) Placed (λ b n. Unit {0}) rules n d.0 d.1).1.0)

  -- EACH PART HAS A NODE
  pub each_part_has_node : (n : ℕ) → Legal N n → (t : Tree) → PartOf t (F n) → HasNode (final F N).nodes t
  each_part_has_node n l =
      let d = all_done F N n l in
      (each_name F N (Stands F N) Placed (λ b n. Unit {0}) rules n d.0 d.1).1.1

  -- CHILDREN STAND BEFORE PARENTS
  pub children_before : Each Later (numbered 0 (final F N).nodes)
  unfolding StandsFor
  children_before =
      behind_numbered (Stands F N) Later [] (final F N).nodes (λ before x st. low before x st.tree st.for)
      (each_node F N (Stands F N) Placed (λ b n. Unit {0}) rules)
    where
      low : (xs : List Node) (x : Node) (t : Tree) → StandsFor F N xs x t → Later (suc (length xs), x)
      low xs x none p = absurd p
      low xs x (part k h l r) p = (omega (arith, points_low xs x.left l p.2), omega (arith, points_low xs x.right r p.3))
      low xs x (refer h m) p = (go p.2, omega (arith, p.1))
        where
          go : ((x.kind ≡ node.ref) × Legal N m × Points xs x.left (F m)) ⊎ ((x.kind ≡ node.missing) × (x.left ≡ 0)) → x.left < suc (length xs)
          go (inl q) = omega (arith, points_low xs x.left (F m) q.2)
          go (inr q) = omega (arith, q.1)
