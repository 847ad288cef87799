-- With no missing node, a name that is used is finished with a lower number than the name whose tree uses it.
use Prim.Native.Nat.{ℕ, suc, ◌≤◌, ◌<◌}
use mathlib.Core.Path.{◌≡◌, refl, ap, ◌∙◌}
use mathlib.Core.Logic.{◌⊎◌, inl, inr, ◌≢◌}
use mathlib.Core.List.{List, [], ◌∷◌}
use mathlib.Core.Option.{some}
use native.Mathlib.Omega.{arith}
use lib.ListN.{length, length-append}
use Rattle.records.specs.NodeKind as node
use Rattle.grammar.specs.Places.{Each}
use Rattle.walk.specs.Walk.{NodeHead, Own, own_kind, Tree, part, refer, Node, fresh, finished, State, finish, resolve, final}
use Rattle.walk.specs.Trees.{record_no}
use Rattle.walk.specs.Nodes.{node_no}
use Rattle.walk.specs.Stands.{PartOf}
use Rattle.walk.proofs.Basics.{length_snoc}
use Rattle.walk.proofs.Fuel.{all_done}
use Rattle.walk.proofs.Numbered.{record_front, record_last, record_each}
use Rattle.walk.proofs.Parts.{After, Rules, each_name}
use Rattle.walk.specs.Walk.{Legal}

-- some node of xs is missing
abbrev HasMissing : List Node → Type 0
HasMissing xs = (c : ℕ) × (x : Node) × (record_no xs c ≡ some x) × (x.kind ≡ node.missing)

-- the name m is finished below the number c, or some node is missing
abbrev Below : State → ℕ → ℕ → Type 0
Below s c m = ((j : ℕ) × (s.status m ≡ finished j) × (j < c)) ⊎ HasMissing s.nodes

-- so is each name that the tree uses
abbrev UsesBelow : State → ℕ → Tree → Type 0
UsesBelow s c t = (c ≤ length s.nodes) × ((h : NodeHead) (m : ℕ) → PartOf (refer h m) t → Below s c m)

below_after : (s t : State) (c d m : ℕ) → After s t → c ≤ d → Below s c m → Below t d m
below_after s t c d m a h (inl p) = inl (p.0, a.names m p.0 p.1, omega (arith, p.2))
below_after s t c d m a h (inr p) =
    inr (p.0, p.1, rw a.nodes (record_front s.nodes a.more p.0 p.1 p.2), p.3)

module _ (F : ℕ → Tree) (N : ℕ) where
  rules : Rules F N (λ xs x. Unit {0}) UsesBelow (λ b n. Unit {0})
  unfolding PartOf
  rules =
      record {
        begins = λ n. tt;
        deeper = λ b n m h ln lm p c. tt;
        stays = λ s t c u a p. (omega (arith, p.0, ap length a.nodes, length-append s.nodes a.more), λ h m q. below_after s t c c m a (omega arith) (p.1 h m q));
        Absent = λ s. (omega arith, λ h m q. absurd q);
        own = λ s n k h l r a b ln p pa pb.
            let x : Node = record { kind = own_kind k; head = h; left = a; right = b } in
            (tt, (omega (arith, length_snoc s.nodes x), λ g m q. parts s k h l r a b x pa pb g m q));
        found = λ s n h m j ln p lm e pj. (
          tt,
          (
            omega (arith, length_snoc s.nodes (resolve h (finished j))),
            λ g i q. let i_m : i ≡ m = cc in inl (j, ap s.status i_m ∙ e, omega (arith, pj.0)),
          ),
        );
        missing = λ s n h m ln p c. (
          tt,
          (
            omega (arith, length_snoc s.nodes (resolve h fresh)),
            λ g i q. inr (suc (length s.nodes), resolve h fresh, record_last s.nodes (resolve h fresh), refl),
          ),
        );
      }
    where
      next : (s : State) (x : Node) → After s (finish x s).state
      next s x = record { more = x ∷ []; nodes = refl; names = λ m j e. e }

      parts : (s : State) (k : Own) (h : NodeHead) (l r : Tree) (a b : ℕ) (x : Node) → UsesBelow s a l → UsesBelow s b r
          → (g : NodeHead) (m : ℕ) → (refer g m ≡ part k h l r) ⊎ PartOf (refer g m) l ⊎ PartOf (refer g m) r → Below (finish x s).state (suc (length s.nodes)) m
      parts s k h l r a b x pa pb g m (inl e) = let z : ◌≡◌ {A = ℕ} 0 1 = cc in absurd (omega arith)
      parts s k h l r a b x pa pb g m (inr (inl q)) = below_after s (finish x s).state a (suc (length s.nodes)) m (next s x) (omega (arith, pa.0)) (pa.1 g m q)
      parts s k h l r a b x pa pb g m (inr (inr q)) = below_after s (finish x s).state b (suc (length s.nodes)) m (next s x) (omega (arith, pb.0)) (pb.1 g m q)

  -- A NAME USED HAS A LEGAL LINE AND A LOWER NODE
  pub used_below : Each (λ (x : Node). x.kind ≢ node.missing) (final F N).nodes → (n : ℕ) → Legal N n → (h : NodeHead) (m : ℕ) → PartOf (refer h m) (F n)
      → Legal N m × (node_no ((final F N).status m) < node_no ((final F N).status n))
  used_below clean n l h m p =
      let d = all_done F N n l in
      go d.0 d.1 ((each_name F N (λ xs x. Unit {0}) UsesBelow (λ b n. Unit {0}) rules n d.0 d.1).1.1 h m p)
    where
      go : (i : ℕ) → (final F N).status n ≡ finished i → Below (final F N) i m → Legal N m × (node_no ((final F N).status m) < node_no ((final F N).status n))
      go i e (inl b) =
          ((each_name F N (λ xs x. Unit {0}) UsesBelow (λ b n. Unit {0}) rules m b.0 b.1).0, rw (e, b.1) b.2)
      go i e (inr b) = absurd (record_each (λ (x : Node). x.kind ≢ node.missing) (final F N).nodes b.0 b.1 clean b.2 b.3)
