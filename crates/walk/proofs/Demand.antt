-- Demand 3, for the nodes of any lines: children stand before parents; a missing node is a reference to a name that has no legal
-- line or lies on a loop of uses; and there is no missing node exactly if the program is sound.
use Prim.Native.Nat.{ℕ, ◌<◌}
use mathlib.Core.Path.{◌≡◌, refl, sym, ap, subst, ◌∙◌}
use mathlib.Core.Logic.{◌⊎◌, inl, inr, ◌≢◌, ◌↔◌}
use mathlib.Core.List.{List, []}
use mathlib.Core.Option.{some}
use native.Mathlib.Omega.{arith}
use lib.ListN.{length}
use Rattle.records.specs.NodeKind as node
use Rattle.lex.specs.Tokens.{Token}
use Rattle.grammar.specs.Tree.{Line}
use Rattle.grammar.proofs.Records.{each_wide}
use Rattle.symbols.specs.Symbols.{Text, texts, find}
use Rattle.names.specs.Names.{names_of}
use Rattle.names.specs.Uses.{HasLine, HasReference, Uses, one, more, Loop, Sound}
use Rattle.names.proofs.Laws.{in_names, names_in}
use Rattle.walk.specs.Walk.{NodeHead, Own, noexpr, of, own_kind, Tree, refer, Node, final}
use Rattle.walk.specs.Trees.{record_no, tree_of}
use Rattle.walk.specs.Nodes.{walked, nodes_of, node_no}
use Rattle.walk.specs.Stands.{PartOf}
use Rattle.walk.specs.Demand.{ChildrenBefore, NoMissing, OnLoop, MissingOnLoops}
use Rattle.walk.proofs.Numbered.{same_record, record_at_law, behind_each}
use Rattle.walk.proofs.Parts.{Rules, each_node}
use Rattle.walk.proofs.Standing.{children_before}
use Rattle.walk.proofs.Ranks.{used_below}
use Rattle.walk.proofs.Sorted.{sorted, sorted_in, sorted_out, sorted_before}
use Rattle.walk.proofs.Referring.{Found, line_found, found_line, found_name, reference_of, of_reference}
use Rattle.walk.proofs.Loops.{sound_line, sound_no_loop}
use Rattle.walk.specs.Walk.{Legal}

module _ (ls : List Line) where
  abbrev names : List Token
  names = names_of ls

  abbrev count : ℕ
  count = length (names_of ls)

  abbrev tree : ℕ → Tree
  tree = tree_of ls (names_of ls)

pub children_before_parents : (ls : List Line) → ChildrenBefore ls
unfolding walked
children_before_parents ls = children_before (tree ls) (count ls)

-- ---- missing nodes

own_kind_law : (k : Own) → own_kind k ≢ node.missing
own_kind_law noexpr e = let z : ◌≡◌ {A = ℕ} 0 1 = cc in omega arith
own_kind_law (of k) e = let z : ◌≡◌ {A = ℕ} 0 1 = cc in omega arith

ref_kind : node.ref ≢ node.missing
ref_kind e = let z : ◌≡◌ {A = ℕ} 0 1 = cc in omega arith

module _ (ls : List Line) where
  -- the name number b is the name number n or leads to it
  abbrev Within : (b n : ℕ) → Type 0
  Within b n = (x y : Token) → record_no (names ls) b ≡ some x → record_no (names ls) n ≡ some y → Loop ls y.text x.text

  -- so it leads to what the tree of n uses
  deeper : (b n m : ℕ) (h : NodeHead) → Legal (count ls) n → Legal (count ls) m → PartOf (refer h m) (tree ls n) → Within b n → Within b m
  deeper b n m h ln lm p w x y e f =
      let z = record_at_law (names ls) n ln.0 ln.1 in
      let r = reference_of ls n z.0 z.1 h m p in
      go z.0.text (r.0, r.1, sym (found_name ls r.0.text m y r.2 f)) (w x z.0 e z.1)
    where
      go : (z : Text) → Uses ls z y.text → Loop ls z x.text → Loop ls y.text x.text
      go z u (inl q) = inr (one y.text (subst (λ (t : Text). Uses ls t y.text) q u))
      go z u (inr l) = inr (more z y.text l u)

  -- a reference in the tree of n to a name that is begun, or has no legal line
  on_loop : (n : ℕ) (h : NodeHead) (m : ℕ) (x : Node) → x.head ≡ h → Legal (count ls) n → PartOf (refer h m) (tree ls n)
      → Within m n ⊎ (Legal (count ls) m → ⊥) → OnLoop ls x
  on_loop n h m x hd ln p c =
      let z = record_at_law (names ls) n ln.0 ln.1 in
      let r = reference_of ls n z.0 z.1 h m p in
      record {
        holder = z.0.text;
        used = r.0;
        reference = r.1;
        span = ap (λ (g : NodeHead). g.span) hd ∙ r.3;
        loop = λ l. go z.0 z.1 r.0.text r.2 (line_found ls r.0.text l) c;
      }
    where
      go : (z : Token) → record_no (names ls) n ≡ some z → (y : Text) → find (names ls) y ≡ m → Found ls y
          → Within m n ⊎ (Legal (count ls) m → ⊥) → Loop ls z.text y
      go z e y f q (inl w) = subst (λ (u : Text). Loop ls z.text u) q.own (w q.name z (ap (record_no (names ls)) (sym f) ∙ q.at) e)
      go z e y f q (inr d) = absurd (d (subst (λ (i : ℕ). Legal (count ls) i) f q.legal))

  abbrev OnLoopIf : List Node → Node → Type 0
  OnLoopIf xs x = x.kind ≡ node.missing → OnLoop ls x

  rules : Rules (tree ls) (count ls) OnLoopIf (λ s c t. Unit {0}) Within
  rules =
      record {
        begins = λ n x y e f. inl (ap (λ (t : Token). t.text) (same_record (record_no (names ls) n) y x f e));
        deeper = deeper;
        stays = λ s t c u a p. tt;
        Absent = λ s. tt;
        own = λ s n k h l r a b ln p pa pb. (λ e. absurd (own_kind_law k e), tt);
        found = λ s n h m j ln p lm e pj. (λ e. absurd (ref_kind e), tt);
        missing = λ s n h m ln p c. (λ e. on_loop n h m _ refl ln p c, tt);
      }

pub missing_on_loops : (ls : List Line) → MissingOnLoops ls
unfolding walked
missing_on_loops ls =
    behind_each (OnLoopIf ls) (λ x. x.kind ≡ node.missing → OnLoop ls x) [] (nodes_of ls) (λ before after x e q. q)
    (each_node (tree ls) (count ls) (OnLoopIf ls) (λ s c t. Unit {0}) (Within ls) (rules ls))

-- ---- sound programs

module _ (ls : List Line) where
  -- with no missing node, the names in the order of their nodes
  ordered : NoMissing ls → Sound ls
  unfolding walked
  ordered clean =
      record {
        order = sorted rank (texts (names ls));
        all = λ x h. sorted_in rank (texts (names ls)) x (in_names ls x h);
        only = λ x i. names_in ls x (sorted_out rank (texts (names ls)) x i);
        earlier = λ before after x y e u.
            let r = lower x y u in
            sorted_before rank (texts (names ls)) before after x y e r.1 (in_names ls y r.0);
      }
    where
      rank : Text → ℕ
      rank x = node_no ((final (tree ls) (count ls)).status (find (names ls) x))

      lower : (x y : Text) → Uses ls x y → HasLine ls y × (rank y < rank x)
      lower x y u =
          let n : ℕ = find (names ls) x in
          let t : Token = u.0 in
          let q = line_found ls x u.1.0 in
          let p = of_reference ls n q.name q.at t (subst (λ (z : Text). HasReference ls z t) (sym q.own) u.1) in
          let b = used_below (tree ls) (count ls) clean n q.legal p.0 (find (names ls) t.text) p.1 in
          subst (λ (z : Text). HasLine ls z × (rank z < rank x)) u.2 (found_line ls t.text b.0.0, b.1)

  no_missing : Sound ls → NoMissing ls
  no_missing s =
      each_wide (OnLoopIf ls []) (λ (x : Node). x.kind ≢ node.missing) (λ x f e. none (f e)) (nodes_of ls) (missing_on_loops ls)
    where
      none : {x : Node} → OnLoop ls x → ⊥
      none o =
          let u : Uses ls o.holder o.used.text = (o.used, o.reference, refl) in
          sound_no_loop ls s o.holder o.used.text u (o.loop (sound_line ls s o.holder o.used.text u))

pub no_missing_iff_sound : (ls : List Line) → NoMissing ls ↔ Sound ls
no_missing_iff_sound ls = (ordered ls, no_missing ls)
