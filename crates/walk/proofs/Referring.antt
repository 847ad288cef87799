-- References by text and by number: a text with a legal line is found under the number of its name, and the references in a name's
-- tree are those in its first expression.
use Prim.Native.Nat.{ℕ, zero, suc, ◌≤◌, ◌<◌}
use mathlib.Core.Path.{◌≡◌, refl, sym, ap, subst, ◌∙◌}
use mathlib.Core.Logic.{inl, inr}
use mathlib.Core.List.{List, [], ◌∷◌}
use mathlib.Core.Option.{Option, none, some}
use native.Mathlib.Omega.{arith}
use lib.ListN.{length, get_or}
use Rattle.lex.specs.Tokens.{Token}
use Rattle.grammar.specs.Tree.{Expr, Line}
use Rattle.grammar.specs.Part as part
use Rattle.grammar.specs.Part.{Part, part_of, part_if, span_of}
use Rattle.symbols.specs.Symbols.{Text, texts, find}
use Rattle.names.specs.Names.{names_of, first_expression}
use Rattle.names.specs.Uses.{In, Refers, HasLine, HasReference}
use Rattle.names.proofs.Laws.{names_in, texts_length, text_in, find_is, find_line, find_stands}
use Rattle.walk.specs.Walk as walk
use Rattle.walk.specs.Walk.{NodeHead, Tree}
use Rattle.walk.specs.Trees.{head, tree_of_part, outermost, tree_by, record_no, tree_if, tree_of}
use Rattle.walk.specs.Stands.{PartOf}
use Rattle.walk.proofs.Numbered.{same_record, record_bounds}
use Rattle.walk.specs.Walk.{Legal}

-- ---- numbers and texts of names

-- the name at a number, and its text
record_text : (ns : List Token) (i : ℕ) → i < length ns → (t : Token) × (record_no ns (suc i) ≡ some t) × (t.text ≡ get_or (texts ns) i [])
unfolding record_no
record_text [] i h = absurd (omega arith)
record_text (n ∷ ns) zero h = (n, refl, refl)
record_text (n ∷ ns) (suc i) h = record_text ns i (omega arith)

text_at : (ns : List Token) (n : ℕ) (t : Token) → record_no ns n ≡ some t → (i : ℕ) × (n ≡ suc i) × (i < length (texts ns)) × (get_or (texts ns) i [] ≡ t.text)
text_at ns zero t e = let b = record_bounds ns zero t e in absurd (omega (arith, b))
text_at ns (suc i) t e =
    let b = record_bounds ns (suc i) t e in
    let r = record_text ns i (omega (arith, b)) in
    (i, refl, omega (arith, b, texts_length ns), sym r.2 ∙ ap (λ (u : Token). u.text) (same_record (record_no ns (suc i)) r.0 t r.1 e))

-- the name that the text x is found under
pub record Found (ls : List Line) (x : Text) : Type 0 where
  pub name : Token
  pub at : record_no (names_of ls) (find (names_of ls) x) ≡ some name
  pub own : name.text ≡ x
  pub legal : Legal (length (names_of ls)) (find (names_of ls) x)

module _ (ls : List Line) where
  abbrev ns : List Token
  ns = names_of ls

  -- a name with a number has a legal line
  number_line : (n : ℕ) (t : Token) → record_no ns n ≡ some t → HasLine ls t.text
  number_line n t e =
      let r = text_at ns n t e in
      names_in ls t.text (subst (λ (x : Text). In x (texts ns)) r.3 (text_in (texts ns) r.0 r.2))

  -- a text with a legal line is found
  pub line_found : (x : Text) → HasLine ls x → Found ls x
  line_found x h =
      let f = find_line ls x h in
      let l : f.0 < length ns = omega (arith, f.2.below, texts_length ns) in
      let r = record_text ns f.0 l in
      record {
        name = r.0;
        at = ap (λ (n : ℕ). record_no ns n) f.1 ∙ r.1;
        own = r.2 ∙ f.2.here;
        legal = (omega (arith, f.1), omega (arith, f.1, l));
      }

  -- and a text that is found has one
  pub found_line : (x : Text) → 1 ≤ find ns x → HasLine ls x
  found_line x h = names_in ls x (find_stands 1 (texts ns) x (λ z. omega (arith, find_is ns x)))

  -- the name number m is the one that a text is found under, if that is m
  pub found_name : (x : Text) (m : ℕ) (t : Token) → find ns x ≡ m → record_no ns m ≡ some t → t.text ≡ x
  found_name x m t e f =
      let q = line_found x (found_line x (omega (arith, e, record_bounds ns m t f))) in
      ap (λ (u : Token). u.text) (same_record (record_no ns m) t q.name f (ap (record_no ns) (sym e) ∙ q.at)) ∙ q.own

-- ---- references of a tree and of an expression

-- the reference t of the part p is that with the head h to the name number m
abbrev Same : List Token → Part → NodeHead → ℕ → Token → Type 0
Same ns p h m t = Refers p t × (find ns t.text ≡ m) × (h.span ≡ span_of t)

not_both : (h : NodeHead) (m : ℕ) (k : walk.Own) (g : NodeHead) (l r : Tree) → walk.refer h m ≡ walk.part k g l r → ⊥
not_both h m k g l r e = let z : ◌≡◌ {A = ℕ} 0 1 = cc in omega arith

numbered_refers : (ns : List Token) (p : Part) (h : NodeHead) (m : ℕ) → PartOf (walk.refer h m) (tree_of_part ns p) → (t : Token) × Same ns p h m t
unfolding tree_of_part PartOf Refers
numbered_refers ns part.none h m q = absurd q
numbered_refers ns (part.part k at s l r) h m (inl e) = absurd (not_both h m _ _ _ _ e)
numbered_refers ns (part.part k at s l r) h m (inr (inl q)) = let x = numbered_refers ns l h m q in (x.0, (inl x.1.0, x.1.1, x.1.2))
numbered_refers ns (part.part k at s l r) h m (inr (inr q)) = let x = numbered_refers ns r h m q in (x.0, (inr x.1.0, x.1.1, x.1.2))
numbered_refers ns (part.refer x) h m e =
    let a : h ≡ head x.start 0 (span_of x) = cc in
    let b : m ≡ find ns x.text = cc in
    (x, (refl, sym b, ap (λ (g : NodeHead). g.span) a))

outermost_refers : (n : ℕ) (x : Token) (u : Tree) (h : NodeHead) (m : ℕ) → PartOf (walk.refer h m) (outermost n x u) → (g : NodeHead) × PartOf (walk.refer g m) u × (h.span ≡ g.span)
unfolding outermost PartOf
outermost_refers n x walk.none h m q = absurd q
outermost_refers n x (walk.part k g l r) h m (inl e) = absurd (not_both h m _ _ _ _ e)
outermost_refers n x (walk.part k g l r) h m (inr q) = (h, inr q, refl)
outermost_refers n x (walk.refer g j) h m e =
    let a : h ≡ head x.start n g.span = cc in
    let b : m ≡ j = cc in
    (g, ap (λ (i : ℕ). walk.refer g i) b, ap (λ (f : NodeHead). f.span) a)

tree_refers : (ns : List Token) (n : ℕ) (x : Token) (o : Option Expr) (h : NodeHead) (m : ℕ) → PartOf (walk.refer h m) (tree_by ns n x o) → (t : Token) × Same ns (part_if o) h m t
unfolding tree_by PartOf
tree_refers ns n x none h m (inl e) = absurd (not_both h m _ _ _ _ e)
tree_refers ns n x none h m (inr (inl q)) = absurd q
tree_refers ns n x none h m (inr (inr q)) = absurd q
tree_refers ns n x (some e) h m q =
    let g = outermost_refers n x (tree_of_part ns (part_of e)) h m q in
    let t = numbered_refers ns (part_of e) g.0 m g.1 in
    (t.0, (t.1.0, t.1.1, g.2 ∙ t.1.2))

refers_numbered : (ns : List Token) (p : Part) (t : Token) → Refers p t → (h : NodeHead) × PartOf (walk.refer h (find ns t.text)) (tree_of_part ns p)
unfolding tree_of_part PartOf Refers
refers_numbered ns part.none t q = absurd q
refers_numbered ns (part.part k at s l r) t (inl q) = let x = refers_numbered ns l t q in (x.0, inr (inl x.1))
refers_numbered ns (part.part k at s l r) t (inr q) = let x = refers_numbered ns r t q in (x.0, inr (inr x.1))
refers_numbered ns (part.refer x) t q = (head x.start 0 (span_of x), ap (λ (u : Token). walk.refer (head x.start 0 (span_of x)) (find ns u.text)) (sym q))

refers_outermost : (n : ℕ) (x : Token) (u : Tree) (h : NodeHead) (m : ℕ) → PartOf (walk.refer h m) u → (g : NodeHead) × PartOf (walk.refer g m) (outermost n x u)
unfolding outermost PartOf
refers_outermost n x walk.none h m q = absurd q
refers_outermost n x (walk.part k g l r) h m (inl e) = absurd (not_both h m _ _ _ _ e)
refers_outermost n x (walk.part k g l r) h m (inr q) = (h, inr q)
refers_outermost n x (walk.refer g j) h m e =
    let b : m ≡ j = cc in
    (head x.start n g.span, ap (λ (i : ℕ). walk.refer (head x.start n g.span) i) b)

refers_tree : (ns : List Token) (n : ℕ) (x : Token) (o : Option Expr) (t : Token) → Refers (part_if o) t → (h : NodeHead) × PartOf (walk.refer h (find ns t.text)) (tree_by ns n x o)
unfolding tree_by Refers
refers_tree ns n x none t q = absurd q
refers_tree ns n x (some e) t q =
    let g = refers_numbered ns (part_of e) t q in
    refers_outermost n x (tree_of_part ns (part_of e)) g.0 (find ns t.text) g.1

-- ---- references of a name

pub tree_at : (ls : List Line) (ns : List Token) (n : ℕ) (x : Token) → record_no ns n ≡ some x → tree_of ls ns n ≡ tree_by ns n x (first_expression ls x.text)
unfolding tree_of tree_if
tree_at ls ns n x e = rw e

module _ (ls : List Line) where
  -- a reference in the tree of the name number n is one in the first expression of its text
  pub reference_of : (n : ℕ) (x : Token) → record_no (ns ls) n ≡ some x → (h : NodeHead) (m : ℕ) → PartOf (walk.refer h m) (tree_of ls (ns ls) n)
      → (t : Token) × HasReference ls x.text t × (find (ns ls) t.text ≡ m) × (h.span ≡ span_of t)
  reference_of n x e h m q =
      let r = tree_refers (ns ls) n x (first_expression ls x.text) h m (subst (λ (u : Tree). PartOf (walk.refer h m) u) (tree_at ls (ns ls) n x e) q) in
      (r.0, (number_line ls n x e, r.1.0), r.1.1, r.1.2)

  -- and the other way round
  pub of_reference : (n : ℕ) (x : Token) → record_no (ns ls) n ≡ some x → (t : Token) → HasReference ls x.text t
      → (h : NodeHead) × PartOf (walk.refer h (find (ns ls) t.text)) (tree_of ls (ns ls) n)
  of_reference n x e t q =
      let r = refers_tree (ns ls) n x (first_expression ls x.text) t q.1 in
      (r.0, subst (λ (u : Tree). PartOf (walk.refer r.0 (find (ns ls) t.text)) u) (sym (tree_at ls (ns ls) n x e)) r.1)
