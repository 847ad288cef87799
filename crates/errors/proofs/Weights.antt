-- What errors and names weigh, for any weight of spans: no more than the tokens. Each error has a name of its own: a line that is
-- wrong has its name, an incomplete name the one of its first legal line, and a missing node the reference that it stands for.
-- Assumes nothing.
use Prim.Native.Nat.{ℕ, ◌+◌, ◌≤◌, ◌<◌}
use mathlib.Core.Path.{◌≡◌, refl, ap, ◌∙◌}
use mathlib.Core.List.{List, [], ◌∷◌, map}
use mathlib.Core.Option.{Option, none as no, some}
use native.Mathlib.Omega.{arith}
use lib.ListN.{length, length-append}
use Rattle.records.specs.NodeKind as node
use Rattle.records.specs.declared.Span.{Span}
use Rattle.lex.specs.Tokens.{Token, lexing}
use Rattle.lex.specs.Tiles.{Tiles, end, skip, token}
use Rattle.lex.proofs.Tiling.{tiling}
use Rattle.checks.specs.Checks.{Checks}
use Rattle.grammar.specs.Tree.{Expr, Line}
use Rattle.grammar.specs.Rule.{got}
use Rattle.grammar.specs.Grammar.{lines}
use Rattle.grammar.specs.Derives as is
use Rattle.grammar.specs.Derives.{IsFile}
use Rattle.grammar.specs.Part as part
use Rattle.grammar.specs.Part.{Part, part_of, part_if, span_of}
use Rattle.grammar.specs.Recorded.{part_no}
use Rattle.grammar.proofs.Takes.{total as line_total}
use Rattle.grammar.proofs.Accepts.{lines_derived}
use Rattle.grammar.proofs.Places.{Made, none, refer, own, behind, before, LineMade, line, line_made}
use Rattle.names.specs.Names.{Error, names_of, first_expression, errors_of}
use Rattle.names.proofs.Reading.{number_some}
use Rattle.walk.specs.Walk as walk
use Rattle.walk.specs.Walk.{NodeHead, Own, Tree, Node, Status, fresh, begun, finished, resolve}
use Rattle.walk.specs.Trees.{head, record_no, tree_of_part, outermost, tree_by}
use Rattle.walk.specs.Nodes.{nodes_of}
use Rattle.walk.specs.Machine.{node_of}
use Rattle.walk.specs.Stands.{sum}
use Rattle.walk.proofs.Count.{Weighs, sum_append}
use Rattle.walk.proofs.Sizes.{Agrees, sum_le, first_or, named_nodes_weigh, nodes_weigh_firsts, pays, costs, cost, lines_pay}
use Rattle.errors.specs.Errors.{errors_by, node_errors, all_errors}
use Rattle.std.specs.Prelude.{Ok}

module _ (w : Span → ℕ) where
  abbrev pub tokens_weigh : List Token → ℕ
  tokens_weigh ts = sum (map (λ (t : Token). w (span_of t)) ts)

  abbrev pub errors_weigh : List Error → ℕ
  errors_weigh es = sum (map (λ (e : Error). w e.name) es)

  -- ---- references, in an expression, in a tree, among nodes

  unfoldable references_weigh : Part → ℕ
  references_weigh part.none = 0
  references_weigh (part.part k at s l r) = references_weigh l + references_weigh r
  references_weigh (part.refer x) = w (span_of x)

  -- a part that is no reference and not incomplete weighs nothing itself
  abbrev own_weighs : Own → NodeHead → ℕ
  own_weighs walk.noexpr h = w h.span
  own_weighs (walk.of k) h = 0

  unfoldable tree_weighs : Tree → ℕ
  tree_weighs walk.none = 0
  tree_weighs (walk.part k h l r) = own_weighs k h + (tree_weighs l + tree_weighs r)
  tree_weighs (walk.refer h n) = w h.span

  abbrev kind_weighs : node.Kind → NodeHead → ℕ
  kind_weighs node.missing h = w h.span
  kind_weighs node.noexpr h = w h.span
  kind_weighs node.ref h = w h.span
  kind_weighs (node.part k) h = 0

  abbrev node_weighs : Node → ℕ
  node_weighs x = kind_weighs x.kind x.head

  nodes_as_trees : Weighs node_weighs tree_weighs
  unfolding tree_weighs
  nodes_as_trees = record { absent = refl; own = by; used = λ h n v. same h v }
    where
      by : (k : Own) (h : NodeHead) (l r : Tree) (a b : ℕ) → own_weighs k h + (tree_weighs l + tree_weighs r) ≡ node_weighs (node_of k h a b) + (tree_weighs l + tree_weighs r)
      by walk.noexpr h l r a b = refl
      by (walk.of k) h l r a b = refl

      same : (h : NodeHead) (v : Status) → w h.span ≡ node_weighs (resolve h v)
      same h fresh = refl
      same h begun = refl
      same h (finished i) = refl

  trees_as_parts : Agrees tree_weighs references_weigh
  unfolding tree_weighs references_weigh
  trees_as_parts = record { absent = refl; own = λ k at a n s l r u v e d. omega arith; used = λ a n m x. refl }

  -- ---- the errors of nodes weigh no more than the nodes

  kind_errors : (k : node.Kind) (h : NodeHead) → errors_weigh (errors_by k h) ≤ kind_weighs k h
  unfolding sum
  kind_errors node.missing h = omega arith
  kind_errors node.noexpr h = omega arith
  kind_errors node.ref h = omega arith
  kind_errors (node.part k) h = omega arith

  node_errors_weigh : (xs : List Node) → errors_weigh (node_errors xs) ≤ sum (map node_weighs xs)
  unfolding node_errors sum
  node_errors_weigh [] = omega arith
  node_errors_weigh (x ∷ xs) =
      omega (arith, sum_append (λ (e : Error). w e.name) (errors_by x.kind x.head) (node_errors xs), kind_errors x.kind x.head, node_errors_weigh xs)

  -- ---- lines weigh no more than their tokens

  made_weighs : {us : List Token} {p : Part} → Made us p → references_weigh p ≤ tokens_weigh us
  unfolding references_weigh sum
  made_weighs none = omega arith
  made_weighs refer = omega arith
  made_weighs (own {ls} {rs} t s a b) = omega (arith, made_weighs a, made_weighs b, sum_append (λ (t : Token). w (span_of t)) ls rs)
  made_weighs (behind t a) = omega (arith, made_weighs a)
  made_weighs (before {us} vs a) = omega (arith, made_weighs a, sum_append (λ (t : Token). w (span_of t)) us vs)

  nothing : references_weigh part.none ≡ 0
  unfolding references_weigh
  nothing = refl

  line_weighs : {us : List Token} {l : Line} → LineMade us l → pays w references_weigh nothing l ≤ tokens_weigh us
  unfolding sum
  line_weighs (line a) = omega (arith, made_weighs a)

  file_weighs : (checks : Checks) {us : List Token} {ls : List Line} → IsFile checks us ls → line_total (pays w references_weigh nothing) ls ≤ tokens_weigh us
  unfolding line_total sum
  file_weighs checks is.end = omega arith
  file_weighs checks (is.more {ts} {us} a f) = omega (arith, line_weighs (line_made checks a), file_weighs checks f, sum_append (λ (t : Token). w (span_of t)) ts us)

  module _ (checks : Checks) (ts : List Token) (ls : List Line) (rest : List Token) (e : lines checks ts ≡ got ls rest) where
    lines_weigh : cost w references_weigh nothing ls ≤ tokens_weigh ts
    lines_weigh = omega (arith, lines_pay w references_weigh nothing ls, file_weighs checks (lines_derived checks ts rest ls e).1)

    -- THE ERRORS' NAMES WEIGH NO MORE THAN THE TOKENS
    pub errors_weigh_law : errors_weigh (all_errors ls) ≤ tokens_weigh ts
    unfolding all_errors
    errors_weigh_law =
        omega (
          arith,
          sum_append (λ (e : Error). w e.name) (errors_of ls) (node_errors (nodes_of ls)),
          node_errors_weigh (nodes_of ls),
          nodes_weigh_firsts ls node_weighs tree_weighs references_weigh (λ (x : Token). w (span_of x)) nodes_as_trees trees_as_parts (λ n x. incomplete n x),
          sum_le (λ (x : Token). first_or (λ (y : Token). w (span_of y)) references_weigh x (first_expression ls x.text)) (costs w references_weigh nothing ls) (λ x. by x (first_expression ls x.text)) (names_of ls),
          lines_weigh,
        )
      where
        incomplete : (n : ℕ) (x : Token) → tree_weighs (walk.part walk.noexpr (head x.start n (span_of x)) walk.none walk.none) ≡ w (span_of x)
        incomplete n x = unfold tree_weighs in omega arith

        by : (x : Token) (o : Option Expr) → first_or (λ (y : Token). w (span_of y)) references_weigh x o ≤ w (span_of x) + references_weigh (part_if o)
        by x no = omega arith
        by x (some d) = omega arith

    -- THE NAMES WEIGH NO MORE THAN THE TOKENS
    pub names_weigh : tokens_weigh (names_of ls) ≤ tokens_weigh ts
    names_weigh = omega (arith, lines_weigh, sum_le (λ (x : Token). w (span_of x)) (costs w references_weigh nothing ls) (λ x. omega arith) (names_of ls))

-- ---- each name number stands in one node only

module _ (f : ℕ → ℕ) (z : f 0 ≡ 0) where
  unfoldable numbers_weigh : Tree → ℕ
  numbers_weigh walk.none = 0
  numbers_weigh (walk.part k h l r) = f h.name + (numbers_weigh l + numbers_weigh r)
  numbers_weigh (walk.refer h n) = f h.name

  numbers_as_trees : Weighs (λ (x : Node). f x.head.name) numbers_weigh
  unfolding numbers_weigh
  numbers_as_trees = record { absent = refl; own = λ k h l r a b. refl; used = λ h n v. same h v }
    where
      same : (h : NodeHead) (v : Status) → f h.name ≡ f (resolve h v).head.name
      same h fresh = refl
      same h begun = refl
      same h (finished i) = refl

  -- inside a tree there is none
  inside_none : (ns : List Token) (p : Part) → numbers_weigh (tree_of_part ns p) ≡ 0
  unfolding numbers_weigh tree_of_part
  inside_none ns part.none = refl
  inside_none ns (part.part k at s l r) = omega (arith, z, inside_none ns l, inside_none ns r)
  inside_none ns (part.refer x) = z

  outermost_one : (ns : List Token) (n : ℕ) (x : Token) (p : Part) → 0 < part_no p 0 → numbers_weigh (outermost n x (tree_of_part ns p)) ≡ f n
  unfolding numbers_weigh tree_of_part outermost
  outermost_one ns n x part.none h = absurd (omega arith)
  outermost_one ns n x (part.part k at s l r) h = omega (arith, inside_none ns l, inside_none ns r)
  outermost_one ns n x (part.refer y) h = refl

  -- THE NUMBERS OF NAMES IN THE NODES WEIGH WHAT THE NAMES DO
  pub named_weigh : (ls : List Line) (h : Token → ℕ) → ((n : ℕ) (x : Token) → record_no (names_of ls) n ≡ some x → f n ≡ h x) → sum (map (λ (x : Node). f x.head.name) (nodes_of ls)) ≡ sum (map h (names_of ls))
  named_weigh ls h e =
      named_nodes_weigh ls (λ (x : Node). f x.head.name) numbers_weigh h numbers_as_trees (λ n x i. by n x (first_expression ls x.text) ∙ e n x i)
    where
      by : (n : ℕ) (x : Token) (o : Option Expr) → numbers_weigh (tree_by (names_of ls) n x o) ≡ f n
      by n x no = unfold tree_by numbers_weigh in omega arith
      by n x (some e) = unfold tree_by in outermost_one (names_of ls) n x (part_of e) (number_some e 0)

-- ---- the texts of the tokens lie in the source

tiles_weigh : {at : ℕ} {s : List ℕ} {ts : List Token} → Tiles at s ts → sum (map (λ (t : Token). length t.text) ts) ≤ length s
unfolding sum
tiles_weigh end = omega arith
tiles_weigh (skip x s p e r) = omega (arith, tiles_weigh r, length-append x s)
tiles_weigh (token t s es p e r) = omega (arith, tiles_weigh r, length-append t.text s)

-- THE TOKENS' TEXTS ARE TOGETHER NO LONGER THAN THE SOURCE
pub tokens_weigh_law : (source : List ℕ) (n : ℕ) → (lexing source).answer ≡ Ok n → sum (map (λ (t : Token). length t.text) (lexing source).tokens) ≤ length source
tokens_weigh_law source n e = tiles_weigh (tiling source n e).0

-- ---- so the names that are shown are together no longer than the source

-- the bytes of a name, by its number; 0 and a number past the last have none
abbrev bytes_of : Option Token → ℕ
bytes_of no = 0
bytes_of (some x) = length x.text

abbrev pub name_bytes : (names : List Token) → (n : ℕ) → ℕ
name_bytes ns n = bytes_of (record_no ns n)

module _ (source : List ℕ) (n : ℕ) (lexed : (lexing source).answer ≡ Ok n) (checks : Checks) (ls : List Line) (rest : List Token) (parsed : lines checks (lexing source).tokens ≡ got ls rest) where
  -- those of the errors
  pub error_names_fit : sum (map (λ (e : Error). e.name.len) (all_errors ls)) ≤ length source
  error_names_fit = omega (arith, errors_weigh_law (λ (s : Span). s.len) checks (lexing source).tokens ls rest parsed, tokens_weigh_law source n lexed)

  -- those of the names
  pub names_fit : sum (map (λ (x : Token). length x.text) (names_of ls)) ≤ length source
  names_fit = omega (arith, names_weigh (λ (s : Span). s.len) checks (lexing source).tokens ls rest parsed, tokens_weigh_law source n lexed)

  -- those of the nodes, each by the name number that it carries
  pub node_names_fit : sum (map (λ (x : Node). name_bytes (names_of ls) x.head.name) (nodes_of ls)) ≤ length source
  node_names_fit =
      let zero : name_bytes (names_of ls) 0 ≡ 0 = unfold record_no in refl in
      omega (arith, named_weigh (name_bytes (names_of ls)) zero ls (λ (x : Token). length x.text) (λ m x e. ap bytes_of e), names_fit)
