-- What the grammar refuses, the rules of refusal refuse, with that fault at that token (`lines_refuse`). Assumes nothing.
use Prim.Native.Nat.{ℕ, zero, suc}
use mathlib.Core.Path.{◌≡◌, refl, sym}
use mathlib.Core.List.{List, [], ◌∷◌, ◌++◌, append_assoc, append-nil}
use mathlib.Core.Option.{Option, none, some}
use native.Mathlib.Omega.{arith}
use Rattle.records.specs.Limits.{depth_limit}
use Rattle.records.specs.TokenKind as token
use Rattle.lex.specs.Tokens.{Token}
use Rattle.checks.specs.declared.Fault.{Fault}
use Rattle.checks.specs.declared.Fault.TheVariants.{ParseFailed}
use Rattle.checks.specs.Checks.{Checks}
use Rattle.grammar.specs.Tree as tree
use Rattle.grammar.specs.Tree.{Expr, Op, op_token, Ty, Line}
use Rattle.grammar.specs.Rule.{Parsed, got, stop, Rule, go_on, give, one_of, expect}
use Rattle.grammar.specs.Grammar.{names, literals, TypeHead, power, operators, with_right, operand, chain, Head, type_heads, type_head, atom_by, atom, type, arrow, head, cmrs, cmr, expr_by, expr, arrow_if, perhaps_arrow, line_tails, line, another, lines}
use Rattle.grammar.specs.Derives as is
use Rattle.grammar.specs.Derives.{Is, IsType, IsExpr, IsLine}
use Rattle.grammar.proofs.Obeys.{Obeys, obeys_took, all, ◌▹◌, Perhaps, yes, obeys_perhaps, Stepped, more}
use Rattle.grammar.proofs.Obeys as obey
use Rattle.grammar.proofs.Sound.{AtomBegins, whole, group, Begins, leaf, parens, unary, binary, assertl, assertr, type_head_obeys, atom_obeys, operand_obeys, operand_steps, type_obeys, head_obeys, cmr_obeys, expr_obeys, line_obeys}
use Rattle.grammar.proofs.Accepts.{colons, heads}
use Rattle.refusals.specs.Refuses as no
use Rattle.refusals.specs.Refuses.{NotNext, other, goes_on_type, goes_on_line, NoType, NoAtom, NoExpr, NoCmr, NoArrow, NoLine, NoFile}
use Rattle.refusals.proofs.Next.{more_kinds}
use Rattle.refusals.proofs.Refusing.{Leaving, leaves, stopped, Leaves, leaves_then, leaves_any, leaves_choice, Unless, perhaps_leaves, leaves_repeat, Refusing, fine, stops, Refuses, refuses_wide, behind, behind_at, refuses_passed, refuses_map, refuses_then, refuses_one_of, refuses_choice, refuses_perhaps, refuses_repeat}
use Rattle.std.specs.Prelude.{Err, Ok, Result}

module _ (checks : Checks) where
  -- ---- types

  power_refuses : (t : Token) (v : Result ℕ Fault) (us : List Token) → Is token.power t → checks.power t.text ≡ v → Refusing (λ front left x. (d : ℕ) → NoAtom checks d front left x) (t ∷ us) (power t v us)
  power_refuses t (Ok n) us i e = fine
  power_refuses t (Err x) us i e = stops [] (λ d. no.power t i e)

  type_head_refuses : Refuses (type_head checks) (λ front left x. (d : ℕ) → NoAtom checks d front left x)
  unfolding type_head
  type_head_refuses ts =
      refuses_choice (type_heads checks) _ ts (λ n d. no.not_atom n)
      ((λ t i us. fine) ▹ (λ t i us. fine) ▹ (λ t i us. fine) ▹ (λ t i us. power_refuses t (checks.power t.text) us i refl) ▹ (λ t i us. fine) ▹ (λ t i us. fine) ▹ all)

  -- by depth, d being that of the parts
  module _ (d : ℕ) (T : Rule Ty) (o : Obeys T (λ x us. IsType checks d us x)) where
    operand_leaves : (l : Ty) → Leaves (operand operators (atom checks T) l) (Unless goes_on_type)
    unfolding operand
    operand_leaves l = leaves_then (perhaps_leaves operators) go
      where
        go : (o : Option Op) (us : List Token) → Unless goes_on_type o us → Leaving (Unless goes_on_type) (with_right (atom checks T) l o us)
        go none us n = leaves n
        go (some q) us n = leaves_then (leaves_any (atom checks T)) (λ r vs m. leaves tt) us

    chain_leaves : Leaves (chain operators (atom checks T)) (λ x rest. NotNext goes_on_type rest)
    unfolding chain
    chain_leaves = leaves_then (leaves_any (atom checks T)) (λ l us m. leaves_repeat (operand operators (atom checks T)) (operand_steps checks d T o) goes_on_type operand_leaves l us)

    module _ (l : Leaves T (λ x rest. NotNext goes_on_type rest)) (h : Refuses T (NoType checks d)) where
      atom_by_refuses : (b : TypeHead) (us : List Token) → AtomBegins checks b us → Refuses (atom_by checks T b) (λ front. NoAtom checks d (us ++ front))
      unfolding atom_by
      atom_by_refuses b us (whole w) ts = fine
      atom_by_refuses b us (group {t} i) ts =
          refuses_then o l h (λ front left x k. no.group t i k)
          (λ y us rest k m. refuses_one_of (token.rparen ∷ []) rest (λ n. rw append-nil (no.open_group t i k (more_kinds n m))) (λ u vs j. fine)) ts

      atom_refuses : Refuses (atom checks T) (NoAtom checks d)
      unfolding atom
      atom_refuses = refuses_then (type_head_obeys checks) (leaves_any (type_head checks)) type_head_refuses (λ front left x k. k d) (λ b us rest k m. atom_by_refuses b us k rest)

      -- behind any tokens of the type so far
      abbrev So : Ty → List Token → List Token → Fault → Type 0
      So y front left x = (us : List Token) → IsType checks (suc d) us y → NoType checks (suc d) (us ++ front) left x

      operand_refuses : (y : Ty) → Refuses (operand operators (atom checks T) y) (So y)
      unfolding operand
      operand_refuses y = refuses_then (obeys_perhaps {P = λ q t. Is (op_token q) t} operators ((λ t i. i) ▹ (λ t i. i) ▹ all)) (leaves_any _) (refuses_perhaps {M = So y} operators) (λ front left x k. k) (λ q us rest k m. go q us k rest)
        where
          go : (q : Option Op) (us : List Token) → Perhaps (λ q t. Is (op_token q) t) q us → Refuses (with_right (atom checks T) y q) (λ vs. So y (us ++ vs))
          go q us obey.no rest = fine
          go q us (yes {a = p} {t} i) rest = refuses_map (λ r. some (tree.op p y r)) (λ front left x n us k. no.operand p t k i n) (atom_refuses rest)

      operand_on : (y z : Ty) (ts rest : List Token) → operand operators (atom checks T) y ts ≡ got (some z) rest → (r : Parsed Ty) → Refusing (So z) rest r → Refusing (So y) ts r
      operand_on y z ts rest e r n = let t = obeys_took (operand_obeys checks d T o y) ts rest (some z) e in go t.used t.split t.of
        where
          go : (used : List Token) → ts ≡ used ++ rest → Stepped (λ x us. IsType checks (suc d) us x) y (some z) used → Refusing (So y) ts r
          go used s (more w) = behind_at used rest ts s (refuses_wide (λ front left x n us k. rw (← append_assoc us used front) (n (us ++ used) (w us k))) n)

      chain_refuses : Refuses (chain operators (atom checks T)) (NoType checks (suc d))
      unfolding chain
      chain_refuses =
          refuses_then (atom_obeys checks d T o) (leaves_any (atom checks T)) atom_refuses (λ front left x k. no.atom k)
          (λ y us rest k m. refuses_wide (λ front left x n. n us (is.atom k)) (refuses_repeat So (operand operators (atom checks T)) operand_refuses operand_on y rest))

  type_leaves : (d : ℕ) → Leaves (type checks d) (λ x rest. NotNext goes_on_type rest)
  unfolding type
  type_leaves zero ts = stopped
  type_leaves (suc d) ts = chain_leaves d (type checks d) (type_obeys checks d) ts

  pub type_refuses : (d : ℕ) → Refuses (type checks d) (NoType checks d)
  unfolding type
  type_refuses zero ts = stops [] no.deep_type
  type_refuses (suc d) ts = chain_refuses d (type checks d) (type_obeys checks d) (type_leaves d) (type_refuses d) ts

  arrow_leaves : Leaves (arrow checks) (λ a rest. NotNext goes_on_type rest)
  unfolding arrow
  arrow_leaves =
      leaves_then (leaves_any (type checks depth_limit))
      (λ a us m. leaves_then (leaves_any (expect token.arrow)) (λ t vs m. leaves_then (type_leaves depth_limit) (λ b ws n. leaves n) vs) us)

  pub arrow_refuses : Refuses (arrow checks) (NoArrow checks)
  unfolding arrow
  arrow_refuses =
      refuses_then (type_obeys checks depth_limit) (type_leaves depth_limit) (type_refuses depth_limit) (λ front left x k. no.source k)
      (λ a us rest k m. refuses_one_of (token.arrow ∷ []) rest (λ n. rw append-nil (no.between k (more_kinds n m)))
      (λ t vs i. behind (t ∷ []) (refuses_map _ (λ front left x n. no.target t k i n) (type_refuses depth_limit vs))))

  -- ---- expressions

  head_refuses : Refuses (head checks) (λ front left x. (d : ℕ) → NoExpr checks (suc d) front left x)
  unfolding head
  head_refuses ts =
      refuses_choice (heads checks) _ ts (λ n d. no.not_expr n)
      ((λ t i us. behind (t ∷ []) (refuses_one_of names us (λ n d. no.hole t i n) (λ x vs o. fine)))
      ▹ (λ t i us. behind (t ∷ []) (refuses_one_of literals us (λ n d. no.const t i n) (λ l vs o. refuses_passed _ l _ vs (λ x e d. no.word t l i o e))))
      ▹ (λ t i us. behind (t ∷ []) (refuses_one_of literals us (λ n d. no.fail t i n) (λ l vs o. refuses_passed _ l _ vs (λ x e d. no.entropy t l i o e))))
      ▹ (λ t i us. refuses_passed _ t _ us (λ x e d. no.jet t i e))
      ▹ (λ t i us. fine) ▹ (λ t i us. fine) ▹ (λ t i us. fine) ▹ (λ t i us. fine) ▹ (λ t i us. fine)
      ▹ (λ t i us. fine) ▹ (λ t i us. fine) ▹ (λ t i us. fine)
      ▹ (λ t i us. fine) ▹ (λ t i us. fine) ▹ (λ t i us. fine) ▹ (λ t i us. fine)
      ▹ (λ t i us. fine) ▹ (λ t i us. fine) ▹ (λ t i us. fine) ▹ (λ t i us. fine)
      ▹ all)

  module _ (d : ℕ) (E : Rule Expr) (o : Obeys E (λ e us. IsExpr checks d us e)) (h : Refuses E (NoExpr checks d)) where
    -- an expression, and a token that has to follow it
    closed : {B : Type 0} {M : List Token → List Token → Fault → Type 0} (k : token.Kind) (f : Expr → B) → ((front left : List Token) (x : Fault) → NoExpr checks d front left x → M front left x) → ((es left : List Token) (e : Expr) → IsExpr checks d es e → NotNext (k ∷ []) left → M es left ParseFailed) → (ts : List Token) → Refusing M ts (go_on (E ts) (λ e us. go_on (expect k us) (λ t. give (f e))))
    closed k f i w =
        refuses_then o (leaves_any E) h i
        (λ e es rest j m. refuses_one_of (k ∷ []) rest (λ n. rw append-nil (w es rest e j n)) (λ u vs j. fine))

    cmr_refuses : Refuses (cmr checks E) (NoCmr checks d)
    unfolding cmr
    cmr_refuses ts =
        refuses_choice (cmrs checks E) _ ts no.not_cmr
        ((λ t i us. behind (t ∷ []) (closed token.rbrace _ (λ front left x k. no.inside t i k) (λ es left e k n. no.open_brace t i k n) us))
        ▹ (λ t i us. fine)
        ▹ all)

    expr_by_refuses : (b : Head) (us : List Token) → Begins checks b us → Refuses (expr_by checks E b) (λ front. NoExpr checks (suc d) (us ++ front))
    unfolding expr_by
    expr_by_refuses b us (leaf w) ts = fine
    expr_by_refuses b us (parens {t} i) ts = closed token.rparen _ (λ front left x k. no.parens t i k) (λ es left e k n. no.open_parens t i k n) ts
    expr_by_refuses b us (unary {k} {t} i) ts = refuses_map _ (λ front left x n. no.unary k t i n) (h ts)
    expr_by_refuses b us (binary {k} {t} i) ts =
        refuses_then o (leaves_any E) h (λ front left x n. no.binaryl k t i n)
        (λ l ls rest j m. refuses_map _ (λ front left x n. no.binaryr k t i j n) (h rest)) ts
    expr_by_refuses b us (assertl {t} i) ts =
        refuses_then o (leaves_any E) h (λ front left x n. no.assertl t i n)
        (λ e es rest j m. refuses_map _ (λ front left x n. no.assertl_cmr t i j n) (cmr_refuses rest)) ts
    expr_by_refuses b us (assertr {t} i) ts =
        refuses_then (cmr_obeys checks d E o) (leaves_any (cmr checks E)) cmr_refuses (λ front left x n. no.assertr_cmr t i n)
        (λ c cs rest j m. refuses_map _ (λ front left x n. no.assertr t i j n) (h rest)) ts

  pub expr_refuses : (d : ℕ) → Refuses (expr checks d) (NoExpr checks d)
  unfolding expr
  expr_refuses zero ts = stops [] no.deep_expr
  expr_refuses (suc d) ts = refuses_then (head_obeys checks) (leaves_any (head checks)) head_refuses (λ front left x k. k d) (λ b us rest k m. expr_by_refuses d (expr checks d) (expr_obeys checks d) (expr_refuses d) b us k rest) ts

  -- ---- lines

  perhaps_arrow_leaves : Leaves (perhaps_arrow checks) (λ a rest. NotNext (goes_on_line a) rest)
  unfolding perhaps_arrow
  perhaps_arrow_leaves = leaves_then (perhaps_leaves colons) go
    where
      go : (o : Option (Unit {0})) (us : List Token) → Unless (token.colon ∷ []) o us → Leaving (λ a rest. NotNext (goes_on_line a) rest) (arrow_if checks o us)
      go none us n = leaves n
      go (some u) us n = leaves_then arrow_leaves (λ a vs m. leaves m) us

  -- a line is as long as it can be
  line_leaves : Leaves (line checks) (λ l rest. NotNext (goes_on_line l.arrow) rest)
  unfolding line
  line_leaves =
      leaves_then (leaves_any (one_of names))
      (λ x us m. leaves_choice (line_tails checks x) _
      ((λ t. leaves_then (leaves_any (expr checks depth_limit)) (λ e us m. leaves_then perhaps_arrow_leaves (λ a vs n. leaves n) us))
      ▹ (λ t. leaves_then arrow_leaves (λ a us n. leaves n))
      ▹ all) us)

  perhaps_arrow_refuses : {M : List Token → List Token → Fault → Type 0} → ((u : Token) → Is token.colon u → (front left : List Token) (y : Fault) → NoArrow checks front left y → M (u ∷ front) left y) → Refuses (perhaps_arrow checks) M
  unfolding perhaps_arrow
  perhaps_arrow_refuses {M} w = refuses_then (obeys_perhaps {P = λ q t. Is token.colon t} colons ((λ t i. i) ▹ all)) (leaves_any _) (refuses_perhaps {M = M} colons) (λ front left x k. k) (λ q us rest k m. go q us k rest)
    where
      go : (q : Option (Unit {0})) (us : List Token) → Perhaps (λ q t. Is token.colon t) q us → Refuses (arrow_if checks q) (λ vs. M (us ++ vs))
      go q us obey.no rest = fine
      go q us (yes {t} i) rest = refuses_map _ (w t i) (arrow_refuses rest)

  pub line_refuses : (t : Token) (ts : List Token) → Refusing (NoLine checks) (t ∷ ts) (line checks (t ∷ ts))
  unfolding line
  line_refuses t ts =
      refuses_one_of names (t ∷ ts) unnamed
      (λ x us n. behind (x ∷ [])
      (refuses_choice (line_tails checks x) _ us (λ m. no.tail x n m)
      ((λ t i us. behind (t ∷ [])
      (refuses_then (expr_obeys checks depth_limit) (leaves_any (expr checks depth_limit)) (expr_refuses depth_limit) (λ front left y k. no.expression x t n i k)
      (λ e es rest k m. refuses_map _ (λ front left y a. a) (perhaps_arrow_refuses (λ u j front left y a. no.typed x t u n i k j a) rest)) us))
      ▹ (λ t i us. behind (t ∷ []) (refuses_map _ (λ front left y k. no.declared x t n i k) (arrow_refuses us)))
      ▹ all)))
    where
      unnamed : NotNext names (t ∷ ts) → NoLine checks [] (t ∷ ts) ParseFailed
      unnamed (other e) = no.name t e

  -- ---- files

  another_refuses : (ls : List Line) → Refuses (another checks ls) (NoFile checks)
  unfolding another
  another_refuses ls [] = fine
  another_refuses ls (t ∷ ts) = refuses_map _ (λ front left x k. no.here k) (line_refuses t ts)

  another_on : (ls ms : List Line) (ts rest : List Token) → another checks ls ts ≡ got (some ms) rest → (r : Parsed (List Line)) → Refusing (NoFile checks) rest r → Refusing (NoFile checks) ts r
  unfolding another go_on
  another_on ls ms [] rest e r n = let z : ◌≡◌ {A = ℕ} 0 1 = cc in absurd (omega arith)
  another_on ls ms (t ∷ ts) rest e r n = go (line checks (t ∷ ts)) refl (line_leaves (t ∷ ts)) e
    where
      later : (us rest : List Token) (l : Line) (r : Parsed (List Line)) → IsLine checks us l → NotNext (goes_on_line l.arrow) rest → Refusing (NoFile checks) rest r → Refusing (NoFile checks) (us ++ rest) r
      later us rest l r k w fine = fine
      later us rest l r k w (stops front {left} n) = rw (← append_assoc us front left) (stops (us ++ front) (no.later k w n))

      go : (q : Parsed Line) → line checks (t ∷ ts) ≡ q → Leaving (λ l rest. NotNext (goes_on_line l.arrow) rest) q → go_on q (λ l. give (some (ls ++ (l ∷ [])))) ≡ got (some ms) rest → Refusing (NoFile checks) (t ∷ ts) r
      go (got l us) k (leaves w) e =
          let i : us ≡ rest = cc in
          let s = obeys_took (line_obeys checks) (t ∷ ts) us l k in
          rw s.split (later s.used us l r s.of w (rw (sym i) at n))
      go (stop x us) k w e = let z : ◌≡◌ {A = ℕ} 0 1 = cc in absurd (omega arith)

  pub lines_refuse : Refuses (lines checks) (NoFile checks)
  unfolding lines
  lines_refuse = refuses_repeat (λ ls. NoFile checks) (another checks) another_refuses another_on []
