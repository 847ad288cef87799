-- What the rules of refusal refuse, the grammar refuses, with that fault at that token (`lines_refused`). Assumes nothing.
use Prim.Native.Nat.{ℕ, zero, suc, ◌<◌}
use mathlib.Core.Path.{◌≡◌, refl, ◌∙◌}
use mathlib.Core.List.{List, [], ◌∷◌, ◌++◌, append_assoc}
use mathlib.Core.Option.{Option, some}
use native.Mathlib.Omega.{arith}
use lib.ListN.{length}
use Rattle.records.specs.Limits.{depth_limit}
use Rattle.records.specs.TokenKind as token
use Rattle.lex.specs.Tokens.{Token}
use Rattle.checks.specs.declared.Fault.{Fault}
use Rattle.checks.specs.Checks.{Checks}
use Rattle.grammar.specs.Tree.{unary_token, binary_token, op_token, Line}
use Rattle.grammar.specs.Rule.{got, stop, Rule, go_on, give, entry, repeat}
use Rattle.grammar.specs.Grammar.{names, literals, operators, operand, chain, type_heads, type_head, atom_by, atom, type, arrow, head, cmrs, cmr, expr_by, expr, perhaps_arrow, line_tails, line, another, lines}
use Rattle.grammar.specs.Derives as is
use Rattle.grammar.specs.Derives.{IsLine}
use Rattle.grammar.proofs.Repeat.{repeat_stop, repeat_on}
use Rattle.grammar.proofs.Sound.{lines_steps}
use Rattle.grammar.proofs.Next.{one_of_is, without_kind, perhaps_none, perhaps_some}
use Rattle.grammar.proofs.Accepts.{op_entry, colons, heads, head_is, unary_head, binary_head, cmr_is, expr_at, expr_accepts, cmr_accepts, type_head_is, atom_at, type_on, type_accepts, arrow_accepts, line_is}
use Rattle.refusals.specs.Refuses as no
use Rattle.refusals.specs.Refuses.{NotNext, goes_on_line, NoType, NoAtom, NoExpr, NoCmr, NoArrow, NoLine, NoFile}
use Rattle.refusals.proofs.Next.{next_without, one_of_none, choice_none, first_kind, later_kinds}

-- a repetition whose first step stops
repeat_stops : {A : Type 0} (step : A → Rule (Option A)) (a : A) (ts : List Token) {left : List Token} {x : Fault} → 0 < length ts → step a ts ≡ stop x left → repeat step a ts ≡ stop x left
unfolding repeat
repeat_stops step a [] h e = absurd (omega arith)
repeat_stops step a (t ∷ ts) h e = repeat_stop step (length ts) e

module _ (checks : Checks) where
  -- ---- expressions

  head_stops : (d : ℕ) (ts : List Token) {left : List Token} {x : Fault} → head checks ts ≡ stop x left → expr checks (suc d) ts ≡ stop x left
  unfolding expr go_on
  head_stops d ts e = rw e

  -- by depth, d being that of the parts
  module _ (d : ℕ) (h : (front left : List Token) (x : Fault) → NoExpr checks d front left x → expr checks d (front ++ left) ≡ stop x left) where
    cmr_refused_by : {front left : List Token} {x : Fault} → NoCmr checks d front left x → cmr checks (expr checks d) (front ++ left) ≡ stop x left
    unfolding cmr entry go_on
    cmr_refused_by (no.not_cmr n) = choice_none (cmrs checks (expr checks d)) _ n
    cmr_refused_by (no.inside t i k) = cmr_is checks (expr checks d) token.hash_brace t i _ _ refl ∙ rw (h _ _ _ k)
    cmr_refused_by (no.open_brace {left} t i k n) =
        cmr_is checks (expr checks d) token.hash_brace t i _ _ refl ∙ rw (expr_accepts checks d k left) (one_of_none (token.rbrace ∷ []) _ n)

    expr_refused_by : {front left : List Token} {x : Fault} → NoExpr checks (suc d) front left x → expr checks (suc d) (front ++ left) ≡ stop x left
    unfolding head entry go_on expr_by
    expr_refused_by (no.not_expr n) = head_stops d _ (choice_none (heads checks) _ n)
    expr_refused_by (no.hole t i n) = head_stops d _ (head_is checks token.question t i _ _ refl ∙ one_of_none names _ n)
    expr_refused_by (no.const t i n) = head_stops d _ (head_is checks token.const t i _ _ refl ∙ one_of_none literals _ n)
    expr_refused_by (no.word {left} t l i o e) = head_stops d _ (head_is checks token.const t i _ _ refl ∙ one_of_is literals _ l o left ∙ rw e)
    expr_refused_by (no.fail t i n) = head_stops d _ (head_is checks token.fail t i _ _ refl ∙ one_of_none literals _ n)
    expr_refused_by (no.entropy {left} t l i o e) = head_stops d _ (head_is checks token.fail t i _ _ refl ∙ one_of_is literals _ l o left ∙ rw e)
    expr_refused_by (no.jet t i e) = head_stops d _ (head_is checks token.jet t i _ _ refl ∙ rw e)
    expr_refused_by (no.parens t i k) = expr_at checks d _ (head_is checks token.lparen t i _ _ refl) ∙ rw (h _ _ _ k)
    expr_refused_by (no.open_parens {left} t i k n) =
        expr_at checks d _ (head_is checks token.lparen t i _ _ refl) ∙ rw (expr_accepts checks d k left) (one_of_none (token.rparen ∷ []) _ n)
    expr_refused_by (no.unary k t i m) = expr_at checks d _ (head_is checks (unary_token k) t i _ _ (unary_head checks k)) ∙ rw (h _ _ _ m)
    expr_refused_by (no.binaryl k t i m) = expr_at checks d _ (head_is checks (binary_token k) t i _ _ (binary_head checks k)) ∙ rw (h _ _ _ m)
    expr_refused_by (no.binaryr {ls} {front} {left} k t i m n) =
        expr_at checks d _ (head_is checks (binary_token k) t i _ _ (binary_head checks k)) ∙ rw (append_assoc ls front left, expr_accepts checks d m (front ++ left), h _ _ _ n)
    expr_refused_by (no.assertl t i m) = expr_at checks d _ (head_is checks token.assertl t i _ _ refl) ∙ rw (h _ _ _ m)
    expr_refused_by (no.assertl_cmr {es} {front} {left} t i m n) =
        expr_at checks d _ (head_is checks token.assertl t i _ _ refl) ∙ rw (append_assoc es front left, expr_accepts checks d m (front ++ left), cmr_refused_by n)
    expr_refused_by (no.assertr_cmr t i m) = expr_at checks d _ (head_is checks token.assertr t i _ _ refl) ∙ rw (cmr_refused_by m)
    expr_refused_by (no.assertr {cs} {front} {left} t i m n) =
        expr_at checks d _ (head_is checks token.assertr t i _ _ refl) ∙ rw (append_assoc cs front left, cmr_accepts checks d m (front ++ left), h _ _ _ n)

  pub expr_refused : (d : ℕ) {front left : List Token} {x : Fault} → NoExpr checks d front left x → expr checks d (front ++ left) ≡ stop x left
  unfolding expr
  expr_refused zero no.deep_expr = refl
  expr_refused (suc d) k = expr_refused_by d (λ front left x. expr_refused d) k

  -- ---- types

  atom_stops : (d : ℕ) (ts : List Token) {left : List Token} {x : Fault} → type_head checks ts ≡ stop x left → atom checks (type checks d) ts ≡ stop x left
  unfolding atom go_on
  atom_stops d ts e = rw e

  module _ (d : ℕ) (h : (front left : List Token) (x : Fault) → NoType checks d front left x → type checks d (front ++ left) ≡ stop x left) where
    atom_refused_by : {front left : List Token} {x : Fault} → NoAtom checks d front left x → atom checks (type checks d) (front ++ left) ≡ stop x left
    unfolding type_head entry go_on atom_by
    atom_refused_by (no.not_atom n) = atom_stops d _ (choice_none (type_heads checks) _ n)
    atom_refused_by (no.power t i e) = atom_stops d _ (type_head_is checks token.power t i _ _ refl ∙ rw e)
    atom_refused_by (no.group t i k) = atom_at checks d (λ us x. type_accepts checks d) _ (type_head_is checks token.lparen t i _ _ refl) ∙ rw (h _ _ _ k)
    atom_refused_by (no.open_group {left} t i k n) =
        atom_at checks d (λ us x. type_accepts checks d) _ (type_head_is checks token.lparen t i _ _ refl)
        ∙ rw (type_accepts checks d k left (next_without operators (later_kinds n))) (one_of_none (token.rparen ∷ []) _ (first_kind n))

    type_refused_by : {front left : List Token} {x : Fault} → NoType checks (suc d) front left x → type checks (suc d) (front ++ left) ≡ stop x left
    unfolding type chain go_on operand
    type_refused_by (no.atom k) = rw (atom_refused_by k)
    type_refused_by (no.operand {ls} {front} {left} {l} {x} o t k i m) =
        let step = operand operators (atom checks (type checks d)) in
        let e : step l (t ∷ (front ++ left)) ≡ stop x left = rw (perhaps_some operators (op_token o) t i o (op_entry o) (front ++ left), atom_refused_by m) in
        rw (append_assoc ls (t ∷ front) left)
        (type_on checks d (λ us x. type_accepts checks d) k (t ∷ (front ++ left)) ∙ repeat_stops step l (t ∷ (front ++ left)) (omega arith) e)

  pub type_refused : (d : ℕ) {front left : List Token} {x : Fault} → NoType checks d front left x → type checks d (front ++ left) ≡ stop x left
  unfolding type
  type_refused zero no.deep_type = refl
  type_refused (suc d) k = type_refused_by d (λ front left x. type_refused d) k

  pub arrow_refused : {front left : List Token} {x : Fault} → NoArrow checks front left x → arrow checks (front ++ left) ≡ stop x left
  unfolding arrow go_on entry
  arrow_refused (no.source k) = rw (type_refused depth_limit k)
  arrow_refused (no.between {left} k n) = rw (type_accepts checks depth_limit k left (next_without operators (later_kinds n))) (one_of_none (token.arrow ∷ []) _ (first_kind n))
  arrow_refused (no.target {ts} {front} {left} t k i m) =
      rw (append_assoc ts (t ∷ front) left, type_accepts checks depth_limit k (t ∷ (front ++ left)) (without_kind token.arrow i refl))
      (one_of_is (token.arrow ∷ []) _ t i (front ++ left) ∙ rw (type_refused depth_limit m))

  -- ---- lines

  pub line_refused : {front left : List Token} {x : Fault} → NoLine checks front left x → line checks (front ++ left) ≡ stop x left
  unfolding line entry go_on perhaps_arrow
  line_refused (no.name t e) = one_of_none names _ (no.other e)
  line_refused (no.tail {left} x n m) = one_of_is names _ x n left ∙ choice_none (line_tails checks x) _ m
  line_refused (no.expression x t n i k) = line_is checks x n token.assign t i _ _ refl ∙ rw (expr_refused depth_limit k)
  line_refused (no.typed {es} {front} {left} x t u n i k j m) =
      line_is checks x n token.assign t i _ _ refl
      ∙ rw (append_assoc es (u ∷ front) left, expr_accepts checks depth_limit k (u ∷ (front ++ left)), perhaps_some colons token.colon u j tt refl (front ++ left), arrow_refused m)
  line_refused (no.declared x t n i m) = line_is checks x n token.colon t i _ _ refl ∙ rw (arrow_refused m)

  -- a whole line is accepted, whatever follows that does not go on with it
  pub whole_line : {us : List Token} {l : Line} → IsLine checks us l → (rest : List Token) → NotNext (goes_on_line l.arrow) rest → line checks (us ++ rest) ≡ got l rest
  unfolding entry go_on perhaps_arrow
  whole_line (is.plain x t n i k) rest w =
      line_is checks x n token.assign t i _ _ refl ∙ rw (expr_accepts checks depth_limit k rest, perhaps_none (next_without colons w))
  whole_line (is.typed {es} {xs} x t u n i k j m) rest w =
      line_is checks x n token.assign t i _ _ refl
      ∙ rw (append_assoc es (u ∷ xs) rest, expr_accepts checks depth_limit k (u ∷ (xs ++ rest)), perhaps_some colons token.colon u j tt refl (xs ++ rest), arrow_accepts checks m rest (next_without operators w))
  whole_line (is.declared x t n i m) rest w =
      line_is checks x n token.colon t i _ _ refl ∙ rw (arrow_accepts checks m rest (next_without operators w))

  -- a line begins where a token is left
  no_line_some : {front left : List Token} {x : Fault} → NoLine checks front left x → 0 < length (front ++ left)
  no_line_some (no.name t e) = omega arith
  no_line_some (no.tail x n m) = omega arith
  no_line_some (no.expression x t n i k) = omega arith
  no_line_some (no.typed x t u n i k j m) = omega arith
  no_line_some (no.declared x t n i m) = omega arith

  is_line_some : {us : List Token} {l : Line} → IsLine checks us l → (rest : List Token) → 0 < length (us ++ rest)
  is_line_some (is.plain x t n i k) rest = omega arith
  is_line_some (is.typed x t u n i k j m) rest = omega arith
  is_line_some (is.declared x t n i m) rest = omega arith

  another_by : (ls : List Line) (ts : List Token) → 0 < length ts → another checks ls ts ≡ go_on (line checks ts) (λ l. give (some (ls ++ (l ∷ []))))
  unfolding another
  another_by ls [] h = absurd (omega arith)
  another_by ls (t ∷ ts) h = refl

  file_refused : {front left : List Token} {x : Fault} → NoFile checks front left x → (ls : List Line) → repeat (another checks) ls (front ++ left) ≡ stop x left
  unfolding go_on
  file_refused (no.here {front} {left} k) ls =
      let some = no_line_some k in
      repeat_stops (another checks) ls (front ++ left) some (another_by ls (front ++ left) some ∙ rw (line_refused k))
  file_refused (no.later {ts} {front} {left} {l} k w f) ls =
      let rest = front ++ left in
      rw (append_assoc ts front left)
      (repeat_on (another checks) (lines_steps checks) ls (ts ++ rest) rest (ls ++ (l ∷ [])) (another_by ls (ts ++ rest) (is_line_some k rest) ∙ rw (whole_line k rest w))
      ∙ file_refused f (ls ++ (l ∷ [])))

  pub lines_refused : {front left : List Token} {x : Fault} → NoFile checks front left x → lines checks (front ++ left) ≡ stop x left
  unfolding lines
  lines_refused f = file_refused f []
