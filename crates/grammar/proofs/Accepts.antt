-- The grammar accepts just what is derived, and a file, a type, an expression is derived in one way (`accepts`,
-- `derived_once`). Assumes nothing.
use Prim.Native.Nat.{ℕ, suc}
use mathlib.Core.Bool.{true}
use mathlib.Core.Path.{◌≡◌, refl, ◌∙◌}
use mathlib.Core.List.{List, [], ◌∷◌, ◌++◌, append_assoc, append-nil}
use mathlib.Core.Logic.{◌⊎◌, inl, inr, ⊎_elim}
use mathlib.Core.Option.{none, some}
use native.Mathlib.Omega.{arith}
use Rattle.records.specs.Limits.{depth_limit}
use Rattle.records.specs.TokenKind as token
use Rattle.records.proofs.Choices.{or_cases}
use Rattle.lex.specs.Tokens.{Token}
use Rattle.literals.specs.Literals.{is_kind}
use Rattle.checks.specs.Checks.{Checks}
use Rattle.grammar.specs.Tree as tree
use Rattle.grammar.specs.Tree.{Nullary, nullary_token, Unary, unary_token, Binary, binary_token, Expr, Cmr, Op, op_token, Ty, Arrow, Line}
use Rattle.grammar.specs.Rule.{Parsed, got, Rule, go_on, give, is_of, Table, entry, repeat}
use Rattle.grammar.specs.Grammar as grammar
use Rattle.grammar.specs.Grammar.{names, literals, TypeHead, operators, operand, chain, Head, type_heads, type_head, atom_by, atom, type, arrow, leaf_heads, inner_heads, head, cmrs, cmr, expr_by, expr, perhaps_arrow, line_tails, line, another, lines}
use Rattle.grammar.specs.Derives as is
use Rattle.grammar.specs.Derives.{OneOf, Is, IsType, IsAtom, IsExpr, IsCmr, IsArrow, IsLine, IsFile}
use Rattle.grammar.proofs.Repeat.{repeat_on, repeat_off}
use Rattle.grammar.proofs.Obeys.{Taken, obeys_took}
use Rattle.grammar.proofs.Sound.{type_obeys, atom_obeys, operand_steps, arrow_obeys, expr_obeys, cmr_obeys, line_obeys, lines_steps, lines_obeys, lines_end}
use Rattle.grammar.proofs.Next.{of_kind, choice_is, one_of_is, Without, end, without_kind, perhaps_none, perhaps_some}

name_kinds : (x : Token) → OneOf names x → (Is token.symbol x) ⊎ (Is token.underscore x)
name_kinds x n = go (or_cases (is_kind token.symbol x.kind) (is_of x (token.underscore ∷ [])) n)
  where
    go : (is_kind token.symbol x.kind ≡ true) ⊎ (is_of x (token.underscore ∷ []) ≡ true) → (Is token.symbol x) ⊎ (Is token.underscore x)
    go (inl e) = inl (rw e)
    go (inr e) = inr e

-- a table without the kinds of names
without_names : {A : Type 0} {table : Table A} {x : Token} {ts : List Token} → OneOf names x → entry table (of_kind token.symbol) ≡ none → entry table (of_kind token.underscore) ≡ none → Without table (x ∷ ts)
without_names {x = x} n e f = ⊎_elim (λ i. without_kind token.symbol i e) (λ i. without_kind token.underscore i f) (name_kinds x n)

pub op_entry : (o : Op) → entry operators (of_kind (op_token o)) ≡ some o
unfolding entry
op_entry tree.sum = refl
op_entry tree.product = refl

-- `:`, as it may follow an expression
abbrev pub colons : Table (Unit {0})
colons = (token.colon, tt) ∷ []

-- neither an operator nor `:` comes next
pub record EndsLine (rest : List Token) : Type 0 where
  pub operator : Without operators rest
  pub colon : Without colons rest

-- one answer
once : {A : Type 0} {a b : A} (r : Parsed A) (ts : List Token) → r ≡ got a ts → r ≡ got b ts → a ≡ b
once r ts e f = cc

module _ (checks : Checks) where
  -- ---- expressions

  -- by the kind of the first token
  abbrev pub heads : Table (Token → Rule Head)
  heads = leaf_heads checks ++ inner_heads checks

  pub head_is : (k : token.Kind) (t : Token) → Is k t → (ts : List Token) (r : Token → Rule Head) → entry heads (of_kind k) ≡ some r → head checks (t ∷ ts) ≡ r t ts
  unfolding head
  head_is k t i ts r e = choice_is k t i ts heads (λ (p : (Token → Rule Head) × Token). p.0 p.1) r e

  nullary_head : (k : Nullary) → entry heads (of_kind (nullary_token k)) ≡ some (λ t. give (grammar.leaf (tree.nullary k t.start)))
  unfolding entry
  nullary_head tree.unit = refl
  nullary_head tree.iden = refl
  nullary_head tree.witness = refl

  pub unary_head : (k : Unary) → entry heads (of_kind (unary_token k)) ≡ some (λ t. give (grammar.unary k t.start))
  unfolding entry
  unary_head tree.injl = refl
  unary_head tree.injr = refl
  unary_head tree.take = refl
  unary_head tree.drop = refl

  pub binary_head : (k : Binary) → entry heads (of_kind (binary_token k)) ≡ some (λ t. give (grammar.binary k t.start))
  unfolding entry
  binary_head tree.disconnect = refl
  binary_head tree.case = refl
  binary_head tree.comp = refl
  binary_head tree.pair = refl

  ref_head : (x : Token) → OneOf names x → (ts : List Token) → head checks (x ∷ ts) ≡ got (grammar.leaf (tree.ref x)) ts
  unfolding entry
  ref_head x n ts = ⊎_elim (λ i. head_is token.symbol x i ts _ refl) (λ i. head_is token.underscore x i ts _ refl) (name_kinds x n)

  pub cmr_is : (E : Rule Expr) (k : token.Kind) (t : Token) → Is k t → (ts : List Token) (r : Token → Rule Cmr) → entry (cmrs checks E) (of_kind k) ≡ some r → cmr checks E (t ∷ ts) ≡ r t ts
  unfolding cmr
  cmr_is E k t i ts r e = choice_is k t i ts (cmrs checks E) (λ (p : (Token → Rule Cmr) × Token). p.0 p.1) r e

  -- an expression's head, and what follows
  pub expr_at : (d : ℕ) (ts : List Token) {us : List Token} {b : Head} → head checks ts ≡ got b us → expr checks (suc d) ts ≡ expr_by checks (expr checks d) b us
  unfolding expr go_on
  expr_at d ts e = rw e

  leaf_at : (d : ℕ) (ts : List Token) {us : List Token} {e : Expr} → head checks ts ≡ got (grammar.leaf e) us → expr checks (suc d) ts ≡ got e us
  unfolding expr_by
  leaf_at d ts e = expr_at d ts e

  -- by depth, d being that of the parts
  module _ (d : ℕ) (h : (us : List Token) (e : Expr) → IsExpr checks d us e → (rest : List Token) → expr checks d (us ++ rest) ≡ got e rest) where
    cmr_accepts_by : {us : List Token} {c : Cmr} → IsCmr checks d us c → (rest : List Token) → cmr checks (expr checks d) (us ++ rest) ≡ got c rest
    unfolding entry go_on
    cmr_accepts_by (is.inside {ts = es} t u i k j) rest =
        cmr_is (expr checks d) token.hash_brace t i _ _ refl
        ∙ rw (append_assoc es (u ∷ []) rest, h _ _ k (u ∷ rest)) (one_of_is (token.rbrace ∷ []) _ u j rest)
    cmr_accepts_by (is.literal t i) rest = cmr_is (expr checks d) token.cmr t i rest _ refl

    expr_accepts_by : {us : List Token} {e : Expr} → IsExpr checks (suc d) us e → (rest : List Token) → expr checks (suc d) (us ++ rest) ≡ got e rest
    unfolding entry go_on expr_by
    expr_accepts_by (is.hole t x i n) rest = leaf_at d _ (head_is token.question t i _ _ refl ∙ one_of_is names _ x n rest)
    expr_accepts_by (is.const t l i o e) rest = leaf_at d _ (head_is token.const t i _ _ refl ∙ one_of_is literals _ l o rest ∙ rw e)
    expr_accepts_by (is.fail t l i o e) rest = leaf_at d _ (head_is token.fail t i _ _ refl ∙ one_of_is literals _ l o rest ∙ rw e)
    expr_accepts_by (is.jet t i e) rest = leaf_at d _ (head_is token.jet t i _ _ refl ∙ rw e)
    expr_accepts_by (is.ref x n) rest = leaf_at d _ (ref_head x n rest)
    expr_accepts_by (is.nullary k t i) rest = leaf_at d _ (head_is (nullary_token k) t i rest _ (nullary_head k))
    expr_accepts_by (is.parens {ts = es} t u i k j) rest =
        expr_at d _ (head_is token.lparen t i _ _ refl)
        ∙ rw (append_assoc es (u ∷ []) rest, h _ _ k (u ∷ rest)) (one_of_is (token.rparen ∷ []) _ u j rest)
    expr_accepts_by (is.unary k t i m) rest = expr_at d _ (head_is (unary_token k) t i _ _ (unary_head k)) ∙ rw (h _ _ m rest)
    expr_accepts_by (is.binary {ls = ls} {rs} k t i m n) rest =
        expr_at d _ (head_is (binary_token k) t i _ _ (binary_head k)) ∙ rw (append_assoc ls rs rest, h _ _ m (rs ++ rest), h _ _ n rest)
    expr_accepts_by (is.assertl {es = es} {cs} t i m n) rest =
        expr_at d _ (head_is token.assertl t i _ _ refl) ∙ rw (append_assoc es cs rest, h _ _ m (cs ++ rest), cmr_accepts_by n rest)
    expr_accepts_by (is.assertr {cs = cs} {es} t i m n) rest =
        expr_at d _ (head_is token.assertr t i _ _ refl) ∙ rw (append_assoc cs es rest, cmr_accepts_by m (es ++ rest), h _ _ n rest)

  pub expr_accepts : (d : ℕ) {us : List Token} {e : Expr} → IsExpr checks d us e → (rest : List Token) → expr checks d (us ++ rest) ≡ got e rest
  expr_accepts (suc d) k rest = expr_accepts_by d (λ us e. expr_accepts d) k rest
  expr_accepts Prim.Native.Nat.zero {us = us} {e = e} k rest = elim k [ ]

  pub cmr_accepts : (d : ℕ) {us : List Token} {c : Cmr} → IsCmr checks d us c → (rest : List Token) → cmr checks (expr checks d) (us ++ rest) ≡ got c rest
  cmr_accepts d k rest = cmr_accepts_by d (λ us e. expr_accepts d) k rest

  -- ---- types

  pub type_head_is : (k : token.Kind) (t : Token) → Is k t → (ts : List Token) (r : Token → Rule TypeHead) → entry (type_heads checks) (of_kind k) ≡ some r → type_head checks (t ∷ ts) ≡ r t ts
  unfolding type_head
  type_head_is k t i ts r e = choice_is k t i ts (type_heads checks) (λ (p : (Token → Rule TypeHead) × Token). p.0 p.1) r e

  module _ (d : ℕ) (h : (us : List Token) (x : Ty) → IsType checks d us x → (rest : List Token) → Without operators rest → type checks d (us ++ rest) ≡ got x rest) where
    pub atom_at : (ts : List Token) {us : List Token} {b : TypeHead} → type_head checks ts ≡ got b us → atom checks (type checks d) ts ≡ atom_by checks (type checks d) b us
    unfolding atom go_on
    atom_at ts e = rw e

    whole_at : (ts : List Token) {us : List Token} {x : Ty} → type_head checks ts ≡ got (grammar.whole x) us → atom checks (type checks d) ts ≡ got x us
    unfolding atom_by
    whole_at ts e = atom_at ts e

    atom_accepts_by : {us : List Token} {x : Ty} → IsAtom checks d us x → (rest : List Token) → atom checks (type checks d) (us ++ rest) ≡ got x rest
    unfolding entry go_on atom_by
    atom_accepts_by (is.one t i) rest = whole_at _ (type_head_is token.one t i rest _ refl)
    atom_accepts_by (is.two t i) rest = whole_at _ (type_head_is token.two t i rest _ refl)
    atom_accepts_by (is.power t n i e) rest = whole_at _ (type_head_is token.power t i rest _ refl ∙ rw e)
    atom_accepts_by (is.name t i) rest = whole_at _ (type_head_is token.symbol t i rest _ refl)
    atom_accepts_by (is.absent t i) rest = whole_at _ (type_head_is token.underscore t i rest _ refl)
    atom_accepts_by (is.group {ts = ts} t u i k j) rest =
        atom_at _ (type_head_is token.lparen t i _ _ refl)
        ∙ rw (append_assoc ts (u ∷ []) rest, h _ _ k (u ∷ rest) (without_kind token.rparen j refl)) (one_of_is (token.rparen ∷ []) _ u j rest)

    -- behind the tokens of a type the rule stands where a further operand may follow
    pub type_on : {us : List Token} {x : Ty} → IsType checks (suc d) us x → (rest : List Token) → type checks (suc d) (us ++ rest) ≡ repeat (operand operators (atom checks (type checks d))) x rest
    unfolding type chain go_on operand
    type_on (is.atom k) rest = rw (atom_accepts_by k rest)
    type_on (is.op {ls = ls} {rs} {l} {r} o t k i m) rest =
        let step = operand operators (atom checks (type checks d)) in
        let e : step l (t ∷ (rs ++ rest)) ≡ got (some (tree.op o l r)) rest = rw (perhaps_some operators (op_token o) t i o (op_entry o) (rs ++ rest), atom_accepts_by m rest) in
        rw (append_assoc ls (t ∷ rs) rest)
        (type_on k (t ∷ (rs ++ rest)) ∙ repeat_on step (operand_steps checks d (type checks d) (type_obeys checks d)) l (t ∷ (rs ++ rest)) rest (tree.op o l r) e)

    type_accepts_by : {us : List Token} {x : Ty} → IsType checks (suc d) us x → (rest : List Token) → Without operators rest → type checks (suc d) (us ++ rest) ≡ got x rest
    unfolding go_on operand
    type_accepts_by {us} {x} k rest w =
        type_on k rest ∙ repeat_off (operand operators (atom checks (type checks d))) (operand_steps checks d (type checks d) (type_obeys checks d)) x rest rest (rw (perhaps_none w))

  pub type_accepts : (d : ℕ) {us : List Token} {x : Ty} → IsType checks d us x → (rest : List Token) → Without operators rest → type checks d (us ++ rest) ≡ got x rest
  type_accepts (suc d) k rest w = type_accepts_by d (λ us x. type_accepts d) k rest w
  type_accepts Prim.Native.Nat.zero {us = us} k rest w = elim k [ ]

  pub atom_accepts : (d : ℕ) {us : List Token} {x : Ty} → IsAtom checks d us x → (rest : List Token) → atom checks (type checks d) (us ++ rest) ≡ got x rest
  atom_accepts d k rest = atom_accepts_by d (λ us x. type_accepts d) k rest

  pub arrow_accepts : {us : List Token} {a : Arrow} → IsArrow checks us a → (rest : List Token) → Without operators rest → arrow checks (us ++ rest) ≡ got a rest
  unfolding arrow go_on entry
  arrow_accepts (is.arrow {xs} {ys} t k i m) rest w =
      rw (append_assoc xs (t ∷ ys) rest, type_accepts depth_limit k (t ∷ (ys ++ rest)) (without_kind token.arrow i refl))
      (one_of_is (token.arrow ∷ []) _ t i (ys ++ rest) ∙ rw (type_accepts depth_limit m rest w))

  -- ---- lines

  pub line_is : (x : Token) → OneOf names x → (k : token.Kind) (t : Token) → Is k t → (ts : List Token) (r : Rule Line) → entry (line_tails checks x) (of_kind k) ≡ some r → line checks (x ∷ t ∷ ts) ≡ r ts
  unfolding line
  line_is x n k t i ts r e = one_of_is names _ x n (t ∷ ts) ∙ choice_is k t i ts (line_tails checks x) (λ (p : Rule Line × Token). p.0) r e

  pub line_accepts : {us : List Token} {l : Line} → IsLine checks us l → (rest : List Token) → EndsLine rest → line checks (us ++ rest) ≡ got l rest
  unfolding entry go_on perhaps_arrow
  line_accepts (is.plain x t n i k) rest w =
      line_is x n token.assign t i _ _ refl ∙ rw (expr_accepts depth_limit k rest, perhaps_none w.colon)
  line_accepts (is.typed {es} {xs} x t u n i k j m) rest w =
      line_is x n token.assign t i _ _ refl
      ∙ rw (append_assoc es (u ∷ xs) rest, expr_accepts depth_limit k (u ∷ (xs ++ rest)), perhaps_some colons token.colon u j tt refl (xs ++ rest), arrow_accepts m rest w.operator)
  line_accepts (is.declared x t n i m) rest w =
      line_is x n token.colon t i _ _ refl ∙ rw (arrow_accepts m rest w.operator)

  -- a line begins with a name
  data Named : List Token → Type 0 where
    named : {x : Token} {ts : List Token} → OneOf names x → Named (x ∷ ts)

  line_named : {us : List Token} {l : Line} → IsLine checks us l → (rest : List Token) → Named (us ++ rest)
  line_named (is.plain x t n i k) rest = named n
  line_named (is.typed x t u n i k j m) rest = named n
  line_named (is.declared x t n i m) rest = named n

  file_follows : {us : List Token} {ls : List Line} → IsFile checks us ls → EndsLine us
  unfolding entry
  file_follows is.end = record { operator = end; colon = end }
  file_follows (is.more {us = us} k f) = go (line_named k us)
    where
      go : {ts : List Token} → Named ts → EndsLine ts
      go (named n) = record { operator = without_names n refl refl; colon = without_names n refl refl }

  another_on : (ls : List Line) (ts rest : List Token) (l : Line) → Named ts → line checks ts ≡ got l rest → another checks ls ts ≡ got (some (ls ++ (l ∷ []))) rest
  unfolding another go_on
  another_on ls ts rest l (named n) e = rw e

  file_on : {us : List Token} {ls : List Line} → IsFile checks us ls → (ms : List Line) → repeat (another checks) ms us ≡ got (ms ++ ls) []
  unfolding another
  file_on is.end ms = rw append-nil (repeat_off (another checks) (lines_steps checks) ms [] [] refl)
  file_on (is.more {ts} {us} {l} {ls} k f) ms =
      repeat_on (another checks) (lines_steps checks) ms (ts ++ us) us (ms ++ (l ∷ [])) (another_on ms (ts ++ us) us l (line_named k us) (line_accepts k us (file_follows f)))
      ∙ file_on f (ms ++ (l ∷ []))
      ∙ rw append_assoc

  pub lines_accept : {us : List Token} {ls : List Line} → IsFile checks us ls → lines checks us ≡ got ls []
  unfolding lines
  lines_accept f = file_on f []

  -- ---- what is accepted is derived

  pub type_derived : (d : ℕ) (ts rest : List Token) (x : Ty) → type checks d ts ≡ got x rest → Taken (λ x us. IsType checks d us x) x ts rest
  type_derived d = obeys_took (type_obeys checks d)

  pub atom_derived : (d : ℕ) (ts rest : List Token) (x : Ty) → atom checks (type checks d) ts ≡ got x rest → Taken (λ x us. IsAtom checks d us x) x ts rest
  atom_derived d = obeys_took (atom_obeys checks d (type checks d) (type_obeys checks d))

  pub arrow_derived : (ts rest : List Token) (a : Arrow) → arrow checks ts ≡ got a rest → Taken (λ a us. IsArrow checks us a) a ts rest
  arrow_derived = obeys_took (arrow_obeys checks)

  pub expr_derived : (d : ℕ) (ts rest : List Token) (e : Expr) → expr checks d ts ≡ got e rest → Taken (λ e us. IsExpr checks d us e) e ts rest
  expr_derived d = obeys_took (expr_obeys checks d)

  pub cmr_derived : (d : ℕ) (ts rest : List Token) (c : Cmr) → cmr checks (expr checks d) ts ≡ got c rest → Taken (λ c us. IsCmr checks d us c) c ts rest
  cmr_derived d = obeys_took (cmr_obeys checks d (expr checks d) (expr_obeys checks d))

  pub line_derived : (ts rest : List Token) (l : Line) → line checks ts ≡ got l rest → Taken (λ l us. IsLine checks us l) l ts rest
  line_derived = obeys_took (line_obeys checks)

  pub lines_derived : (ts rest : List Token) (ls : List Line) → lines checks ts ≡ got ls rest → (rest ≡ []) × IsFile checks ts ls
  lines_derived ts rest ls e = (lines_end checks ts rest ls e, go rest (lines_end checks ts rest ls e) (obeys_took (lines_obeys checks) ts rest ls e))
    where
      go : (rest : List Token) → rest ≡ [] → Taken (λ ls us. IsFile checks us ls) ls ts rest → IsFile checks ts ls
      go [] z t = rw (t.split, append-nil) t.of
      go (u ∷ us) z t = let y : ◌≡◌ {A = ℕ} 0 1 = cc in absurd (omega arith)

  -- ---- the two together

  pub accepts : (ts : List Token) (ls : List Line) → (lines checks ts ≡ got ls [] → IsFile checks ts ls) × (IsFile checks ts ls → lines checks ts ≡ got ls [])
  accepts ts ls = (λ e. (lines_derived ts [] ls e).1, λ f. lines_accept f)

  pub derived_once : {ts : List Token} {ls ms : List Line} → IsFile checks ts ls → IsFile checks ts ms → ls ≡ ms
  derived_once {ts} f g = once (lines checks ts) [] (lines_accept f) (lines_accept g)

  pub type_derived_once : {d : ℕ} {ts : List Token} {x y : Ty} → IsType checks d ts x → IsType checks d ts y → x ≡ y
  type_derived_once {d} {ts} f g = once (type checks d (ts ++ [])) [] (type_accepts d f [] end) (type_accepts d g [] end)

  pub expr_derived_once : {d : ℕ} {ts : List Token} {e f : Expr} → IsExpr checks d ts e → IsExpr checks d ts f → e ≡ f
  expr_derived_once {d} {ts} f g = once (expr checks d (ts ++ [])) [] (expr_accepts d f []) (expr_accepts d g [])
