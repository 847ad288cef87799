-- Each rule of the grammar obeys its rules of derivation: what it takes derives what it gives, and it looks at one token more
-- than it takes. Assumes nothing.
use Prim.Native.Nat.{ℕ, zero, suc}
use mathlib.Core.Bool.{Bool, true, false, ◌||◌}
use mathlib.Core.Path.{◌≡◌, refl, sym}
use mathlib.Core.List.{List, [], ◌∷◌, ◌++◌, append_assoc, append-nil}
use mathlib.Core.Option.{Option, none, some}
use native.Mathlib.Omega.{arith}
use Rattle.records.specs.Limits.{depth_limit}
use Rattle.records.specs.TokenKind as token
use Rattle.lex.specs.Tokens.{Token}
use Rattle.checks.specs.declared.Fault.TheVariants.{TooDeep}
use Rattle.literals.specs.Literals.{is_kind}
use Rattle.checks.specs.Checks.{Checks}
use Rattle.grammar.specs.Tree as tree
use Rattle.grammar.specs.Tree.{Nullary, nullary_token, Unary, unary_token, Binary, binary_token, Expr, Op, op_token, Ty, Arrow, Line}
use Rattle.grammar.specs.Rule.{Parsed, got, stop, Rule, go_on, ◌>>◌, give, is_of, perhaps}
use Rattle.grammar.specs.Grammar as grammar
use Rattle.grammar.specs.Grammar.{names, literals, passed, TypeHead, power_of, power, operators, with_right, operand, chain, Head, type_heads, type_head, atom_by, atom, type, arrow, leaf_heads, inner_heads, head, cmrs, cmr, expr_by, expr, arrow_if, perhaps_arrow, line_tails, line, another, lines}
use Rattle.grammar.specs.Derives as is
use Rattle.grammar.specs.Derives.{OneOf, Is, IsType, IsAtom, IsExpr, IsCmr, IsArrow, IsLine, IsFile}
use Rattle.grammar.proofs.Obeys.{same_end, gets, Obeys, After, obeys_give, obeys_refuse, obeys_back, obeys_after, obeys_then, obeys_map, obeys_one_of, all, ◌▹◌, obeys_choice, Perhaps, no, yes, obeys_perhaps, Stepped, done, more, obeys_steps, obeys_repeat, obeying_front}
use Rattle.grammar.proofs.Repeat.{Steps, repeat_ends}
use Rattle.checks.specs.declared.Fault.{Fault}
use Rattle.std.specs.Prelude.{Err, Ok, Result}

-- a kind of several
of_first : (p q : Bool) → p || false ≡ true → p || q ≡ true
of_first true q e = refl
of_first false q e = let z : true ≡ false = sym e in cc

of_later : (p q : Bool) → q ≡ true → p || q ≡ true
of_later true q e = refl
of_later false q e = e

pub symbol_names : (t : Token) → Is token.symbol t → OneOf names t
symbol_names t = of_first (is_kind token.symbol t.kind) (is_of t (token.underscore ∷ []))

pub underscore_names : (t : Token) → Is token.underscore t → OneOf names t
underscore_names t = of_later (is_kind token.symbol t.kind) (is_of t (token.underscore ∷ []))

-- a test of the token that was taken last
passed_after : {A : Type 0} {G : A → List Token → Type 0} (t : Token) (v : Result (Unit {0}) Fault) (p : Rule A) → (v ≡ Ok tt → Obeys p (λ a us. G a (t ∷ us))) → After t (passed t v >> p) G
unfolding go_on
passed_after t (Ok _) p h = obeys_after (h refl)
passed_after t (Err x) p h = obeys_back t x

module _ (checks : Checks) where
  -- ---- types

  -- what the head of an atom is, by its tokens
  pub data AtomBegins : TypeHead → List Token → Type 0 where
    whole : {x : Ty} {us : List Token} → ((d : ℕ) → IsAtom checks d us x) → AtomBegins (grammar.whole x) us
    group : {t : Token} → Is token.lparen t → AtomBegins grammar.group (t ∷ [])

  power_after : (t : Token) (v : Result ℕ Fault) → Is token.power t → checks.power t.text ≡ v → After t (power t v) AtomBegins
  power_after t (Ok n) i e = obeys_after (obeys_give (grammar.whole (power_of n)) (whole (λ d. is.power t n i e)))
  power_after t (Err x) i e = obeys_back t x

  pub type_head_obeys : Obeys (type_head checks) AtomBegins
  unfolding type_head
  type_head_obeys =
      obeys_choice (type_heads checks) _
      ((λ t i. obeys_after (obeys_give grammar.group (group i)))
      ▹ (λ t i. obeys_after (obeys_give (grammar.whole tree.absent) (whole (λ d. is.absent t i))))
      ▹ (λ t i. obeys_after (obeys_give (grammar.whole (tree.name t)) (whole (λ d. is.name t i))))
      ▹ (λ t i. power_after t (checks.power t.text) i refl)
      ▹ (λ t i. obeys_after (obeys_give (grammar.whole tree.one) (whole (λ d. is.one t i))))
      ▹ (λ t i. obeys_after (obeys_give (grammar.whole tree.two) (whole (λ d. is.two t i))))
      ▹ all)

  module _ (d : ℕ) (T : Rule Ty) (h : Obeys T (λ x us. IsType checks d us x)) where
    atom_by_obeys : (b : TypeHead) (us : List Token) → AtomBegins b us → Obeys (atom_by checks T b) (λ x vs. IsAtom checks d (us ++ vs) x)
    unfolding atom_by
    atom_by_obeys b us (whole {x} w) = obeys_give x (rw append-nil (w d))
    atom_by_obeys b us (group {t} i) = obeys_then h (λ x ts k. obeys_one_of (token.rparen ∷ []) (λ u j. obeys_after (obeys_give x (is.group t u i k j))))

    pub atom_obeys : Obeys (atom checks T) (λ x us. IsAtom checks d us x)
    unfolding atom
    atom_obeys = obeys_then type_head_obeys atom_by_obeys

    pub operand_obeys : (l : Ty) → Obeys (operand operators (atom checks T) l) (Stepped (λ x us. IsType checks (suc d) us x) l)
    unfolding operand
    operand_obeys l = obeys_then (obeys_perhaps {P = λ o t. Is (op_token o) t} operators ((λ t i. i) ▹ (λ t i. i) ▹ all)) go
      where
        go : (o : Option Op) (us : List Token) → Perhaps (λ o t. Is (op_token o) t) o us → Obeys (with_right (atom checks T) l o) (λ o vs. Stepped (λ x us. IsType checks (suc d) us x) l o (us ++ vs))
        go o us no = obeys_give none done
        go o us (yes {a = q} {t} i) = obeys_map (λ r. some (tree.op q l r)) atom_obeys (λ r vs k. more (λ us hl. is.op q t hl i k))

    operand_ends : (l : Ty) → operand operators (atom checks T) l [] ≡ got none []
    unfolding operand perhaps go_on
    operand_ends l = refl

    pub operand_steps : Steps (operand operators (atom checks T))
    operand_steps = obeys_steps (λ x us. IsType checks (suc d) us x) (operand operators (atom checks T)) operand_ends operand_obeys

    chain_obeys : Obeys (chain operators (atom checks T)) (λ x us. IsType checks (suc d) us x)
    unfolding chain
    chain_obeys = obeys_then atom_obeys (λ l us h. obeys_repeat (λ x us. IsType checks (suc d) us x) (operand operators (atom checks T)) operand_ends operand_obeys l us (is.atom h))

  pub type_obeys : (d : ℕ) → Obeys (type checks d) (λ x us. IsType checks d us x)
  unfolding type
  type_obeys zero = obeys_refuse TooDeep
  type_obeys (suc d) = chain_obeys d (type checks d) (type_obeys d)

  pub arrow_obeys : Obeys (arrow checks) (λ a us. IsArrow checks us a)
  unfolding arrow
  arrow_obeys =
      obeys_then (type_obeys depth_limit)
      (λ a xs h. obeys_one_of (token.arrow ∷ [])
      (λ t i. obeys_after (obeys_map (λ b. record { source = a; target = b }) (type_obeys depth_limit) (λ b ys k. is.arrow t h i k))))

  -- ---- expressions

  -- what the head of an expression is, by its tokens
  pub data Begins : Head → List Token → Type 0 where
    leaf : {e : Expr} {us : List Token} → ((d : ℕ) → IsExpr checks (suc d) us e) → Begins (grammar.leaf e) us
    parens : {t : Token} → Is token.lparen t → Begins grammar.parens (t ∷ [])
    unary : {k : Unary} {t : Token} → Is (unary_token k) t → Begins (grammar.unary k t.start) (t ∷ [])
    binary : {k : Binary} {t : Token} → Is (binary_token k) t → Begins (grammar.binary k t.start) (t ∷ [])
    assertl : {t : Token} → Is token.assertl t → Begins (grammar.assertl t.start) (t ∷ [])
    assertr : {t : Token} → Is token.assertr t → Begins (grammar.assertr t.start) (t ∷ [])

  nullary_after : (k : Nullary) (t : Token) → Is (nullary_token k) t → After t (give (grammar.leaf (tree.nullary k t.start))) Begins
  nullary_after k t i = obeys_after (obeys_give _ (leaf (λ d. is.nullary k t i)))

  unary_after : (k : Unary) (t : Token) → Is (unary_token k) t → After t (give (grammar.unary k t.start)) Begins
  unary_after k t i = obeys_after (obeys_give _ (unary i))

  binary_after : (k : Binary) (t : Token) → Is (binary_token k) t → After t (give (grammar.binary k t.start)) Begins
  binary_after k t i = obeys_after (obeys_give _ (binary i))

  pub head_obeys : Obeys (head checks) Begins
  unfolding head
  head_obeys =
      obeys_choice (leaf_heads checks ++ inner_heads checks) _
      ((λ t i. obeys_after (obeys_one_of names (λ x n. obeys_after (obeys_give _ (leaf (λ d. is.hole t x i n))))))
      ▹ (λ t i. obeys_after (obeys_one_of literals (λ l o. passed_after l _ _ (λ e. obeys_give _ (leaf (λ d. is.const t l i o e))))))
      ▹ (λ t i. obeys_after (obeys_one_of literals (λ l o. passed_after l _ _ (λ e. obeys_give _ (leaf (λ d. is.fail t l i o e))))))
      ▹ (λ t i. passed_after t _ _ (λ e. obeys_give _ (leaf (λ d. is.jet t i e))))
      ▹ (λ t i. obeys_after (obeys_give _ (leaf (λ d. is.ref t (symbol_names t i)))))
      ▹ (λ t i. obeys_after (obeys_give _ (leaf (λ d. is.ref t (underscore_names t i)))))
      ▹ nullary_after tree.unit ▹ nullary_after tree.iden ▹ nullary_after tree.witness
      ▹ (λ t i. obeys_after (obeys_give _ (parens i)))
      ▹ (λ t i. obeys_after (obeys_give _ (assertl i)))
      ▹ (λ t i. obeys_after (obeys_give _ (assertr i)))
      ▹ unary_after tree.injl ▹ unary_after tree.injr ▹ unary_after tree.take ▹ unary_after tree.drop
      ▹ binary_after tree.disconnect ▹ binary_after tree.case ▹ binary_after tree.comp ▹ binary_after tree.pair
      ▹ all)

  module _ (d : ℕ) (E : Rule Expr) (h : Obeys E (λ e us. IsExpr checks d us e)) where
    pub cmr_obeys : Obeys (cmr checks E) (λ c us. IsCmr checks d us c)
    unfolding cmr
    cmr_obeys =
        obeys_choice (cmrs checks E) _
        ((λ t i. obeys_after (obeys_then h (λ e es k. obeys_one_of (token.rbrace ∷ []) (λ u j. obeys_after (obeys_give _ (is.inside t u i k j))))))
        ▹ (λ t i. obeys_after (obeys_give _ (is.literal t i)))
        ▹ all)

    expr_by_obeys : (b : Head) (us : List Token) → Begins b us → Obeys (expr_by checks E b) (λ e vs. IsExpr checks (suc d) (us ++ vs) e)
    unfolding expr_by
    expr_by_obeys b us (leaf {e} w) = obeys_give e (rw append-nil (w d))
    expr_by_obeys b us (parens {t} i) = obeys_then h (λ e es k. obeys_one_of (token.rparen ∷ []) (λ u j. obeys_after (obeys_give e (is.parens t u i k j))))
    expr_by_obeys b us (unary {k} {t} i) = obeys_map (tree.unary k t.start) h (λ e es j. is.unary k t i j)
    expr_by_obeys b us (binary {k} {t} i) = obeys_then h (λ l ls j. obeys_map (tree.binary k t.start l) h (λ r rs m. is.binary k t i j m))
    expr_by_obeys b us (assertl {t} i) = obeys_then h (λ e es j. obeys_map (tree.assertl t.start e) cmr_obeys (λ c cs m. is.assertl t i j m))
    expr_by_obeys b us (assertr {t} i) = obeys_then cmr_obeys (λ c cs j. obeys_map (tree.assertr t.start c) h (λ e es m. is.assertr t i j m))

  pub expr_obeys : (d : ℕ) → Obeys (expr checks d) (λ e us. IsExpr checks d us e)
  unfolding expr
  expr_obeys zero = obeys_refuse TooDeep
  expr_obeys (suc d) = obeys_then head_obeys (expr_by_obeys d (expr checks d) (expr_obeys d))

  -- ---- lines

  data ArrowIf : Option Arrow → List Token → Type 0 where
    absent : ArrowIf none []
    present : {a : Arrow} {t : Token} {us : List Token} → Is token.colon t → IsArrow checks us a → ArrowIf (some a) (t ∷ us)

  perhaps_arrow_obeys : Obeys (perhaps_arrow checks) ArrowIf
  unfolding perhaps_arrow
  perhaps_arrow_obeys = obeys_then (obeys_perhaps {P = λ o t. Is token.colon t} _ ((λ t i. i) ▹ all)) go
    where
      go : (o : Option (Unit {0})) (us : List Token) → Perhaps (λ o t. Is token.colon t) o us → Obeys (arrow_if checks o) (λ a vs. ArrowIf a (us ++ vs))
      go o us no = obeys_give none absent
      go o us (yes {t} i) = obeys_map some arrow_obeys (λ a vs h. present i h)

  pub line_obeys : Obeys (line checks) (λ l us. IsLine checks us l)
  unfolding line
  line_obeys =
      obeys_one_of names
      (λ x n. obeys_after
      (obeys_choice (line_tails checks x) _
      ((λ t i. obeys_after (obeys_then (expr_obeys depth_limit) (λ e es k. obeys_map (λ a. record { name = x; expression = some e; arrow = a }) perhaps_arrow_obeys (λ a vs j. tail x t n i k j))))
      ▹ (λ t i. obeys_after (obeys_map (λ a. record { name = x; expression = none; arrow = some a }) arrow_obeys (λ a vs k. is.declared x t n i k)))
      ▹ all)))
    where
      tail : (x t : Token) → OneOf names x → Is token.assign t → {e : Expr} {es : List Token} → IsExpr checks depth_limit es e → {a : Option Arrow} {vs : List Token} → ArrowIf a vs → IsLine checks (x ∷ t ∷ (es ++ vs)) (record { name = x; expression = some e; arrow = a })
      tail x t n i k absent = rw append-nil (is.plain x t n i k)
      tail x t n i k (present {t = u} j m) = is.typed x t u n i k j m

  -- a line more at the end
  file_snoc : {us ts : List Token} {ls : List Line} {l : Line} → IsFile checks us ls → IsLine checks ts l → IsFile checks (us ++ ts) (ls ++ (l ∷ []))
  file_snoc is.end k = rw append-nil at (is.more k is.end)
  file_snoc (is.more {ts} {us} j f) k = rw append_assoc (is.more j (file_snoc f k))

  another_obeys : (ls : List Line) → Obeys (another checks ls) (Stepped (λ ls us. IsFile checks us ls) ls)
  unfolding another go_on
  another_obeys ls [] = gets [] done (same_end _ _ refl)
  another_obeys ls (t ∷ ts) = obeying_front (λ u us. refl) (obeys_map (λ l. some (ls ++ (l ∷ []))) line_obeys longer (t ∷ ts))
    where
      longer : (l : Line) (us : List Token) → IsLine checks us l → Stepped (λ ls us. IsFile checks us ls) ls (some (ls ++ (l ∷ []))) us
      longer l us (is.plain x t n i k) = more (λ us f. file_snoc f (is.plain x t n i k))
      longer l us (is.typed x t u n i k j m) = more (λ us f. file_snoc f (is.typed x t u n i k j m))
      longer l us (is.declared x t n i k) = more (λ us f. file_snoc f (is.declared x t n i k))

  another_ends : (ls : List Line) → another checks ls [] ≡ got none []
  unfolding another
  another_ends ls = refl

  pub lines_steps : Steps (another checks)
  lines_steps = obeys_steps (λ ls us. IsFile checks us ls) (another checks) another_ends another_obeys

  pub lines_obeys : Obeys (lines checks) (λ ls us. IsFile checks us ls)
  unfolding lines
  lines_obeys = obeys_repeat (λ ls us. IsFile checks us ls) (another checks) another_ends another_obeys [] [] is.end

  -- lines end where no token is left
  pub lines_end : (ts rest : List Token) (ls : List Line) → lines checks ts ≡ got ls rest → rest ≡ []
  unfolding lines another go_on
  lines_end ts rest ls e = repeat_ends (another checks) lines_steps last ls rest [] ts e
    where
      with : (ls : List Line) (r : Parsed Line) (rest : List Token) → go_on r (λ l. give (some (ls ++ (l ∷ [])))) ≡ got none rest → rest ≡ []
      with ls (got l us) rest e = let z : ◌≡◌ {A = ℕ} 0 1 = cc in absurd (omega arith)
      with ls (stop x us) rest e = let z : ◌≡◌ {A = ℕ} 0 1 = cc in absurd (omega arith)

      last : (ls : List Line) (ts rest : List Token) → another checks ls ts ≡ got none rest → rest ≡ []
      last ls [] rest e = cc
      last ls (t ∷ ts) rest e = with ls (line checks (t ∷ ts)) rest e
