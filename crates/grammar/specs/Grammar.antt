-- Document 01, Grammar: types, expressions and CMRs, lines. A `do` block reads from the left, as the page says the rule.
use Rattle.std.specs.Prelude.{ℕ, zero, suc, List, [], ◌∷◌, ◌++◌, map, Err, Ok, Result}
use Rattle.std.proofs.Math.Option.{Option, none, some}
use Rattle.records.specs.Limits.{depth_limit}
use Rattle.records.specs.TokenKind as token
use Rattle.lex.specs.Tokens.{Token}
use Rattle.checks.specs.declared.Fault.TheVariants.{TooDeep}
use Rattle.checks.specs.Checks.{Checks}
use Rattle.grammar.specs.Tree as tree
use Rattle.grammar.specs.Tree.{Nullary, nullary_token, Unary, unary_token, Binary, binary_token, Expr, Cmr, Op, op_token, Ty, Arrow, Line}
use Rattle.grammar.specs.Rule.{got, Rule, go_on, ◌>>=◌, ◌>>◌, give, refuse, refuse_at, one_of, expect, Table, choice, perhaps, repeat}
use Rattle.checks.specs.declared.Fault.{Fault}

-- a name is a symbol or `_`
abbrev pub names : List token.Kind
names = token.symbol ∷ token.underscore ∷ []

-- a literal is `_`, binary or hex
abbrev pub literals : List token.Kind
literals = token.underscore ∷ token.bin ∷ token.hex ∷ []

-- what a test says of the token t, which was taken last
abbrev pub passed : Token → Result (Unit {0}) Fault → Rule (Unit {0})
passed t (Ok _) = give tt
passed t (Err x) = refuse_at t x

-- ---- types, by a token's kind alone

-- what begins an atom of a type: a whole one, or a parenthesis
pub data TypeHead : Type 0 where
  whole : Ty → TypeHead
  group : TypeHead

-- 2^e with e = 2^n: 1 means the type 2
abbrev pub power_of : (n : ℕ) → Ty
power_of zero = tree.two
power_of (suc n) = tree.power (suc n)

abbrev pub power : Token → Result ℕ Fault → Rule TypeHead
power t (Ok n) = give (whole (power_of n))
power t (Err x) = refuse_at t x

-- `+` and `*`, in one table since they have one rank
abbrev pub operators : Table Op
operators = map (λ (o : Op). (op_token o, o)) (tree.sum ∷ tree.product ∷ [])

abbrev pub with_right : Rule Ty → (l : Ty) → Option Op → Rule (Option Ty)
with_right A l none = give none
with_right A l (some o) = do
  r ← A
  give (some (tree.op o l r))

-- behind the type l: an operator of the table and its right operand, which is A; or nothing more
unfoldable pub operand : Table Op → Rule Ty → (l : Ty) → Rule (Option Ty)
operand table A l = do
  o ← perhaps table
  with_right A l o

-- chain := A { operator A }, grouped to the left
unfoldable pub chain : Table Op → Rule Ty → Rule Ty
chain table A = do
  l ← A
  repeat (operand table A) l

-- ---- expressions, by a token's kind alone

-- what begins an expression: a whole one, or a parenthesis or a keyword whose parts follow
pub data Head : Type 0 where
  leaf : Expr → Head
  parens : Head
  unary : Unary → (at : ℕ) → Head
  binary : Binary → (at : ℕ) → Head
  assertl assertr : (at : ℕ) → Head

module _ (checks : Checks) where
  -- ---- types

  abbrev pub type_heads : Table (Token → Rule TypeHead)
  type_heads =
      (token.lparen, λ t. give group)
      ∷ (token.underscore, λ t. give (whole tree.absent))
      ∷ (token.symbol, λ t. give (whole (tree.name t)))
      ∷ (token.power, λ t. power t (checks.power t.text))
      ∷ (token.one, λ t. give (whole tree.one))
      ∷ (token.two, λ t. give (whole tree.two))
      ∷ []

  unfoldable pub type_head : Rule TypeHead
  type_head = do
    (rule, t) ← choice type_heads
    rule t

  -- atom := `1` | `2` | power | name | `_` | `(` type `)`; T is a type one deeper
  unfoldable pub atom_by : Rule Ty → TypeHead → Rule Ty
  atom_by T (whole x) = give x
  atom_by T group = do
    x ← T
    expect token.rparen
    give x

  unfoldable pub atom : Rule Ty → Rule Ty
  atom T = do
    h ← type_head
    atom_by T h

  -- type := atom { (`+` | `*`) atom }. A line's type is 1 deep; so much depth is left. Depth 129 is refused before its token
  -- is looked at.
  unfoldable pub type : (depth : ℕ) → Rule Ty
  type zero = refuse TooDeep
  type (suc d) = chain operators (atom (type d))

  -- arrow := type `->` type
  unfoldable pub arrow : Rule Arrow
  arrow = do
    a ← type depth_limit
    expect token.arrow
    b ← type depth_limit
    give (record { source = a; target = b })

  -- ---- expressions

  -- behind `?`, const and fail; a jet
  abbrev pub hole : Rule Head
  hole = do
    x ← one_of names
    give (leaf (tree.hole x))

  abbrev pub word : Rule Head
  word = do
    l ← one_of literals
    passed l (checks.word l.kind l.text)
    give (leaf (tree.const l))

  abbrev pub failing : (at : ℕ) → Rule Head
  failing at = do
    l ← one_of literals
    passed l (checks.fail l.kind l.text)
    give (leaf (tree.fail at l))

  abbrev pub jet : Token → Rule Head
  jet t = do
    passed t (checks.jet t.text)
    give (leaf (tree.jet t))

  abbrev pub leaf_heads : Table (Token → Rule Head)
  leaf_heads =
      (token.question, λ t. hole)
      ∷ (token.const, λ t. word)
      ∷ (token.fail, λ t. failing t.start)
      ∷ (token.jet, λ t. jet t)
      ∷ (token.symbol, λ t. give (leaf (tree.ref t)))
      ∷ (token.underscore, λ t. give (leaf (tree.ref t)))
      ∷ map (λ (k : Nullary). (nullary_token k, λ t. give (leaf (tree.nullary k t.start)))) (tree.unit ∷ tree.iden ∷ tree.witness ∷ [])

  abbrev pub inner_heads : Table (Token → Rule Head)
  inner_heads =
      (token.lparen, λ t. give parens)
      ∷ (token.assertl, λ t. give (assertl t.start))
      ∷ (token.assertr, λ t. give (assertr t.start))
      ∷ map (λ (k : Unary). (unary_token k, λ t. give (unary k t.start))) (tree.injl ∷ tree.injr ∷ tree.take ∷ tree.drop ∷ [])
      ++ map (λ (k : Binary). (binary_token k, λ t. give (binary k t.start))) (tree.disconnect ∷ tree.case ∷ tree.comp ∷ tree.pair ∷ [])

  unfoldable pub head : Rule Head
  head = do
    (rule, t) ← choice (leaf_heads ++ inner_heads)
    rule t

  abbrev pub braced : Rule Expr → Rule Cmr
  braced E = do
    e ← E
    expect token.rbrace
    give (tree.inside e)

  -- cmr := `#{` expression `}` | literal; E is an expression one deeper than the assertion
  abbrev pub cmrs : Rule Expr → Table (Token → Rule Cmr)
  cmrs E = (token.hash_brace, λ t. braced E) ∷ (token.cmr, λ t. give (tree.literal t)) ∷ []

  unfoldable pub cmr : Rule Expr → Rule Cmr
  cmr E = do
    (rule, t) ← choice (cmrs E)
    rule t

  -- expression := `?` name | const literal | fail literal | jet | name | unit | iden | witness | `(` expression `)`
  --   | (injl | injr | take | drop) expression | (case | comp | pair | disconnect) expression expression
  --   | assertl expression cmr | assertr cmr expression
  -- by its head; E is an expression one deeper
  unfoldable pub expr_by : Rule Expr → Head → Rule Expr
  expr_by E (leaf e) = give e
  expr_by E parens = do
    e ← E
    expect token.rparen
    give e
  expr_by E (unary k at) = do
    e ← E
    give (tree.unary k at e)
  expr_by E (binary k at) = do
    l ← E
    r ← E
    give (tree.binary k at l r)
  expr_by E (assertl at) = do
    e ← E
    c ← cmr E
    give (tree.assertl at e c)
  expr_by E (assertr at) = do
    c ← cmr E
    e ← E
    give (tree.assertr at c e)

  -- A line's expression is 1 deep; so much depth is left. Depth 129 is refused before its token is looked at.
  unfoldable pub expr : (depth : ℕ) → Rule Expr
  expr zero = refuse TooDeep
  expr (suc d) = do
    h ← head
    expr_by (expr d) h

  -- ---- lines

  abbrev pub arrow_if : Option (Unit {0}) → Rule (Option Arrow)
  arrow_if none = give none
  arrow_if (some u) = do
    a ← arrow
    give (some a)

  -- perhaps `:` and an arrow
  unfoldable pub perhaps_arrow : Rule (Option Arrow)
  perhaps_arrow = do
    c ← perhaps ((token.colon, tt) ∷ [])
    arrow_if c

  abbrev pub defined : (name : Token) → Rule Line
  defined x = do
    e ← expr depth_limit
    a ← perhaps_arrow
    give (record { name = x; expression = some e; arrow = a })

  abbrev pub declared : (name : Token) → Rule Line
  declared x = do
    a ← arrow
    give (record { name = x; expression = none; arrow = some a })

  -- behind a name: `:=`, an expression and perhaps `:` and an arrow; or `:` and an arrow
  abbrev pub line_tails : (name : Token) → Table (Rule Line)
  line_tails x = (token.assign, defined x) ∷ (token.colon, declared x) ∷ []

  -- line := name `:=` expression [`:` arrow] | name `:` arrow
  unfoldable pub line : Rule Line
  line = do
    x ← one_of names
    (rule, t) ← choice (line_tails x)
    rule

  -- a line more behind the lines ls, if a token is left
  unfoldable pub another : (ls : List Line) → Rule (Option (List Line))
  another ls [] = got none []
  another ls (t ∷ ts) = go_on (line (t ∷ ts)) (λ l. give (some (ls ++ (l ∷ []))))

  -- the lines of a source, from its tokens
  unfoldable pub lines : Rule (List Line)
  lines = repeat another []
