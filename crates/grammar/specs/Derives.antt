-- Document 01, Grammar, as rules of derivation: which tokens make a type, an expression, a CMR, a line, a file, and which tree
-- they make. `depth` is how much depth is left. proofs/: the grammar accepts just what is derived here.
use Rattle.std.specs.Prelude.{ℕ, suc, ◌≡◌, true, List, [], ◌∷◌, ◌++◌, Ok}
use Rattle.std.proofs.Math.Option.{none, some}
use Rattle.records.specs.Limits.{depth_limit}
use Rattle.records.specs.TokenKind as token
use Rattle.lex.specs.Tokens.{Token}
use Rattle.checks.specs.Checks.{Checks}
use Rattle.grammar.specs.Tree as tree
use Rattle.grammar.specs.Tree.{Nullary, nullary_token, Unary, unary_token, Binary, binary_token, Expr, Cmr, Op, op_token, Ty, Arrow, Line}
use Rattle.grammar.specs.Rule.{is_of}
use Rattle.grammar.specs.Grammar.{names, literals, power_of}

-- the token is of one of these kinds, of this kind
abbrev pub OneOf : List token.Kind → Token → Type 0
OneOf ks t = is_of t ks ≡ true

abbrev pub Is : token.Kind → Token → Type 0
Is k t = OneOf (k ∷ []) t

-- x, between two tokens
abbrev pub between : Token → List Token → Token → List Token
between t ts u = t ∷ (ts ++ (u ∷ []))

module _ (checks : Checks) where
  mutual
    -- type := atom | type (`+` | `*`) atom
    pub data IsType : (depth : ℕ) → List Token → Ty → Type 0 where
      atom : {d : ℕ} {ts : List Token} {x : Ty} → IsAtom d ts x → IsType (suc d) ts x
      op : {d : ℕ} {ls rs : List Token} {l r : Ty} (o : Op) (t : Token) → IsType (suc d) ls l → Is (op_token o) t → IsAtom d rs r → IsType (suc d) (ls ++ (t ∷ rs)) (tree.op o l r)

    -- atom := `1` | `2` | power | name | `_` | `(` type `)`
    pub data IsAtom : (depth : ℕ) → List Token → Ty → Type 0 where
      one : {d : ℕ} (t : Token) → Is token.one t → IsAtom d (t ∷ []) tree.one
      two : {d : ℕ} (t : Token) → Is token.two t → IsAtom d (t ∷ []) tree.two
      power : {d : ℕ} (t : Token) (n : ℕ) → Is token.power t → checks.power t.text ≡ Ok n → IsAtom d (t ∷ []) (power_of n)
      name : {d : ℕ} (t : Token) → Is token.symbol t → IsAtom d (t ∷ []) (tree.name t)
      absent : {d : ℕ} (t : Token) → Is token.underscore t → IsAtom d (t ∷ []) tree.absent
      group : {d : ℕ} {ts : List Token} {x : Ty} (t u : Token) → Is token.lparen t → IsType d ts x → Is token.rparen u → IsAtom d (between t ts u) x

  mutual
    pub data IsExpr : (depth : ℕ) → List Token → Expr → Type 0 where
      hole : {d : ℕ} (t x : Token) → Is token.question t → OneOf names x → IsExpr (suc d) (t ∷ x ∷ []) (tree.hole x)
      const : {d : ℕ} (t l : Token) → Is token.const t → OneOf literals l → checks.word l.kind l.text ≡ Ok tt → IsExpr (suc d) (t ∷ l ∷ []) (tree.const l)
      fail : {d : ℕ} (t l : Token) → Is token.fail t → OneOf literals l → checks.fail l.kind l.text ≡ Ok tt → IsExpr (suc d) (t ∷ l ∷ []) (tree.fail t.start l)
      jet : {d : ℕ} (t : Token) → Is token.jet t → checks.jet t.text ≡ Ok tt → IsExpr (suc d) (t ∷ []) (tree.jet t)
      ref : {d : ℕ} (x : Token) → OneOf names x → IsExpr (suc d) (x ∷ []) (tree.ref x)
      nullary : {d : ℕ} (k : Nullary) (t : Token) → Is (nullary_token k) t → IsExpr (suc d) (t ∷ []) (tree.nullary k t.start)
      parens : {d : ℕ} {ts : List Token} {e : Expr} (t u : Token) → Is token.lparen t → IsExpr d ts e → Is token.rparen u → IsExpr (suc d) (between t ts u) e
      unary : {d : ℕ} {ts : List Token} {e : Expr} (k : Unary) (t : Token) → Is (unary_token k) t → IsExpr d ts e → IsExpr (suc d) (t ∷ ts) (tree.unary k t.start e)
      binary : {d : ℕ} {ls rs : List Token} {l r : Expr} (k : Binary) (t : Token) → Is (binary_token k) t → IsExpr d ls l → IsExpr d rs r → IsExpr (suc d) (t ∷ (ls ++ rs)) (tree.binary k t.start l r)
      assertl : {d : ℕ} {es cs : List Token} {e : Expr} {c : Cmr} (t : Token) → Is token.assertl t → IsExpr d es e → IsCmr d cs c → IsExpr (suc d) (t ∷ (es ++ cs)) (tree.assertl t.start e c)
      assertr : {d : ℕ} {cs es : List Token} {c : Cmr} {e : Expr} (t : Token) → Is token.assertr t → IsCmr d cs c → IsExpr d es e → IsExpr (suc d) (t ∷ (cs ++ es)) (tree.assertr t.start c e)

    -- cmr := `#{` expression `}` | literal; the depth is that of the expression
    pub data IsCmr : (depth : ℕ) → List Token → Cmr → Type 0 where
      inside : {d : ℕ} {ts : List Token} {e : Expr} (t u : Token) → Is token.hash_brace t → IsExpr d ts e → Is token.rbrace u → IsCmr d (between t ts u) (tree.inside e)
      literal : {d : ℕ} (t : Token) → Is token.cmr t → IsCmr d (t ∷ []) (tree.literal t)

  -- arrow := type `->` type
  pub data IsArrow : List Token → Arrow → Type 0 where
    arrow : {xs ys : List Token} {a b : Ty} (t : Token) → IsType depth_limit xs a → Is token.arrow t → IsType depth_limit ys b → IsArrow (xs ++ (t ∷ ys)) (record { source = a; target = b })

  -- line := name `:=` expression [`:` arrow] | name `:` arrow
  pub data IsLine : List Token → Line → Type 0 where
    plain : {es : List Token} {e : Expr} (x t : Token) → OneOf names x → Is token.assign t → IsExpr depth_limit es e → IsLine (x ∷ t ∷ es) (record { name = x; expression = some e; arrow = none })
    typed : {es xs : List Token} {e : Expr} {a : Arrow} (x t u : Token) → OneOf names x → Is token.assign t → IsExpr depth_limit es e → Is token.colon u → IsArrow xs a → IsLine (x ∷ t ∷ (es ++ (u ∷ xs))) (record { name = x; expression = some e; arrow = some a })
    declared : {xs : List Token} {a : Arrow} (x t : Token) → OneOf names x → Is token.colon t → IsArrow xs a → IsLine (x ∷ t ∷ xs) (record { name = x; expression = none; arrow = some a })

  -- a file is lines
  pub data IsFile : List Token → List Line → Type 0 where
    end : IsFile [] []
    more : {ts us : List Token} {l : Line} {ls : List Line} → IsLine ts l → IsFile us ls → IsFile (ts ++ us) (l ∷ ls)
