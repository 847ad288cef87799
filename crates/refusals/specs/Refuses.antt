-- Document 01, Refusals 6 to 13, as rules of refusal beside the rules of derivation (crate grammar, specs/Derives.antt).
-- `NoExpr depth front left x`: where an expression is read from the tokens `front ++ left`, all of `front` is accepted, and the
-- first token of `left`, or the end of source if none is left, is refused with the fault x. So with types, CMRs, lines, files.
-- Each rule says: what stands before is derived, and the next thing is not to be had. proofs/: the grammar refuses just so.
use Rattle.std.specs.Prelude.{ℕ, zero, suc, ◌≡◌, false, List, [], ◌∷◌, ◌++◌, Err}
use Rattle.std.proofs.Math.Option.{Option, none, some}
use Rattle.records.specs.Limits.{depth_limit}
use Rattle.records.specs.TokenKind as token
use Rattle.lex.specs.Tokens.{Token}
use Rattle.checks.specs.declared.Fault.{Fault}
use Rattle.checks.specs.declared.Fault.TheVariants.{ParseFailed, TooDeep}
use Rattle.checks.specs.Checks.{Checks}
use Rattle.grammar.specs.Tree.{Unary, unary_token, Binary, binary_token, Expr, Cmr, Op, op_token, Ty, Arrow, Line}
use Rattle.grammar.specs.Rule.{is_of}
use Rattle.grammar.specs.Grammar.{names, literals}
use Rattle.grammar.specs.Derives.{OneOf, Is, IsType, IsExpr, IsCmr, IsLine}

-- no token of these kinds comes next: another one does, or the source ends
pub data NotNext (ks : List token.Kind) : (left : List Token) → Type 0 where
  end : NotNext ks []
  other : {t : Token} {ts : List Token} → is_of t ks ≡ false → NotNext ks (t ∷ ts)

-- what begins an atom of a type, an expression, a CMR
abbrev pub begin_atom : List token.Kind
begin_atom = token.lparen ∷ token.underscore ∷ token.symbol ∷ token.power ∷ token.one ∷ token.two ∷ []

abbrev pub begin_expr : List token.Kind
begin_expr =
    token.question ∷ token.const ∷ token.fail ∷ token.jet ∷ token.symbol ∷ token.underscore ∷
    token.unit ∷ token.iden ∷ token.witness ∷ token.lparen ∷ token.assertl ∷ token.assertr ∷
    token.injl ∷ token.injr ∷ token.take ∷ token.drop ∷ token.disconnect ∷ token.case ∷ token.comp ∷ token.pair ∷ []

abbrev pub begin_cmr : List token.Kind
begin_cmr = token.hash_brace ∷ token.cmr ∷ []

-- what goes on with a type; with a line, which has an arrow or has none. A type, and a line, is as long as it can be.
abbrev pub goes_on_type : List token.Kind
goes_on_type = token.plus ∷ token.star ∷ []

abbrev pub goes_on_line : Option Arrow → List token.Kind
goes_on_line none = token.colon ∷ []
goes_on_line (some a) = goes_on_type

module _ (checks : Checks) where
  mutual
    -- depth 129 begins, before its token is looked at; or the first atom is refused, or the one behind an operator
    pub data NoType : (depth : ℕ) → (front left : List Token) → Fault → Type 0 where
      deep_type : {left : List Token} → NoType zero [] left TooDeep
      atom : {d : ℕ} {front left : List Token} {x : Fault} → NoAtom d front left x → NoType (suc d) front left x
      operand : {d : ℕ} {ls front left : List Token} {l : Ty} {x : Fault} (o : Op) (t : Token) → IsType checks (suc d) ls l → Is (op_token o) t → NoAtom d front left x → NoType (suc d) (ls ++ (t ∷ front)) left x

    -- nothing that begins an atom; a bad power; inside `( )`; no `)`
    pub data NoAtom : (depth : ℕ) → (front left : List Token) → Fault → Type 0 where
      not_atom : {d : ℕ} {left : List Token} → NotNext begin_atom left → NoAtom d [] left ParseFailed
      power : {d : ℕ} {left : List Token} {x : Fault} (t : Token) → Is token.power t → checks.power t.text ≡ Err x → NoAtom d [] (t ∷ left) x
      group : {d : ℕ} {front left : List Token} {x : Fault} (t : Token) → Is token.lparen t → NoType d front left x → NoAtom d (t ∷ front) left x
      open_group : {d : ℕ} {ts left : List Token} {y : Ty} (t : Token) → Is token.lparen t → IsType checks d ts y → NotNext (token.rparen ∷ goes_on_type) left → NoAtom d (t ∷ ts) left ParseFailed

  mutual
    pub data NoExpr : (depth : ℕ) → (front left : List Token) → Fault → Type 0 where
      -- depth 129 begins, before its token is looked at; nothing that begins an expression
      deep_expr : {left : List Token} → NoExpr zero [] left TooDeep
      not_expr : {d : ℕ} {left : List Token} → NotNext begin_expr left → NoExpr (suc d) [] left ParseFailed
      -- no name behind the question mark; no literal behind `const` and `fail`, or one with a bad length; a jet not known
      hole : {d : ℕ} {left : List Token} (t : Token) → Is token.question t → NotNext names left → NoExpr (suc d) (t ∷ []) left ParseFailed
      const : {d : ℕ} {left : List Token} (t : Token) → Is token.const t → NotNext literals left → NoExpr (suc d) (t ∷ []) left ParseFailed
      word : {d : ℕ} {left : List Token} {x : Fault} (t l : Token) → Is token.const t → OneOf literals l → checks.word l.kind l.text ≡ Err x → NoExpr (suc d) (t ∷ []) (l ∷ left) x
      fail : {d : ℕ} {left : List Token} (t : Token) → Is token.fail t → NotNext literals left → NoExpr (suc d) (t ∷ []) left ParseFailed
      entropy : {d : ℕ} {left : List Token} {x : Fault} (t l : Token) → Is token.fail t → OneOf literals l → checks.fail l.kind l.text ≡ Err x → NoExpr (suc d) (t ∷ []) (l ∷ left) x
      jet : {d : ℕ} {left : List Token} {x : Fault} (t : Token) → Is token.jet t → checks.jet t.text ≡ Err x → NoExpr (suc d) [] (t ∷ left) x
      -- inside `( )`; no `)`
      parens : {d : ℕ} {front left : List Token} {x : Fault} (t : Token) → Is token.lparen t → NoExpr d front left x → NoExpr (suc d) (t ∷ front) left x
      open_parens : {d : ℕ} {es left : List Token} {e : Expr} (t : Token) → Is token.lparen t → IsExpr checks d es e → NotNext (token.rparen ∷ []) left → NoExpr (suc d) (t ∷ es) left ParseFailed
      -- in the only part, the first part, the second part
      unary : {d : ℕ} {front left : List Token} {x : Fault} (k : Unary) (t : Token) → Is (unary_token k) t → NoExpr d front left x → NoExpr (suc d) (t ∷ front) left x
      binaryl : {d : ℕ} {front left : List Token} {x : Fault} (k : Binary) (t : Token) → Is (binary_token k) t → NoExpr d front left x → NoExpr (suc d) (t ∷ front) left x
      binaryr : {d : ℕ} {ls front left : List Token} {l : Expr} {x : Fault} (k : Binary) (t : Token) → Is (binary_token k) t → IsExpr checks d ls l → NoExpr d front left x → NoExpr (suc d) (t ∷ (ls ++ front)) left x
      assertl : {d : ℕ} {front left : List Token} {x : Fault} (t : Token) → Is token.assertl t → NoExpr d front left x → NoExpr (suc d) (t ∷ front) left x
      assertl_cmr : {d : ℕ} {es front left : List Token} {e : Expr} {x : Fault} (t : Token) → Is token.assertl t → IsExpr checks d es e → NoCmr d front left x → NoExpr (suc d) (t ∷ (es ++ front)) left x
      assertr_cmr : {d : ℕ} {front left : List Token} {x : Fault} (t : Token) → Is token.assertr t → NoCmr d front left x → NoExpr (suc d) (t ∷ front) left x
      assertr : {d : ℕ} {cs front left : List Token} {c : Cmr} {x : Fault} (t : Token) → Is token.assertr t → IsCmr checks d cs c → NoExpr d front left x → NoExpr (suc d) (t ∷ (cs ++ front)) left x

    -- neither `#{` nor a literal; inside `#{ }`; no `}`. The depth is that of the expression.
    pub data NoCmr : (depth : ℕ) → (front left : List Token) → Fault → Type 0 where
      not_cmr : {d : ℕ} {left : List Token} → NotNext begin_cmr left → NoCmr d [] left ParseFailed
      inside : {d : ℕ} {front left : List Token} {x : Fault} (t : Token) → Is token.hash_brace t → NoExpr d front left x → NoCmr d (t ∷ front) left x
      open_brace : {d : ℕ} {es left : List Token} {e : Expr} (t : Token) → Is token.hash_brace t → IsExpr checks d es e → NotNext (token.rbrace ∷ []) left → NoCmr d (t ∷ es) left ParseFailed

  -- in the first type; no `->` behind it; in the second type
  pub data NoArrow : (front left : List Token) → Fault → Type 0 where
    source : {front left : List Token} {x : Fault} → NoType depth_limit front left x → NoArrow front left x
    between : {ts left : List Token} {a : Ty} → IsType checks depth_limit ts a → NotNext (token.arrow ∷ goes_on_type) left → NoArrow ts left ParseFailed
    target : {ts front left : List Token} {a : Ty} {x : Fault} (t : Token) → IsType checks depth_limit ts a → Is token.arrow t → NoType depth_limit front left x → NoArrow (ts ++ (t ∷ front)) left x

  -- no name (a line begins only where a token is left); neither `:=` nor `:` behind it; in the expression; in the arrow behind
  -- that; in the arrow behind the name
  pub data NoLine : (front left : List Token) → Fault → Type 0 where
    name : {left : List Token} (t : Token) → is_of t names ≡ false → NoLine [] (t ∷ left) ParseFailed
    tail : {left : List Token} (x : Token) → OneOf names x → NotNext (token.assign ∷ token.colon ∷ []) left → NoLine (x ∷ []) left ParseFailed
    expression : {front left : List Token} {y : Fault} (x t : Token) → OneOf names x → Is token.assign t → NoExpr depth_limit front left y → NoLine (x ∷ t ∷ front) left y
    typed : {es front left : List Token} {e : Expr} {y : Fault} (x t u : Token) → OneOf names x → Is token.assign t → IsExpr checks depth_limit es e → Is token.colon u → NoArrow front left y → NoLine (x ∷ t ∷ (es ++ (u ∷ front))) left y
    declared : {front left : List Token} {y : Fault} (x t : Token) → OneOf names x → Is token.colon t → NoArrow front left y → NoLine (x ∷ t ∷ front) left y

  -- in the first line; or in a later one, behind a whole line
  pub data NoFile : (front left : List Token) → Fault → Type 0 where
    here : {front left : List Token} {x : Fault} → NoLine front left x → NoFile front left x
    later : {ts front left : List Token} {l : Line} {x : Fault} → IsLine checks ts l → NotNext (goes_on_line l.arrow) (front ++ left) → NoFile front left x → NoFile (ts ++ front) left x

-- some front of the tokens ts is accepted, and then comes the fault x at the first of those left
pub record RefusedAt (No : (front left : List Token) → Fault → Type 0) (ts left : List Token) (x : Fault) : Type 0 where
  pub front : List Token
  pub split : ts ≡ front ++ left
  pub rule : No front left x
