-- Expressions by their heads, and CMRs by theirs, as the code reads them at a cursor. Assumes nothing.
use Prim.Native.Nat.{ℕ, zero, suc, ◌+◌, ◌-◌, ◌<◌}
use mathlib.Core.Bool.{Bool, true, false}
use mathlib.Core.Path.{◌≡◌, refl, sym, ap, subst, ◌∙◌}
use mathlib.Core.List.{List, [], ◌∷◌}
use native.Mathlib.Omega.{arith}
use lib.Dec.{eqb}
use lib.ListN.{length, length-append}
use Rattle.records.specs.TokenKind as token
use Rattle.records.specs.declared.Span.{Span}
use Rattle.records.specs.declared.kinds.NodeKind.{NodeKind}
use Rattle.records.specs.declared.numbers.ByteOffset.{ByteOffset}
use Rattle.records.specs.declared.numbers.ExprNo.{ExprNo}
use Rattle.tables.specs.Tables.{filled}
use Rattle.lex.specs.Tokens.{Token}
use Rattle.checks.specs.declared.Fault.{Fault}
use Rattle.checks.specs.declared.Fault.TheVariants.{ParseFailed, TooDeep}
use Rattle.checks.specs.Checks.{Checks, checks_of}
use Rattle.cursor.specs.declared.Cursor.{Cursor}
use Rattle.cursor.specs.declared.ParseRefusal.{ParseRefusal}
use Rattle.cursor.specs.Tokens.{tokens_left}
use Rattle.cursor.specs.Cursor.{refusal_at, stepped, Ready, Reached, Answer}
use Rattle.cursor.proofs.Laws.{left_length}
use Rattle.cursor.proofs.Reached.{reached_ready, reached_first}
use Rattle.grammar.specs.Tree as tree
use Rattle.grammar.specs.Tree.{Expr}
use Rattle.grammar.specs.Rule.{Parsed, got, stop, Rule, go_on, entry, choice}
use Rattle.grammar.specs.Grammar.{Head, leaf, parens, unary, binary, assertl, assertr, head, braced, cmr, expr_by, expr}
use Rattle.grammar.specs.Part.{part_of, weight, span_of}
use Rattle.grammar.specs.Recorded.{expr_records}
use Rattle.grammar.proofs.Takes.{head_takes}
use Rattle.heads.specs.declared.Cmr.{Cmr}
use Rattle.heads.specs.declared.Cmr.TheVariants.{Literal}
use Rattle.heads.specs.declared.ExprInner.{ExprInner}
use Rattle.heads.specs.declared.TwoParts.{TwoParts}
use Rattle.heads.specs.declared.TwoParts.TheVariants.{Binary as BinaryParts, AssertL as LeftParts, AssertR as RightParts}
use Rattle.heads.specs.Answers.{HeadReads}
use Rattle.records.proofs.Pairs.{ok_parts}
use Rattle.exprs.specs.Answers.{ExprReads, CmrReads, cmr_head_by, closed_expr, closed_cmr, unary_by, binary_by, assert_lby, assert_rby, completed, completed_table, TwoReads}
use Rattle.exprs.proofs.Trees.{expr_read, expr_stopped, cmr_read, cmr_stopped, reads_after, leaf_reads, unary_reads, binary_reads, left_reads, right_reads, parens_reads, braces_reads}
use Rattle.exprs.specs.declared.CmrHead.{CmrHead}
use Rattle.exprs.specs.declared.CmrHead.TheVariants.{Brace, Literal as LiteralHead}
use Rattle.heads.specs.declared.ExprHead.{ExprHead}
use Rattle.heads.specs.declared.ExprHead.TheVariants.{Parens, Two as TwoHead, Unary as UnaryHead, Whole}
use Rattle.std.specs.Prelude.{Err, Ok}

-- one depth less for the parts
deeper : (checks : Checks) (depth : ℕ) → ¬ (depth ≡ 0) → (ts : List Token) → expr checks depth ts ≡ go_on (head checks ts) (λ h. expr_by checks (expr checks (depth - 1)) h)
unfolding expr
deeper checks zero deep ts = absurd (deep refl)
deeper checks (suc d) deep ts = let z : suc d - 1 ≡ d = omega arith in rw z

-- what is recorded, by what it is recorded from
answer_as : {a : Answer ExprNo} {p q : Answer ExprInner} → p ≡ q → a ≡ completed p → a ≡ completed q
answer_as e f = f ∙ ap completed e

table_as : (at : ByteOffset) (old : List ℕ) {new : List ℕ} {p q : Answer ExprInner} → p ≡ q → new ≡ completed_table at p old → new ≡ completed_table at q old
table_as at old e f = f ∙ ap (λ (x : Answer ExprInner). completed_table at x old) e

module _ (s jets t : List ℕ) (n : ℕ) (c : Cursor) where
  abbrev checks : Checks
  checks = checks_of jets

  abbrev ts : List Token
  ts = tokens_left s t n c.token.0

  -- ---- too deep

  pub expr_deep : (depth : ℕ) (x : ParseRefusal) (old : List ℕ) → depth ≡ 0 → x ≡ refusal_at (length s) TooDeep ts → ExprReads s t n c (expr checks depth ts) (Err x) old old
  unfolding ExprReads expr
  expr_deep depth x old e f = subst (λ (d : ℕ). ExprReads s t n c (expr checks d ts) (Err x) old old) (sym e) (ap Err f, refl)

  -- ---- what begins behind what was read

  module _ {b d : Cursor} {rest : List Token} {e k : ℕ} (ready : Ready n b) (to : Reached s t n b d rest e k) (old new : List ℕ) where
    next_expr : (E : Rule Expr) (p : Answer ExprNo) → (Ready n d → ExprReads s t n d (E (tokens_left s t n d.token.0)) p old new) → ExprReads s t n d (E rest) p old new
    next_expr E p h = subst (λ (us : List Token). ExprReads s t n d (E us) p old new) to.left (h (reached_ready s t n ready to))

    next_cmr : (F : Rule tree.Cmr) (p : Answer Cmr) → (Ready n d → CmrReads s t n d (F (tokens_left s t n d.token.0)) p old new) → CmrReads s t n d (F rest) p old new
    next_cmr F p h = subst (λ (us : List Token). CmrReads s t n d (F us) p old new) to.left (h (reached_ready s t n ready to))

  -- a head takes a token
  passes_token : (h : Head) (d : Cursor) (rest : List Token) → Ready n c → head checks ts ≡ got h rest → Reached s t n c d rest 0 0 → c.token.0 < d.token.0
  passes_token h d rest ready e to =
      let took = head_takes checks ts rest h e in
      let whole : n - c.token.0 ≡ length took.used + length rest = sym (left_length s t n c.token.0) ∙ ap length took.split ∙ length-append took.used rest in
      let more : length rest ≡ n - d.token.0 = ap length (sym to.left) ∙ left_length s t n d.token.0 in
      omega (arith, whole, more, took.some, ready.inside, to.inside)

  -- ---- expressions by their heads; their parts have so much depth

  module _ (depth : ℕ) where
    abbrev E : Rule Expr
    E = expr checks depth

    abbrev begun : Parsed Expr
    begun = go_on (head checks ts) (expr_by checks E)

    along : (h : Head) (rest : List Token) (r : Answer ExprNo) (old new : List ℕ) → head checks ts ≡ got h rest → ExprReads s t n c (expr_by checks E h rest) r old new → ExprReads s t n c begun r old new
    unfolding go_on
    along h rest r old new e x = subst (λ (P : Parsed Expr). ExprReads s t n c P r old new) (sym (ap (λ (Q : Parsed Head). go_on Q (expr_by checks E)) e)) x

    module _ (h : TwoParts) (at : ByteOffset) (d : Cursor) where
      abbrev There : TwoParts → Type 0
      There q = HeadReads s t n c (head checks ts) (Ok (TwoHead q at, d))

      pub expr_binary : (k : NodeKind) (p : Answer ExprNo) (l : ExprNo) (f : Cursor) (p2 : Answer ExprNo) (g : Answer ExprInner) (old mid end : List ℕ) → h ≡ BinaryParts k → (Ready n d → ExprReads s t n d (E (tokens_left s t n d.token.0)) p old mid) → p ≡ Ok (l, f)
          → (Ready n f → ExprReads s t n f (E (tokens_left s t n f.token.0)) p2 mid end) → g ≡ binary_by k l p2 → Ready n c → There h → ExprReads s t n c begun (completed g) old (completed_table at g end)
      unfolding HeadReads expr_by go_on
      expr_binary k p l f p2 g old mid end e i j m is ready w =
          let x = subst There e w in
          let y = expr_read s t n d old mid (E x.1) (next_expr ready x.4 old mid E p i) j in
          let z = next_expr (reached_ready s t n ready x.4) y.4.to mid end E p2 m in
          let same = is ∙ ap (λ (q : ExprNo). binary_by k q p2) y.3 in
          along (binary x.0 at.0) x.1 (completed g) old (completed_table at g end) x.2
          (subst (λ (P : Parsed Expr). ExprReads s t n c (go_on P (λ l ts. go_on (E ts) (λ r. got (tree.binary x.0 at.0 l r)))) (completed g) old (completed_table at g end)) (sym y.2)
          (binary_reads s t n c ready x.4 (passes_token (binary x.0 at.0) d x.1 ready x.2 x.4) at f y.1 old mid x.0 k y.0 (E y.1) p2 (completed g) end (completed_table at g end) x.3 y.4 z (ap completed same) (ap (λ (q : Answer ExprInner). completed_table at q end) same)))

      pub binary_refused : (k : NodeKind) (p : Answer ExprNo) (x : ParseRefusal) (old mid : List ℕ) → h ≡ BinaryParts k → (Ready n d → ExprReads s t n d (E (tokens_left s t n d.token.0)) p old mid) → p ≡ Err x → Ready n c → There h → ExprReads s t n c begun (Err x) old mid
      unfolding HeadReads ExprReads expr_by go_on
      binary_refused k p v old mid e i j ready w =
          let x = subst There e w in
          let y = expr_stopped s t n d old mid (E x.1) (next_expr ready x.4 old mid E p i) j in
          along (binary x.0 at.0) x.1 (Err v) old mid x.2
          (subst (λ (P : Parsed Expr). ExprReads s t n c (go_on P (λ l ts. go_on (E ts) (λ r. got (tree.binary x.0 at.0 l r)))) (Err v) old mid) (sym y.is) (ap Err y.at, y.stays))

      pub expr_left : (p : Answer ExprNo) (l : ExprNo) (f : Cursor) (p2 : Answer Cmr) (g : Answer ExprInner) (old mid end : List ℕ) → h ≡ LeftParts → (Ready n d → ExprReads s t n d (E (tokens_left s t n d.token.0)) p old mid) → p ≡ Ok (l, f)
          → (Ready n f → CmrReads s t n f (cmr checks E (tokens_left s t n f.token.0)) p2 mid end) → g ≡ assert_lby l p2 → Ready n c → There h → ExprReads s t n c begun (completed g) old (completed_table at g end)
      unfolding HeadReads expr_by go_on
      expr_left p l f p2 g old mid end e i j m is ready w =
          let x = subst There e w in
          let y = expr_read s t n d old mid (E x.0) (next_expr ready x.2 old mid E p i) j in
          let z = next_cmr (reached_ready s t n ready x.2) y.4.to mid end (cmr checks E) p2 m in
          let same = is ∙ ap (λ (q : ExprNo). assert_lby q p2) y.3 in
          along (assertl at.0) x.0 (completed g) old (completed_table at g end) x.1
          (subst (λ (P : Parsed Expr). ExprReads s t n c (go_on P (λ e ts. go_on (cmr checks E ts) (λ k. got (tree.assertl at.0 e k)))) (completed g) old (completed_table at g end)) (sym y.2)
          (left_reads s t n c ready x.2 (passes_token (assertl at.0) d x.0 ready x.1 x.2) at f y.1 old mid y.0 (cmr checks E y.1) p2 (completed g) end (completed_table at g end) y.4 z (ap completed same) (ap (λ (q : Answer ExprInner). completed_table at q end) same)))

      pub left_refused : (p : Answer ExprNo) (x : ParseRefusal) (old mid : List ℕ) → h ≡ LeftParts → (Ready n d → ExprReads s t n d (E (tokens_left s t n d.token.0)) p old mid) → p ≡ Err x → Ready n c → There h → ExprReads s t n c begun (Err x) old mid
      unfolding HeadReads ExprReads expr_by go_on
      left_refused p v old mid e i j ready w =
          let x = subst There e w in
          let y = expr_stopped s t n d old mid (E x.0) (next_expr ready x.2 old mid E p i) j in
          along (assertl at.0) x.0 (Err v) old mid x.1
          (subst (λ (P : Parsed Expr). ExprReads s t n c (go_on P (λ e ts. go_on (cmr checks E ts) (λ k. got (tree.assertl at.0 e k)))) (Err v) old mid) (sym y.is) (ap Err y.at, y.stays))

      pub expr_right : (p : Answer Cmr) (k : Cmr) (f : Cursor) (p2 : Answer ExprNo) (g : Answer ExprInner) (old mid end : List ℕ) → h ≡ RightParts → (Ready n d → CmrReads s t n d (cmr checks E (tokens_left s t n d.token.0)) p old mid) → p ≡ Ok (k, f)
          → (Ready n f → ExprReads s t n f (E (tokens_left s t n f.token.0)) p2 mid end) → g ≡ assert_rby k p2 → Ready n c → There h → ExprReads s t n c begun (completed g) old (completed_table at g end)
      unfolding HeadReads expr_by go_on
      expr_right p k f p2 g old mid end e i j m is ready w =
          let x = subst There e w in
          let y = cmr_read s t n d old mid (cmr checks E x.0) (next_cmr ready x.2 old mid (cmr checks E) p i) j in
          let z = next_expr (reached_ready s t n ready x.2) y.4.to mid end E p2 m in
          let same = is ∙ ap (λ (q : Cmr). assert_rby q p2) y.3 in
          along (assertr at.0) x.0 (completed g) old (completed_table at g end) x.1
          (subst (λ (P : Parsed tree.Cmr). ExprReads s t n c (go_on P (λ k ts. go_on (E ts) (λ e. got (tree.assertr at.0 k e)))) (completed g) old (completed_table at g end)) (sym y.2)
          (right_reads s t n c ready x.2 (passes_token (assertr at.0) d x.0 ready x.1 x.2) at f y.1 old mid y.0 (E y.1) p2 (completed g) end (completed_table at g end) y.4 z (ap completed same) (ap (λ (q : Answer ExprInner). completed_table at q end) same)))

      pub right_refused : (p : Answer Cmr) (x : ParseRefusal) (old mid : List ℕ) → h ≡ RightParts → (Ready n d → CmrReads s t n d (cmr checks E (tokens_left s t n d.token.0)) p old mid) → p ≡ Err x → Ready n c → There h → ExprReads s t n c begun (Err x) old mid
      unfolding HeadReads ExprReads expr_by go_on
      right_refused p v old mid e i j ready w =
          let x = subst There e w in
          let y = cmr_stopped s t n d old mid (cmr checks E x.0) (next_cmr ready x.2 old mid (cmr checks E) p i) j in
          along (assertr at.0) x.0 (Err v) old mid x.1
          (subst (λ (P : Parsed tree.Cmr). ExprReads s t n c (go_on P (λ k ts. go_on (E ts) (λ e. got (tree.assertr at.0 k e)))) (Err v) old mid) (sym y.is) (ap Err y.at, y.stays))

  -- ---- with one more for the expression itself

  module _ (depth : ℕ) (deep : ¬ (depth ≡ 0)) where
    abbrev D : Rule Expr
    D = expr checks (depth - 1)

    up : (r : Answer ExprNo) (old new : List ℕ) → ExprReads s t n c (begun (depth - 1)) r old new → ExprReads s t n c (expr checks depth ts) r old new
    up r old new x = subst (λ (P : Parsed Expr). ExprReads s t n c P r old new) (sym (deeper checks depth deep ts)) x

    -- what begins, as the code saw it
    begins : (h k : Answer ExprHead) → Ready n c → (Ready n c → HeadReads s t n c (head checks ts) h) → h ≡ k → HeadReads s t n c (head checks ts) k
    begins h k ready w e = subst (HeadReads s t n c (head checks ts)) e (w ready)

    pub expr_whole : (h : Answer ExprHead) (i : ExprInner) (at : ByteOffset) (d : Cursor) (r : Answer ExprNo) (old new : List ℕ) → (Ready n c → HeadReads s t n c (head checks ts) h) → h ≡ Ok (Whole i at, d) → (r ≡ completed (Ok (i, d))) × (new ≡ completed_table at (Ok (i, d)) old)
        → Ready n c → ExprReads s t n c (expr checks depth ts) r old new
    unfolding HeadReads expr_by
    expr_whole h i at d r old new w e f ready =
        let x = begins h (Ok (Whole i at, d)) ready w e in
        up r old new (along (depth - 1) (leaf x.0) x.1 r old new x.2 (leaf_reads s t n c ready x.0 i at d x.1 old new x.3 x.4 (passes_token (leaf x.0) d x.1 ready x.2 x.4) f.0 f.1))

    pub expr_refused : (h : Answer ExprHead) (y : ParseRefusal) (old : List ℕ) → (Ready n c → HeadReads s t n c (head checks ts) h) → h ≡ Err y → Ready n c → ExprReads s t n c (expr checks depth ts) (Err y) old old
    unfolding HeadReads ExprReads go_on
    expr_refused h y old w e ready =
        let x = begins h (Err y) ready w e in
        up (Err y) old old (subst (λ (Q : Parsed Head). ExprReads s t n c (go_on Q (expr_by checks D)) (Err y) old old) (sym x.2) (ap Err x.3, refl))

    pub expr_parens : (h : Answer ExprHead) (d : Cursor) (p r : Answer ExprNo) (old new : List ℕ) → (Ready n c → HeadReads s t n c (head checks ts) h) → h ≡ Ok (Parens, d) → (Ready n d → ExprReads s t n d (D (tokens_left s t n d.token.0)) p old new) → r ≡ closed_expr s t n p
        → Ready n c → ExprReads s t n c (expr checks depth ts) r old new
    unfolding HeadReads expr_by
    expr_parens h d p r old new w e k f ready =
        let x = begins h (Ok (Parens, d)) ready w e in
        up r old new (along (depth - 1) parens x.0 r old new x.1 (parens_reads s t n c ready (D x.0) p old new (reads_after s t n x.2 (D x.0) p old new (next_expr ready x.2 old new D p k)) f))

    pub expr_unary : (h : Answer ExprHead) (k : NodeKind) (at : ByteOffset) (d : Cursor) (p : Answer ExprNo) (g : Answer ExprInner) (r : Answer ExprNo) (old mid new : List ℕ) → (Ready n c → HeadReads s t n c (head checks ts) h) → h ≡ Ok (UnaryHead k at, d)
        → (Ready n d → ExprReads s t n d (D (tokens_left s t n d.token.0)) p old mid) → g ≡ unary_by k p → (r ≡ completed g) × (new ≡ completed_table at g mid) → Ready n c → ExprReads s t n c (expr checks depth ts) r old new
    unfolding HeadReads expr_by
    expr_unary h k at d p g r old mid new w e i f a ready =
        let x = begins h (Ok (UnaryHead k at, d)) ready w e in
        up r old new (along (depth - 1) (unary x.0 at.0) x.1 r old new x.2
        (unary_reads s t n c ready x.4 (passes_token (unary x.0 at.0) d x.1 ready x.2 x.4) at x.0 k (D x.1) p r old mid new x.3 (next_expr ready x.4 old mid D p i) (answer_as f a.0) (table_as at mid f a.1)))

    pub expr_two : (h : Answer ExprHead) (k : TwoParts) (at : ByteOffset) (d : Cursor) (p : Answer ExprInner) (r : Answer ExprNo) (old mid new : List ℕ) → (Ready n c → HeadReads s t n c (head checks ts) h) → h ≡ Ok (TwoHead k at, d) → TwoReads s jets t n k d (depth - 1) p old mid
        → (r ≡ completed p) × (new ≡ completed_table at p mid) → Ready n c → ExprReads s t n c (expr checks depth ts) r old new
    unfolding TwoReads
    expr_two h k at d p r old mid new w e i a ready =
        up r old new
        (subst (λ (q : Answer ExprNo). ExprReads s t n c (begun (depth - 1)) q old new) (sym a.0)
        (subst (λ (q : List ℕ). ExprReads s t n c (begun (depth - 1)) (completed p) old q) (sym a.1) (i at c ready (begins h (Ok (TwoHead k at, d)) ready w e))))

  -- ---- CMRs by their heads

  module _ (F : Rule Expr) where
    -- what begins a CMR, for the code and for the grammar
    data Begins (us : List Token) : Type 0 where
      brace : (u : Token) (rest : List Token) → us ≡ u ∷ rest → cmr_head_by (length s) c us ≡ Ok (Brace, (stepped c)) → cmr checks F us ≡ braced checks F rest → Begins us
      literal : (u : Token) (rest : List Token) → us ≡ u ∷ rest → cmr_head_by (length s) c us ≡ Ok (LiteralHead (span_of u), stepped c) → cmr checks F us ≡ got (tree.literal u) rest → Begins us
      neither : cmr_head_by (length s) c us ≡ Err (refusal_at (length s) ParseFailed us) → cmr checks F us ≡ stop ParseFailed us → Begins us

    sees : (us : List Token) → Begins us
    unfolding cmr_head_by cmr choice entry go_on
    sees [] = neither refl refl
    sees (u ∷ rest) = go (eqb u.kind.0 (token.number token.hash_brace)) refl (eqb u.kind.0 (token.number token.cmr)) refl
      where
        go : (a : Bool) → eqb u.kind.0 (token.number token.hash_brace) ≡ a → (b : Bool) → eqb u.kind.0 (token.number token.cmr) ≡ b → Begins (u ∷ rest)
        go true e b f = brace u rest refl (rw e) (rw e)
        go false e true f = literal u rest refl (rw (e, f)) (rw (e, f))
        go false e false f = neither (rw (e, f)) (rw (e, f))

    pub cmr_braces : (h : Answer CmrHead) (d : Cursor) (p : Answer ExprNo) (r : Answer Cmr) (old new : List ℕ) → h ≡ cmr_head_by (length s) c ts → h ≡ Ok (Brace, d) → (Ready n d → ExprReads s t n d (F (tokens_left s t n d.token.0)) p old new) → r ≡ closed_cmr s t n p → Ready n c → CmrReads s t n c (cmr checks F ts) r old new
    cmr_braces h d p r old new w e i f ready = go (sees ts)
      where
        go : Begins ts → CmrReads s t n c (cmr checks F ts) r old new
        go (brace u rest eq eh eg) =
            let both : ◌≡◌ {A = Answer CmrHead} (Ok (Brace, d)) (Ok (Brace, (stepped c))) = sym e ∙ w ∙ eh in
            let at : d ≡ stepped c = (ok_parts both).1 in
            let to = reached_first s t n u ready eq in
            let k = subst (λ (q : Cursor). Ready n q → ExprReads s t n q (F (tokens_left s t n q.token.0)) p old new) at i in
            subst (λ (P : Parsed tree.Cmr). CmrReads s t n c P r old new) (sym eg) (braces_reads s t n c ready (F rest) p old new (reads_after s t n to (F rest) p old new (next_expr ready to old new F p k)) f)
        go (literal u rest eq eh eg) = let both : ◌≡◌ {A = Answer CmrHead} (Ok (Brace, d)) (Ok (LiteralHead (span_of u), stepped c)) = sym e ∙ w ∙ eh in let z : Brace ≡ LiteralHead (span_of u) = (ok_parts both).0 in let y : ◌≡◌ {A = ℕ} 0 1 = cc in absurd (omega arith)
        go (neither eh eg) = let both : ◌≡◌ {A = Answer CmrHead} (Ok (Brace, d)) (Err (refusal_at (length s) ParseFailed ts)) = sym e ∙ w ∙ eh in let y : ◌≡◌ {A = ℕ} 0 1 = cc in absurd (omega arith)

    literal_here : (u : Token) (rest : List Token) (old : List ℕ) → Reached s t n c (stepped c) rest 0 0 → CmrReads s t n c (got (tree.literal u) rest) (Ok ((Literal (span_of u)), (stepped c))) old old
    unfolding CmrReads part_of weight expr_records filled
    literal_here u rest old to = (stepped c, refl, to, refl)

    pub cmr_literal : (h : Answer CmrHead) (sp : Span) (d : Cursor) (old : List ℕ) → h ≡ cmr_head_by (length s) c ts → h ≡ Ok (LiteralHead sp, d) → Ready n c → CmrReads s t n c (cmr checks F ts) (Ok ((Literal sp), d)) old old
    cmr_literal h sp d old w e ready = go (sees ts)
      where
        go : Begins ts → CmrReads s t n c (cmr checks F ts) (Ok ((Literal sp), d)) old old
        go (literal u rest eq eh eg) =
            let both : ◌≡◌ {A = Answer CmrHead} (Ok (LiteralHead sp, d)) (Ok (LiteralHead (span_of u), stepped c)) = sym e ∙ w ∙ eh in
            let parts = ok_parts both in
            let at : stepped c ≡ d = sym parts.1 in
            let same : LiteralHead sp ≡ LiteralHead (span_of u) = parts.0 in
            let is : span_of u ≡ sp = cc in
            subst (λ (P : Parsed tree.Cmr). CmrReads s t n c P (Ok ((Literal sp), d)) old old) (sym eg)
            (subst (λ (q : Cursor). CmrReads s t n c (got (tree.literal u) rest) (Ok ((Literal sp), q)) old old) at
            (subst (λ (q : Span). CmrReads s t n c (got (tree.literal u) rest) (Ok ((Literal q), (stepped c))) old old) is (literal_here u rest old (reached_first s t n u ready eq))))
        go (brace u rest eq eh eg) = let both : ◌≡◌ {A = Answer CmrHead} (Ok (LiteralHead sp, d)) (Ok (Brace, stepped c)) = sym e ∙ w ∙ eh in let z : LiteralHead sp ≡ Brace = (ok_parts both).0 in let y : ◌≡◌ {A = ℕ} 0 1 = cc in absurd (omega arith)
        go (neither eh eg) = let both : ◌≡◌ {A = Answer CmrHead} (Ok (LiteralHead sp, d)) (Err (refusal_at (length s) ParseFailed ts)) = sym e ∙ w ∙ eh in let y : ◌≡◌ {A = ℕ} 0 1 = cc in absurd (omega arith)

    refused_here : (x : Fault) (y : ParseRefusal) (us : List Token) (old : List ℕ) → y ≡ refusal_at (length s) x us → CmrReads s t n c (stop x us) (Err y) old old
    unfolding CmrReads
    refused_here x y us old e = (ap Err e, refl)

    pub cmr_refused : (h : Answer CmrHead) (y : ParseRefusal) (old : List ℕ) → h ≡ cmr_head_by (length s) c ts → h ≡ Err y → Ready n c → CmrReads s t n c (cmr checks F ts) (Err y) old old
    cmr_refused h y old w e ready = go (sees ts)
      where
        go : Begins ts → CmrReads s t n c (cmr checks F ts) (Err y) old old
        go (neither eh eg) =
            let both : ◌≡◌ {A = Answer CmrHead} (Err y) (Err (refusal_at (length s) ParseFailed ts)) = sym e ∙ w ∙ eh in
            let is : y ≡ refusal_at (length s) ParseFailed ts = cc in
            subst (λ (P : Parsed tree.Cmr). CmrReads s t n c P (Err y) old old) (sym eg) (refused_here ParseFailed y ts old is)
        go (brace u rest eq eh eg) = let both : ◌≡◌ {A = Answer CmrHead} (Err y) (Ok (Brace, (stepped c))) = sym e ∙ w ∙ eh in let z : ◌≡◌ {A = ℕ} 0 1 = cc in absurd (omega arith)
        go (literal u rest eq eh eg) = let both : ◌≡◌ {A = Answer CmrHead} (Err y) (Ok (LiteralHead (span_of u), stepped c)) = sym e ∙ w ∙ eh in let z : ◌≡◌ {A = ℕ} 0 1 = cc in absurd (omega arith)
