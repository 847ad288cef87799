-- What begins an expression, by the token's kind. Assumes nothing.
use Rattle.std.specs.Prelude.{if◌then◌else◌, Err, Ok, Result, None, Option, Some}
use Prim.Native.Nat.{ℕ, ◌+◌}
use mathlib.Core.Bool.{Bool, true, false}
use mathlib.Core.Path.{◌≡◌, refl, sym, ap, subst, ◌∙◌}
use mathlib.Core.List.{List, [], ◌∷◌, ◌++◌, map}
use lib.ListN.{length}
use Rattle.records.specs.TokenKind as token
use Rattle.records.specs.declared.TokenRecord.{TokenRecord}
use Rattle.records.specs.declared.kinds.NodeKind.{NodeKind}
use Rattle.lex.specs.Tokens.{Token, record_of}
use Rattle.matches.specs.Code.{NotIn}
use Rattle.checks.specs.declared.Fault.TheVariants.{ParseFailed}
use Rattle.literals.specs.Literals.{bit_length, span_text}
use Rattle.checks.specs.Checks.{word_verdict, fail_verdict, jet_verdict, Checks, checks_of}
use Rattle.cursor.specs.declared.Cursor.{Cursor}
use Rattle.cursor.specs.Tokens.{token_at, token_of, tokens_left}
use Rattle.cursor.specs.Cursor.{refusal_at, stepped, peeked, Ready, Reached, Answer}
use Rattle.cursor.proofs.Laws.{token_again}
use Rattle.cursor.proofs.Entries.{choice_none}
use Rattle.cursor.proofs.Reached.{reached_none, reached_first, reached_after, reached_ready}
use Rattle.cursor.proofs.Steps.{ahead_end}
use Rattle.grammar.specs.Tree as tree
use Rattle.grammar.specs.Tree.{nullary_token, unary_token, binary_token}
use Rattle.grammar.specs.Rule.{Parsed, got, stop, go_on, is_of, one_of, entry, choice}
use Rattle.grammar.specs.Grammar.{names, literals, Head, leaf, unary, binary, hole, word, failing, jet, leaf_heads, inner_heads, head}
use Rattle.grammar.specs.Part.{part_of, weight, nullary_kind, span_of}
use Rattle.grammar.specs.Recorded.{expr_records}
use Rattle.heads.specs.declared.ExprInner.TheVariants.{Reference, Nullary, Hole, Fail, Jet, Word}
use Rattle.heads.specs.declared.TwoParts.TheVariants.{Binary as BinaryParts, AssertL as LeftParts, AssertR as RightParts}
use Rattle.heads.specs.Answers.{LeafExpr, HeadReads, of_part, part_keywords, KeywordIs, keyword_head, literal_answer, hole_head, tested_by, word_head, fail_head}
use Rattle.heads.proofs.Steps.{next_is}
use Rattle.checks.specs.declared.Fault.{Fault}
use Rattle.heads.specs.declared.ExprHead.{ExprHead}
use Rattle.heads.specs.declared.ExprHead.TheVariants.{Parens, Two as TwoHead, Unary as UnaryHead, Whole}
use Rattle.heads.specs.declared.Keyword.{Keyword}
use Rattle.heads.specs.declared.Keyword.TheVariants.{Binary as BinaryWord, Unary as UnaryWord, Nullary as NullaryWord}
use Rattle.records.specs.declared.Span.{Span}

-- ---- expressions of one record

leaf_hole : (x : Token) → LeafExpr (tree.hole x) (Hole (span_of x)) (record { 0 = x.start })
unfolding part_of weight expr_records
leaf_hole x = record { one = refl; number = λ m. refl; row = λ m. refl }

leaf_word : (x : Token) → LeafExpr (tree.const x) (Word (span_of x)) (record { 0 = x.start })
unfolding part_of weight expr_records
leaf_word x = record { one = refl; number = λ m. refl; row = λ m. refl }

leaf_fail : (at : ℕ) (x : Token) → LeafExpr (tree.fail at x) (Fail (span_of x)) (record { 0 = at })
unfolding part_of weight expr_records
leaf_fail at x = record { one = refl; number = λ m. refl; row = λ m. refl }

leaf_jet : (x : Token) → LeafExpr (tree.jet x) (Jet (span_of x)) (record { 0 = x.start })
unfolding part_of weight expr_records
leaf_jet x = record { one = refl; number = λ m. refl; row = λ m. refl }

leaf_ref : (x : Token) → LeafExpr (tree.ref x) (Reference (span_of x)) (record { 0 = x.start })
unfolding part_of weight expr_records
leaf_ref x = record { one = refl; number = λ m. refl; row = λ m. refl }

leaf_nullary : (u : tree.Nullary) (at : ℕ) → LeafExpr (tree.nullary u at) (Nullary (of_part (nullary_kind u))) (record { 0 = at })
unfolding part_of weight expr_records
leaf_nullary u at = record { one = refl; number = λ m. refl; row = λ m. refl }

-- numbers that are not in either list
not_both : (xs ys : List ℕ) (k : ℕ) → NotIn xs k → NotIn ys k → NotIn (xs ++ ys) k
not_both [] ys k h i = i
not_both (x ∷ xs) ys k h i = (not_both xs ys k h.0 i, h.1)

-- ---- from one cursor to another

module _ (s t : List ℕ) (n : ℕ) {c d : Cursor} {q : List Token} (to : Reached s t n c d q 0 0) (P : Parsed Head) where
  pub heads_after : (h : Answer ExprHead) → HeadReads s t n d P h → HeadReads s t n c P h
  unfolding HeadReads
  heads_after (Ok (Whole i at, f)) x = (x.0, x.1, x.2, x.3, reached_after s t n to x.4)
  heads_after (Ok (Parens, f)) x = (x.0, x.1, reached_after s t n to x.2)
  heads_after (Ok (UnaryHead k at, f)) x = (x.0, x.1, x.2, x.3, reached_after s t n to x.4)
  heads_after (Ok (TwoHead (BinaryParts k) at, f)) x = (x.0, x.1, x.2, x.3, reached_after s t n to x.4)
  heads_after (Ok (TwoHead LeftParts at, f)) x = (x.0, x.1, reached_after s t n to x.2)
  heads_after (Ok (TwoHead RightParts at, f)) x = (x.0, x.1, reached_after s t n to x.2)
  heads_after (Err r) x = x

module _ (s jets tokens : List ℕ) (n : ℕ) (c : Cursor) (ready : Ready n c) where
  abbrev checks : Checks
  checks = checks_of jets

  abbrev left : List Token
  left = tokens_left s tokens n c.token.0

  abbrev Is : Parsed Head → Answer ExprHead → Type 0
  Is P h = HeadReads s tokens n c P h

  -- ---- behind `?`, const and fail

  hole_reads : (ts : List Token) → left ≡ ts → Is (hole checks ts) (hole_head (length s) c ts)
  unfolding HeadReads hole_head one_of go_on
  hole_reads [] e = (ParseFailed, [], refl, refl)
  hole_reads (u ∷ rest) e = go (is_of u names) refl
    where
      go : (b : Bool) → is_of u names ≡ b → Is (go_on (if b then got u rest else stop ParseFailed (u ∷ rest)) (λ x. got (leaf (tree.hole x)))) (if b then Ok (Whole (Hole (span_of u)) (record { 0 = u.start }), (stepped c)) else Err (refusal_at (length s) ParseFailed (u ∷ rest)))
      go true f = (tree.hole u, rest, refl, leaf_hole u, reached_first s tokens n u ready e)
      go false f = (ParseFailed, u ∷ rest, refl, refl)

  word_reads : (ts : List Token) → left ≡ ts → Is (word checks ts) (word_head (literal_answer (length s) c ts))
  unfolding HeadReads literal_answer word_head tested_by one_of go_on
  word_reads [] e = (ParseFailed, [], refl, refl)
  word_reads (u ∷ rest) e = go (is_of u literals) refl (word_verdict (bit_length u.kind (length u.text))) refl
    where
      go : (b : Bool) → is_of u literals ≡ b → (v : Result (Unit {0}) Fault) → word_verdict (bit_length u.kind (length u.text)) ≡ v → Is (word checks (u ∷ rest)) (word_head (literal_answer (length s) c (u ∷ rest)))
      go true f (Ok _) g = rw (f, g) (tree.const u, rest, refl, leaf_word u, reached_first s tokens n u ready e)
      go true f (Err x) g = rw (f, g) (x, u ∷ rest, refl, refl)
      go false f v g = rw f (ParseFailed, u ∷ rest, refl, refl)

  fail_reads : (at : ℕ) (ts : List Token) → left ≡ ts → Is (failing checks at ts) (fail_head (record { 0 = at }) (literal_answer (length s) c ts))
  unfolding HeadReads literal_answer fail_head tested_by one_of go_on
  fail_reads at [] e = (ParseFailed, [], refl, refl)
  fail_reads at (u ∷ rest) e = go (is_of u literals) refl (fail_verdict (bit_length u.kind (length u.text))) refl
    where
      go : (b : Bool) → is_of u literals ≡ b → (v : Result (Unit {0}) Fault) → fail_verdict (bit_length u.kind (length u.text)) ≡ v → Is (failing checks at (u ∷ rest)) (fail_head (record { 0 = at }) (literal_answer (length s) c (u ∷ rest)))
      go true f (Ok _) g = rw (f, g) (tree.fail at u, rest, refl, leaf_fail at u, reached_first s tokens n u ready e)
      go true f (Err x) g = rw (f, g) (x, u ∷ rest, refl, refl)
      go false f v g = rw f (ParseFailed, u ∷ rest, refl, refl)

  -- ---- by the token before the cursor, whose record is r

  module _ (r : TokenRecord) where
    abbrev t : Token
    t = token_of s r

    jet_reads : (v : Result (Unit {0}) Fault) → jet_verdict jets t.text ≡ v → Is (jet checks t left) (tested_by (jet_verdict jets t.text) (Jet (span_of t)) r.span.start r.span c)
    unfolding HeadReads tested_by go_on
    jet_reads (Ok _) g = rw g (tree.jet t, left, refl, leaf_jet t, reached_none s tokens n ready)
    jet_reads (Err x) g = rw g (x, t ∷ left, refl, refl)

    module _ (h : Answer ExprHead) where
      abbrev Reads : Type 0
      Reads = Is (head checks (t ∷ left)) h

      along : (P : Parsed Head) (k : Answer ExprHead) → head checks (t ∷ left) ≡ P → h ≡ k → Is P k → Reads
      along P k e f x = subst (λ (Q : Parsed Head). Is Q h) (sym e) (subst (Is P) (sym f) x)

      pub head_hole : r.kind.0 ≡ token.number token.question → h ≡ hole_head (length s) c left → Reads
      unfolding head choice entry go_on
      head_hole e f = along (hole checks left) (hole_head (length s) c left) (rw e) f (hole_reads left refl)

      pub head_word : {p : Answer (Span × ℕ)} → r.kind.0 ≡ token.number token.const → p ≡ literal_answer (length s) c left → h ≡ word_head p → Reads
      unfolding head choice entry go_on
      head_word e g f = along (word checks left) (word_head (literal_answer (length s) c left)) (rw e) (f ∙ ap word_head g) (word_reads left refl)

      pub head_fail : {p : Answer (Span × ℕ)} → r.kind.0 ≡ token.number token.fail → p ≡ literal_answer (length s) c left → h ≡ fail_head r.span.start p → Reads
      unfolding head choice entry go_on
      head_fail e g f = along (failing checks t.start left) (fail_head r.span.start (literal_answer (length s) c left)) (rw e) (f ∙ ap (fail_head r.span.start) g) (fail_reads t.start left refl)

      pub head_jet : r.kind.0 ≡ token.number token.jet → r ≡ record_of t → h ≡ tested_by (jet_verdict jets (span_text s r.span)) (Jet r.span) r.span.start r.span c → Reads
      unfolding head choice entry go_on
      head_jet e again f = along (jet checks t left) (tested_by (jet_verdict jets t.text) (Jet (span_of t)) r.span.start r.span c) (rw e) (f ∙ ap (λ (q : TokenRecord). tested_by (jet_verdict jets t.text) (Jet q.span) r.span.start r.span c) again) (jet_reads (jet_verdict jets t.text) refl)

    -- a name, by the record that is the token's own
    ref_reads : r ≡ record_of t → head checks (t ∷ left) ≡ got (leaf (tree.ref t)) left → Is (head checks (t ∷ left)) (Ok (Whole (Reference r.span) r.span.start, c))
    unfolding HeadReads
    ref_reads again e = subst (λ (q : TokenRecord). Is (head checks (t ∷ left)) (Ok (Whole (Reference q.span) r.span.start, c))) (sym again) (tree.ref t, left, e, leaf_ref t, reached_none s tokens n ready)

    pub head_symbol : r.kind.0 ≡ token.number token.symbol → r ≡ record_of t → Is (head checks (t ∷ left)) (Ok (Whole (Reference r.span) r.span.start, c))
    unfolding head choice entry go_on
    head_symbol e again = ref_reads again (rw e)

    pub head_underscore : r.kind.0 ≡ token.number token.underscore → r ≡ record_of t → Is (head checks (t ∷ left)) (Ok (Whole (Reference r.span) r.span.start, c))
    unfolding head choice entry go_on
    head_underscore e again = ref_reads again (rw e)

    pub head_parens : r.kind.0 ≡ token.number token.lparen → Is (head checks (t ∷ left)) (Ok (Parens, c))
    unfolding HeadReads head choice entry go_on
    head_parens e = (left, rw e, reached_none s tokens n ready)

    pub head_assertl : r.kind.0 ≡ token.number token.assertl → Is (head checks (t ∷ left)) (Ok (TwoHead LeftParts r.span.start, c))
    unfolding HeadReads head choice entry go_on
    head_assertl e = (left, rw e, reached_none s tokens n ready)

    pub head_assertr : r.kind.0 ≡ token.number token.assertr → Is (head checks (t ∷ left)) (Ok (TwoHead RightParts r.span.start, c))
    unfolding HeadReads head choice entry go_on
    head_assertr e = (left, rw e, reached_none s tokens n ready)

    -- ---- keywords

    nullary_is : (u : tree.Nullary) → r.kind.0 ≡ token.number (nullary_token u) → head checks (t ∷ left) ≡ got (leaf (tree.nullary u t.start)) left
    unfolding head choice entry go_on
    nullary_is tree.unit e = rw e
    nullary_is tree.iden e = rw e
    nullary_is tree.witness e = rw e

    unary_is : (u : tree.Unary) → r.kind.0 ≡ token.number (unary_token u) → head checks (t ∷ left) ≡ got (unary u t.start) left
    unfolding head choice entry go_on
    unary_is tree.injl e = rw e
    unary_is tree.injr e = rw e
    unary_is tree.take e = rw e
    unary_is tree.drop e = rw e

    binary_is : (u : tree.Binary) → r.kind.0 ≡ token.number (binary_token u) → head checks (t ∷ left) ≡ got (binary u t.start) left
    unfolding head choice entry go_on
    binary_is tree.disconnect e = rw e
    binary_is tree.case e = rw e
    binary_is tree.comp e = rw e
    binary_is tree.pair e = rw e

    -- the numbers that the code looks for before the keywords, the last first
    abbrev others : List ℕ
    others = map token.number (token.assertr ∷ token.assertl ∷ token.lparen ∷ token.underscore ∷ token.symbol ∷ token.jet ∷ token.fail ∷ token.const ∷ token.question ∷ [])

    keyword_reads : (w : Option Keyword) → NotIn others r.kind.0 → KeywordIs r.kind.0 w → Is (head checks (t ∷ left)) (keyword_head w r.span.start c)
    unfolding HeadReads KeywordIs keyword_head head go_on
    keyword_reads (Some (NullaryWord k)) rest x =
        let y : LeafExpr (tree.nullary x.0 t.start) (Nullary k) r.span.start = subst (λ (q : NodeKind). LeafExpr (tree.nullary x.0 t.start) (Nullary q) r.span.start) (sym x.2) (leaf_nullary x.0 t.start) in
        (tree.nullary x.0 t.start, left, nullary_is x.0 x.1, y, reached_none s tokens n ready)
    keyword_reads (Some (UnaryWord k)) rest x = (x.0, left, unary_is x.0 x.1, x.2, reached_none s tokens n ready)
    keyword_reads (Some (BinaryWord k)) rest x = (x.0, left, binary_is x.0 x.1, x.2, reached_none s tokens n ready)
    keyword_reads None rest x = (ParseFailed, t ∷ left, rw (choice_none (leaf_heads checks ++ inner_heads checks) (others ++ map token.number part_keywords) t left refl (not_both others (map token.number part_keywords) r.kind.0 rest x)), refl)

    pub head_keyword : (w : Option Keyword) (h : Answer ExprHead) → NotIn others r.kind.0 → KeywordIs r.kind.0 w → h ≡ keyword_head w r.span.start c → Is (head checks (t ∷ left)) h
    head_keyword w h rest x f = subst (Is (head checks (t ∷ left))) (sym f) (keyword_reads w rest x)

  -- ---- at the cursor

  module _ {a : Option (TokenRecord × Cursor)} (e : a ≡ peeked c left) where
    pub headed : (r : TokenRecord) (b : Cursor) (h : Answer ExprHead) → a ≡ Some (r, b) → (Ready n b → r ≡ record_of (token_of s r) → HeadReads s tokens n b (head checks (token_of s r ∷ tokens_left s tokens n b.token.0)) h) → Is (head checks left) h
    headed r b h f reads =
        let x = next_is s tokens n c e r b f in
        let u : Token = token_at s tokens (c.token.0 + 1) in
        let to : Reached s tokens n c (stepped c) (tokens_left s tokens n (c.token.0 + 1)) 0 0 = reached_first s tokens n u ready x.0 in
        let same : token_of s r ≡ u = ap (token_of s) x.1 ∙ token_again s tokens (c.token.0 + 1) in
        let there = subst (λ (q : Cursor). Ready n q → r ≡ record_of (token_of s r) → HeadReads s tokens n q (head checks (token_of s r ∷ tokens_left s tokens n q.token.0)) h) x.2 reads in
        let is = there (reached_ready s tokens n ready to) (x.1 ∙ ap record_of (sym same)) in
        let from = subst (λ (v : Token). HeadReads s tokens n (stepped c) (head checks (v ∷ tokens_left s tokens n (c.token.0 + 1))) h) same is in
        heads_after s tokens n to (head checks left) h (subst (λ (ts : List Token). HeadReads s tokens n (stepped c) (head checks ts) h) (sym x.0) from)

    pub headless : {h : Answer ExprHead} → a ≡ None → h ≡ Err (refusal_at (length s) ParseFailed left) → Is (head checks left) h
    unfolding HeadReads head choice go_on
    headless f g = subst (Is (head checks left)) (sym g) (ParseFailed, left, rw (ahead_end c a left e f), refl)

-- what begins at a token, by its kind
pub ruleset by_kind = (head_hole, head_word, head_fail, head_jet, head_symbol, head_underscore, head_parens, head_assertl, head_assertr, head_keyword)
