-- What begins an expression: the answers of the functions that look at its first tokens, beside what the grammar says of them; and
-- the record of an expression whose parts are numbers.
use Rattle.std.specs.Prelude.{ℕ, ◌+◌, ◌≡◌, List, [], ◌∷◌, map, length, if◌then◌else◌, Err, Ok, Result, None, Option, Some}
use Rattle.records.specs.TokenKind as token
use Rattle.records.specs.NodeKind as node
use Rattle.records.specs.Records.{no_span}
use Rattle.records.specs.declared.Span.{Span}
use Rattle.records.specs.declared.ExprRecord.{ExprRecord}
use Rattle.records.specs.declared.kinds.NodeKind.{NodeKind}
use Rattle.records.specs.declared.numbers.ByteOffset.{ByteOffset}
use Rattle.records.specs.declared.numbers.ExprNo.{ExprNo}
use Rattle.lex.specs.Tokens.{Token}
use Rattle.matches.specs.Code.{NotIn}
use Rattle.checks.specs.declared.Fault.{Fault}
use Rattle.checks.specs.declared.Fault.TheVariants.{ParseFailed}
use Rattle.literals.specs.Literals.{bit_length}
use Rattle.checks.specs.Checks.{word_verdict, fail_verdict}
use Rattle.cursor.specs.declared.Cursor.{Cursor}
use Rattle.cursor.specs.Cursor.{refusal_at, stepped, Reached, Answer}
use Rattle.grammar.specs.Tree as tree
use Rattle.grammar.specs.Tree.{nullary_token, Unary, unary_token, Binary, binary_token, Expr}
use Rattle.grammar.specs.Rule.{Parsed, got, stop, is_of}
use Rattle.grammar.specs.Grammar.{names, literals, Head, leaf, parens, unary, binary, assertl, assertr}
use Rattle.grammar.specs.Part.{part_of, weight, nullary_kind, unary_kind, binary_kind, span_of}
use Rattle.grammar.specs.Recorded.{part_no, expr_records}
use Rattle.heads.specs.declared.Cmr.TheVariants.{Expr as OfExpr, Literal}
use Rattle.heads.specs.declared.ExprInner.{ExprInner}
use Rattle.heads.specs.declared.ExprInner.TheVariants.{Reference, AssertL, AssertR, Nullary, Unary as One, Binary as Two, Hole, Fail, Jet, Word}
use Rattle.heads.specs.declared.TwoParts.TheVariants.{Binary as BinaryParts, AssertL as LeftParts, AssertR as RightParts}
use Rattle.heads.specs.declared.ExprHead.{ExprHead}
use Rattle.heads.specs.declared.ExprHead.TheVariants.{Parens, Whole, Unary as UnaryHead, Two as TwoHead}
use Rattle.heads.specs.declared.Keyword.{Keyword}
use Rattle.heads.specs.declared.Keyword.TheVariants.{Nullary as NullaryWord, Unary as UnaryWord, Binary as BinaryWord}

-- ---- records

-- kind, start, left, right, two for a span
abbrev pub record_with : (kind : ℕ) → ByteOffset → (left right : ExprNo) → Span → ExprRecord
record_with k at l r s = record { kind = record { 0 = k }; start = at; left = l; right = r; span = s }

abbrev pub no_expr : ExprNo
no_expr = record { 0 = 0 }

-- the record of an expression at its place
abbrev pub expr_record_by : ExprInner → ByteOffset → ExprRecord
expr_record_by (Reference s) at = record_with (node.number node.ref) at no_expr no_expr s
expr_record_by (AssertL e (OfExpr f)) at = record_with (node.part_number node.assertl) at e f no_span
expr_record_by (AssertL e (Literal s)) at = record_with (node.part_number node.assertl) at e no_expr s
expr_record_by (AssertR (OfExpr f) e) at = record_with (node.part_number node.assertr) at f e no_span
expr_record_by (AssertR (Literal s) e) at = record_with (node.part_number node.assertr) at no_expr e s
expr_record_by (Nullary k) at = record_with k.0 at no_expr no_expr no_span
expr_record_by (One k e) at = record_with k.0 at e no_expr no_span
expr_record_by (Two k l r) at = record_with k.0 at l r no_span
expr_record_by (Hole s) at = record_with (node.part_number node.hole) at no_expr no_expr s
expr_record_by (Fail s) at = record_with (node.part_number node.fail) at no_expr no_expr s
expr_record_by (Jet s) at = record_with (node.part_number node.jet) at no_expr no_expr s
expr_record_by (Word s) at = record_with (node.part_number node.word) at no_expr no_expr s

-- ---- what begins an expression

-- an expression of one record
pub record LeafExpr (e : Expr) (i : ExprInner) (at : ByteOffset) : Type 0 where
  pub one : weight (part_of e) ≡ 1
  pub number : (m : ℕ) → part_no (part_of e) m ≡ m + 1
  pub row : (m : ℕ) → expr_records (part_of e) m ≡ expr_record_by i at ∷ []

abbrev pub of_part : node.PartKind → NodeKind
of_part k = record { 0 = node.part_number k }

-- what the grammar says of a head, the cursor c standing before it
unfoldable pub HeadReads : (source tokens : List ℕ) → (n : ℕ) → Cursor → Parsed Head → Answer ExprHead → Type 0
HeadReads s t n c P (Ok (Whole i at, d)) = (e : Expr) × (rest : List Token) × (P ≡ got (leaf e) rest) × LeafExpr e i at × Reached s t n c d rest 0 0
HeadReads s t n c P (Ok (Parens, d)) = (rest : List Token) × (P ≡ got parens rest) × Reached s t n c d rest 0 0
HeadReads s t n c P (Ok (UnaryHead k at, d)) =
    (u : Unary) × (rest : List Token) × (P ≡ got (unary u at.0) rest) × (k ≡ of_part (unary_kind u)) × Reached s t n c d rest 0 0
HeadReads s t n c P (Ok (TwoHead (BinaryParts k) at, d)) =
    (b : Binary) × (rest : List Token) × (P ≡ got (binary b at.0) rest) × (k ≡ of_part (binary_kind b)) × Reached s t n c d rest 0 0
HeadReads s t n c P (Ok (TwoHead LeftParts at, d)) = (rest : List Token) × (P ≡ got (assertl at.0) rest) × Reached s t n c d rest 0 0
HeadReads s t n c P (Ok (TwoHead RightParts at, d)) = (rest : List Token) × (P ≡ got (assertr at.0) rest) × Reached s t n c d rest 0 0
HeadReads s t n c P (Err r) = (x : Fault) × (rest : List Token) × (P ≡ stop x rest) × (r ≡ refusal_at (length s) x rest)

-- a literal that has to come: its span and its bit length
unfoldable pub literal_answer : (end : ℕ) → Cursor → List Token → Answer (Span × ℕ)
literal_answer end c [] = Err (refusal_at end ParseFailed [])
literal_answer end c (t ∷ ts) =
    if is_of t literals then Ok (((span_of t), (bit_length t.kind (length t.text))), (stepped c))
    else Err (refusal_at end ParseFailed (t ∷ ts))

-- the name behind `?`, which is the place of the hole
unfoldable pub hole_head : (end : ℕ) → Cursor → List Token → Answer ExprHead
hole_head end c [] = Err (refusal_at end ParseFailed [])
hole_head end c (t ∷ ts) =
    if is_of t names then Ok (Whole (Hole (span_of t)) (record { 0 = t.start }), (stepped c))
    else Err (refusal_at end ParseFailed (t ∷ ts))

-- an expression whose literal or jet, of this span, passed its test or did not
unfoldable pub tested_by : Result (Unit {0}) Fault → ExprInner → (at : ByteOffset) → Span → Cursor → Answer ExprHead
tested_by (Ok _) i at s c = Ok (Whole i at, c)
tested_by (Err x) i at s c = Err (record { fault = x; at = s.start })

-- the literal behind `const`, which is its place
unfoldable pub word_head : Answer (Span × ℕ) → Answer ExprHead
word_head (Ok ((s, bits), c)) = tested_by (word_verdict bits) (Word s) s.start s c
word_head (Err r) = Err r

-- the literal behind the `fail` that stands at this place
unfoldable pub fail_head : ByteOffset → Answer (Span × ℕ) → Answer ExprHead
fail_head at (Ok ((s, bits), c)) = tested_by (fail_verdict bits) (Fail s) at s c
fail_head at (Err r) = Err r

-- the keywords with nothing but expressions behind them, the last first
abbrev pub part_keywords : List token.Kind
part_keywords =
    token.pair ∷ token.comp ∷ token.case ∷ token.disconnect ∷ token.drop ∷ token.take ∷ token.injr ∷ token.injl ∷
    token.witness ∷ token.iden ∷ token.unit ∷ []

-- which of them the token kind of this number is
unfoldable pub KeywordIs : (k : ℕ) → Option Keyword → Type 0
KeywordIs k (Some (NullaryWord n)) = (u : tree.Nullary) × (k ≡ token.number (nullary_token u)) × (n ≡ of_part (nullary_kind u))
KeywordIs k (Some (UnaryWord n)) = (u : Unary) × (k ≡ token.number (unary_token u)) × (n ≡ of_part (unary_kind u))
KeywordIs k (Some (BinaryWord n)) = (u : Binary) × (k ≡ token.number (binary_token u)) × (n ≡ of_part (binary_kind u))
KeywordIs k None = NotIn (map token.number part_keywords) k

unfoldable pub keyword_head : Option Keyword → ByteOffset → Cursor → Answer ExprHead
keyword_head (Some (NullaryWord k)) at c = Ok (Whole (Nullary k) at, c)
keyword_head (Some (UnaryWord k)) at c = Ok (UnaryHead k at, c)
keyword_head (Some (BinaryWord k)) at c = Ok (TwoHead (BinaryParts k) at, c)
keyword_head None at c = Err (record { fault = ParseFailed; at = at })
