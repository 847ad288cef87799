-- What the code answers for an expression and a CMR that the grammar reads: their numbers, the cursor behind them and their records
-- in the table; and the answers of the functions on the way.
use Rattle.std.specs.Prelude.{ℕ, ◌≡◌, List, [], ◌∷◌, map, eqb, length, if◌then◌else◌, Err, Ok}
use Rattle.records.specs.Limits.{expr_width}
use Rattle.records.specs.Records.{expr_words}
use Rattle.records.specs.TokenKind as token
use Rattle.records.specs.declared.kinds.NodeKind.{NodeKind}
use Rattle.records.specs.declared.numbers.ByteOffset.{ByteOffset}
use Rattle.records.specs.declared.numbers.ExprNo.{ExprNo}
use Rattle.tables.specs.Tables.{written, filled, beyond}
use Rattle.lex.specs.Tokens.{Token}
use Rattle.checks.specs.declared.Fault.TheVariants.{ParseFailed}
use Rattle.checks.specs.Checks.{checks_of}
use Rattle.cursor.specs.declared.Cursor.{Cursor}
use Rattle.cursor.specs.Tokens.{tokens_left}
use Rattle.cursor.specs.Cursor.{refusal_at, stepped, next_number, closed, Ready, Reached, Answer}
use Rattle.grammar.specs.Tree as tree
use Rattle.grammar.specs.Tree.{Expr}
use Rattle.grammar.specs.Rule.{Parsed, got, stop, go_on}
use Rattle.grammar.specs.Grammar.{head, expr_by, expr}
use Rattle.grammar.specs.Part.{Part, part_of, cmr_part, weight, span_of}
use Rattle.grammar.specs.Recorded.{part_no, expr_records}
use Rattle.heads.specs.declared.Cmr.{Cmr}
use Rattle.heads.specs.declared.Cmr.TheVariants.{Expr as OfExpr, Literal}
use Rattle.heads.specs.declared.ExprInner.TheVariants.{AssertL, AssertR, Unary as One, Binary as Two}
use Rattle.heads.specs.declared.TwoParts.{TwoParts}
use Rattle.heads.specs.Answers.{expr_record_by, HeadReads}
use Rattle.exprs.specs.declared.CmrHead.{CmrHead}
use Rattle.exprs.specs.declared.CmrHead.TheVariants.{Brace, Literal as LiteralHead}
use Rattle.heads.specs.declared.ExprInner.{ExprInner}
use Rattle.heads.specs.declared.ExprHead.TheVariants.{Two as TwoHead}

-- ---- an expression that was read

-- the words of the records of a part
abbrev pub expr_rows : Part → (before : ℕ) → List (List ℕ)
expr_rows p m = map expr_words (expr_records p m)

-- An expression is answered with its number and the cursor behind it, and its records stand in the table. A refusal leaves the
-- words past the records.
unfoldable pub ExprReads : (source tokens : List ℕ) → (n : ℕ) → Cursor → Parsed Expr → Answer ExprNo → (old new : List ℕ) → Type 0
ExprReads s t n c (got e rest) r old new =
    (d : Cursor) × (r ≡ Ok ((record { 0 = part_no (part_of e) c.expr.0 }), d)) × Reached s t n c d rest (weight (part_of e)) 0
    × (new ≡ filled expr_width old c.expr.0 (expr_rows (part_of e) c.expr.0))
ExprReads s t n c (stop x rest) r old new = (r ≡ Err (refusal_at (length s) x rest)) × (beyond expr_width new ≡ beyond expr_width old)

-- a CMR is the number of its expression, or the span of a literal
abbrev pub cmr_by : tree.Cmr → (before : ℕ) → Cmr
cmr_by (tree.inside e) m = OfExpr (record { 0 = part_no (part_of e) m })
cmr_by (tree.literal t) m = Literal (span_of t)

unfoldable pub CmrReads : (source tokens : List ℕ) → (n : ℕ) → Cursor → Parsed tree.Cmr → Answer Cmr → (old new : List ℕ) → Type 0
CmrReads s t n c (got k rest) r old new =
    (d : Cursor) × (r ≡ Ok ((cmr_by k c.expr.0), d)) × Reached s t n c d rest (weight (cmr_part k)) 0
    × (new ≡ filled expr_width old c.expr.0 (expr_rows (cmr_part k) c.expr.0))
CmrReads s t n c (stop x rest) r old new = (r ≡ Err (refusal_at (length s) x rest)) × (beyond expr_width new ≡ beyond expr_width old)

-- ---- what begins a part

-- what begins a CMR
unfoldable pub cmr_head_by : (end : ℕ) → Cursor → List Token → Answer CmrHead
cmr_head_by end c [] = Err (refusal_at end ParseFailed [])
cmr_head_by end c (t ∷ ts) =
    if eqb t.kind.0 (token.number token.hash_brace) then Ok (Brace, (stepped c))
    else if eqb t.kind.0 (token.number token.cmr) then Ok (LiteralHead (span_of t), stepped c)
    else Err (refusal_at end ParseFailed (t ∷ ts))

-- ---- behind the parts

-- a closing parenthesis
abbrev pub closed_expr : (source tokens : List ℕ) → (n : ℕ) → Answer ExprNo → Answer ExprNo
closed_expr s t n p = closed s t n (token.number token.rparen) p

-- a CMR, once its expression is read and closed
unfoldable pub cmr_of : Answer ExprNo → Answer Cmr
cmr_of (Ok (e, c)) = Ok (OfExpr e, c)
cmr_of (Err r) = Err r

-- a closing brace
abbrev pub closed_cmr : (source tokens : List ℕ) → (n : ℕ) → Answer ExprNo → Answer Cmr
closed_cmr s t n p = cmr_of (closed s t n (token.number token.rbrace) p)

-- an expression, once its last part is read
unfoldable pub unary_by : NodeKind → Answer ExprNo → Answer ExprInner
unary_by k (Ok (e, c)) = Ok ((One k e), c)
unary_by k (Err r) = Err r

unfoldable pub binary_by : NodeKind → (left : ExprNo) → Answer ExprNo → Answer ExprInner
binary_by k l (Ok (e, c)) = Ok ((Two k l e), c)
binary_by k l (Err r) = Err r

unfoldable pub assert_lby : ExprNo → Answer Cmr → Answer ExprInner
assert_lby e (Ok (k, c)) = Ok ((AssertL e k), c)
assert_lby e (Err r) = Err r

unfoldable pub assert_rby : Cmr → Answer ExprNo → Answer ExprInner
assert_rby k (Ok (e, c)) = Ok ((AssertR k e), c)
assert_rby k (Err r) = Err r

-- its number: the cursor has one expression more
unfoldable pub completed : Answer ExprInner → Answer ExprNo
completed (Ok (i, c)) =
    Ok ((record { 0 = next_number c.expr.0 }), (record { token = c.token; expr = record { 0 = next_number c.expr.0 }; ty = c.ty }))
completed (Err r) = Err r

-- its record
unfoldable pub completed_table : ByteOffset → Answer ExprInner → List ℕ → List ℕ
completed_table at (Ok (i, c)) old = written expr_width old (next_number c.expr.0) (expr_words (expr_record_by i at))
completed_table at (Err r) old = old

-- Two parts that begin at c, with so much depth: where their keyword, at its place, is what begins at b, what is recorded of them
-- there is the answer for the expression that begins at b.
unfoldable pub TwoReads : (source jets tokens : List ℕ) → (n : ℕ) → TwoParts → (c : Cursor) → (depth : ℕ) → Answer ExprInner → (old new : List ℕ) → Type 0
TwoReads s jets t n k c depth p old new =
    (at : ByteOffset) (b : Cursor) → Ready n b → HeadReads s t n b (head (checks_of jets) (tokens_left s t n b.token.0)) (Ok (TwoHead k at, c))
    → ExprReads s t n b (go_on (head (checks_of jets) (tokens_left s t n b.token.0)) (expr_by (checks_of jets) (expr (checks_of jets) depth))) (completed p) old (completed_table at p new)
