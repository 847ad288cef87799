-- What the code answers for a type that the grammar reads: its number, the cursor behind it and its records in the table; and the
-- answers of the functions on the way.
use Rattle.std.specs.Prelude.{ℕ, zero, suc, ◌≡◌, true, List, [], ◌∷◌, map, eqb, length, if◌then◌else◌, Err, Ok, Result, None, Option, Some}
use Rattle.records.specs.Limits.{type_width}
use Rattle.records.specs.Records.{type_words}
use Rattle.records.specs.TokenKind as token
use Rattle.records.specs.TypeKind as kind
use Rattle.records.specs.declared.TypeRecord.{TypeRecord}
use Rattle.records.specs.declared.numbers.ByteOffset.{ByteOffset}
use Rattle.records.specs.declared.numbers.TypeNo.{TypeNo}
use Rattle.tables.specs.Tables.{written, filled, beyond}
use Rattle.lex.specs.Tokens.{Token}
use Rattle.checks.specs.declared.Fault.{Fault}
use Rattle.checks.specs.declared.Fault.TheVariants.{ParseFailed}
use Rattle.checks.specs.Checks.{checks_of}
use Rattle.cursor.specs.declared.Cursor.{Cursor}
use Rattle.cursor.specs.Tokens.{tokens_left}
use Rattle.cursor.specs.Cursor.{refusal_at, stepped, next_number, closed, Reached, Answer}
use Rattle.grammar.specs.Tree as tree
use Rattle.grammar.specs.Tree.{Ty, present}
use Rattle.grammar.specs.Rule.{Parsed, got, stop}
use Rattle.grammar.specs.Grammar.{whole, group, type_head}
use Rattle.grammar.specs.Recorded.{type_record, type_weight, type_no, type_records}
use Rattle.types.specs.declared.TypeInner.{TypeInner}
use Rattle.types.specs.declared.TypeInner.TheVariants.{Name, One, Two, Product, Sum, TwoTwoN}
use Rattle.types.specs.declared.Op.{Op}
use Rattle.types.specs.declared.Op.TheVariants.{Sum as Plus, Product as Star}
use Rattle.types.specs.declared.AtomHead.{AtomHead}
use Rattle.types.specs.declared.AtomHead.TheVariants.{Absent, Group, Whole}

-- ---- a type that was read

-- the words of the records of a type
abbrev pub type_rows : Ty → (before : ℕ) → List (List ℕ)
type_rows x m = map type_words (type_records x m)

-- A type is answered with its number and the cursor behind it, and its records stand in the table. A refusal leaves the words
-- past the records.
abbrev pub TypeReads : (source tokens : List ℕ) → (n : ℕ) → Cursor → Parsed Ty → Answer TypeNo → (old new : List ℕ) → Type 0
TypeReads s t n c (got x rest) r old new =
    (d : Cursor) × (r ≡ Ok ((record { 0 = type_no x c.ty.0 }), d)) × Reached s t n c d rest 0 (type_weight x)
    × (new ≡ filled type_width old c.ty.0 (type_rows x c.ty.0))
TypeReads s t n c (stop x rest) r old new = (r ≡ Err (refusal_at (length s) x rest)) × (beyond type_width new ≡ beyond type_width old)

-- ---- on the way

-- the record of a type; for a name, start and length stand in left and right
abbrev pub type_record_by : TypeInner → TypeRecord
type_record_by (Name s) = type_record kind.name s.start.0 s.len 0
type_record_by One = type_record kind.one 0 0 0
type_record_by Two = type_record kind.two 0 0 0
type_record_by (Product l r) = type_record kind.product l.0 r.0 0
type_record_by (Sum l r) = type_record kind.sum l.0 r.0 0
type_record_by (TwoTwoN n) = type_record kind.power 0 0 n

-- the cursor with one type more, which is the answer
abbrev pub finished : Cursor → Answer TypeNo
finished c =
    Ok ((record { 0 = next_number c.ty.0 }), (record { token = c.token; expr = c.expr; ty = record { 0 = next_number c.ty.0 } }))

-- a type of one record
pub record LeafType (x : Ty) (i : TypeInner) : Type 0 where
  pub here : present x ≡ true
  pub one : type_weight x ≡ 1
  pub row : (m : ℕ) → type_records x m ≡ type_record_by i ∷ []

-- by whether a power is 2^1
abbrev pub power_inner : ℕ → TypeInner
power_inner zero = Two
power_inner (suc n) = TwoTwoN (suc n)

abbrev pub power_head : Result ℕ Fault → ByteOffset → Cursor → Answer AtomHead
power_head (Ok n) at c = Ok (Whole (power_inner n), c)
power_head (Err x) at c = Err (record { fault = x; at = at })

-- what the grammar says of an atom's head that begins with the token t, the cursor c standing behind t
abbrev pub HeadAt : (jets : List ℕ) → (t : Token) → (rest : List Token) → Cursor → Answer AtomHead → Type 0
HeadAt jets t rest c (Ok (Whole i, d)) = (x : Ty) × (type_head (checks_of jets) (t ∷ rest) ≡ got (whole x) rest) × LeafType x i × (d ≡ c)
HeadAt jets t rest c (Ok (Absent, d)) = (type_head (checks_of jets) (t ∷ rest) ≡ got (whole tree.absent) rest) × (d ≡ c)
HeadAt jets t rest c (Ok (Group, d)) = (type_head (checks_of jets) (t ∷ rest) ≡ got group rest) × (d ≡ c)
HeadAt jets t rest c (Err r) =
    (x : Fault) × (type_head (checks_of jets) (t ∷ rest) ≡ stop x (t ∷ rest)) × (r ≡ record { fault = x; at = record { 0 = t.start } })

-- the same where the cursor c stands before the tokens that are left
abbrev pub AtomHeadReads : (jets : List ℕ) → (end : ℕ) → Cursor → List Token → Answer AtomHead → Type 0
AtomHeadReads jets end c [] h = h ≡ Err (refusal_at end ParseFailed [])
AtomHeadReads jets end c (t ∷ rest) h = HeadAt jets t rest (stepped c) h

-- behind a type: a closing parenthesis
abbrev pub closed_type : (source tokens : List ℕ) → (n : ℕ) → Answer TypeNo → Answer TypeNo
closed_type s t n p = closed s t n (token.number token.rparen) p

abbrev pub operator_by : TypeNo → Cursor → List Token → Option (Op × TypeNo × Cursor)
operator_by l c [] = None
operator_by l c (t ∷ ts) =
    if eqb t.kind.0 (token.number token.plus) then Some (Plus, l, (stepped c))
    else if eqb t.kind.0 (token.number token.star) then Some (Star, l, (stepped c))
    else None

-- behind a type: an operator
unfoldable pub operator_at : (source tokens : List ℕ) → (n : ℕ) → Answer TypeNo → Option (Op × TypeNo × Cursor)
operator_at s t n (Ok (l, c)) = operator_by l c (tokens_left s t n c.token.0)
operator_at s t n (Err r) = None

abbrev pub op_inner : Op → (left right : TypeNo) → TypeInner
op_inner Plus l r = Sum l r
op_inner Star l r = Product l r

-- a type's number of 0 is an absent type
unfoldable pub operator_read : TypeNo → Answer TypeNo → Answer TypeNo
operator_read l (Ok (r, c)) =
    if eqb l.0 0 then Ok ((record { 0 = 0 }), c)
    else if eqb r.0 0 then Ok ((record { 0 = 0 }), c)
    else finished c
operator_read l (Err r) = Err r

unfoldable pub joined_table : Op → TypeNo → Answer TypeNo → List ℕ → List ℕ
joined_table o l (Ok (r, c)) old =
    if eqb l.0 0 then old
    else if eqb r.0 0 then old
    else written type_width old (next_number c.ty.0) (type_words (type_record_by (op_inner o l r)))
joined_table o l (Err r) old = old
