-- Document 01, Grammar: what the grammar answers. A tree holds a token where a text is needed, and `at`, the start of its
-- keyword, where a place is. Parentheses leave no trace.
use Rattle.std.specs.Prelude.{ℕ, Bool, true, false, ◌&&◌}
use Rattle.std.proofs.Math.Option.{Option, none, some}
use Rattle.records.specs.TokenKind as token
use Rattle.lex.specs.Tokens.{Token}

-- ---- expressions

-- keywords with no, one or two expressions behind them
pub data Nullary : Type 0 where
  unit iden witness : Nullary

pub data Unary : Type 0 where
  injl injr take drop : Unary

pub data Binary : Type 0 where
  disconnect case comp pair : Binary

-- their tokens
abbrev pub nullary_token : Nullary → token.Kind
nullary_token unit = token.unit
nullary_token iden = token.iden
nullary_token witness = token.witness

abbrev pub unary_token : Unary → token.Kind
unary_token injl = token.injl
unary_token injr = token.injr
unary_token take = token.take
unary_token drop = token.drop

abbrev pub binary_token : Binary → token.Kind
binary_token disconnect = token.disconnect
binary_token case = token.case
binary_token comp = token.comp
binary_token pair = token.pair

-- A CMR is either an expression in `#{ }` or a literal, and an assertion holds one or the other.
mutual
  pub data Expr : Type 0 where
    nullary : Nullary → (at : ℕ) → Expr
    unary : Unary → (at : ℕ) → (child : Expr) → Expr
    binary : Binary → (at : ℕ) → (left right : Expr) → Expr
    assertl : (at : ℕ) → Expr → Cmr → Expr
    assertr : (at : ℕ) → Cmr → Expr → Expr
    hole : (name : Token) → Expr
    const : (literal : Token) → Expr
    fail : (at : ℕ) → (literal : Token) → Expr
    jet : Token → Expr
    ref : (name : Token) → Expr

  pub data Cmr : Type 0 where
    inside : Expr → Cmr
    literal : Token → Cmr

-- ---- types

-- `+` and `*`
pub data Op : Type 0 where
  sum product : Op

abbrev pub op_token : Op → token.Kind
op_token sum = token.plus
op_token product = token.star

-- `_` is absent; 2^e with e = 2^n, n above 0, is `power n`, and 2^1 is `two`
pub data Ty : Type 0 where
  absent one two : Ty
  name : Token → Ty
  power : (n : ℕ) → Ty
  op : Op → (left right : Ty) → Ty

-- an absent operand (`_`) makes the whole sum or product absent
unfoldable pub present : Ty → Bool
present absent = false
present one = true
present two = true
present (name x) = true
present (power n) = true
present (op o l r) = present l && present r

-- ---- lines

-- an arrow is type `->` type
pub record Arrow : Type 0 where
  pub source : Ty
  pub target : Ty

-- A line is a name, then `:=`, an expression and perhaps `:` and an arrow; or a name, `:` and an arrow.
pub record Line : Type 0 where
  pub name : Token
  pub expression : Option Expr
  pub arrow : Option Arrow

abbrev pub arrow_or : Option Arrow → Arrow
arrow_or none = record { source = absent; target = absent }
arrow_or (some a) = a

-- the two types of a line, absent where it has no arrow
abbrev pub types_of : Line → Arrow
types_of l = arrow_or l.arrow
