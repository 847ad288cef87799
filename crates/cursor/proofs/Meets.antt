-- A token that has to come: the grammar's `expect` and the code's, side by side. Assumes nothing.
use Prim.Native.Nat.{ℕ}
use mathlib.Core.Bool.{Bool, true, false}
use mathlib.Core.Path.{◌≡◌, refl}
use mathlib.Core.List.{List, [], ◌∷◌}
use lib.Dec.{eqb}
use Rattle.records.specs.TokenKind as token
use Rattle.lex.specs.Tokens.{Token}
use Rattle.checks.specs.declared.Fault.TheVariants.{ParseFailed}
use Rattle.grammar.specs.Rule.{got, stop, one_of, expect}
use Rattle.cursor.specs.declared.Cursor.{Cursor}
use Rattle.cursor.specs.Cursor.{refusal_at, stepped, expected}
use Rattle.std.specs.Prelude.{Err, Ok}

-- the token comes, and both pass it; or both refuse what comes
pub data Meets (end : ℕ) (k : token.Kind) (c : Cursor) (ts : List Token) : Type 0 where
  passes : (u : Token) (rest : List Token) → ts ≡ u ∷ rest → expect k ts ≡ got u rest → expected end c (token.number k) ts ≡ Ok (stepped c) → Meets end k c ts
  refuses : expect k ts ≡ stop ParseFailed ts → expected end c (token.number k) ts ≡ Err (refusal_at end ParseFailed ts) → Meets end k c ts

pub meets : (end : ℕ) (k : token.Kind) (c : Cursor) (ts : List Token) → Meets end k c ts
unfolding one_of expected
meets end k c [] = refuses refl refl
meets end k c (u ∷ rest) = go (eqb u.kind.0 (token.number k)) refl
  where
    go : (b : Bool) → eqb u.kind.0 (token.number k) ≡ b → Meets end k c (u ∷ rest)
    go true e = passes u rest refl (rw e) (rw e)
    go false e = refuses (rw e) (rw e)
