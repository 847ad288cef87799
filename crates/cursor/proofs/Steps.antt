-- What the token that was peeked says of those that are left, and the number behind one below the limit. Assumes nothing.
use Rattle.std.specs.Prelude.{None, Option, Some}
use Prim.Native.Nat.{ℕ, ◌+◌, ◌<◌}
use mathlib.Core.Path.{◌≡◌, refl, sym, ◌∙◌}
use mathlib.Core.List.{List, [], ◌∷◌}
use native.Mathlib.Omega.{arith}
use borrow.Author.Tests.{lt-ltb}
use Rattle.records.specs.Limits.{record_limit}
use Rattle.records.specs.declared.TokenRecord.{TokenRecord}
use Rattle.lex.specs.Tokens.{Token, record_of}
use Rattle.cursor.specs.declared.Cursor.{Cursor}
use Rattle.cursor.specs.Cursor.{next_number, stepped, peeked}
use Rattle.records.proofs.Pairs.{some_parts}

-- what is ahead says whether a token is left, and which
module _ (c : Cursor) (a : Option (TokenRecord × Cursor)) where
  pub ahead_end : (ts : List Token) → a ≡ peeked c ts → a ≡ None → ts ≡ []
  ahead_end [] e f = refl
  ahead_end (t ∷ ts) e f =
      let z : ◌≡◌ {A = Option (TokenRecord × Cursor)} (Some (record_of t, stepped c)) None = sym e ∙ f in
      let y : ◌≡◌ {A = ℕ} 0 1 = cc in
      absurd (omega arith)

  pub ahead_next : (ts : List Token) (r : TokenRecord) (b : Cursor) → a ≡ peeked c ts → a ≡ Some (r, b) → (t : Token) × (rest : List Token) × (ts ≡ t ∷ rest) × (r ≡ record_of t) × (b ≡ stepped c)
  ahead_next [] r b e f =
      let z : ◌≡◌ {A = Option (TokenRecord × Cursor)} None (Some (r, b)) = sym e ∙ f in
      let y : ◌≡◌ {A = ℕ} 0 1 = cc in
      absurd (omega arith)
  ahead_next (t ∷ ts) r b e f = let z = some_parts (sym f ∙ e) in (t, ts, refl, z.0, z.1)

pub next_below : {n : ℕ} → n < record_limit → n + 1 ≡ next_number n
unfolding next_number
next_below {n} h = rw (lt-ltb n record_limit h)
