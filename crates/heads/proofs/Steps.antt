-- The token that was peeked: it is that of the table, and its text fits. Assumes nothing.
use Rattle.std.specs.Prelude.{if◌then◌else◌, Option, Some}
use Prim.Native.Nat.{ℕ, ◌+◌, ◌≤◌}
use mathlib.Core.Bool.{Bool, true, false}
use mathlib.Core.Path.{◌≡◌, refl, sym, ap, ◌∙◌}
use mathlib.Core.List.{List, ◌∷◌}
use native.Mathlib.Omega.{arith}
use lib.Dec.{leb}
use lib.ListN.{length}
use borrow.Author.Tests.{leb-true}
use Rattle.records.specs.declared.TokenRecord.{TokenRecord}
use Rattle.lex.specs.Tokens.{record_of}
use Rattle.literals.specs.Literals.{span_text}
use Rattle.cursor.specs.declared.Cursor.{Cursor}
use Rattle.cursor.specs.Tokens.{token_at, tokens_left}
use Rattle.cursor.specs.Cursor.{stepped, peeked}
use Rattle.cursor.proofs.Laws.{text_length, left_next}
use Rattle.cursor.proofs.Reached.{some_left}
use Rattle.cursor.proofs.Steps.{ahead_next}

text_inside : (source : List ℕ) (a m : ℕ) → length (span_text source (record { start = record { 0 = a }; len = m })) ≤ length source
text_inside source a m = rw (text_length source a m) (go (leb (a + m) (length source)) refl)
  where
    go : (b : Bool) → leb (a + m) (length source) ≡ b → (if b then m else 0) ≤ length source
    go true e = omega (arith, leb-true (a + m) (length source) e)
    go false e = omega arith

module _ (source tokens : List ℕ) (n : ℕ) (c : Cursor) {a : Option (TokenRecord × Cursor)} (e : a ≡ peeked c (tokens_left source tokens n c.token.0)) (r : TokenRecord) (b : Cursor) (f : a ≡ Some (r, b)) where
  -- it is that of the table
  pub next_is : (tokens_left source tokens n c.token.0 ≡ token_at source tokens (c.token.0 + 1) ∷ tokens_left source tokens n (c.token.0 + 1)) × (r ≡ record_of (token_at source tokens (c.token.0 + 1))) × (b ≡ stepped c)
  next_is =
      let x = ahead_next c a (tokens_left source tokens n c.token.0) r b e f in
      let p = c.token.0 in
      let split = left_next source tokens n p (some_left source tokens n p x.0 x.1 x.2) in
      let same : token_at source tokens (p + 1) ∷ tokens_left source tokens n (p + 1) ≡ x.0 ∷ x.1 = sym split ∙ x.2 in
      let one : token_at source tokens (p + 1) ≡ x.0 = cc in
      (split, x.3 ∙ ap record_of (sym one), x.4)

  -- its text is no longer than the source
  pub text_fits : r.span.len ≤ length source
  unfolding token_at
  text_fits =
      let len : r.span.len ≡ length (token_at source tokens (c.token.0 + 1)).text = ap (λ (q : TokenRecord). q.span.len) next_is.1 in
      rw len (text_inside source _ _)
