-- What begins at the cursor, by the token that was peeked. Assumes nothing.
use Prim.Native.Nat.{ℕ, ◌+◌}
use mathlib.Core.Path.{◌≡◌, sym, ap, subst, ◌∙◌}
use mathlib.Core.List.{List, ◌∷◌}
use lib.ListN.{length}
use Rattle.records.specs.declared.TokenRecord.{TokenRecord}
use Rattle.lex.specs.Tokens.{Token, record_of}
use Rattle.cursor.specs.declared.Cursor.{Cursor}
use Rattle.cursor.specs.Tokens.{token_of, token_at, tokens_left}
use Rattle.cursor.specs.Cursor.{stepped, peeked, Answer}
use Rattle.cursor.proofs.Laws.{left_next, token_again}
use Rattle.cursor.proofs.Reached.{some_left}
use Rattle.cursor.proofs.Steps.{ahead_next}
use Rattle.types.specs.Answers.{HeadAt, AtomHeadReads}
use Rattle.std.specs.Prelude.{Option, Some}
use Rattle.types.specs.declared.AtomHead.{AtomHead}

module _ (s t : List ℕ) (n : ℕ) (c : Cursor) (a : Option (TokenRecord × Cursor)) (f : a ≡ peeked c (tokens_left s t n c.token.0)) where
  pub head_next : (r : TokenRecord) (d : Cursor) (h : Answer AtomHead) → a ≡ Some (r, d) → ((jets : List ℕ) (rest : List Token) → r ≡ record_of (token_of s r) → HeadAt jets (token_of s r) rest d h) → (jets : List ℕ) → AtomHeadReads jets (length s) c (tokens_left s t n c.token.0) h
  head_next r d h g w jets =
      let x = ahead_next c a (tokens_left s t n c.token.0) r d f g in
      let below = some_left s t n c.token.0 x.0 x.1 x.2 in
      let first : token_at s t (c.token.0 + 1) ∷ tokens_left s t n (c.token.0 + 1) ≡ x.0 ∷ x.1 = sym (left_next s t n c.token.0 below) ∙ x.2 in
      let is : x.0 ≡ token_at s t (c.token.0 + 1) = cc in
      let again : token_of s r ≡ x.0 = ap (token_of s) x.3 ∙ ap (λ (u : Token). token_of s (record_of u)) is ∙ token_again s t (c.token.0 + 1) ∙ sym is in
      let own : r ≡ record_of (token_of s r) = x.3 ∙ ap record_of (sym again) in
      let here : HeadAt jets x.0 x.1 (stepped c) h = subst (λ (u : Token). HeadAt jets u x.1 (stepped c) h) again (subst (λ (q : Cursor). HeadAt jets (token_of s r) x.1 q h) x.4 (w jets x.1 own)) in
      subst (λ (ts : List Token). AtomHeadReads jets (length s) c ts h) (sym x.2) here
