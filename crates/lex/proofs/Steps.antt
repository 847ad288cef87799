-- One step of the lexer: what the code has after `lex_one`. Assumes nothing.
use Prim.Native.Nat.{ℕ, ◌+◌, ◌-◌, ◌≤◌, ◌<◌}
use mathlib.Core.Path.{◌≡◌, refl, sym, ap, ◌∙◌}
use mathlib.Core.List.{List}
use native.Mathlib.Omega.{arith}
use lib.ListN.{length, take, drop, length-drop}
use borrow.Author.Tests.{lt-ltb, le-ltb}
use Rattle.records.specs.Limits.{record_limit, token_width}
use Rattle.records.specs.declared.kinds.TokenKind.{TokenKind}
use Rattle.tables.specs.Tables.{written}
use Rattle.classes.proofs.Laws.{part_rest}
use Rattle.matches.specs.declared.Lexed.{Lexed}
use Rattle.matches.specs.declared.Lexed.TheVariants.{Token as OfKind, Skip, NoMatch}
use Rattle.matches.specs.Longest.{lex_at}
use Rattle.matches.proofs.Sizes.{Sized, match_sized}
use Rattle.lex.specs.Code.{next_of, token_row, table_next}
use Rattle.lex.specs.declared.LexError.TheVariants.{NoToken, TooManyTokens}
use Rattle.std.specs.Prelude.{Err, Ok}

-- ---- what stands at `at`, as `lex_one` said of the part from there on

module _ (s : List ℕ) (at : ℕ) where
  pub asked : (r x : Lexed) → r ≡ lex_at (take (length s - at) (drop at s)) → r ≡ x → lex_at (drop at s) ≡ x
  asked r x e f = ap lex_at (sym (part_rest s at)) ∙ sym e ∙ f

  module _ (h : at < length s) where
    pub skip_fits : (n : ℕ) → lex_at (drop at s) ≡ Skip n → (0 < n) × (at + n ≤ length s)
    skip_fits n e =
        let z : Sized (drop at s) (Skip n) = rw e at (match_sized (drop at s)) in
        (z.0, omega (arith, z.1, length-drop at s))

    pub token_fits : (k : TokenKind) (n : ℕ) → lex_at (drop at s) ≡ OfKind k n → (0 < n) × (at + n ≤ length s)
    token_fits k n e =
        let z : Sized (drop at s) (OfKind k n) = rw e at (match_sized (drop at s)) in
        (z.0, omega (arith, z.1, length-drop at s))

-- ---- where lexing goes on, and the table then

module _ (l : Lexed) (at count : ℕ) (t : List ℕ) where
  pub next_none : l ≡ NoMatch → ((Err (NoToken (record { 0 = at }))) ≡ next_of l at count) × (t ≡ table_next l at count t)
  next_none e = rw e (refl, refl)

  pub next_skip : (n : ℕ) → l ≡ Skip n → (Ok ((at + n), count) ≡ next_of l at count) × (t ≡ table_next l at count t)
  next_skip n e = rw e (refl, refl)

  pub next_full : (k : TokenKind) (n : ℕ) → l ≡ OfKind k n → record_limit ≤ count → ((Err (TooManyTokens (record { 0 = at }))) ≡ next_of l at count) × (t ≡ table_next l at count t)
  next_full k n e h = rw (e, le-ltb count record_limit h) (refl, refl)

  pub next_token : (k : TokenKind) (n : ℕ) (new : List ℕ) → l ≡ OfKind k n → count < record_limit → new ≡ written token_width t (count + 1) (token_row k at n) → (Ok ((at + n), (count + 1)) ≡ next_of l at count) × (new ≡ table_next l at count t)
  next_token k n new e h w = rw (e, lt-ltb count record_limit h) (refl, w)

-- a record written by its words
pub by_words : (t new : List ℕ) (n : ℕ) (ws vs : List ℕ) → new ≡ written token_width t n ws → ws ≡ vs → new ≡ written token_width t n vs
by_words t new n ws vs e f = e ∙ ap (written token_width t n) f
