-- Document 01, Refusals 4 and 5: whichever is met first from the left. The text before the place is cut into skips and tokens,
-- each the longest match where it stands in the whole text (proofs/Cuts.antt: `no_token_exactly`, `too_many_exactly`).
use Rattle.std.specs.Prelude.{ℕ, ◌+◌, ◌≤◌, ◌<◌, ◌≡◌, List, [], ◌∷◌, ◌++◌, length}
use Rattle.records.specs.Limits.{record_limit}
use Rattle.records.specs.declared.kinds.TokenKind.{TokenKind}
use Rattle.matches.specs.declared.Lexed.TheVariants.{Token as OfKind, Skip}
use Rattle.matches.specs.Rows.{Row, rows}
use Rattle.matches.specs.Longest.{lex_at}
use Rattle.matches.specs.Sets.{Front, Among}
use Rattle.lex.specs.Tokens.{Token}

-- `front`, which stands at the offset `at` and has `rest` behind it, is the texts of skips and of these tokens, in order. With
-- nothing behind it this is Tiles (crate lex, specs/Tiles.antt).
pub data Cut : (at : ℕ) → (front rest : List ℕ) → List Token → Type 0 where
  end : {at : ℕ} {rest : List ℕ} → Cut at [] rest []
  skip : {at : ℕ} (w s : List ℕ) {rest : List ℕ} {ts : List Token} → 0 < length w → lex_at (w ++ (s ++ rest)) ≡ Skip (length w) → Cut (at + length w) s rest ts → Cut at (w ++ s) rest ts
  token : {at : ℕ} (t : Token) (s : List ℕ) {rest : List ℕ} {ts : List Token} → t.start ≡ at → 0 < length t.text → lex_at (t.text ++ (s ++ rest)) ≡ OfKind t.kind (length t.text) → Cut (at + length t.text) s rest ts → Cut at (t.text ++ s) rest (t ∷ ts)

-- the source is cut up to the offset p, into skips and these tokens
pub record CutUpTo (source : List ℕ) (p : ℕ) (rest : List ℕ) (ts : List Token) : Type 0 where
  pub front : List ℕ
  pub whole : source ≡ front ++ rest
  pub place : length front ≡ p
  pub cut : Cut 0 front rest ts

-- refusal 4 at the byte p: no token or skip matches there, and no 1,025th token stands before it
pub record NothingMatches (source : List ℕ) (p : ℕ) : Type 0 where
  pub rest : List ℕ
  pub tokens : List Token
  pub before : CutUpTo source p rest tokens
  pub few : length tokens ≤ record_limit
  pub some : 0 < length rest
  pub none : (r : Row) → Among r rows → (n : ℕ) → Front r rest n → ⊥

-- refusal 5 at the byte p: a token begins there, behind 1,024 tokens
pub record TokenTooMany (source : List ℕ) (p : ℕ) : Type 0 where
  pub rest : List ℕ
  pub tokens : List Token
  pub before : CutUpTo source p rest tokens
  pub full : length tokens ≡ record_limit
  pub kind : TokenKind
  pub size : ℕ
  pub next : lex_at rest ≡ OfKind kind size
