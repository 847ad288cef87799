-- Document 01, Tokens, as one statement on a whole text: it is cut into tokens and skips, each the longest match where it
-- stands (proofs/Tiling.antt: `tiling`, `tiles_lexed`).
use Rattle.std.specs.Prelude.{ℕ, ◌+◌, ◌≤◌, ◌<◌, ◌≡◌, List, [], ◌∷◌, ◌++◌, length, take, drop}
use Rattle.matches.specs.declared.Lexed.TheVariants.{Token as OfKind, Skip}
use Rattle.matches.specs.Longest.{lex_at}
use Rattle.lex.specs.Tokens.{Token}

-- s, which stands at the offset `at`, is the texts of skips and of these tokens, in order
pub data Tiles : (at : ℕ) → (s : List ℕ) → List Token → Type 0 where
  end : {at : ℕ} → Tiles at [] []
  skip : {at : ℕ} (w s : List ℕ) {ts : List Token} → 0 < length w → lex_at (w ++ s) ≡ Skip (length w) → Tiles (at + length w) s ts → Tiles at (w ++ s) ts
  token : {at : ℕ} (t : Token) (s : List ℕ) {ts : List Token} → t.start ≡ at → 0 < length t.text → lex_at (t.text ++ s) ≡ OfKind t.kind (length t.text) → Tiles (at + length t.text) s ts → Tiles at (t.text ++ s) (t ∷ ts)

-- tokens in order, none empty, without overlap, the first not before `at`
abbrev pub InOrder : (at : ℕ) → List Token → Type 0
InOrder at [] = Unit {0}
InOrder at (t ∷ ts) = (at ≤ t.start) × (0 < length t.text) × InOrder (t.start + length t.text) ts

-- each token is a part of the source
abbrev pub Inside : (source : List ℕ) → List Token → Type 0
Inside source [] = Unit {0}
Inside source (t ∷ ts) =
    (t.start + length t.text ≤ length source) × (t.text ≡ take (length t.text) (drop t.start source)) × Inside source ts
