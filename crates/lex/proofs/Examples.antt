-- Document 01's examples of tokens, and some more, by computing. Assumes nothing.
use Prim.Native.Nat.{ℕ}
use Prim.Native.String.{String}
use mathlib.Core.Path.{◌≡◌, refl}
use mathlib.Core.List.{List, [], ◌∷◌, map}
use lib.ListN.{length}
use Rattle.records.specs.Base.{bytes}
use Rattle.records.specs.TokenKind as token
use Rattle.classes.specs.Classes.{starts, run}
use Rattle.matches.specs.Longest.{match_len, best, lex_at}
use Rattle.lex.specs.Tokens.{lex_from, lexing, rows_of}
use Rattle.lex.specs.declared.LexError.{LexError}
use Rattle.lex.specs.declared.LexError.TheVariants.{NoToken}
use Rattle.std.specs.Prelude.{Err, Ok, Result}

-- a source, the rows of its tokens, and how lexing ends
pub record Example : Type 0 where
  pub source : String
  pub rows : List (List ℕ)
  pub answer : Result ℕ LexError

abbrev pub lexes : String → List (List ℕ) → Example
lexes s rs = record { source = s; rows = rs; answer = Ok (length rs) }

abbrev pub stops : String → List (List ℕ) → ℕ → Example
stops s rs at = record { source = s; rows = rs; answer = Err (NoToken (record { 0 = at })) }

-- kind, start, length
abbrev tok : token.Kind → (start size : ℕ) → List ℕ
tok k at n = token.number k ∷ at ∷ n ∷ []

abbrev pub examples : List Example
examples =
    lexes "" []
    ∷ stops "a->b" (tok token.symbol 0 2 ∷ []) 2
    ∷ lexes "a--b" (tok token.symbol 0 4 ∷ [])
    ∷ lexes "--b" []
    ∷ lexes "jet_A" (tok token.symbol 0 5 ∷ [])
    ∷ lexes "jet_a" (tok token.jet 0 5 ∷ [])
    ∷ stops "2^0" (tok token.two 0 1 ∷ []) 1
    ∷ lexes "2^10" (tok token.power 0 4 ∷ [])
    ∷ stops "0b" [] 0
    ∷ stops "0b12^" (tok token.bin 0 3 ∷ tok token.two 3 1 ∷ []) 4
    ∷ lexes "_-" (tok token.symbol 0 2 ∷ [])
    ∷ lexes "main := pair a iden\na := unit\n"
    (tok token.symbol 0 4 ∷ tok token.assign 5 2 ∷ tok token.pair 8 4 ∷ tok token.symbol 13 1 ∷ tok token.iden 15 4
    ∷ tok token.symbol 20 1 ∷ tok token.assign 22 2 ∷ tok token.unit 25 4 ∷ [])
    ∷ []

pub rows_hold : map (λ (e : Example). rows_of (lexing (bytes e.source)).tokens) examples ≡ map (λ (e : Example). e.rows) examples
unfolding lex_from lex_at best match_len starts run
rows_hold = refl

pub answers_hold : map (λ (e : Example). (lexing (bytes e.source)).answer) examples ≡ map (λ (e : Example). e.answer) examples
unfolding lex_from lex_at best match_len starts run
answers_hold = refl
