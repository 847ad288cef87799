-- One step of the code: where lexing goes on, and the table then. No rules of its own: proofs/Going.antt shows that the steps
-- give the tokens of `lexing`.
use Rattle.std.specs.Prelude.{ℕ, ◌+◌, List, ltb, if◌then◌else◌, Err, Ok, Result}
use Rattle.records.specs.Limits.{record_limit, token_width}
use Rattle.records.specs.Records.{token_words}
use Rattle.records.specs.declared.TokenRecord.{TokenRecord}
use Rattle.records.specs.declared.kinds.TokenKind.{TokenKind}
use Rattle.tables.specs.Tables.{written}
use Rattle.matches.specs.declared.Lexed.{Lexed}
use Rattle.matches.specs.declared.Lexed.TheVariants.{Token as OfKind, Skip, NoMatch}
use Rattle.lex.specs.declared.LexError.{LexError}
use Rattle.lex.specs.declared.LexError.TheVariants.{NoToken, TooManyTokens}

-- where lexing goes on, or how it ends, by what stands at `at` with `count` tokens before it
abbrev pub next_of : Lexed → (at count : ℕ) → Result (ℕ × ℕ) LexError
next_of NoMatch at count = Err (NoToken (record { 0 = at }))
next_of (Skip n) at count = Ok ((at + n), count)
next_of (OfKind k n) at count = if ltb count record_limit then Ok ((at + n), (count + 1)) else Err (TooManyTokens (record { 0 = at }))

-- a token's record, and its words
abbrev pub token_record : TokenKind → (at n : ℕ) → TokenRecord
token_record k at n = record { kind = k; span = record { start = record { 0 = at }; len = n } }

abbrev pub token_row : TokenKind → (at n : ℕ) → List ℕ
token_row k at n = token_words (token_record k at n)

-- the table then
abbrev pub table_next : Lexed → (at count : ℕ) → List ℕ → List ℕ
table_next NoMatch at count t = t
table_next (Skip n) at count t = t
table_next (OfKind k n) at count t = if ltb count record_limit then written token_width t (count + 1) (token_row k at n) else t
