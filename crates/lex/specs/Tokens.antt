-- Document 01, Tokens and Refusals: all tokens of a source, or refusal 4 or 5, whichever is met first from the left; before
-- them refusals 1, 2 and 3; and the token table.
use Rattle.std.specs.Prelude.{ℕ, zero, suc, pred, ◌*◌, List, [], ◌∷◌, ◌++◌, map, length, take, ltb, if◌then◌else◌, Err, Ok, Result}
use Rattle.records.specs.Limits.{source_limit, record_limit, token_width}
use Rattle.records.specs.Records.{token_words}
use Rattle.records.specs.Refusals.{Refused, short_table, long_source, not_utf8, no_token, too_many_tokens, row_of, row_by}
use Rattle.records.specs.declared.TokenRecord.{TokenRecord}
use Rattle.records.specs.declared.kinds.TokenKind.{TokenKind}
use Rattle.records.specs.declared.refusals.Refusal.{Refusal}
use Rattle.tables.specs.Tables.{table_of}
use Rattle.text.specs.Check.{check_text}
use Rattle.matches.specs.declared.Lexed.{Lexed}
use Rattle.matches.specs.declared.Lexed.TheVariants.{Token as OfKind, Skip, NoMatch}
use Rattle.matches.specs.Longest.{lex_at}
use Rattle.text.specs.declared.TextError.{TextError}
use Rattle.lex.specs.declared.LexError.{LexError}
use Rattle.lex.specs.declared.LexError.TheVariants.{LongSource, NoToken, NotUtf8, ShortTable, TooManyTokens}

-- ---- tokens

-- a token: its kind's number, where it starts, and its text
pub record Token : Type 0 where
  pub kind : TokenKind
  pub start : ℕ
  pub text : List ℕ

-- its record: kind, start, length
abbrev pub record_of : Token → TokenRecord
record_of t = record { kind = t.kind; span = record { start = record { 0 = t.start }; len = length t.text } }

-- ---- lexing

-- the tokens that were met, and how the lexing ended
pub record Lexing : Type 0 where
  pub tokens : List Token
  pub answer : Result ℕ LexError

abbrev pub ends : Result ℕ LexError → Lexing
ends a = record { tokens = []; answer = a }

abbrev pub behind_tokens : List Token → Lexing → Lexing
behind_tokens ts l = record { tokens = ts ++ l.tokens; answer = l.answer }

-- By what stands at the front of s, at the offset `at`, with `count` tokens before it. `skipped n` and `taken n` are what
-- follows behind n bytes.
abbrev pub step_by : Lexed → (s : List ℕ) → (at count : ℕ) → (skipped taken : ℕ → Lexing) → Lexing
step_by NoMatch s at count skipped taken = ends (Err (NoToken (record { 0 = at })))
step_by (Skip n) s at count skipped taken = skipped n
step_by (OfKind k n) s at count skipped taken =
    if ltb count record_limit then behind_tokens (record { kind = k; start = at; text = take n s } ∷ []) (taken n)
    else ends (Err (TooManyTokens (record { 0 = at })))

-- s stands at the offset `at`, with `skip` bytes of a match still to pass and `count` tokens before it
unfoldable pub lex_from : (at skip count : ℕ) → (s : List ℕ) → Lexing
lex_from at skip count [] = ends (Ok count)
lex_from at (suc skip) count (b ∷ s) = lex_from (suc at) skip count s
lex_from at zero count (b ∷ s) =
    step_by (lex_at (b ∷ s)) (b ∷ s) at count (λ n. lex_from (suc at) (pred n) count s) (λ n. lex_from (suc at) (pred n) (suc count) s)

abbrev pub lexing : (source : List ℕ) → Lexing
lexing source = lex_from 0 0 0 source

-- ---- the token table

-- the tokens that count: none after a refusal
abbrev pub kept : Result ℕ LexError → List Token → List Token
kept (Ok n) ts = ts
kept (Err e) ts = []

-- the rows of tokens
abbrev pub rows_of : List Token → List (List ℕ)
rows_of ts = map (λ (t : Token). token_words (record_of t)) ts

-- the table after a lexing
unfoldable pub token_table : Lexing → (old : List ℕ) → List ℕ
token_table l old = table_of token_width (rows_of (kept l.answer l.tokens)) old

-- ---- the answer for any source and any lent table: refusals 1, 2 and 3 first, in this order

abbrev checked : (source : List ℕ) → Result (Unit {0}) TextError → Result ℕ LexError
checked source (Ok _) = (lexing source).answer
checked source (Err at) = Err (NotUtf8 (record { 0 = at.at }))

unfoldable pub lex_all : (source old : List ℕ) → Result ℕ LexError
lex_all source old =
    if ltb (length old) (record_limit * token_width) then Err ShortTable
    else if ltb source_limit (length source) then Err LongSource
    else checked source (check_text source)

-- refusal 1 changes no word; 2 to 5 set the records to zero
abbrev pub left_by_error : LexError → (old : List ℕ) → List ℕ
left_by_error ShortTable old = old
left_by_error LongSource old = table_of token_width [] old
left_by_error (NotUtf8 at) old = table_of token_width [] old
left_by_error (NoToken at) old = table_of token_width [] old
left_by_error (TooManyTokens at) old = table_of token_width [] old

abbrev pub leaves : Result ℕ LexError → (source old : List ℕ) → List ℕ
leaves (Ok n) source old = token_table (lexing source) old
leaves (Err e) source old = left_by_error e old

-- ---- its row, and the count

-- the refusal that an error is
abbrev pub refused_of_lex : LexError → Refused
refused_of_lex ShortTable = short_table
refused_of_lex LongSource = long_source
refused_of_lex (NotUtf8 at) = not_utf8 at.0
refused_of_lex (NoToken at) = no_token at.0
refused_of_lex (TooManyTokens at) = too_many_tokens at.0

abbrev pub row_of_lex_error : LexError → Refusal
row_of_lex_error e = row_of (refused_of_lex e)

abbrev pub row_of_lex : Result ℕ LexError → Refusal
row_of_lex a = row_by row_of_lex_error a

abbrev pub count_of : Result ℕ LexError → ℕ
count_of (Ok n) = n
count_of (Err e) = 0
