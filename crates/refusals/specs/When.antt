-- Document 01, Refusals: when each one comes, in the order they are looked for. proofs/When.antt: the reading is this refusal exactly
-- when its condition holds.
use Rattle.std.specs.Prelude.{ℕ, ◌≤◌, ◌<◌, ◌≡◌, true, false, List, length}
use Rattle.records.specs.Limits.{source_limit, record_limit}
use Rattle.records.specs.Refusals as refusal
use Rattle.text.specs.Utf8.{Utf8, BadPlace}
use Rattle.lex.specs.Tokens.{Token}
use Rattle.lex.specs.Tiles.{Tiles}
use Rattle.checks.specs.declared.Fault.{Fault}
use Rattle.checks.specs.declared.Fault.TheVariants.{ParseFailed, BadWordLength, EntropyInsufficient, EntropyTooMuch, UnknownJet, Bad2ExpNumber, NumberOutOfRange, TooDeep}
use Rattle.checks.specs.Checks.{checks_of}
use Rattle.cursor.specs.Cursor.{place_of_left}
use Rattle.grammar.specs.Tree.{Line}
use Rattle.grammar.specs.Derives.{IsFile}
use Rattle.reader.specs.Reading.{Contents, contents, Tables, short_to_read}
use Rattle.refusals.specs.Refuses.{NoFile, RefusedAt}
use Rattle.refusals.specs.Events.{Event}
use Rattle.refusals.specs.Cuts.{NothingMatches, TokenTooMany}

module _ (source jets : List ℕ) (old : Tables) where
  -- neither 1 nor 2: every table has its 1,024 records, and the source is not too long
  abbrev pub Small : Type 0
  Small = (short_to_read old ≡ false) × (length source ≤ source_limit)

  -- nor 3
  abbrev pub Valid : Type 0
  Valid = Small × Utf8 source

  -- nor 4 or 5: the source is cut into these tokens
  abbrev pub Lexed : List Token → Type 0
  Lexed ts = Valid × Tiles 0 source ts × (length ts ≤ record_limit)

  -- 6 to 13, the first met in reading order: the tokens before the place are accepted, and at the place stands what the fault says
  pub record Stops (x : Fault) (place : ℕ) : Type 0 where
    pub tokens : List Token
    pub lexed : Lexed tokens
    pub left : List Token
    pub first : place_of_left (length source) left ≡ place
    pub rule : RefusedAt (λ front rest y. NoFile (checks_of jets) front rest y × Event jets front rest y) tokens left x

  abbrev pub When : refusal.Refused → Type 0
  When refusal.short_table = short_to_read old ≡ true
  When refusal.long_source = (short_to_read old ≡ false) × (source_limit < length source)
  When (refusal.not_utf8 at) = Small × BadPlace source at
  When (refusal.no_token at) = Valid × NothingMatches source at
  When (refusal.too_many_tokens at) = Valid × TokenTooMany source at
  When (refusal.parse_failed at) = Stops ParseFailed at
  When (refusal.bad_word_length at bits) = Stops (BadWordLength bits) at
  When (refusal.short_fail at bits) = Stops (EntropyInsufficient bits) at
  When (refusal.long_fail at bits) = Stops (EntropyTooMuch bits) at
  When (refusal.unknown_jet at) = Stops UnknownJet at
  When (refusal.bad_power at exponent) = Stops (Bad2ExpNumber exponent) at
  When (refusal.big_exponent at) = Stops NumberOutOfRange at
  When (refusal.too_deep at) = Stops TooDeep at

  -- no refusal: the source is cut into tokens that derive these lines
  pub record Accepted (c : Contents) : Type 0 where
    pub tokens : List Token
    pub lexed : Lexed tokens
    pub lines : List Line
    pub derived : IsFile (checks_of jets) tokens lines
    pub said : c ≡ contents tokens lines
