-- Document 01, Refusals 7 to 12: the tests on a token's kind and text. They are one record, so that the grammar knows neither
-- the jet list nor what a text says; and the row of the table of refusals for each fault of the grammar.
use Rattle.std.specs.Prelude.{ℕ, List, length, ltb, if◌then◌else◌, Err, None, Ok, Option, Result, Some}
use Rattle.records.specs.Refusals.{Refused, parse_failed, bad_word_length, short_fail, long_fail, unknown_jet, bad_power, big_exponent, too_deep}
use Rattle.records.specs.declared.kinds.TokenKind.{TokenKind}
use Rattle.literals.specs.Literals.{bit_length}
use Rattle.checks.specs.declared.Fault.{Fault}
use Rattle.checks.specs.declared.Fault.TheVariants.{ParseFailed, BadWordLength, EntropyInsufficient, EntropyTooMuch, UnknownJet, Bad2ExpNumber, NumberOutOfRange, TooDeep}
use Rattle.checks.specs.Powers.{log2, exponent_of}
use Rattle.checks.specs.Jets.{known}

-- ---- faults

-- the refusal for a fault of the grammar, with its place
abbrev pub refused_at : (at : ℕ) → Fault → Refused
refused_at at ParseFailed = parse_failed at
refused_at at (BadWordLength bits) = bad_word_length at bits
refused_at at (EntropyInsufficient bits) = short_fail at bits
refused_at at (EntropyTooMuch bits) = long_fail at bits
refused_at at UnknownJet = unknown_jet at
refused_at at (Bad2ExpNumber e) = bad_power at e
refused_at at NumberOutOfRange = big_exponent at
refused_at at TooDeep = too_deep at

-- ---- tests

-- a test on a token's kind and text
pub record Checks : Type 0 where
  pub word : TokenKind → List ℕ → (Result (Unit {0}) Fault)  -- the literal of `const`
  pub fail : TokenKind → List ℕ → (Result (Unit {0}) Fault)  -- the literal of `fail`
  pub jet : List ℕ → Result (Unit {0}) Fault
  pub power : List ℕ → (Result ℕ Fault)  -- gives n for 2^e with e = 2^n

-- no source has a literal of so many bits
abbrev pub word_bound : ℕ
word_bound = 32

abbrev pub word_by : (bits : ℕ) → Option ℕ → Result (Unit {0}) Fault
word_by bits (Some k) = Ok tt
word_by bits None = Err (BadWordLength bits)

-- refusal 7: `const` takes a bit length that is a power of two
unfoldable pub word_verdict : (bits : ℕ) → Result (Unit {0}) Fault
word_verdict bits = word_by bits (log2 word_bound bits)

-- refusals 8 and 9: `fail` takes 128 to 512 bits
unfoldable pub fail_verdict : (bits : ℕ) → Result (Unit {0}) Fault
fail_verdict bits =
    if ltb bits 128 then Err (EntropyInsufficient bits)
    else if ltb 512 bits then Err (EntropyTooMuch bits)
    else Ok tt

-- refusal 10: a jet has to be known
unfoldable pub jet_verdict : (jets text : List ℕ) → Result (Unit {0}) Fault
jet_verdict jets text = if known jets text then Ok tt else Err UnknownJet

abbrev pub power_by : (exponent : ℕ) → Option ℕ → Result ℕ Fault
power_by e (Some n) = Ok n
power_by e None = Err (Bad2ExpNumber e)

-- refusals 12 and 11: a `2^` exponent is 1 or 2, 4, 8 up to 512
unfoldable pub power_verdict : (text : List ℕ) → Result ℕ Fault
power_verdict text =
    if ltb 4294967295 (exponent_of text) then Err NumberOutOfRange
    else power_by (exponent_of text) (log2 10 (exponent_of text))

-- document 01's tests, for a jet list
abbrev pub checks_of : (jets : List ℕ) → Checks
checks_of jets =
    record {
      word = λ k text. word_verdict (bit_length k (length text));
      fail = λ k text. fail_verdict (bit_length k (length text));
      jet = jet_verdict jets;
      power = power_verdict;
    }
