-- Document 01, Refusals: the table.
use Rattle.std.specs.Prelude.{ℕ, Result, Ok, Err}
use Rattle.records.specs.declared.refusals.Refusal.{Refusal}

-- one case for each refusal, in the order they are looked for; `at` is a byte offset, end of source is the source's length
pub data Refused : Type 0 where
  short_table : Refused
  long_source : Refused
  not_utf8 : (at : ℕ) → Refused
  no_token : (at : ℕ) → Refused
  too_many_tokens : (at : ℕ) → Refused
  parse_failed : (at : ℕ) → Refused
  bad_word_length : (at bits : ℕ) → Refused
  short_fail : (at bits : ℕ) → Refused
  long_fail : (at bits : ℕ) → Refused
  unknown_jet : (at : ℕ) → Refused
  bad_power : (at exponent : ℕ) → Refused
  big_exponent : (at : ℕ) → Refused
  too_deep : (at : ℕ) → Refused

-- a row: No., place, number
abbrev pub refusal_row : (no place value : ℕ) → Refusal
refusal_row n p v = record { no = n; value = v; place = p }

-- the answer is no refusal
abbrev pub no_row : Refusal
no_row = refusal_row 0 0 0

-- an answer's row, by the row of why it is refused
abbrev pub row_by : {T E : Type 0} → (E → Refusal) → Result T E → Refusal
row_by f (Ok x) = no_row
row_by f (Err e) = f e

abbrev pub row_of : Refused → Refusal
row_of short_table = refusal_row 1 0 0
row_of long_source = refusal_row 2 0 0
row_of (not_utf8 at) = refusal_row 3 at 0
row_of (no_token at) = refusal_row 4 at 0
row_of (too_many_tokens at) = refusal_row 5 at 0
row_of (parse_failed at) = refusal_row 6 at 0
row_of (bad_word_length at bits) = refusal_row 7 at bits
row_of (short_fail at bits) = refusal_row 8 at bits
row_of (long_fail at bits) = refusal_row 9 at bits
row_of (unknown_jet at) = refusal_row 10 at 0
row_of (bad_power at exponent) = refusal_row 11 at exponent
row_of (big_exponent at) = refusal_row 12 at 0
row_of (too_deep at) = refusal_row 13 at 0
