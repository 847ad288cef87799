-- Document 01's tests at their limits, by computing. Assumes nothing.
use Prim.Native.Nat.{ℕ}
use Prim.Native.String.{String}
use mathlib.Core.Bool.{true, false}
use mathlib.Core.Path.{◌≡◌, refl}
use mathlib.Core.List.{List, [], ◌∷◌, map}
use Rattle.records.specs.Base.{bytes}
use Rattle.checks.specs.declared.Fault.TheVariants.{BadWordLength, EntropyInsufficient, EntropyTooMuch, Bad2ExpNumber, NumberOutOfRange}
use Rattle.checks.specs.Powers.{log2, number_from}
use Rattle.checks.specs.Jets.{pieces, same, is_one_of, known}
use Rattle.checks.specs.Checks.{word_verdict, fail_verdict, power_verdict}
use Rattle.checks.specs.declared.Fault.{Fault}
use Rattle.std.specs.Prelude.{Err, Ok, Result}

-- ---- exponents: 18446744073709551618 is 2^64 + 2

pub record PowerExample : Type 0 where
  pub text : String
  pub verdict : Result ℕ Fault

abbrev power : String → Result ℕ Fault → PowerExample
power t v = record { text = t; verdict = v }

abbrev pub powers : List PowerExample
powers =
    power "2^1" (Ok 0)
    ∷ power "2^2" (Ok 1)
    ∷ power "2^512" (Ok 9)
    ∷ power "2^3" (Err (Bad2ExpNumber 3))
    ∷ power "2^1024" (Err (Bad2ExpNumber 1024))
    ∷ power "2^4294967295" (Err (Bad2ExpNumber 4294967295))
    ∷ power "2^4294967296" (Err NumberOutOfRange)
    ∷ power "2^18446744073709551618" (Err NumberOutOfRange)
    ∷ []

pub powers_hold : map (λ (e : PowerExample). power_verdict (bytes e.text)) powers ≡ map (λ (e : PowerExample). e.verdict) powers
unfolding power_verdict number_from log2
powers_hold = refl

-- ---- bit lengths

pub words_hold : map word_verdict (0 ∷ 1 ∷ 3 ∷ 4 ∷ []) ≡ Err (BadWordLength 0) ∷ Ok tt ∷ Err (BadWordLength 3) ∷ Ok tt ∷ []
unfolding word_verdict log2
words_hold = refl

pub fails_hold : map fail_verdict (0 ∷ 127 ∷ 128 ∷ 512 ∷ 513 ∷ []) ≡ Err (EntropyInsufficient 0) ∷ Err (EntropyInsufficient 127) ∷ Ok tt ∷ Ok tt ∷ Err (EntropyTooMuch 513) ∷ []
unfolding fail_verdict
fails_hold = refl

-- ---- jets, by their texts

abbrev pub jet_list : List ℕ
jet_list = bytes "add_8\n\none\nlast"

pub jets_hold : map (λ (t : String). known jet_list (bytes t)) ("jet_add_8" ∷ "jet_last" ∷ "jet_one" ∷ "jet_" ∷ "jet_on" ∷ "jet_onel" ∷ "jet_add_8\n" ∷ []) ≡ true ∷ true ∷ true ∷ true ∷ false ∷ false ∷ false ∷ []
unfolding known is_one_of pieces same
jets_hold = refl
