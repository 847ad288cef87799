-- The examples of RFC 3629, sections 7 and 10, by computing. Assumes nothing.
use Prim.Native.Nat.{ℕ}
use mathlib.Core.Path.{◌≡◌, refl}
use mathlib.Core.List.{List, [], ◌∷◌, map}
use Rattle.text.specs.Check.{bad_at, char_len, check_from, check_text}
use Rattle.std.specs.Prelude.{Ok, Result}
use Rattle.text.specs.declared.TextError.{TextError}

pub record Example : Type 0 where
  pub bytes : List ℕ
  pub answer : Result (Unit {0}) TextError

abbrev pub gives : List ℕ → Result (Unit {0}) TextError → Example
gives s a = record { bytes = s; answer = a }

abbrev pub examples : List Example
examples =
    -- U+0041 U+2262 U+0391 U+002E
    gives (0x41 ∷ 0xE2 ∷ 0x89 ∷ 0xA2 ∷ 0xCE ∷ 0x91 ∷ 0x2E ∷ []) (Ok tt) ∷
    -- U+D55C U+AD6D U+C5B4
    gives (0xED ∷ 0x95 ∷ 0x9C ∷ 0xEA ∷ 0xB5 ∷ 0xAD ∷ 0xEC ∷ 0x96 ∷ 0xB4 ∷ []) (Ok tt) ∷
    -- U+65E5 U+672C U+8A9E
    gives (0xE6 ∷ 0x97 ∷ 0xA5 ∷ 0xE6 ∷ 0x9C ∷ 0xAC ∷ 0xE8 ∷ 0xAA ∷ 0x9E ∷ []) (Ok tt) ∷
    -- U+FEFF U+233B4
    gives (0xEF ∷ 0xBB ∷ 0xBF ∷ 0xF0 ∷ 0xA3 ∷ 0x8E ∷ 0xB4 ∷ []) (Ok tt) ∷
    -- an overlong NUL
    gives (0xC0 ∷ 0x80 ∷ []) (bad_at 0) ∷
    -- an overlong form of `/../`
    gives (0x2F ∷ 0xC0 ∷ 0xAE ∷ 0x2E ∷ 0x2F ∷ []) (bad_at 1) ∷
    -- a pair of surrogates
    gives (0xED ∷ 0xA1 ∷ 0x8C ∷ 0xED ∷ 0xBE ∷ 0xB4 ∷ []) (bad_at 0) ∷ []

pub examples_hold : map (λ (e : Example). check_text e.bytes) examples ≡ map (λ (e : Example). e.answer) examples
unfolding check_from char_len
examples_hold = refl
