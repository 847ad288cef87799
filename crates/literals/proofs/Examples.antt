-- The lengths and the bytes of some literals, by computing. Assumes nothing.
use Prim.Native.Nat.{ℕ}
use mathlib.Core.Path.{◌≡◌, refl}
use mathlib.Core.List.{[], ◌∷◌}
use Rattle.records.specs.Base.{bytes}
use Rattle.records.specs.TokenKind as token
use Rattle.records.specs.declared.Span.{Span}
use Rattle.records.specs.declared.kinds.TokenKind.{TokenKind}
use Rattle.tables.specs.Tables.{joined}
use Rattle.classes.specs.Classes.{starts}
use Rattle.literals.specs.Literals.{bit_length, every, is_digits, bin_bits, hex_bits, bits_of, packed_byte, literal_byte}

-- ---- lengths

abbrev kind_no : token.Kind → TokenKind
kind_no k = record { 0 = token.number k }

pub lengths_hold : bit_length (kind_no token.bin) 3 ∷ bit_length (kind_no token.hex) 3 ∷ bit_length (kind_no token.underscore) 1 ∷ [] ≡ 1 ∷ 4 ∷ 0 ∷ []
unfolding bit_length
lengths_hold = refl

-- ---- the bytes of literals

abbrev span : (start len : ℕ) → Span
span at n = record { start = record { 0 = at }; len = n }

-- `0b101` is 1010 0000, and `0x5a` is 0101 1010; then past the last byte, no digits, past the source
pub bytes_hold :
    literal_byte (bytes "0b101") (span 0 5) 0
    ∷ literal_byte (bytes "const 0x5a") (span 6 4) 0
    ∷ literal_byte (bytes "0x5a7") (span 0 5) 1
    ∷ literal_byte (bytes "0b111111111") (span 0 11) 1
    ∷ literal_byte (bytes "0x5a") (span 0 4) 1
    ∷ literal_byte (bytes "0xxx") (span 0 4) 0
    ∷ literal_byte (bytes "0x5a") (span 1 4) 0
    ∷ []
    ≡ 160 ∷ 90 ∷ 112 ∷ 128 ∷ 0 ∷ 0 ∷ 0 ∷ []
unfolding literal_byte packed_byte bits_of bin_bits hex_bits joined is_digits every starts
bytes_hold = refl
