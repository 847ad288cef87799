-- Document 01, Grammar: the lengths of literals, and their packed bytes.
use Rattle.std.specs.Prelude.{ℕ, ◌+◌, ◌-◌, ◌*◌, ◌/◌, ◌%◌, Bool, true, ◌&&◌, length, take, drop, replicate, eqb, leb, ltb, if◌then◌else◌}
use mathlib.Core.List.{List, [], ◌∷◌, ◌++◌, map, foldl}
use Rattle.records.specs.Base.{bytes}
use Rattle.records.specs.TokenKind as token
use Rattle.records.specs.declared.kinds.TokenKind.{TokenKind}
use Rattle.records.specs.declared.Span.{Span}
use Rattle.tables.specs.Tables.{joined}
use Rattle.classes.specs.Classes.{has, word, starts}
use Rattle.classes.specs.declared.Class.{Class}
use Rattle.classes.specs.declared.Class.TheVariants.{Bit, Digit, LowHex}

-- ---- lengths

abbrev pub is_kind : token.Kind → TokenKind → Bool
is_kind k n = eqb n.0 (token.number k)

-- the bit length of a literal, by its kind and how many bytes it has: hex has 4 bits a digit, and `_` has length 0
unfoldable pub bit_length : TokenKind → (len : ℕ) → ℕ
bit_length k len =
    if is_kind token.bin k then len - 2
    else if is_kind token.hex k then 4 * (len - 2)
    else 0

-- ---- the bytes of a literal

-- the value of a digit 0 to 9, a to f
abbrev pub value_of : ℕ → ℕ
value_of d = if has Digit d then d - 48 else d - 87

-- four bits, the highest first
abbrev pub nibble : ℕ → List ℕ
nibble v = v / 8 ∷ v / 4 % 2 ∷ v / 2 % 2 ∷ v % 2 ∷ []

unfoldable pub every : Class → List ℕ → Bool
every c [] = true
every c (d ∷ ds) = has c d && every c ds

-- a text that is these two bytes and at least one digit of the class, and no more
unfoldable pub is_digits : (prefix : List ℕ) → Class → (text : List ℕ) → Bool
is_digits w c text = starts (word w) text && ltb 2 (length text) && every c (drop 2 text)

-- the bits that binary digits say, one each
unfoldable pub bin_bits : (digits : List ℕ) → List ℕ
bin_bits ds = map value_of ds

-- the bits that hex digits say, four each
unfoldable pub hex_bits : (digits : List ℕ) → List ℕ
hex_bits ds = joined (map (λ d. nibble (value_of d)) ds)

-- the bits of a text that is `0b` and binary digits or `0x` and lower-case hex digits; none of any other
unfoldable pub bits_of : (text : List ℕ) → List ℕ
bits_of text =
    if is_digits (bytes "0b") Bit text then bin_bits (drop 2 text)
    else if is_digits (bytes "0x") LowHex text then hex_bits (drop 2 text)
    else []

-- the number that bits say, the first bit highest
abbrev pub bits_say : List ℕ → ℕ
bits_say bits = foldl (λ v b. 2 * v + b) 0 bits

-- packed bits: 8 a byte, zeros after; byte i, counted from 0
unfoldable pub packed_byte : (bits : List ℕ) → ℕ → ℕ
packed_byte bits i = bits_say (take 8 (drop (8 * i) bits ++ replicate 8 0))

-- the text of a span; a span that is not inside the source has none
abbrev pub span_text : (source : List ℕ) → Span → List ℕ
span_text source s = if leb (s.start.0 + s.len) (length source) then take s.len (drop s.start.0 source) else []

-- A byte of a literal by its index. Past the last, or from a span that is no literal, the answer is 0.
unfoldable pub literal_byte : (source : List ℕ) → Span → (index : ℕ) → ℕ
literal_byte source s i = packed_byte (bits_of (span_text source s)) i
