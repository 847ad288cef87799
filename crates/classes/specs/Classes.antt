-- Document 01, Tokens: classes of bytes, and how far the bytes of a class run.
use Rattle.std.specs.Prelude.{ℕ, suc, Bool, true, false, not, ◌&&◌, ◌||◌, List, [], ◌∷◌, map, eqb, if◌then◌else◌}
use Prim.Native.Char.{Char, code}
use Rattle.records.specs.Base.{within}
use Rattle.classes.specs.declared.Class.{Class}
use Rattle.classes.specs.declared.Class.TheVariants.{Byte, Bit, Digit, NonZero, LowHex, AnyHex, JetPart, SymbolFirst, SymbolPart, Blank, NotLf}

-- ---- classes of bytes

abbrev pub from_to : Char → Char → ℕ → Bool
from_to a z b = within (code a) (code z) b

abbrev pub is : Char → ℕ → Bool
is c b = eqb b (code c)

-- a letter or `_ - . '`
abbrev pub begins_symbol : ℕ → Bool
begins_symbol b = from_to "a" "z" b || from_to "A" "Z" b || is "_" b || is "-" b || is "." b || is "'" b

abbrev pub has : Class → ℕ → Bool
has (Byte k) b = eqb b k
has Bit b = from_to "0" "1" b
has Digit b = from_to "0" "9" b
has NonZero b = from_to "1" "9" b
has LowHex b = from_to "0" "9" b || from_to "a" "f" b
has AnyHex b = from_to "0" "9" b || from_to "a" "f" b || from_to "A" "F" b
has JetPart b = from_to "a" "z" b || from_to "0" "9" b || is "_" b
has SymbolFirst b = begins_symbol b
has SymbolPart b = begins_symbol b || from_to "0" "9" b
has Blank b = is " " b || is "\t" b || is "\r" b || is "\n" b
has NotLf b = not (is "\n" b)

-- ---- bytes at the front

-- just these bytes
abbrev pub word : List ℕ → List Class
word w = map Byte w

-- s begins with a byte of each class
unfoldable pub starts : List Class → List ℕ → Bool
starts [] s = true
starts (c ∷ cs) [] = false
starts (c ∷ cs) (b ∷ s) = has c b && starts cs s

-- how many bytes at the front of s are of the class
unfoldable pub run : Class → List ℕ → ℕ
run c [] = 0
run c (b ∷ s) =
    let more : ℕ = suc (run c s) in
    if has c b then more else 0
